-- An event in which a site secures a family: the node learns what the letter tells, its families have one more that is secured, and nothing
-- else changes.
use Rattle.std.specs.Prelude.{◌≡◌, ℕ, List, ◌∷◌, length, map, Some}
use Rattle.cam_names.specs.declared.name.Name.{Name}
use Rattle.cam_type.specs.declared.ObjectDecl.{ObjectDecl}
use Rattle.cam_know.specs.Known.{nothing, news, knows_abort, knows_commit}
use Rattle.cam_know.specs.Order.{told_in_order}
use Rattle.cam_event.specs.declared.Body.TheVariants as bodies
use Rattle.cam_event.specs.declared.LetterId.{LetterId}
use Rattle.cam_event.specs.Inputs.{Receives, Mail}
use Rattle.cam_event.specs.ByKnowledge.{held_sight}
use Rattle.cam_event.specs.Loads.{Load, noted_at, with_load}
use Rattle.cam_event.specs.ByDeltas.{Received, as_carried}
use Rattle.cam_commit.specs.declared.Asked.TheVariants as asked
use Rattle.cam_commit.specs.Calls as commit
use Rattle.cam_commit.specs.Stepping.{asked_at}
use Rattle.cam_server.specs.Calls as server
use Rattle.cam_tranman.specs.Calls as tranman
use Rattle.cam_tranman.specs.Orderly.{IsOrderly, MayBeAsked}
use Rattle.cam_node.specs.Represents.{Node, Represents}
use Rattle.cam_node.specs.Halting.{IsThrough}
use Rattle.cam_node.specs.Learning.{stepped, IsSentByNode}

pub record LearntAndSecured (f : Name) (mail : Mail) (load : Load) (old new : Node) : Type 0 where
  pub number : new.number ≡ old.number
  pub count : new.count ≡ old.count
  pub know : new.know ≡ with_load old.know load
  pub places : new.places ≡ noted_at old.number (length new.know.outcomes) old.places mail.from load
  pub actions : tranman.AreSame old.actions new.actions
  pub families : commit.IsSecured f old.families new.families
  pub server :
      server.AreInformed (knows_abort (news new.know old.know))
      (knows_commit (news new.know old.know)) old.server new.server

-- THE LAW. After an event in which the node's site secures a family the node stands for the longer history.
abbrev pub SecuresKeeps : Type 0
SecuresKeeps =
    (objects : List ObjectDecl) (history : List Received) (id : LetterId) (mail : Mail)
    (load : Load) (f : Name) (n : ℕ) (old new : Node)
    → mail.body ≡ bodies.Prepare f n
    → asked_at
    (held_sight objects old.number (map as_carried history)
    (told_in_order load.know)) old.families f n ≡ asked.Secure
    → LearntAndSecured f mail load old new → IsSentByNode (Some mail)
    → IsThrough objects old.number history
    → IsOrderly old.number (map as_carried history)
    → MayBeAsked old.number (held_sight objects old.number (map as_carried history) nothing)
    (Receives id) (Some mail)
    → Represents objects history old
    → Represents objects
    (stepped objects old.number history (Receives id) (Some mail) load ∷ history) new
