-- The call is the rule: what a site does with a call follows from what `perform` answers. And what
-- the events of a node are to its site.
use Rattle.std.specs.Prelude.{◌≡◌, ℕ, Bool, true, false, List, Option, Some, None}
use Rattle.cam_names.specs.declared.name.Name.{Name}
use Rattle.cam_type.specs.declared.ObjectDecl.{ObjectDecl}
use Rattle.cam_know.specs.Knowledge.{Knowledge}
use Rattle.cam_know.specs.Known.{knows_commit, both}
use Rattle.cam_know.specs.Orphans.{known_orphan}
use Rattle.cam_event.specs.declared.Body.{Body}
use Rattle.cam_event.specs.declared.Body.TheVariants as bodies
use Rattle.cam_event.specs.declared.LetterId.{LetterId}
use Rattle.cam_event.specs.declared.Note.TheVariants as notes
use Rattle.cam_event.specs.declared.Reply.TheVariants as replies
use Rattle.cam_event.specs.History.{informed}
use Rattle.cam_event.specs.Sights as sights
use Rattle.cam_event.specs.Sights.{Sight, present}
use Rattle.cam_event.specs.Rules as rules
use Rattle.cam_event.specs.Rules.{Did, did, one, answers, nothing_but, reply_to, call_comes}
use Rattle.cam_event.specs.Inputs.{Input, Receives, Restarts, Mail}
use Rattle.cam_event.specs.ByKnowledge.{held, held_sight, held_informs, node_step}
use Rattle.cam_event.specs.Carried.{Carried}
use Rattle.cam_locks.specs.Names.{has_name}
use Rattle.cam_server.specs.declared.Performed.{Performed}
use Rattle.cam_server.specs.declared.Performed.TheVariants as performed
use Rattle.cam_server.specs.Server.{Server, AreLive, ServesSite}
use Rattle.cam_server.specs.Calls.{Asked, performed_by}
use Rattle.cam_server.specs.Events.{AreQuiet, IsInformedBy, IsServing}

-- The server answers as what the node goes by, and the knowledge is that by which it goes.
pub record AnswersSight (objects : List ObjectDecl) (g : Sight) (k : Knowledge)
    (server : Server) : Type 0 where
  pub count : server.count ≡ present g
  pub objects_are : server.table.site.objects ≡ objects
  pub live : AreLive server.table.site.live g.live
  pub commits : (u : Name) → has_name server.table.site.committed u ≡ informed g.deeds g.node u true
  pub replies : (a : Name) (n : ℕ) → server.kept_reply a n ≡ sights.kept_reply g.deeds a n
  pub knows : (u : Name) → knows_commit k u ≡ g.knows_commit u
  pub orphans : (a : Name) (visited : List (ℕ × ℕ)) → known_orphan k a visited ≡ g.orphan a visited

-- what a site does by its answer to a call
abbrev pub did_performed : Asked → Performed → Did
did_performed asked performed.Missed = answers notes.Missed
    (reply_to asked.action asked.number replies.Missed)
did_performed asked performed.Ended = nothing_but notes.Ended
did_performed asked (performed.Again reply) =
    answers notes.Again (reply_to asked.action asked.number reply)
did_performed asked (performed.Orphan reason) =
    answers (notes.Stopped asked.action reason) (reply_to asked.action asked.number replies.Refused)
did_performed asked (performed.Busy u) = rules.bounced asked.action asked.number (Some u)
did_performed asked (performed.Done answer) = rules.performed asked.action asked.number answer

abbrev pub PerformedIsRule : Type 0
PerformedIsRule =
    (objects : List ObjectDecl) (g : Sight) (k : Knowledge) (server : Server) (asked : Asked)
    → AnswersSight objects g k server
    → call_comes objects g asked.action asked.number asked.object asked.op asked.count asked.visited
    ≡ did_performed asked (performed_by k server asked)

-- A server that serves the site of a history, and was then informed of what a letter brings,
-- answers as what the node goes by.
abbrev pub SightIsAnswered : Type 0
SightIsAnswered =
    (objects : List ObjectDecl) (s : ℕ) (before : List Carried) (brought : Knowledge)
    (old mid : Server)
    → ServesSite objects s before old → IsInformedBy s
    (held_informs objects s before brought) old mid
    → AnswersSight objects (held_sight objects s before brought)
    (both (held objects before) brought) mid

-- THE EVENTS OF A NODE. But for a call that comes and a restart each performs and bounces nothing.
abbrev pub is_call : Body → Bool
is_call (bodies.Call a n x op c counts) = true
is_call _ = false

abbrev pub calls_or_restarts : Input → Option Mail → Bool
calls_or_restarts (Receives letter) None = false
calls_or_restarts (Receives letter) (Some mail) = is_call mail.body
calls_or_restarts (Restarts m) mail = true
calls_or_restarts _ mail = false

abbrev pub OthersAreQuiet : Type 0
OthersAreQuiet =
    (objects : List ObjectDecl) (s : ℕ) (before : List Carried) (input : Input) (mail : Option Mail)
    (brought : Knowledge)
    → calls_or_restarts input mail ≡ false → AreQuiet s
    (node_step objects s before input mail brought).deeds

-- A call that comes is served after the first Informs, as the server answers then.
abbrev pub called : List ObjectDecl → ℕ → List Carried → LetterId → Mail → Knowledge → Carried
called objects s before letter mail brought =
    record {
      event = node_step objects s before (Receives letter) (Some mail) brought;
      mail = Some mail;
      brought = brought;
    }

abbrev pub CallsAreServed : Type 0
CallsAreServed =
    (objects : List ObjectDecl) (s : ℕ) (before : List Carried) (letter : LetterId) (mail : Mail)
    (brought k : Knowledge) (server : Server) (asked : Asked)
    → mail.body ≡ bodies.Call asked.action asked.number asked.object asked.op asked.count
    asked.visited
    → AnswersSight objects (held_sight objects s before brought) k server
    → IsServing s (called objects s before letter mail brought)
    (held_informs objects s before brought) asked
    (performed_by k server asked)
