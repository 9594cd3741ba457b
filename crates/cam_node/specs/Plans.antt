-- What the plan of an event owes.
use Rattle.std.specs.Prelude.{◌≡◌, List, [], ◌∷◌, ◌++◌, map, Option, Some, None}
use Rattle.cam_type.specs.declared.ObjectDecl.{ObjectDecl}
use Rattle.cam_type.specs.declared.Held.{Held}
use Rattle.cam_know.specs.Knowledge.{Knowledge}
use Rattle.cam_know.specs.Known.{nothing, news}
use Rattle.cam_event.specs.declared.Letter.{Letter}
use Rattle.cam_event.specs.declared.LetterId.{LetterId}
use Rattle.cam_event.specs.Inputs.{Input, Receives, Mail}
use Rattle.cam_event.specs.ByKnowledge.{held_sight}
use Rattle.cam_event.specs.HeldSites.{site}
use Rattle.cam_event.specs.Carried.{deeds_of}
use Rattle.cam_event.specs.Loads.{Load, with_load}
use Rattle.cam_event.specs.ByDeltas.{Received, as_carried}
use Rattle.cam_comman.specs.Letters.{load_on}
use Rattle.cam_recman.specs.declared.Record.{Record}
use Rattle.cam_recman.specs.declared.Record.TheVariants as records
use Rattle.cam_node.specs.declared.knowing.Heard.{Heard}
use Rattle.cam_node.specs.declared.plan.Plan.{Plan}
use Rattle.cam_node.specs.declared.state.Core.{Core}
use Rattle.cam_node.specs.Represents.{Node, Represents}
use Rattle.cam_node.specs.Calls.{answers, mail_on, letters_of}
use Rattle.cam_node.specs.Entries.{Holding, AreHoldings, deed_records}
use Rattle.cam_node.specs.Halting.{IsStepThrough, IsThrough}
use Rattle.cam_node.specs.Lawful.{MayBePut}
use Rattle.cam_node.specs.Log.{Logged, KeepsLog}
use Rattle.cam_node.specs.LogOrder.{IsInOrder}
use Rattle.cam_node.specs.Opened.{IsKnowledge}
use Rattle.cam_node.specs.Standing.{Stands}

-- WHAT A PLAN OWES. What was heard is the news of the letter, if there is one.
abbrev pub IsHeard : Option Mail → Load → Knowledge → Option Heard → Type 0
IsHeard None load k heard = heard ≡ None
IsHeard (Some mail) load k None = ⊥
IsHeard (Some mail) load k (Some heard) = heard.news ≡ news (with_load k load) k

-- what the deeds add to the entry: the record, if there is one; and what is held of a family that
-- is secured is what the record has
abbrev pub as_list : Option Record → List Record
as_list None = []
as_list (Some one) = one ∷ []

abbrev pub HoldsRecord : Holding → Option Record → Type 0
HoldsRecord holds (Some (records.Secure held)) = holds held.family held.count ≡ held
HoldsRecord holds _ = Unit {0}

-- What an event's deeds add to its entry is this record, and what is held of its Secure stands for
-- the live operations.
pub record IsRecorded (objects : List ObjectDecl) (history : List Received) (mail : Option Mail)
    (logged : Logged) (holds : Holding) (plan : Plan) : Type 0 where
  pub records : deed_records holds objects (map as_carried history) mail
      plan.stepped.event.deeds ≡ as_list plan.adds
  pub holdings :
      AreHoldings holds (deeds_of (map as_carried history)) mail (site (map as_carried history))
      logged.held plan.stepped.event.deeds

-- From a node that answers as the old one does the event stands. For each node as it is then the
-- event is the definition's, that node stands for
-- the longer history, and the letters are as it says them. What its entry holds is told where this
-- is given of the history, the log, and the node before.
pub record IsPlanGiven (given : List Received → Logged → Node → Type 0) (objects : List ObjectDecl)
    (input : Input) (mail : Option Mail) (load : Load) (plan : Plan) (known : Knowledge)
    (old mid : Node) : Type 0 where
  pub before : IsKnowledge old.know
  pub learnt : IsKnowledge (with_load old.know load)
  pub heard : IsHeard mail load old.know plan.heard
  pub step : (new : Node) → Stands plan.change plan.heard known mid new
      → IsStepThrough objects old new input mail load plan.stepped.event
  pub letters : (new : Node) → Stands plan.change plan.heard known mid new
      → plan.stepped.letters ≡ letters_of new plan.stepped.event.sent
  pub recorded :
      (history : List Received) (logged : Logged) (holds : Holding)
      → IsThrough objects old.number history → Represents objects history old
      → MayBePut objects old.number (held_sight objects old.number (map as_carried history) nothing)
      input mail load
      → KeepsLog objects old.number history logged
      → given history logged old → HoldsRecord holds plan.adds
      → IsRecorded objects history mail logged holds plan

-- what holds of each history and log
abbrev pub nothing_given : List Received → Logged → Node → Type 0
nothing_given history logged node = Unit {0}

-- what the log holds stands in the order in which it is live at the site
abbrev pub in_order : List Received → Logged → Node → Type 0
in_order history logged node = IsInOrder history logged.held node.server.table.site

-- what an event's record adds to what the log holds
abbrev pub held_in : Option Record → List Held
held_in (Some (records.Secure held)) = held ∷ []
held_in _ = []

-- Whatever the history and the log: where they are in order with the node before, they are with the
-- node as it is when the event stands.
abbrev pub KeepsOrder : List ObjectDecl → Input → Option Mail → Load → Plan → Knowledge → Node
    → Node → Type 0
KeepsOrder objects input mail load plan known old mid =
    (new : Node) (history : List Received) (logged : Logged) (holds : Holding)
    → Stands plan.change plan.heard known mid new → IsThrough objects old.number history
    → Represents objects history old
    → MayBePut objects old.number (held_sight objects old.number (map as_carried history) nothing)
    input mail load
    → KeepsLog objects old.number history logged → in_order history logged old
    → HoldsRecord holds plan.adds
    → IsInOrder (record { event = plan.stepped.event; mail = mail; load = load } ∷ history)
    (logged.held ++ held_in plan.adds) new.server.table.site

abbrev pub KeepsOrderFor : List ObjectDecl → LetterId → Letter → Core → Core → Plan → Type 0
KeepsOrderFor objects id letter old new plan =
    KeepsOrder objects (Receives id) (Some (mail_on letter)) (load_on letter) plan new.knowing.known
    (answers old) (answers new)

-- A PLAN: what it owes where the log is in order, and that the order goes on.
pub record IsPlan (objects : List ObjectDecl) (input : Input) (mail : Option Mail) (load : Load)
    (plan : Plan) (known : Knowledge) (old mid : Node) : Type 0 where
  pub given : IsPlanGiven in_order objects input mail load plan known old mid
  pub order : KeepsOrder objects input mail load plan known old mid

-- the plan of a letter that comes, as the node's calls say it
abbrev pub IsPlanFor : List ObjectDecl → LetterId → Letter → Core → Core → Plan → Type 0
IsPlanFor objects id letter old new plan =
    IsPlan objects (Receives id) (Some (mail_on letter)) (load_on letter) plan new.knowing.known
    (answers old) (answers new)
