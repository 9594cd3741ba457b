-- The entry of an event that may stand, and when its plan may be carried out.
use Rattle.std.specs.Prelude.{◌≡◌, ◌≤◌, ℕ, false, List, [], ◌++◌, map, Option, Some, None}
use Rattle.cam_type.specs.declared.ObjectDecl.{ObjectDecl}
use Rattle.cam_know.specs.Knowledge.{Knowledge}
use Rattle.cam_event.specs.declared.Event.{Event}
use Rattle.cam_event.specs.Inputs.{Input, Mail}
use Rattle.cam_event.specs.HeldSites.{site}
use Rattle.cam_event.specs.Carried.{deeds_of}
use Rattle.cam_event.specs.Loads.{Load}
use Rattle.cam_event.specs.ByDeltas.{Received, as_carried}
use Rattle.cam_commit.specs.Steps.{is_restarting}
use Rattle.cam_recman.specs.declared.Record.{Record}
use Rattle.cam_recman.specs.Versions.{IsOf}
use Rattle.cam_recman.specs.Writable.{IsWritable}
use Rattle.cam_node.specs.declared.knowing.Heard.{Heard}
use Rattle.cam_node.specs.declared.plan.Plan.{Plan}
use Rattle.cam_node.specs.Entries.{Holding, entry_records, news_records, AreHoldings}
use Rattle.cam_node.specs.Keeping.{KeepsNode, MayBePutThen}
use Rattle.cam_node.specs.Plans.{as_list, IsPlan}
use Rattle.cam_node.specs.Represents.{Node}

-- These records are the entry of the event, after each history for which the node and its log
-- stand; and what is held of its
-- Secure stands for the live operations.
pub record HasEntry (objects : List ObjectDecl) (old : Node) (input : Input) (mail : Option Mail)
    (load : Load) (event : Event)
    (records : List Record) : Type 0 where
  pub holds : Holding
  pub are :
      (history : List Received) (entries : List (List ℕ)) → KeepsNode objects history old entries
      → MayBePutThen objects old.number history input mail load
      → entry_records holds objects history (record { event = event; mail = mail; load = load }) ≡
      records
  pub held :
      (history : List Received) (entries : List (List ℕ)) (keeps : KeepsNode objects history old
      entries)
      → MayBePutThen objects old.number history input mail load
      → AreHoldings holds (deeds_of (map as_carried history)) mail (site (map as_carried history))
      keeps.keeps.recovered.held event.deeds

-- Of a plan they are those of what its letter brought to one who knew these counts, and what its
-- deeds add.
abbrev pub heard_records : List ℕ → Option Heard → List Record
heard_records counts None = []
heard_records counts (Some heard) = news_records counts heard.news

abbrev pub planned_records : List ℕ → Plan → List Record
planned_records counts plan = heard_records counts plan.heard ++ as_list plan.adds

-- What is added may be written where the format has version 2.
abbrev pub MayBeAdded : Option Record → Type 0
MayBeAdded None = Unit {0}
MayBeAdded (Some one) = IsWritable one × IsOf 2 one

-- A plan that may be carried out: it is that of this input, which is no restart, put to one of the
-- eight nodes as it was; and what stands of what it knows has stayed since.
pub record MayBeTaken (objects : List ObjectDecl) (input : Input) (mail : Option Mail) (load : Load)
    (plan : Plan) (known : Knowledge) (old mid : Node) : Type 0 where
  pub planned : IsPlan objects input mail load plan known old mid
  pub node : (1 ≤ old.number) × (old.number ≤ 8)
  pub know : mid.know ≡ old.know
  pub goes_on : is_restarting input ≡ false

-- what is owed of each input and each node whose plan it may be
abbrev pub ForEachInput : List ObjectDecl → Plan → Knowledge → Node
    → (Input → Option Mail → Load → Node → Type 0) → Type 0
ForEachInput objects plan known mid Owes =
    (input : Input) (mail : Option Mail) (load : Load) (old : Node)
    → MayBeTaken objects input mail load plan known old mid → Owes input mail load old
