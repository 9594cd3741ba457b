-- Steps that come to their end leave node and log with the longer history; and what may be read at
-- a halt.
use Rattle.std.proofs.Common.{◌≡◌, inl, ℕ, ◌≤◌, false, List, [], ◌∷◌, Option, sym, subst}
use Rattle.cam_type.specs.declared.ObjectDecl.{ObjectDecl}
use Rattle.cam_event.specs.declared.Event.{Event}
use Rattle.cam_event.specs.Inputs.{Input, Mail}
use Rattle.cam_event.specs.Loads.{Load}
use Rattle.cam_event.specs.ByDeltas.{Received, known}
use Rattle.cam_commit.specs.Steps.{is_restarting}
use Rattle.cam_recman.specs.declared.Record.{Record}
use Rattle.cam_recman.specs.declared.Recovered.{Recovered}
use Rattle.cam_recman.specs.Ranges.{AreRecords}
use Rattle.cam_recman.specs.Recovery.{with_records}
use Rattle.cam_recman.specs.Says.{Says}
use Rattle.cam_node.specs.Halting.{IsThrough, IsStepThrough}
use Rattle.cam_node.specs.Keeping.{IsLogOf, KeepsNode, KeepsOn, MayBePutThen}
use Rattle.cam_node.specs.Lawful.{IsStepOf}
use Rattle.cam_node.specs.LogOrder.{IsInOrder}
use Rattle.cam_node.specs.Opened.{IsKnowledge, logged_of}
use Rattle.cam_node.specs.Planned.{HasEntry}
use Rattle.cam_node.specs.Represents.{Node, Represents}
use Rattle.cam_node.proofs.LoggedSteps.{IsLogged, entry_logged}

-- one more step of a history through halts
goes_through : (objects : List ObjectDecl) (s : ℕ) (history : List Received) (c : Received) →
    IsStepOf objects s history c → IsThrough objects s history
    → IsThrough objects s (c ∷ history)
goes_through objects s [] c step through = step
goes_through objects s (k ∷ before) c step through = (step, inl through)

-- what is known with the event is knowledge
abbrev pub KnowsThen : List ObjectDecl → Node → Input → Option Mail → Load → Event → Type 0
KnowsThen objects old input mail load event =
    (history : List Received) → IsThrough objects old.number history → Represents objects history
    old → MayBePutThen objects old.number history input mail load
    → IsKnowledge (known objects (record { event = event; mail = mail; load = load } ∷ history))

-- what the log has of the event, by a recovery that the entries say
pub logged : (objects : List ObjectDecl) (old new : Node) (input : Input) (mail : Option Mail) (load :
    Load) (event : Event) (rs : List Record) (history : List Received)
    (before : List (List ℕ)) (keeps : KeepsNode objects history old before)
    → (1 ≤ old.number) × (old.number ≤ 8) → is_restarting input ≡ false → KnowsThen objects old
    input mail load event → AreRecords rs
    → HasEntry objects old input mail load event rs → IsStepThrough objects old new input mail load
    event → MayBePutThen objects old.number history input mail load
    → IsLogged objects old.number history (record { event = event; mail = mail; load = load })
    (with_records keeps.keeps.recovered rs)
logged objects old new input mail load event rs history before keeps node plain knows are entry
    step may =
    entry_logged entry.holds objects old.number history input (record {
      event = event;
      mail = mail;
      load = load;
    }) keeps.keeps.recovered rs node plain may
    (step.next history keeps.through keeps.represents may) (entry.are history before keeps may)
    (entry.held history before keeps may) are
    (knows history keeps.through keeps.represents may) keeps.keeps.is_log

-- and the order of what the log holds and of what is live goes on
abbrev pub OrderGoesOn : List ObjectDecl → Node → Node → Input → Option Mail → Load → Event
    → List Record → Type 0
OrderGoesOn objects old new input mail load event rs =
    (history : List Received) (entries : List (List ℕ))
    (keeps : KeepsNode objects history old entries)
    → MayBePutThen objects old.number history input mail load
    → IsInOrder (record { event = event; mail = mail; load = load } ∷ history)
    (with_records keeps.keeps.recovered rs).held new.server.table.site

pub kept : (objects : List ObjectDecl) (old new : Node) (before now : List (List ℕ)) (input : Input)
    (mail : Option Mail) (load : Load) (event : Event) (rs : List Record)
    → (1 ≤ old.number) × (old.number ≤ 8) → is_restarting input ≡ false → KnowsThen objects old
    input mail load event → AreRecords rs
    → HasEntry objects old input mail load event rs → ((r : Recovered) → Says before r → Says now
    (with_records r rs)) → OrderGoesOn objects old new input mail load event rs
    → IsStepThrough objects old new input mail load event → KeepsOn objects old before new now
    input mail load event
kept objects old new before now input mail load event rs node plain knows are entry says order step
    history keeps may =
    let c : Received = record { event = event; mail = mail; load = load } in
    let r : Recovered = keeps.keeps.recovered in
    let has = logged objects old new input mail load event rs history before keeps node plain knows
    are entry step may in
    record {
      through = subst (λ (s : ℕ). IsThrough objects s (c ∷ history)) (sym step.number)
          (goes_through objects old.number history c (record {
            input = input;
            may = may;
            is_next =
                step.next history keeps.through keeps.represents may;
          }) keeps.through);
      represents = step.represents history keeps.through keeps.represents may;
      keeps = record {
        recovered = with_records r rs;
        says = says r keeps.keeps.says;
        is_log =
            subst (λ (s : ℕ). IsLogOf objects s (c ∷ history) (logged_of (with_records r rs)))
            (sym step.number) has.whole;
      };
      order = order history before keeps may;
    }

-- A node that knows so once the event stands, and has appended its entry, stands for the longer
-- history.
pub known_then : (objects : List ObjectDecl) (old new : Node) (input : Input) (mail : Option Mail)
    (load : Load) (event : Event) → IsKnowledge new.know
    → IsStepThrough objects old new input mail load event → KnowsThen objects old input mail load
    event
known_then objects old new input mail load event knows step history through rep may =
    subst IsKnowledge (step.represents history through rep may).knowledge knows

pub kept_on : (objects : List ObjectDecl) (old new : Node) (before now : List (List ℕ)) (input :
    Input) (mail : Option Mail) (load : Load) (event : Event) (rs : List Record)
    → (1 ≤ old.number) × (old.number ≤ 8) → is_restarting input ≡ false → IsKnowledge new.know →
    AreRecords rs → HasEntry objects old input mail load event rs
    → ((r : Recovered) → Says before r → Says now (with_records r rs))
    → OrderGoesOn objects old new input mail load event rs
    → IsStepThrough objects old new input mail load event → KeepsOn objects old before new now
    input mail load event
kept_on objects old new before now input mail load event rs node plain knows are entry says order
    step =
    kept objects old new before now input mail load event rs node plain (known_then objects old new
    input mail load event knows step) are entry says order step
