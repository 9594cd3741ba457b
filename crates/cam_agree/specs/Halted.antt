-- Where letters carry all both readings agree of runs in which nodes halt, with taken events at
-- some positions: what a node holds is what stands in the past of its last event, a taken one too.
use Rattle.std.specs.Prelude.{◌≡◌, ℕ, Bool, true, List, map, Option, is_some}
use Rattle.cam_names.specs.declared.name.Name.{Name}
use Rattle.cam_names.specs.Names.{home_node}
use Rattle.cam_type.specs.declared.ObjectDecl.{ObjectDecl}
use Rattle.cam_type.specs.declared.Op.{Op}
use Rattle.cam_know.specs.Known.{IsSame}
use Rattle.cam_event.specs.declared.LetterId.{LetterId}
use Rattle.cam_event.specs.declared.Event.{Event}
use Rattle.cam_event.specs.declared.Want.{Want}
use Rattle.cam_event.specs.History.{created}
use Rattle.cam_event.specs.Inputs.{Input, letter_at}
use Rattle.cam_event.specs.Refusals.{refusal, query_refusal}
use Rattle.cam_event.specs.ByPast.{sight}
use Rattle.cam_event.specs.Readings.{by_pasts, by_whole_letters, told_at}
use Rattle.cam_event.specs.Runs.{MayCome}
use Rattle.cam_event.specs.Taken.{IsRunTaking}
use Rattle.cam_event.specs.Agreement.{IsSent, KnowsItsBase}
use Rattle.cam_agree.specs.Deps.{own_counts}
use Rattle.cam_agree.specs.Orphan.{RuleTests}
use Rattle.cam_agree.specs.LiveOperations.{essentials_of, held_at, value_here, serves}

-- The outcomes and counts that a node holds, with those of a letter that it receives, are those in
-- its base,
abbrev pub HaltedKnowledgeIsThePast : Type 0
HaltedKnowledgeIsThePast =
    (objects : List ObjectDecl) (taken : ℕ → Bool) (t : List Event) (s : ℕ) (got : Option LetterId)
    → IsRunTaking objects taken t → IsSent t got
    → KnowsItsBase objects t s got

-- a letter carries the same outcomes, dependencies and counts,
abbrev pub HaltedLettersAgree : Type 0
HaltedLettersAgree =
    (objects : List ObjectDecl) (taken : ℕ → Bool) (t : List Event) (letter : LetterId)
    → IsRunTaking objects taken t → is_some (letter_at t letter) ≡ true
    → IsSame ((by_whole_letters objects).carried t letter).know (told_at objects t letter)

-- a node keeps of each action that it runs what the action depends on,
abbrev pub HaltedDependenciesAgree : Type 0
HaltedDependenciesAgree =
    (objects : List ObjectDecl) (taken : ℕ → Bool) (t : List Event) (s : ℕ) (got : Option LetterId)
    (a : Name)
    → IsRunTaking objects taken t → IsSent t got
    → home_node a ≡ s → created (sight objects t s got).deeds a ≡ true
    → own_counts objects t s a ≡ (sight objects t s got).deps a

-- each test for orphans that a rule makes answers the same,
abbrev pub HaltedOrphansAgree : Type 0
HaltedOrphansAgree =
    (objects : List ObjectDecl) (taken : ℕ → Bool) (t : List Event) (input : Input)
    → IsRunTaking objects taken t → MayCome objects t input
    → RuleTests objects t input

-- the live operations of a site are the same in all that is essential of them,
abbrev pub HaltedLiveOperationsAgree : Type 0
HaltedLiveOperationsAgree =
    (objects : List ObjectDecl) (taken : ℕ → Bool) (t : List Event) (s : ℕ) (got : Option LetterId)
    → IsRunTaking objects taken t → IsSent t got
    → map (essentials_of (held_at objects t s got)) (held_at objects t s got).live
    ≡ map (essentials_of (sight objects t s got)) (sight objects t s got).live

-- so each object has the same value,
abbrev pub HaltedValuesAgree : Type 0
HaltedValuesAgree =
    (objects : List ObjectDecl) (taken : ℕ → Bool) (t : List Event) (s : ℕ) (got : Option LetterId)
    (x : ℕ)
    → IsRunTaking objects taken t → IsSent t got
    → value_here objects (held_at objects t s got) x ≡ value_here objects (sight objects t s got) x

-- and a call is answered alike.
abbrev pub HaltedCallsAreServedAlike : Type 0
HaltedCallsAreServedAlike =
    (objects : List ObjectDecl) (taken : ℕ → Bool) (t : List Event) (s : ℕ) (got : Option LetterId)
    (a : Name) (n x : ℕ) (op : Op)
    → IsRunTaking objects taken t → IsSent t got
    → serves objects (held_at objects t s got) a n x op
    ≡ serves objects (sight objects t s got) a n x op

-- So each input that may come gives the same event by either reading,
abbrev pub HaltedEventsAgree : Type 0
HaltedEventsAgree =
    (objects : List ObjectDecl) (taken : ℕ → Bool) (t : List Event) (input : Input)
    → IsRunTaking objects taken t → MayCome objects t input
    → (by_whole_letters objects).next t input ≡ (by_pasts objects).next t input

-- and requests and queries are refused alike.
abbrev pub HaltedRefusalsAgree : Type 0
HaltedRefusalsAgree =
    (objects : List ObjectDecl) (taken : ℕ → Bool) (t : List Event) (s : ℕ) (a : Name) (want : Want)
    → IsRunTaking objects taken t
    → refusal ((by_whole_letters objects).sight t s) a want
    ≡ refusal ((by_pasts objects).sight t s) a want

abbrev pub HaltedQueryRefusalsAgree : Type 0
HaltedQueryRefusalsAgree =
    (objects : List ObjectDecl) (taken : ℕ → Bool) (t : List Event) (s : ℕ) (f : Name)
    → IsRunTaking objects taken t
    → query_refusal ((by_whole_letters objects).sight t s) f
    ≡ query_refusal ((by_pasts objects).sight t s) f
