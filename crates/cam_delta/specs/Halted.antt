-- The same of runs in which nodes halt, with taken events at some positions.
use Rattle.std.specs.Prelude.{◌≡◌, ℕ, Bool, true, List, is_some}
use Rattle.cam_names.specs.declared.name.Name.{Name}
use Rattle.cam_type.specs.declared.ObjectDecl.{ObjectDecl}
use Rattle.cam_know.specs.Known.{IsSame}
use Rattle.cam_event.specs.declared.LetterId.{LetterId}
use Rattle.cam_event.specs.declared.Event.{Event}
use Rattle.cam_event.specs.declared.Want.{Want}
use Rattle.cam_event.specs.Inputs.{Input, letter_at}
use Rattle.cam_event.specs.Refusals.{refusal, query_refusal}
use Rattle.cam_event.specs.ByPast.{own_past, told}
use Rattle.cam_event.specs.ByDeltas.{load_at}
use Rattle.cam_event.specs.DeltasByPast.{past_load_at}
use Rattle.cam_event.specs.Readings.{by_pasts, by_knowledge}
use Rattle.cam_event.specs.Runs.{MayCome}
use Rattle.cam_event.specs.Taken.{IsRunTaking}
use Rattle.cam_wire.specs.OfTrace.{spelling_of}
use Rattle.cam_delta.specs.Laws.{known_by, IsSameLoad}

-- What a node knows is what stands in the past of its last event, a taken one too,
abbrev pub HaltedKnownIsThePast : Type 0
HaltedKnownIsThePast =
    (objects : List ObjectDecl) (taken : ℕ → Bool) (t : List Event) (s : ℕ)
    → IsRunTaking objects taken t
    → IsSame (known_by objects t s) (told objects (own_past t s))

-- each letter carries what the definition by pasts says,
abbrev pub HaltedLoadsAreThoseOfPasts : Type 0
HaltedLoadsAreThoseOfPasts =
    (objects : List ObjectDecl) (taken : ℕ → Bool) (t : List Event) (letter : LetterId)
    → IsRunTaking objects taken t → is_some (letter_at t letter) ≡ true
    → IsSameLoad (load_at objects t letter) (past_load_at objects t letter)

-- in the same bytes,
abbrev pub HaltedLettersSpelledAlike : Type 0
HaltedLettersSpelledAlike =
    (objects : List ObjectDecl) (taken : ℕ → Bool) (t : List Event) (letter : LetterId)
    → IsRunTaking objects taken t → is_some (letter_at t letter) ≡ true
    → spelling_of (by_knowledge objects) t letter ≡ spelling_of (by_pasts objects) t letter

-- an input that may come gives the same event,
abbrev pub HaltedEventsAgree : Type 0
HaltedEventsAgree =
    (objects : List ObjectDecl) (taken : ℕ → Bool) (t : List Event) (input : Input)
    → IsRunTaking objects taken t → MayCome objects t input
    → (by_knowledge objects).next t input ≡ (by_pasts objects).next t input

-- and requests and queries are refused alike.
abbrev pub HaltedRefusalsAgree : Type 0
HaltedRefusalsAgree =
    (objects : List ObjectDecl) (taken : ℕ → Bool) (t : List Event) (s : ℕ) (a : Name) (want : Want)
    → IsRunTaking objects taken t
    → refusal ((by_knowledge objects).sight t s) a want
    ≡ refusal ((by_pasts objects).sight t s) a want

abbrev pub HaltedQueryRefusalsAgree : Type 0
HaltedQueryRefusalsAgree =
    (objects : List ObjectDecl) (taken : ℕ → Bool) (t : List Event) (s : ℕ) (f : Name)
    → IsRunTaking objects taken t
    → query_refusal ((by_knowledge objects).sight t s) f
    ≡ query_refusal ((by_pasts objects).sight t s) f
