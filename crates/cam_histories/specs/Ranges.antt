-- The numbers of a run's letters are in their ranges.
use Rattle.std.specs.Prelude.{◌≡◌, ℕ, ◌+◌, ◌≤◌, ◌<◌, Bool, List, map, length, Some}
use Rattle.cam_names.specs.declared.name.Name.{Name}
use Rattle.cam_type.specs.declared.ObjectDecl.{ObjectDecl}
use Rattle.cam_event.specs.declared.LetterId.{LetterId}
use Rattle.cam_event.specs.declared.Event.{Event}
use Rattle.cam_event.specs.declared.Body.{Body}
use Rattle.cam_event.specs.declared.Body.TheVariants as bodies
use Rattle.cam_event.specs.Inputs.{Mail, letter_at}
use Rattle.cam_event.specs.History.{count, tops, asks, calls, number_of}
use Rattle.cam_event.specs.Pasts.{plain_all}
use Rattle.cam_event.specs.HeldSites.{is_any_perform}
use Rattle.cam_event.specs.Carried.{deeds_of}
use Rattle.cam_event.specs.ByDeltas.{as_carried, load_at}
use Rattle.cam_event.specs.Taken.{IsRunTaking}
use Rattle.cam_wire.specs.OfTrace.{letter_with}
use Rattle.cam_wire.specs.Writable.{IsWritable}
use Rattle.cam_histories.specs.Laws.{history_of}

-- The child of a start has two parts or more.
abbrev pub IsBelowTop : Body → Type 0
IsBelowTop (bodies.Start b counts) = 2 ≤ length b
IsBelowTop _ = Unit {0}

-- In a run of fewer than a thousand million events over 64 objects at most each number of a letter is in its range.
abbrev pub LettersAreInRange : Type 0
LettersAreInRange =
    (objects : List ObjectDecl) (taken : ℕ → Bool) (t : List Event) (letter : LetterId) (mail : Mail) → IsRunTaking objects taken t → length objects ≤ 64 → length t < 1000000000
    → letter_at t letter ≡ Some mail → IsWritable (letter_with (load_at objects t letter) mail) × IsBelowTop mail.body

-- A node performed no more operations than it has events: the index of each, its place among them, is below their number.
abbrev pub PerformsAreFew : Type 0
PerformsAreFew =
    (objects : List ObjectDecl) (taken : ℕ → Bool) (t : List Event) (s : ℕ) → IsRunTaking objects taken t
    → number_of is_any_perform (deeds_of (map as_carried (history_of objects t s))) ≤ length (history_of objects t s)

-- No count of a node is above the number of events and 1, and no number of a top action, of a child or of a call above that of events.
pub record AreFew (t : List Event) : Type 0 where
  pub counts : (s : ℕ) → count (plain_all t) s ≤ length t + 1
  pub tops : (s c : ℕ) → tops (plain_all t) s c ≤ length t
  pub asks : (a : Name) → asks (plain_all t) a ≤ length t
  pub calls : (a : Name) → calls (plain_all t) a ≤ length t

abbrev pub NumbersAreFew : Type 0
NumbersAreFew = (objects : List ObjectDecl) (taken : ℕ → Bool) (t : List Event) → IsRunTaking objects taken t → AreFew t
