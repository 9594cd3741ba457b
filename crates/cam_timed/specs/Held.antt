-- What nodes hold: a node that informs itself of what letters bring, and sends what it was informed
-- of, goes by what the rules by time say.
use Rattle.std.specs.Prelude.{◌≡◌, ℕ, eqb, true, false, not, ◌&&◌, if◌then◌else◌, List, [], ◌∷◌, ◌++◌, length, filter, Option, Some}
use Rattle.std.specs.List.{list_any}
use Rattle.cam_names.specs.declared.name.Name.{Name}
use Rattle.cam_names.specs.Names.{ancestors}
use Rattle.cam_type.specs.declared.ObjectDecl.{ObjectDecl}
use Rattle.cam_event.specs.declared.LetterId.{LetterId}
use Rattle.cam_event.specs.declared.Event.{Event}
use Rattle.cam_event.specs.declared.Operation.{Operation}
use Rattle.cam_event.specs.declared.Deed.{Deed}
use Rattle.cam_event.specs.declared.Deed.TheVariants.{Perform}
use Rattle.cam_event.specs.History.{Addressed, call_of, committed, aborted, informed}
use Rattle.cam_event.specs.Live.{of_call}
use Rattle.cam_event.specs.Pasts.{IsEarlier, plain_all}
use Rattle.cam_event.specs.Inputs.{Mail, letter_at}
use Rattle.cam_event.specs.Sights.{entries, own_deeds}
use Rattle.cam_event.specs.ByPast.{letter_past}
use Rattle.cam_timed.specs.declared.TimedEvent.{TimedEvent}
use Rattle.cam_timed.specs.Moments.{events}
use Rattle.cam_timed.specs.Travelling.{brings_aborts, carrier, abort_paths}
use Rattle.cam_timed.specs.TimedSights.{timed_sight}
use Rattle.cam_timed.specs.TimedRuns.{IsTimedRun}

-- the deeds of a node's own events up to the event of this number, which is its
abbrev pub own_until : List Event → ℕ → List Deed
own_until [] i = []
own_until (e ∷ before) i =
    if eqb i (length before) then own_deeds (entries (e ∷ before) e.node) else own_until before i

-- what a node knows at an event, after the first Informs
pub record KnowsWhatItHolds (objects : List ObjectDecl) (t : List Event) (s : ℕ)
    (got : Option LetterId) (a : Name) : Type 0 where
  pub commits :
      (timed_sight objects t s got).knows_commit a
      ≡ informed (timed_sight objects t s got).deeds s a true
  pub aborts :
      (timed_sight objects t s got).knows_abort a
      ≡ informed (timed_sight objects t s got).deeds s a false

-- what a site performed, by its node's own deeds; what each call asks for is looked up so
abbrev pub performed_by : (Name → ℕ → Option Addressed) → List Deed → List Operation
performed_by calls [] = []
performed_by calls (Perform a n answer ∷ before) =
    performed_by calls before ++ of_call a n answer (calls a n)
performed_by calls (_ ∷ before) = performed_by calls before

-- and what of it the node was not informed to drop
abbrev pub held_live : (Name → ℕ → Option Addressed) → List Deed → ℕ → List Operation
held_live calls own s =
    filter (λ o. not (list_any (λ u. informed own s u false) (ancestors o.action)))
    (performed_by calls own)

-- The live operations of a site are those that its node performed, as its own deeds say, and was
-- not informed to drop. What a call asks for, its letter says.
abbrev pub SitesHoldTheirLive : Type 0
SitesHoldTheirLive =
    (objects : List ObjectDecl) (t : List TimedEvent) (s : ℕ) (got : Option LetterId)
    → IsTimedRun objects t → IsEarlier (length (events t)) got
    → (timed_sight objects (events t) s got).live
    ≡ held_live (call_of (plain_all (events t))) (timed_sight objects (events t) s got).deeds s

-- A node knows exactly the outcomes of which it was informed.
abbrev pub NodesKnowWhatTheyHold : Type 0
NodesKnowWhatTheyHold =
    (objects : List ObjectDecl) (t : List TimedEvent) (s : ℕ) (got : Option LetterId) (a : Name)
    → IsTimedRun objects t → IsEarlier (length (events t)) got
    → KnowsWhatItHolds objects (events t) s got a

-- what a letter brings
pub record BringsWhatWasHeld (t : List Event) (letter : LetterId) (mail : Mail)
    (a : Name) : Type 0 where
  pub commits :
      committed (letter_past t (Some letter)) a
      ≡ informed (own_until t letter.event) mail.from a true
  pub aborts :
      aborted (letter_past (abort_paths t) (carrier t (Some letter))) a
      ≡ (brings_aborts mail.body && informed (own_until t letter.event) mail.from a false)

-- A letter brings exactly the commits of which its sender was informed at the end of the event that
-- sent it, and, if it brings aborts, the aborts.
abbrev pub LettersBringWhatWasHeld : Type 0
LettersBringWhatWasHeld =
    (objects : List ObjectDecl) (t : List TimedEvent) (letter : LetterId) (mail : Mail) (a : Name)
    → IsTimedRun objects t → letter_at (events t) letter ≡ Some mail
    → BringsWhatWasHeld (events t) letter mail a
