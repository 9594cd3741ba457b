-- What a letter carries that its receiver has not acknowledged, by the pasts of events alone.
use Rattle.std.specs.Prelude.{ℕ, max, eqb, Bool, true, false, not, ◌&&◌, if◌then◌else◌, List, [], ◌∷◌, filter, length, Option, Some, None}
use Rattle.cam_type.specs.declared.ObjectDecl.{ObjectDecl}
use Rattle.cam_know.specs.declared.Outcome.{Outcome}
use Rattle.cam_know.specs.declared.Outcome.TheVariants.{Aborted, Committed}
use Rattle.cam_event.specs.declared.LetterId.{LetterId}
use Rattle.cam_event.specs.declared.Event.{Event}
use Rattle.cam_event.specs.declared.Deed.{Deed}
use Rattle.cam_event.specs.declared.Deed.TheVariants.{Commit, Abort}
use Rattle.cam_event.specs.History.{number_of, committed, aborted}
use Rattle.cam_event.specs.Inputs.{Mail, letter_at, mail_got}
use Rattle.cam_event.specs.Pasts.{in_past, holds, plain}
use Rattle.cam_event.specs.ByPast.{told}
use Rattle.cam_event.specs.Loads.{Load, no_load}
use Rattle.cam_event.specs.ByDeltas.{is_from, crashed}

-- the deeds in the past of an event, and how many Commits and Aborts are among them
abbrev pub past_of : List Event → ℕ → List Deed
past_of t i = plain t (λ k. in_past t k i)

abbrev pub is_outcome : Deed → Bool
is_outcome (Commit a) = true
is_outcome (Abort a) = true
is_outcome _ = false

abbrev pub place_at : List Event → ℕ → ℕ
place_at t i = number_of is_outcome (past_of t i)

-- the events up to a number
abbrev pub trace_to : List Event → ℕ → List Event
trace_to [] i = []
trace_to (e ∷ before) i = if eqb i (length before) then e ∷ before else trace_to before i

-- whether the node s received there a letter of the other node r
abbrev pub is_of : List Event → Event → ℕ → ℕ → Bool
is_of before e s r = not (eqb s r) && is_from r (mail_got before e.got)

-- the place of a letter: how many Commits and Aborts the past of its event has
abbrev pub letter_place : List Event → Option LetterId → ℕ
letter_place t None = 0
letter_place t (Some letter) = place_at t letter.event

-- The have of s for r: the greatest place of the letters of r that s received since its last crash.
abbrev pub have_in : List Event → ℕ → ℕ → ℕ
have_in [] s r = 0
have_in (e ∷ before) s r =
    if eqb e.node s
    then (if crashed e then 0 else if is_of before e s r
    then max (have_in before s r) (letter_place before e.got) else have_in before s r)
    else have_in before s r

-- the have of a letter of r to s: that of r for s, up to the event that sent the letter
abbrev pub letter_have : List Event → Option LetterId → ℕ → ℕ → ℕ
letter_have t None r s = 0
letter_have t (Some letter) r s = have_in (trace_to t letter.event) r s

-- The base of s for r: the greatest have of the letters of r that s received since its last crash.
abbrev pub base_in : List Event → ℕ → ℕ → ℕ
base_in [] s r = 0
base_in (e ∷ before) s r =
    if eqb e.node s
    then (if crashed e then 0 else if is_of before e s r
    then max (base_in before s r) (letter_have before e.got r s) else base_in before s r)
    else base_in before s r

-- the first event of s whose past has as many Commits and Aborts as the base
abbrev pub or_first : Option ℕ → Option ℕ → Option ℕ
or_first (Some i) other = Some i
or_first None other = other

abbrev pub first_with : List Event → ℕ → ℕ → Option ℕ
first_with [] s n = None
first_with (e ∷ before) s n =
    or_first (first_with before s n)
    (if eqb e.node s && eqb (place_at (e ∷ before) (length before)) n then Some (length before)
    else None)

-- the outcome is in the history
abbrev pub stands_in : List Deed → Outcome → Bool
stands_in L (Aborted a) = aborted L a
stands_in L (Committed a counts) = committed L a

-- The outcomes in the past of an event without those in the past of the first event with the base; all of them if the base is 0.
abbrev pub without : List Deed → List Outcome → List Outcome
without M os = filter (λ o. not (stands_in M o)) os

abbrev pub told_from : List Event → ℕ → ℕ → List Outcome → List Outcome
told_from t s base os =
    if eqb base 0 then os else without (plain t (λ k. holds (in_past t k) (first_with t s base))) os

-- What a letter of s to r carries that the event of this number sent.
abbrev pub past_load : List ObjectDecl → List Event → ℕ → ℕ → ℕ → Load
past_load objects t i s r =
    if eqb s r
    then record {
      have = 0;
      place = 0;
      know
          = record { outcomes = []; counts = (told objects (past_of t i)).counts };
    }
    else
    record {
      have = have_in (trace_to t i) s r;
      place = place_at t i;
      know =
          record {
            outcomes = told_from t s (base_in (trace_to t i) s r) (told objects (past_of t i)).outcomes;
            counts = (told objects (past_of t i)).counts;
          };
    }

abbrev pub past_load_by : List ObjectDecl → List Event → LetterId → Option Mail → Load
past_load_by objects t letter None = no_load
past_load_by objects t letter (Some mail) = past_load objects t letter.event mail.from mail.to

abbrev pub past_load_at : List ObjectDecl → List Event → LetterId → Load
past_load_at objects t letter = past_load_by objects t letter (letter_at t letter)
