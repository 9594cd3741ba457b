-- Runs in which nodes may halt: the last event, all of it or what was taken of it, and what holds of the run.
use Rattle.std.proofs.Common.{◌≡◌, inl, inr, ℕ, Bool, true, false, if◌then◌else◌, List, [], ◌∷◌, filter, length, Option, Some, None, sym, ap, ◌∙◌}
use Rattle.std.proofs.lemmas.Bool.{true≢false}
use Rattle.cam_type.specs.declared.ObjectDecl.{ObjectDecl}
use Rattle.cam_event.specs.declared.LetterId.{LetterId}
use Rattle.cam_event.specs.declared.Event.{Event}
use Rattle.cam_event.specs.declared.Deed.{Deed}
use Rattle.cam_event.specs.Pasts.{last_of, holds, plain}
use Rattle.cam_event.specs.Inputs.{Input, node_of, got_of, mail_got}
use Rattle.cam_event.specs.Rules.{Did}
use Rattle.cam_event.specs.ByPast.{first_informs}
use Rattle.cam_event.specs.ByKnowledge.{of_node, carried_by, carried_of, held_informs}
use Rattle.cam_event.specs.Runs.{MayCome, IsRun}
use Rattle.cam_event.specs.Taken.{is_entered, taken_of, MayStand, IsRunTaking}
use Rattle.cam_event.specs.Agreement.{IsSent, AreSent, CrashAlone, KnowsItsBase}
use Rattle.cam_event.proofs.Members.{In}
use Rattle.cam_event.proofs.RunLaws.{taking_are_sent, taking_crash_alone}
use Rattle.cam_event.proofs.SameInforms.{informs_same}
use Rattle.cam_event.proofs.Base.{knows_its_base}
use Rattle.cam_cut.proofs.Good.{Good}
use Rattle.cam_cut.proofs.Holds.{RunHolds, IsPart}
use Rattle.cam_cut.proofs.Parts.{base_of, with_first}
use Rattle.cam_cut.proofs.SeesRun.{sees_so}
use Rattle.cam_cut.proofs.Tested.{sight_so}
use Rattle.cam_cut.proofs.Readings.{event_with}
use Rattle.cam_cut.proofs.NextEvent.{sight_of, did_of, earlier, next_good}
use Rattle.cam_cut.proofs.Halts.{taken_did, taken_good, taken_is, run_taking_holds}

-- a run, with taken events at some positions
abbrev pub Ran : List ObjectDecl → List Event → Type 0
Ran objects t = (taken : ℕ → Bool) × IsRunTaking objects taken t

-- what is done at an input: all that its rule gives, or what was taken of it
abbrev pub did_as : List ObjectDecl → List Event → Input → Bool → Did
did_as objects t input true = taken_did (did_of objects t input)
did_as objects t input false = did_of objects t input

abbrev pub event_as : List ObjectDecl → List Event → Input → Bool → Event
event_as objects t input took = event_with t (node_of t input) (got_of input) (did_as objects t input took)

-- the last event of such a run
pub record Stood (objects : List ObjectDecl) (t : List Event) (e : Event) : Type 0 where
  pub input : Input
  pub may : MayCome objects t input
  pub took : Bool
  pub is : e ≡ event_as objects t input took

stood_by : (objects : List ObjectDecl) (t : List Event) (e : Event) (b : Bool) → MayStand objects t e b → Stood objects t e
stood_by objects t e true h = record {
  input = h.may.input;
  may = h.may.may;
  took = true;
  is = h.taken ∙ ap taken_of h.may.is_next ∙ taken_is t (node_of t h.may.input) (got_of h.may.input) (did_of objects t h.may.input);
}
stood_by objects t e false h = record { input = h.input; may = h.may; took = false; is = h.is_next }

pub stood : (objects : List ObjectDecl) (e : Event) (t : List Event) → Ran objects (e ∷ t) → Stood objects t e
stood objects e t run = stood_by objects t e (run.0 (length t)) run.1.0

pub before_it : (objects : List ObjectDecl) (e : Event) (t : List Event) → Ran objects (e ∷ t) → Ran objects t
before_it objects e t run = (run.0, run.1.2)

-- a run without taken events
no_halt : (t : List Event) (s : ℕ) → holds (λ i. false) (last_of t s) ≡ true → ⊥
no_halt t s h = none (last_of t s) h
  where
    none : (o : Option ℕ) → holds (λ i. false) o ≡ true → ⊥
    none None g = true≢false (sym g)
    none (Some i) g = true≢false (sym g)

plain_taking : (objects : List ObjectDecl) (t : List Event) → IsRun objects t → IsRunTaking objects (λ i. false) t
plain_taking objects [] run = tt
plain_taking objects (e ∷ t) run = (run.0, (λ h. absurd (no_halt t e.node h)), plain_taking objects t run.1)

pub plain_ran : (objects : List ObjectDecl) (t : List Event) → IsRun objects t → Ran objects t
plain_ran objects t run = ((λ i. false), plain_taking objects t run)

-- what holds of them
pub ran_holds : (objects : List ObjectDecl) (t : List Event) → Ran objects t → RunHolds objects t
ran_holds objects t run = run_taking_holds objects run.0 t run.1

pub ran_sent : (objects : List ObjectDecl) (t : List Event) → Ran objects t → AreSent t
ran_sent objects t run = taking_are_sent objects run.0 t run.1

pub ran_alone : (objects : List ObjectDecl) (t : List Event) → Ran objects t → CrashAlone t
ran_alone objects t run = taking_crash_alone objects run.0 t run.1

pub ran_knows : (objects : List ObjectDecl) (t : List Event) (s : ℕ) (got : Option LetterId) → Ran objects t → IsSent t got → KnowsItsBase objects t s got
ran_knows objects t s got run there = knows_its_base objects t s got (ran_sent objects t run) (ran_alone objects t run) there

pub ran_informs : (objects : List ObjectDecl) (t : List Event) (s : ℕ) (got : Option LetterId) → Ran objects t → IsSent t got
    → held_informs objects s (of_node (carried_of objects t) s) (carried_by objects (carried_of objects t) got (mail_got t got)) ≡ first_informs t s got
ran_informs objects t s got run there = informs_same objects t s got (ran_sent objects t run) there

-- what is done is good, and part of what the rule gives
pub good_as : (objects : List ObjectDecl) (t : List Event) (input : Input) (took : Bool) (S : ℕ → Bool) → RunHolds objects t → MayCome objects t input → IsPart t (node_of t input) (got_of input) S
    → Good objects (sight_of objects t input) (with_first t (node_of t input) (got_of input) (base_of t (node_of t input) (got_of input))) (with_first t (node_of t input) (got_of input) (plain t S)) (did_as objects t input took)
good_as objects t input true S run may part =
    taken_good objects (sight_of objects t input) (with_first t (node_of t input) (got_of input) (base_of t (node_of t input) (got_of input))) (with_first t (node_of t input) (got_of input) (plain t S)) (did_of objects t input)
    (sight_so objects (sight_of objects t input) (with_first t (node_of t input) (got_of input) (base_of t (node_of t input) (got_of input))) (with_first t (node_of t input) (got_of input) (plain t S))
    (sees_so objects t (node_of t input) (got_of input) S run (earlier objects t input may) part)) (next_good objects t input S run may part)
good_as objects t input false S run may part = next_good objects t input S run may part

in_filter : {X : Type 0} (p : X → Bool) (x : X) (xs : List X) → In x (filter p xs) → In x xs
in_filter p x [] h = h
in_filter p x (y ∷ ys) h = by (p y) h (in_filter p x ys)
  where
    by : (b : Bool) → In x (if b then y ∷ filter p ys else filter p ys) → (In x (filter p ys) → In x ys) → In x (y ∷ ys)
    by true (inl e) more = inl e
    by true (inr i) more = inr (more i)
    by false i more = inr (more i)

pub in_whole : (objects : List ObjectDecl) (t : List Event) (input : Input) (took : Bool) (d : Deed) → In d (did_as objects t input took).deeds → In d (did_of objects t input).deeds
in_whole objects t input true d h = in_filter is_entered d (did_of objects t input).deeds h
in_whole objects t input false d h = h
