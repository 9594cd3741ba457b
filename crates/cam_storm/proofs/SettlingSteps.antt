-- What holds of the steps of a gathered run holds of the entries of the seats, and the other way.
use Rattle.std.proofs.Common.{◌≡◌, ◌⊎◌, inl, inr, ℕ, zero, suc, ◌+◌, ◌≤◌, ◌==◌, Bool, true, false, if◌then◌else◌, List, [], ◌∷◌, ◌++◌, length, map, reverse, Some, None, refl, sym, ap, ◌∙◌, subst, arith}
use Rattle.std.specs.Prelude.{All, Contains, slice_get, slice_index_or}
use Rattle.std.specs.List.{list_any}
use Rattle.std.proofs.lemmas.Bool.{true≢false, eq-eqb}
use Rattle.std.proofs.lemmas.Bool.Decides.{eqb_tells, leb_tells}
use Rattle.std.proofs.lemmas.List.Elements.{All-contains, All-map}
use Rattle.std.proofs.lemmas.Option.{same_Some}
use Rattle.cam_names.specs.declared.name.Name.{Name}
use Rattle.cam_names.specs.Names.{home_node}
use Rattle.cam_event.specs.declared.Event.{Event}
use Rattle.cam_event.specs.declared.Sent.{Sent}
use Rattle.cam_event.specs.declared.Want.{Want}
use Rattle.cam_event.specs.declared.Deed.{Deed}
use Rattle.cam_event.specs.History.{after}
use Rattle.cam_event.specs.Inputs.{event_at}
use Rattle.cam_event.specs.Sights.{entries, own_deeds}
use Rattle.cam_event.specs.ByPast.{sight}
use Rattle.cam_event.specs.Carried.{entry_of as own_entry}
use Rattle.cam_event.specs.ByDeltas.{Received, as_carried}
use Rattle.cam_delta.proofs.Growing.{history}
use Rattle.cam_delta.proofs.SameHistories.{received_entries}
use Rattle.cam_delta.proofs.SameReadings.{events_agree}
use Rattle.cam_agree.proofs.OrphanFacts.{sent_of}
use Rattle.cam_runs.specs.Playing.{is_stop_of}
use Rattle.cam_runs.proofs.OneEvent.{first_none}
use Rattle.cam_journal.specs.declared.entry.NumberedEvent.{NumberedEvent}
use Rattle.cam_journal.specs.declared.entry.RunStep.{RunStep}
use Rattle.cam_journal.specs.Trace.{entry_of, history_from, history_of}
use Rattle.cam_journal.specs.Seats.{Sitting}
use Rattle.cam_journal.proofs.Lists.{slice_get-longer, slice_get-end}
use Rattle.cam_journal.proofs.Histories.{if_here}
use Rattle.cam_gen.specs.Storms.{Words, objects_of}
use Rattle.cam_storm.specs.Events.{Copied}
use Rattle.cam_storm.specs.Events.{Stepped}
use Rattle.cam_storm.specs.Runs.{Drives, StormRun}
use Rattle.cam_storm.specs.Lawful.{carried, AreCopied}
use Rattle.cam_storm.specs.Laws.{events_of, IsHeldRun, GatheredByKnowledge}
use Rattle.cam_storm.proofs.Driving.{goes_same}
use Rattle.cam_storm.proofs.Letters.{trace_length}
use Rattle.cam_storm.proofs.Turned.{AreTurned, reverse_more, ev, trace_of, own_of}
use Rattle.cam_storm.proofs.Gathered.{gathered_are_storms}
use Rattle.cam_storm.proofs.GatheredInputs.{storm_is_run}

-- each event of a run of a storm is the step by what its node holds
pub storm_held : (words : Words) (t : List Event) → StormRun words t → IsHeldRun (objects_of words) t
storm_held words [] storm = tt
storm_held words (e ∷ t) storm = (
  record {
    input = storm.0.input;
    sent = sent_of (objects_of words) t storm.0.input storm.0.may;
    is_next = storm.0.is_next ∙ sym (events_agree (objects_of words) t storm.0.input (storm_is_run words t storm.1) storm.0.may);
  },
  storm_held words t storm.1,
)

pub gathered_by_knowledge : GatheredByKnowledge
gathered_by_knowledge words seats gathered all = storm_held words (events_of gathered) (gathered_are_storms words seats gathered all)

-- what holds at each seat holds of each node's history in the run
pub at_node : (trace : List (RunStep Stepped Copied)) (seats : List (Sitting Stepped Copied)) (R : ℕ → List (NumberedEvent Stepped Copied) → Type 0) → All (λ (seat : Sitting Stepped Copied). seat.history ≡ history_of seat.node trace) seats
    → All (λ (seat : Sitting Stepped Copied). R seat.node seat.history) seats → (s : ℕ) → Contains (map (λ (seat : Sitting Stepped Copied). seat.node) seats) s → R s (history_of s trace)
at_node trace seats R histories each s has =
    All-contains (λ n. R n (history_of n trace)) (map (λ (seat : Sitting Stepped Copied). seat.node) seats) s
    (All-map (λ n. R n (history_of n trace)) (λ (seat : Sitting Stepped Copied). seat.node) seats
    (λ k d below. subst (λ (h : List (NumberedEvent Stepped Copied)). R (slice_index_or seats k d).node h) (histories k d below) (each k d below))) has

-- an event of the run is one of its steps
pub event_found : (xs : List (RunStep Stepped Copied)) (i : ℕ) (e : Event) → event_at (trace_of xs) i ≡ Some e → (y : RunStep Stepped Copied) × (slice_get (reverse xs) i ≡ Some y) × (ev y ≡ e)
event_found [] i e at = absurd (cc)
event_found (x ∷ before) i e at = elim (eqb_tells i (length (trace_of before))) [
  | inl y ↦
      let here : Some (ev x) ≡ Some e = sym (ap (λ (b : Bool). if b then Some (ev x) else event_at (trace_of before) i) y.0) ∙ at in
      let place : length (reverse before) ≡ i = sym (trace_length before) ∙ sym y.1 in (
        x,
        subst (λ (l : List (RunStep Stepped Copied)). slice_get l i ≡ Some x) (sym (reverse_more x before)) (subst (λ (k : ℕ). slice_get (reverse before ++ x ∷ []) k ≡ Some x) place (slice_get-end (reverse before) x)),
        same_Some (ev x) e here,
      )
  | inr n ↦
      let rest = event_found before i e (sym (ap (λ (b : Bool). if b then Some (ev x) else event_at (trace_of before) i) n.0) ∙ at) in (
        rest.0,
        subst (λ (l : List (RunStep Stepped Copied)). slice_get l i ≡ Some rest.0) (sym (reverse_more x before)) (slice_get-longer (reverse before) (x ∷ []) i rest.0 rest.1),
        rest.2,
      )
]

-- each sent letter has its copy
pub sent_copied : (words : Words) (s : ℕ) (h : List Received) (n : ℕ) (sent : List Sent) (letters : List Copied) (p : ℕ) (m : Sent) → AreCopied words s h n sent letters → slice_get sent p ≡ Some m → (c : Copied) × (slice_get letters p ≡ Some c)
sent_copied words s h n [] [] p m all at = absurd (cc)
sent_copied words s h n (k ∷ sent) (c ∷ letters) zero m all at = (c, refl)
sent_copied words s h n (k ∷ sent) (c ∷ letters) (suc p) m all at = sent_copied words s h (n + 1) sent letters p m all.1 at
sent_copied words s h n [] (c ∷ letters) p m all at = absurd all
sent_copied words s h n (k ∷ sent) [] p m all at = absurd all

-- a step of a node is an entry of its history
pub entry_found : (node n : ℕ) (trace : List (RunStep Stepped Copied)) (k : ℕ) (y : RunStep Stepped Copied) → slice_get trace k ≡ Some y → y.node ≡ node → (at : ℕ) × (slice_get (history_from node n trace) at ≡ Some (entry_of (n + k) y))
entry_found node n [] k y at here = absurd (cc)
entry_found node n (x ∷ trace) zero y at here =
    let same : x ≡ y = cc in
    let is : (x.node == node) ≡ true = eq-eqb x.node node (ap (λ (z : RunStep Stepped Copied). z.node) same ∙ here) in (
      0,
      ap (λ (l : List (NumberedEvent Stepped Copied)). slice_get l 0) (if_here (x.node == node) (entry_of n x ∷ history_from node (n + 1) trace) (history_from node (n + 1) trace) is)
          ∙ (λ i. Some (entry_of (place i) (same i))),
    )
  where
    place : n ≡ n + 0
    place = omega arith
entry_found node n (x ∷ trace) (suc k) y at here =
    let rest = entry_found node (n + 1) trace k y at here in
    by (x.node == node) rest.0 (rest.1 ∙ ap (λ (m : ℕ). Some (entry_of m y)) (omega arith))
  where
    by : (b : Bool) (a : ℕ) → slice_get (history_from node (n + 1) trace) a ≡ Some (entry_of (n + suc k) y) → (at : ℕ) × (slice_get (if b then entry_of n x ∷ history_from node (n + 1) trace else history_from node (n + 1) trace) at ≡ Some (entry_of (n + suc k) y))
    by true a e = (suc a, e)
    by false a e = (a, e)

pub from_none : (i : ℕ) → 0 + i ≡ i
from_none i = omega arith

-- a node outside has no events
pub own_none : (words : Words) (xs : List (RunStep Stepped Copied)) (s : ℕ) → AreTurned words xs → ((1 ≤ s) × (s ≤ 4) → ⊥) → own_of s xs ≡ []
own_none words [] s are out = refl
own_none words (x ∷ before) s are out = elim (eqb_tells x.node s) [
  | inl y ↦ absurd (out (subst (λ (n : ℕ). (1 ≤ n) × (n ≤ 4)) y.1 are.0.node))
  | inr n ↦ ap (λ (b : Bool). if b then carried x.event x.received ∷ own_of s before else own_of s before) n.0 ∙ own_none words before s are.1 out
]

-- so none of its actions has a request
pub no_drives : (words : Words) (t : List Event) (a : Name) (want : Want) → history (objects_of words) t (home_node a) ≡ [] → Drives words t a want → ⊥
no_drives words t a want none d =
    let s : ℕ = home_node a in
    let own : entries t s ≡ [] = sym (received_entries (objects_of words) t s) ∙ ap (λ (h : List Received). map own_entry (map as_carried h)) none in
    let deeds : (sight (objects_of words) t s None).deeds ≡ [] = ap (λ (ds : List Deed). after (own_deeds (entries t s)) ds) (first_none t s) ∙ ap own_deeds own in
    true≢false (sym d.may ∙ goes_same (sight (objects_of words) t s None).deeds [] s (list_any (is_stop_of a) t) (list_any (is_stop_of a) t) a deeds refl)

pub within : (s : ℕ) → ((1 ≤ s) × (s ≤ 4)) ⊎ ((1 ≤ s) × (s ≤ 4) → ⊥)
within s = elim (leb_tells 1 s) [
  | inl l ↦ elim (leb_tells s 4) [
    | inl h ↦ inl (l.1, h.1)
    | inr h ↦ inr (λ both. let x = both.1 in let y = h.1 in omega arith)
  ]
  | inr l ↦ inr (λ both. let x = both.0 in let y = l.1 in omega arith)
]
