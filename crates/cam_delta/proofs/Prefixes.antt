-- What stands up to an event stands there for good.
use Rattle.std.proofs.Common.{◌≡◌, inl, inr, if◌then◌else◌, ℕ, ◌<◌, eqb, Bool, true, false, List, [], ◌∷◌, length, Option, Some, None, refl, sym, ap, ◌∙◌, arith}
use Rattle.std.specs.Prelude.{slice_get, option_map}
use Rattle.std.proofs.lemmas.Bool.{eqb-false}
use Rattle.std.proofs.lemmas.Bool.Decides.{eqb_tells}
use Rattle.std.proofs.lemmas.Option.{same_Some}
use Rattle.cam_type.specs.declared.ObjectDecl.{ObjectDecl}
use Rattle.cam_event.specs.declared.LetterId.{LetterId}
use Rattle.cam_event.specs.declared.Event.{Event}
use Rattle.cam_event.specs.declared.Sent.{Sent}
use Rattle.cam_event.specs.Inputs.{Mail, mail_of, letter_at}
use Rattle.cam_event.specs.ByPast.{own_past}
use Rattle.cam_event.proofs.NewestPasts.{older, own_newest}
use Rattle.cam_event.specs.ByDeltas.{load_for, of_node, up_to, received_of}
use Rattle.cam_event.specs.DeltasByPast.{past_of, trace_to}
use Rattle.cam_agree.proofs.Ran.{Ran, before_it}
use Rattle.cam_delta.proofs.DeltaLists.{Begins, begins_same, begins_then}
use Rattle.cam_delta.proofs.Growing.{history, listed, received_length, listed_begins}
use Rattle.cam_delta.proofs.Sound.{load_of}

pub run_to : (objects : List ObjectDecl) (t : List Event) (j : ℕ) → Ran objects t → Ran objects (trace_to t j)
run_to objects [] j run = run
run_to objects (e ∷ t) j run = elim (eqb j (length t)) as (λ b. Ran objects (if b then e ∷ t else trace_to t j)) [ true ↦ run | false ↦ run_to objects t j (before_it objects e t run) ]

pub received_to : (objects : List ObjectDecl) (t : List Event) (j : ℕ) → up_to (received_of objects t) j ≡ received_of objects (trace_to t j)
received_to objects [] j = refl
received_to objects (e ∷ t) j = elim (eqb_tells j (length t)) [
  | inl y ↦
      let same : eqb j (length (received_of objects t)) ≡ true = ap (eqb j) (received_length objects t) ∙ y.0 in
      rw (same, y.0) refl
  | inr n ↦
      let other : eqb j (length (received_of objects t)) ≡ false = ap (eqb j) (received_length objects t) ∙ n.0 in
      rw (other, n.0) (received_to objects t j)
]

-- so a letter carries what its sender's history up to then gives
pub load_to : (objects : List ObjectDecl) (t : List Event) (letter : LetterId) (mail : Mail) → load_of objects t letter mail ≡ load_for objects mail.from (history objects (trace_to t letter.event) mail.from) mail.to
load_to objects t letter mail = ap (λ all. load_for objects mail.from (of_node all mail.from) mail.to) (received_to objects t letter.event)

pub listed_to : (objects : List ObjectDecl) (t : List Event) (j s : ℕ) → Begins (listed objects (trace_to t j) s) (listed objects t s)
listed_to objects [] j s = begins_same [] [] refl
listed_to objects (e ∷ t) j s =
    elim (eqb j (length t)) as (λ b. Begins (listed objects (if b then e ∷ t else trace_to t j) s) (listed objects (e ∷ t) s)) [
      | true ↦ begins_same (listed objects (e ∷ t) s) (listed objects (e ∷ t) s) refl
      | false ↦ begins_then (listed objects (trace_to t j) s) (listed objects t s) (listed objects (e ∷ t) s) (listed_to objects t j s) (listed_begins objects e t s)
    ]

pub past_to : (t : List Event) (j : ℕ) → j < length t → past_of (trace_to t j) j ≡ past_of t j
past_to [] j small = absurd (omega (arith, small))
past_to (e ∷ t) j small = by (past_to t j) (eqb j (length t)) refl
  where
    by : (j < length t → past_of (trace_to t j) j ≡ past_of t j) → (b : Bool) → eqb j (length t) ≡ b → past_of (if b then e ∷ t else trace_to t j) j ≡ past_of (e ∷ t) j
    by rest true y = refl
    by rest false n = let below : j < length t = omega (arith, small, eqb-false j (length t) n) in rest below ∙ sym (older e t j below)

-- the event of a number, with those before it
pub record EndsWith (t : List Event) (j s : ℕ) : Type 0 where
  pub event : Event
  pub before : List Event
  pub is : trace_to t j ≡ event ∷ before
  pub number : length before ≡ j
  pub node : event.node ≡ s
  pub below : j < length t

pub ends_more : (e : Event) (t : List Event) (j s : ℕ) → EndsWith t j s → EndsWith (e ∷ t) j s
ends_more e t j s h = record {
  event = h.event;
  before = h.before;
  is = elim (eqb_tells j (length t)) [
    | inl y ↦ absurd (omega (arith, y.1, h.below))
    | inr n ↦ rw n.0 h.is
  ];
  number = h.number;
  node = h.node;
  below = omega (arith, h.below);
}

pub ends_here : (e : Event) (t : List Event) (j s : ℕ) → eqb j (length t) ≡ true → j ≡ length t → e.node ≡ s → EndsWith (e ∷ t) j s
ends_here e t j s y same at = record { event = e; before = t; is = rw y refl; number = sym same; node = at; below = omega (arith, same) }

-- a letter was sent by an event of its sender
pub letter_ends : (t : List Event) (letter : LetterId) (mail : Mail) → letter_at t letter ≡ Some mail → EndsWith t letter.event mail.from
letter_ends [] letter mail at = cc
letter_ends (e ∷ t) letter mail at = elim (eqb_tells letter.event (length t)) [
  | inl y ↦
      let newest : letter_at (e ∷ t) letter ≡ option_map (mail_of e) (slice_get e.sent letter.place) = rw y.0 refl in
      ends_here e t letter.event mail.from y.0 y.1 (by (slice_get e.sent letter.place) (sym newest ∙ at))
  | inr n ↦
      let same : letter_at (e ∷ t) letter ≡ letter_at t letter = rw n.0 refl in
      ends_more e t letter.event mail.from (letter_ends t letter mail (sym same ∙ at))
]
  where
    by : (o : Option Sent) → option_map (mail_of e) o ≡ Some mail → e.node ≡ mail.from
    by None h = cc
    by (Some k) h = ap (λ (m : Mail). m.from) (same_Some (mail_of e k) mail h)

-- the past of the node's last event is that event's
pub own_to : (t : List Event) (j s : ℕ) → EndsWith t j s → own_past (trace_to t j) s ≡ past_of t j
own_to t j s h =
    let e : Event = h.event in
    let u : List Event = h.before in
    ap (λ x. own_past x s) h.is ∙ ap (own_past (e ∷ u)) (sym h.node) ∙ own_newest e u ∙ ap (past_of (e ∷ u)) h.number
    ∙ ap (λ x. past_of x j) (sym h.is) ∙ past_to t j h.below
