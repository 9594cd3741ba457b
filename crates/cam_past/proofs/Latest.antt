-- The last event of each node in a past tells which of its events are in that past.
use Rattle.std.proofs.Common.{◌≡◌, inl, inr, ℕ, ◌<◌, ◌≤◌, ◌+◌, max, eqb, nat_lt, Bool, true, ◌||◌, List, [], ◌∷◌, length, Option, Some, None, refl, sym, ap, ap₂, ◌∙◌, arith, subst, zero-le}
use Rattle.std.proofs.lemmas.Bool.{eq-eqb, ne_eqb, lt-ltb, le-ltb, cases_lt, or_left, or_right, or_from, false_from_ne_true}
use Rattle.std.proofs.lemmas.Bool.Decides.{eqb_tells}
use Rattle.cam_event.specs.declared.Event.{Event}
use Rattle.cam_event.specs.Pasts.{last_of, sender_of, holds, in_past, HasNode}
use Rattle.cam_event.proofs.PastLaws.{in_past_newest, past_has_it, past_below}
use Rattle.cam_event.proofs.ClosedPasts.{last_has_node}
use Rattle.cam_past.specs.Tables.{node_at, at_or_zero, latest}

-- the newest event is the last one of its node
pub latest_own : (e : Event) (t : List Event) (s : ℕ) → e.node ≡ s → latest (e ∷ t) s (length t) ≡ length t + 1
latest_own e t s same = rw (eq-eqb (length t) (length t) refl, eq-eqb e.node s same) refl

-- of another node it has what its own node's last event and the sender have
pub latest_other : (e : Event) (t : List Event) (s : ℕ) → (e.node ≡ s → ⊥) → latest (e ∷ t) s (length t) ≡ max (at_or_zero (latest t s) (last_of t e.node)) (at_or_zero (latest t s) (sender_of e.got))
latest_other e t s other = rw (eq-eqb (length t) (length t) refl, ne_eqb e.node s other) refl

pub latest_older : (e : Event) (t : List Event) (s j : ℕ) → (j ≡ length t → ⊥) → latest (e ∷ t) s j ≡ latest t s j
latest_older e t s j older = rw (ne_eqb j (length t) older) refl

at_or_zero_below : (f : ℕ → ℕ) (n : ℕ) (o : Option ℕ) → ((j : ℕ) → f j ≤ n) → at_or_zero f o ≤ n
at_or_zero_below f n None below = zero-le
at_or_zero_below f n (Some j) below = below j

-- no number of an event is beyond the trace
pub latest_below : (t : List Event) (s j : ℕ) → latest t s j ≤ length t
latest_below [] s j = zero-le
latest_below (e ∷ t) s j =
    elim (eqb_tells j (length t)) [
      | inl y ↦ elim (eqb_tells e.node s) [
        | inl own ↦ omega (arith, ap (latest (e ∷ t) s) y.1 ∙ latest_own e t s own.1)
        | inr other ↦
            omega (
              arith,
              ap (latest (e ∷ t) s) y.1 ∙ latest_other e t s other.1,
              at_or_zero_below (latest t s) (length t) (last_of t e.node) (latest_below t s),
              at_or_zero_below (latest t s) (length t) (sender_of e.got) (latest_below t s),
            )
      ]
      | inr n ↦ omega (arith, latest_older e t s j n.1, latest_below t s j)
    ]

pub node_at_below : (t : List Event) (i s : ℕ) → node_at t i ≡ Some s → i < length t
node_at_below [] i s at = cc
node_at_below (e ∷ t) i s at =
    elim (eqb_tells i (length t)) [
      | inl y ↦ omega (arith, y.1)
      | inr n ↦
          let older : node_at (e ∷ t) i ≡ node_at t i = rw n.0 refl in
          omega (arith, node_at_below t i s (sym older ∙ at))
    ]

pub node_at_beyond : (t : List Event) (i : ℕ) → node_at t i ≡ None → length t ≤ i
node_at_beyond [] i at = zero-le
node_at_beyond (e ∷ t) i at =
    elim (eqb_tells i (length t)) [
      | inl y ↦
          let found : node_at (e ∷ t) i ≡ Some e.node = rw y.0 refl in cc
      | inr n ↦
          let older : node_at (e ∷ t) i ≡ node_at t i = rw n.0 refl in
          omega (arith, n.1, node_at_beyond t i (sym older ∙ at))
    ]

-- a set that has every event of a node has this one
has_event : (t : List Event) (S : ℕ → Bool) (s i : ℕ) → HasNode t S s → node_at t i ≡ Some s → S i ≡ true
has_event [] S s i has at = cc
has_event (e ∷ t) S s i has at =
    elim (eqb_tells i (length t)) [
      | inl y ↦
          let found : node_at (e ∷ t) i ≡ Some e.node = rw y.0 refl in
          let same : e.node ≡ s = cc in
          subst (λ k. S k ≡ true) (sym y.1) (has.0 same)
      | inr n ↦
          let older : node_at (e ∷ t) i ≡ node_at t i = rw n.0 refl in
          has_event t S s i has.1 (sym older ∙ at)
    ]

lt_max : (i a b : ℕ) → nat_lt i (max a b) ≡ (nat_lt i a || nat_lt i b)
lt_max i a b =
    elim (cases_lt i a) [
      | inl one ↦ lt-ltb i (max a b) (omega (arith, one)) ∙ sym (or_left (nat_lt i a) (nat_lt i b) (lt-ltb i a one))
      | inr not_one ↦ elim (cases_lt i b) [
        | inl other ↦ lt-ltb i (max a b) (omega (arith, other)) ∙ sym (or_right (nat_lt i a) (nat_lt i b) (lt-ltb i b other))
        | inr neither ↦ le-ltb i (max a b) (omega (arith, not_one, neither)) ∙ sym (or_from (nat_lt i a) (nat_lt i b) (le-ltb i a not_one) (le-ltb i b neither))
      ]
    ]

held_by_latest : (t : List Event) (i s : ℕ) (o : Option ℕ) → ((j : ℕ) → in_past t i j ≡ nat_lt i (latest t s j)) → holds (in_past t i) o ≡ nat_lt i (at_or_zero (latest t s) o)
held_by_latest t i s None told = sym (le-ltb i 0 zero-le)
held_by_latest t i s (Some j) told = told j

-- what the newest event has of an older one
newest_tells : (e : Event) (t : List Event) (i s : ℕ) → node_at t i ≡ Some s → ((j : ℕ) → in_past t i j ≡ nat_lt i (latest t s j)) → in_past (e ∷ t) i (length t) ≡ nat_lt i (latest (e ∷ t) s (length t))
newest_tells e t i s at told =
    let small : i < length t = node_at_below t i s at in
    let L : Bool = holds (in_past t i) (last_of t e.node) in
    let R : Bool = holds (in_past t i) (sender_of e.got) in
    elim (eqb_tells e.node s) [
      | inl own ↦
          let here : L ≡ true =
          has_event t (λ k. holds (in_past t k) (last_of t e.node)) e.node i (last_has_node t e.node) (at ∙ ap Some (sym own.1)) in
          in_past_newest e t i ∙ or_left (eqb i (length t) || L) R (or_right (eqb i (length t)) L here)
          ∙ sym (ap (nat_lt i) (latest_own e t s own.1) ∙ lt-ltb i (length t + 1) (omega (arith, small)))
      | inr other ↦
          in_past_newest e t i ∙ ap (λ b. (b || L) || R) (ne_eqb i (length t) (λ (same : i ≡ length t). omega (arith, same, small)))
          ∙ ap₂ (λ a b. a || b) (held_by_latest t i s (last_of t e.node) told) (held_by_latest t i s (sender_of e.got) told)
          ∙ sym (ap (nat_lt i) (latest_other e t s other.1) ∙ lt_max i (at_or_zero (latest t s) (last_of t e.node)) (at_or_zero (latest t s) (sender_of e.got)))
    ]

-- An event is in a past just where it is no later than the last event of its node there.
pub latest_tells : (t : List Event) (i s : ℕ) → node_at t i ≡ Some s → (j : ℕ) → in_past t i j ≡ nat_lt i (latest t s j)
latest_tells [] i s at j = cc
latest_tells (e ∷ t) i s at j =
    elim (eqb_tells i (length t)) [
      | inl y ↦
          let found : node_at (e ∷ t) i ≡ Some e.node = rw y.0 refl in
          let same : e.node ≡ s = cc in
          elim (eqb_tells j (length t)) [
            | inl z ↦
                (λ k. in_past (e ∷ t) (y.1 k) (z.1 k)) ∙ past_has_it (e ∷ t) (length t) (omega arith)
                ∙ sym ((λ k. nat_lt (y.1 k) (latest (e ∷ t) s (z.1 k))) ∙ ap (nat_lt (length t)) (latest_own e t s same) ∙ lt-ltb (length t) (length t + 1) (omega arith))
            | inr n ↦
                let older : in_past (e ∷ t) i j ≡ in_past t i j = rw n.0 refl in
                older ∙ false_from_ne_true (in_past t i j) (λ h. omega (arith, y.1, past_below t i j h))
                ∙ sym (ap (nat_lt i) (latest_older e t s j n.1) ∙ le-ltb i (latest t s j) (omega (arith, y.1, latest_below t s j)))
          ]
      | inr m ↦
          let before : node_at (e ∷ t) i ≡ node_at t i = rw m.0 refl in
          let told : (k : ℕ) → in_past t i k ≡ nat_lt i (latest t s k) = latest_tells t i s (sym before ∙ at) in
          elim (eqb_tells j (length t)) [
            | inl z ↦ (λ k. in_past (e ∷ t) i (z.1 k)) ∙ newest_tells e t i s (sym before ∙ at) told ∙ sym (λ k. nat_lt i (latest (e ∷ t) s (z.1 k)))
            | inr n ↦
                let older : in_past (e ∷ t) i j ≡ in_past t i j = rw n.0 refl in
                older ∙ told j ∙ sym (ap (nat_lt i) (latest_older e t s j n.1))
          ]
    ]
