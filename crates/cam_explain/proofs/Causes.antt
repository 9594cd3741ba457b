-- The cause that is searched for is the one that a run has.
use Rattle.std.proofs.Common.{◌≡◌, inl, inr, ℕ, ◌+◌, ◌^◌, ◌<◌, eqb, Bool, true, false, if◌then◌else◌, List, [], ◌∷◌, length, Some, reverse, refl, sym, ap, ◌∙◌, arith}
use Rattle.std.proofs.lemmas.Bool.{eq-eqb, lt-ltb, ne_eqb, true≢false}
use Rattle.std.proofs.lemmas.Bool.Decides.{eqb_tells}
use Rattle.std.proofs.lemmas.Option.{same_Some}
use Rattle.cam_know.specs.declared.Reason.{Reason}
use Rattle.cam_event.specs.declared.Event.{Event}
use Rattle.cam_event.specs.Pasts.{plain_all}
use Rattle.cam_why.specs.declared.link.Why.{Why}
use Rattle.std.specs.Prelude.{nat_lt, slice_get, option_and_then}
use Rattle.cam_why.specs.Causes.{brings, is_cause, reason_in, stop_at, IsWhole}
use Rattle.cam_why.proofs.Noting.{event_by_number}
use Rattle.cam_why.specs.Chains.{chain_to}
use Rattle.cam_why.specs.Passes.{IsWhy}
use Rattle.cam_why.proofs.Stops.{causes_are_one}
use Rattle.cam_scope.specs.declared.scope.Scope.{Scope}
use Rattle.cam_explain.specs.Stops.{cause_in, chain_text, why_text}

-- the place of a cause is within the trace
within : (c b p : Bool) (i n : ℕ) → (c ≡ true → i ≡ n) → (p ≡ true → i < n) → (if c then b else p) ≡ true → i < n + 1
within true b p i n same lower h = let s : i ≡ n = same refl in omega (arith, s)
within false b p i n same lower h = let s : i < n = lower h in omega (arith, s)

same_place : (i n : ℕ) → eqb i n ≡ true → i ≡ n
same_place i n e = elim (eqb_tells i n) [ inl y ↦ y.1 | inr m ↦ absurd (true≢false (sym e ∙ m.0)) ]

below : (t : List Event) (reason : Reason) (i : ℕ) → is_cause t reason i ≡ true → i < length t
below [] reason i h = absurd (true≢false (sym h))
below (e ∷ before) reason i h =
    let s : i < length before + 1 =
    within (eqb i (length before)) (brings (plain_all before) e.deeds reason) (is_cause before reason i) i (length before)
    (same_place i (length before)) (below before reason i) h
    in
    omega (arith, s)

-- where the newest event brings nothing about, an earlier one does
earlier : (c b p : Bool) → b ≡ false → (if c then b else p) ≡ true → p ≡ true
earlier true b p off h = absurd (true≢false (sym h ∙ off))
earlier false b p off h = h

step : (b : Bool) (n m : ℕ) (P : ℕ → Bool) → (b ≡ false → (m < n) × (P m ≡ true)) → (if eqb (if b then n else m) n then b else P (if b then n else m)) ≡ true
step true n m P h = rw (eq-eqb n n refl) refl
step false n m P h =
    let lower : m < n = (h refl).0 in
    rw (ne_eqb m n (λ (same : m ≡ n). omega (arith, same, lower))) ((h refl).1)

found : (t : List Event) (reason : Reason) (i : ℕ) → is_cause t reason i ≡ true → is_cause t reason (cause_in t reason) ≡ true
found [] reason i h = absurd (true≢false (sym h))
found (e ∷ before) reason i h =
    step (brings (plain_all before) e.deeds reason) (length before) (cause_in before reason) (is_cause before reason)
    (λ off.
    let inner : is_cause before reason (cause_in before reason) ≡ true =
    found before reason i (earlier (eqb i (length before)) (brings (plain_all before) e.deeds reason) (is_cause before reason i) off h)
    in
    (below before reason (cause_in before reason) inner, inner))

pub cause_is : (t : List Event) (reason : Reason) (i : ℕ) → IsWhole t → is_cause t reason i ≡ true → i ≡ cause_in t reason
cause_is t reason i whole h = causes_are_one t reason i (cause_in t reason) whole h (found t reason i h)

-- what is told of an answer is what the definition tells
pub why_is : (scope : Scope) (t : List Event) (j : ℕ) (why : Why) (reason : Reason) → IsWhole t → IsWhy t j why → stop_at t j ≡ Some reason
    → why_text scope why.cause why.links ≡ why_text scope (cause_in t reason) (chain_to t (cause_in t reason) j)
why_is scope t j why reason whole answers stops =
    let same : answers.reason ≡ reason = same_Some _ _ (sym answers.stops ∙ stops) in
    let cause : why.cause ≡ cause_in t reason = cause_is t answers.reason why.cause whole answers.cause ∙ ap (cause_in t) same in
    ap (why_text scope why.cause) answers.read ∙ ap (λ (n : ℕ). why_text scope n (chain_to t n j)) cause

-- the stop of an event by its number
pub stop_by_number : (trace : List Event) (j : ℕ) (e : Event) → slice_get trace j ≡ Some e → stop_at (reverse trace) j ≡ reason_in e.note
stop_by_number trace j e is = ap (option_and_then (λ (x : Event). reason_in x.note)) (event_by_number trace j ∙ is)

pub chain_is : (scope : Scope) (t : List Event) (j n : ℕ) (why : Why) (reason : Reason) → n ≡ j → n < 2 ^ 32 → IsWhole t → IsWhy t n why
    → stop_at t j ≡ Some reason → why_text scope why.cause why.links ≡ chain_text scope t j reason
chain_is scope t j n why reason e small whole answers stops =
    let one : List ℕ = why_text scope (cause_in t reason) (chain_to t (cause_in t reason) j) in
    let lower : j < 2 ^ 32 = omega (arith, small, e) in
    let below : nat_lt j (2 ^ 32) ≡ true = lt-ltb j (2 ^ 32) lower in
    why_is scope t n why reason whole answers (ap (stop_at t) e ∙ stops)
    ∙ ap (λ (m : ℕ). why_text scope (cause_in t reason) (chain_to t (cause_in t reason) m)) e
    ∙ ap (λ (b : Bool). if b then one else []) (sym below)
