-- Which input answers an item.
use Rattle.std.proofs.Common.{◌≡◌, inl, inr, ℕ, suc, ◌<◌, ◌≤◌, Bool, true, false, if◌then◌else◌, List, length}
use Rattle.std.proofs.Common.{Some, refl, sym, ap, subst, arith}
use Rattle.std.specs.Prelude.{nat_lt}
use Rattle.std.proofs.lemmas.Bool.Decides.{leb_tells}
use Rattle.cam_event.specs.declared.Request.{Request}
use Rattle.cam_event.specs.Inputs.{Begins, Requests, Receives, Restarts}
use Rattle.cam_event.specs.ByDeltas.{Received}
use Rattle.cam_journal.specs.declared.input.CoreInput.{CoreInput}
use Rattle.cam_journal.specs.declared.input.CoreInput.TheVariants.{Letter, Drive}
use Rattle.cam_gen.specs.Storms.{Words, tops_of, restarts_at}
use Rattle.cam_storm.specs.Events.{Copied}
use Rattle.cam_storm.specs.Own.{OwnRequest}
use Rattle.cam_storm.specs.Core.{IsAnswer, IsDriven, IsLeastDrive}

below : (m n : ℕ) → m < n → nat_lt m n ≡ true
below m n h = elim (leb_tells (suc m) n) [
  | inl l ↦ l.0
  | inr r ↦ let more = r.1 in absurd (omega (arith, more, h))
]

pub not_below : (m n : ℕ) → n ≤ m → nat_lt m n ≡ false
not_below m n h = elim (leb_tells (suc m) n) [
  | inl l ↦ let less = l.1 in absurd (omega (arith, less, h))
  | inr r ↦ r.0
]

pub begins_answer : (words : Words) (s : ℕ) (own : List Received) (item : CoreInput Copied)
    → length own < tops_of words s → IsAnswer words s own item (Begins s)
begins_answer words s own (Letter k place c) few =
    sym (ap (λ b. if b then Begins s
    else if restarts_at words (length own) then Restarts s
    else Receives (record { event = k; place = place })) (below (length own) (tops_of words s) few))
begins_answer words s own Drive few =
    subst (λ b. IsDriven b (restarts_at words (length own)) words s own (Begins s))
    (sym (below (length own) (tops_of words s) few)) refl

pub restart_answer : (words : Words) (s : ℕ) (own : List Received) (item : CoreInput Copied)
    → tops_of words s ≤ length own → restarts_at words (length own) ≡ true
    → IsAnswer words s own item (Restarts s)
restart_answer words s own (Letter k place c) all due =
    sym (λ i. if not_below (length own) (tops_of words s) all i then Begins s
    else if due i then Restarts s
    else Receives (record { event = k; place = place }))
restart_answer words s own Drive all due =
    subst (λ (p : Bool × Bool). IsDriven p.0 p.1 words s own (Restarts s))
    (sym (λ i. (not_below (length own) (tops_of words s) all i, due i))) refl

pub letter_answer : (words : Words) (s : ℕ) (own : List Received) (k place : ℕ) (c : Copied)
    → tops_of words s ≤ length own → restarts_at words (length own) ≡ false
    → IsAnswer words s own (Letter k place c) (Receives (record { event = k; place = place }))
letter_answer words s own k place c all none =
    sym (λ i. if not_below (length own) (tops_of words s) all i then Begins s
    else if none i then Restarts s
    else Receives (record { event = k; place = place }))

-- a request is that of the least-named action that has one
pub request_answer : (words : Words) (s : ℕ) (own : List Received) (r : Request)
    → tops_of words s ≤ length own → restarts_at words (length own) ≡ false
    → IsLeastDrive words s own (Some r.action) → OwnRequest words s own r.action r.want
    → IsAnswer words s own Drive (Requests r)
request_answer words s own r all none least request =
    subst (λ (p : Bool × Bool). IsDriven p.0 p.1 words s own (Requests r))
    (sym (λ i. (not_below (length own) (tops_of words s) all i, none i))) (record {
      action = r.action;
      want = r.want;
      least = least;
      request = request;
      is = refl;
    })
