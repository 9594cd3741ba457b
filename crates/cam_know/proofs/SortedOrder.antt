-- What a stable sort leaves is the outcomes put in order.
use Rattle.std.proofs.Common.{◌≡◌, Bool, true, false, not, cond, if◌then◌else◌, List, [], ◌∷◌, filter, sym, ap, ◌∙◌, refl}
use Rattle.std.specs.List.Sorted.{IsSortedBy, IsStableBy, ties}
use Rattle.std.proofs.lemmas.Bool.{and_parts, true≢false}
use Rattle.cam_know.specs.declared.Outcome.{Outcome}
use Rattle.cam_know.specs.Order.{stands_before, put_outcome, in_order}
use Rattle.cam_know.proofs.Compared.{before_is_order}
use Rattle.cam_know.proofs.Sorting.{AllFrom, Rises, risen_same, sorted_rises}

abbrev From : Outcome → List Outcome → Type 0
From = AllFrom stands_before before_is_order

abbrev Risen : List Outcome → Type 0
Risen = Rises stands_before before_is_order

abbrev tied : Outcome → List Outcome → List Outcome
tied w os = filter (ties stands_before w) os

from_put : (q o : Outcome) (os : List Outcome) → stands_before o q ≡ false → From q os → From q (put_outcome o os)
from_put q o [] one from = (one, tt)
from_put q o (p ∷ ps) one from = by (stands_before p o) (from_put q o ps one from.1)
  where
    by : (b : Bool) → From q (put_outcome o ps) → From q (if b then p ∷ put_outcome o ps else o ∷ p ∷ ps)
    by true rest = (from.0, rest)
    by false rest = (one, from)

from_less : (o p : Outcome) (os : List Outcome) → stands_before p o ≡ false → From p os → From o os
from_less o p [] one from = tt
from_less o p (q ∷ os) one from = (before_is_order.chain q p o from.0 one, from_less o p os one from.1)

put_rises : (o : Outcome) (os : List Outcome) → Risen os → Risen (put_outcome o os)
put_rises o [] r = (tt, tt)
put_rises o (p ∷ ps) r = by (stands_before p o) refl (put_rises o ps r.1)
  where
    by : (b : Bool) → stands_before p o ≡ b → Risen (put_outcome o ps) → Risen (if b then p ∷ put_outcome o ps else o ∷ p ∷ ps)
    by true e rest = (from_put p o ps (before_is_order.one_way p o e) r.0, rest)
    by false e rest = ((e, from_less o p ps e r.0), r)

order_rises : (os : List Outcome) → Risen (in_order os)
order_rises [] = tt
order_rises (o ∷ os) = put_rises o (in_order os) (order_rises os)

-- of two that tie with a third none is below the other
not_below : (w o p : Outcome) → ties stands_before w o ≡ true → ties stands_before w p ≡ true → stands_before p o ≡ false
not_below w o p one other =
    let from : not (stands_before p w) ≡ true = (and_parts (not (stands_before w p)) (not (stands_before p w)) other).1 in
    let to : not (stands_before w o) ≡ true = (and_parts (not (stands_before w o)) (not (stands_before o w)) one).0 in
    before_is_order.chain p w o (free (stands_before p w) from) (free (stands_before w o) to)
  where
    free : (b : Bool) → not b ≡ true → b ≡ false
    free true h = sym h
    free false h = refl

put_stable : (w o : Outcome) (os : List Outcome) → tied w (put_outcome o os) ≡ tied w (o ∷ os)
put_stable w o [] = refl
put_stable w o (p ∷ ps) = by (stands_before p o) refl (put_stable w o ps)
  where
    turned : (b c : Bool) → ties stands_before w o ≡ b → ties stands_before w p ≡ c → stands_before p o ≡ true
        → cond c (p ∷ cond b (o ∷ tied w ps) (tied w ps)) (cond b (o ∷ tied w ps) (tied w ps)) ≡ cond b (o ∷ cond c (p ∷ tied w ps) (tied w ps)) (cond c (p ∷ tied w ps) (tied w ps))
    turned true true one other less = absurd (true≢false (sym less ∙ not_below w o p one other))
    turned true false one other less = refl
    turned false true one other less = refl
    turned false false one other less = refl

    by : (b : Bool) → stands_before p o ≡ b → tied w (put_outcome o ps) ≡ tied w (o ∷ ps) → tied w (if b then p ∷ put_outcome o ps else o ∷ p ∷ ps) ≡ tied w (o ∷ p ∷ ps)
    by true e rest =
        ap (λ (os : List Outcome). cond (ties stands_before w p) (p ∷ os) os) rest
        ∙ turned (ties stands_before w o) (ties stands_before w p) refl refl e
    by false e rest = refl

order_stable : (w : Outcome) (os : List Outcome) → tied w (in_order os) ≡ tied w os
order_stable w [] = refl
order_stable w (o ∷ os) = put_stable w o (in_order os) ∙ ap (λ (ps : List Outcome). cond (ties stands_before w o) (o ∷ ps) ps) (order_stable w os)

pub sorted_in_order : (os ps : List Outcome) → IsSortedBy stands_before ps → IsStableBy stands_before os ps → ps ≡ in_order os
sorted_in_order os ps up stable =
    risen_same stands_before before_is_order ps (in_order os) (sorted_rises stands_before before_is_order ps up) (order_rises os)
    (λ w. stable w ∙ sym (order_stable w os))
