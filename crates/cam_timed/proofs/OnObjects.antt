-- Of the operations on an object all are on it.
use Rattle.std.proofs.Common.{◌≡◌, ℕ, eqb, Bool, true, false, ◌&&◌, List, filter, refl, ◌∙◌}
use Rattle.cam_event.specs.declared.Operation.{Operation}
use Rattle.cam_event.proofs.Snoc.{filter_filter, filter_same}

pub on_twice : (x : ℕ) (os : List Operation)
    → filter (λ o. eqb o.object x) (filter (λ o. eqb o.object x) os)
    ≡ filter (λ o. eqb o.object x) os
on_twice x os =
    filter_filter on on os ∙ filter_same (λ o. on o && on o) on os (λ o. both (on o))
  where
    on : Operation → Bool
    on o = eqb o.object x

    both : (b : Bool) → (b && b) ≡ b
    both true = refl
    both false = refl
