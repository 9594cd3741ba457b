-- The text of one stop more.
use Rattle.std.proofs.Common.{◌≡◌, ℕ, zero, suc, ◌+◌, ◌<◌, List, [], ◌∷◌, ◌++◌, length, get_or, drop, Some, sym, ap, ◌∙◌, add-one, append_assoc, arith}
use Rattle.std.specs.Prelude.{slice_get}
use Rattle.std.proofs.lemmas.Option.{none-some, same_Some}
use Rattle.cam_event.specs.declared.Event.{Event}
use Rattle.cam_scope.specs.declared.scope.Scope.{Scope}
use Rattle.cam_explain.specs.Stops.{stop_text, stops_from}

pub item_at : (xs : List Event) (i : ℕ) (e : Event) → i < length xs → e ≡ get_or xs i e → slice_get xs i ≡ Some e
item_at [] i e h is = absurd (omega (arith, h))
item_at (x ∷ xs) zero e h is = ap Some (sym is)
item_at (x ∷ xs) (suc i) e h is = item_at xs i e (omega (arith, h)) is

drop_at : (xs : List Event) (i : ℕ) (e : Event) → slice_get xs i ≡ Some e → drop i xs ≡ e ∷ drop (suc i) xs
drop_at [] i e h = absurd (none-some e h)
drop_at (x ∷ xs) zero e h = ap (λ (y : Event). y ∷ xs) (same_Some x e h)
drop_at (x ∷ xs) (suc i) e h = drop_at xs i e h

pub stops_step : (scope : Scope) (t trace : List Event) (n : ℕ) (e : Event) (o x y : List ℕ) → slice_get trace n ≡ Some e
    → y ≡ x ++ stop_text scope t n e.node e.note → x ++ stops_from scope t n (drop n trace) ≡ o
    → y ++ stops_from scope t (n + 1) (drop (n + 1) trace) ≡ o
stops_step scope t trace n e o x y at more before =
    let this : List ℕ = stop_text scope t n e.node e.note in
    let rest : List ℕ = stops_from scope t (suc n) (drop (suc n) trace) in
    rw add-one
    (ap (λ (z : List ℕ). z ++ rest) more ∙ append_assoc x this rest
    ∙ ap (λ (es : List Event). x ++ stops_from scope t n es) (sym (drop_at trace n e at)) ∙ before)
