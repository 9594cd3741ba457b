-- An abort of which no operation of an object is dropped leaves the table.
use Rattle.std.proofs.Common.{◌≡◌, ℕ, eqb, Bool, true, false, not, ◌||◌, if◌then◌else◌, List, [], ◌∷◌, refl, sym, ap, ◌∙◌}
use Rattle.std.specs.List.{list_any}
use Rattle.std.specs.HashMap.{HashMap}
use Rattle.std.proofs.lemmas.Bool.{eqb-true}
use Rattle.cam_names.specs.declared.name.Name.{Name}
use Rattle.cam_names.specs.Names.{is_ancestor}
use Rattle.cam_event.specs.declared.Operation.{Operation}
use Rattle.cam_own.specs.Live.{Puts, operations_in, without_below}

-- Where none is below the action, all are left.
none_below : (a : Name) (os : List Operation)
    → list_any (λ o. is_ancestor a o.action) os ≡ false → without_below a os ≡ os
none_below a [] none = refl
none_below a (o ∷ os) none =
    by (is_ancestor a o.action) (list_any (λ p. is_ancestor a p.action) os) none refl
    (none_below a os)
  where
    by : (b c : Bool) → (b || c) ≡ false → c ≡ list_any (λ p. is_ancestor a p.action) os
        → (list_any (λ p. is_ancestor a p.action) os ≡ false → without_below a os ≡ os)
        → (if not b then o ∷ without_below a os else without_below a os) ≡ o ∷ os
    by true c h same rest = cc
    by false c h same rest = ap (λ (ps : List Operation). o ∷ ps) (rest (sym same ∙ h))

pub none_put :
    {S : Type 0} (a : Name) (x : ℕ) (table : HashMap ℕ (List Operation) S)
    → list_any (λ o. is_ancestor a o.action) (operations_in table x) ≡ false
    → Puts x (without_below a (operations_in table x)) table table
none_put a x table none y = by (eqb x y) refl
  where
    by : (b : Bool) → eqb x y ≡ b
        → operations_in table y
        ≡ (if b then without_below a (operations_in table x) else operations_in table y)
    by true same =
        ap (operations_in table) (sym (eqb-true x y same))
        ∙ sym (none_below a (operations_in table x) none)
    by false other = refl
