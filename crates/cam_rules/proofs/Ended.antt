-- Whether a test holds of an ancestor: of the action itself or of one of the parent.
use Rattle.std.proofs.Common.{◌≡◌, Bool, true, false, ◌||◌, Some, ap, sym, ◌∙◌, refl}
use Rattle.std.specs.List.{list_any}
use Rattle.cam_names.specs.declared.name.Name.{Name}
use Rattle.cam_names.specs.Names.{ancestors, parent}
use Rattle.cam_names.proofs.Any.{any_last}
use Rattle.cam_know.proofs.Climbs.{ancestors_parent}

pub any_above : (test : Name → Bool) (a p : Name) → Some p ≡ parent a → list_any test (ancestors a) ≡ (list_any test (ancestors p) || test a)
any_above test a p is = ap (list_any test) (ancestors_parent a p is) ∙ any_last test (ancestors p) a

pub any_here : (test : Name → Bool) (a p : Name) → Some p ≡ parent a → test a ≡ true → true ≡ list_any test (ancestors a)
any_here test a p is here = by (list_any test (ancestors p)) ∙ ap (λ b. list_any test (ancestors p) || b) (sym here) ∙ sym (any_above test a p is)
  where
    by : (b : Bool) → true ≡ (b || true)
    by true = refl
    by false = refl

pub any_rest : (test : Name → Bool) (a p : Name) → Some p ≡ parent a → test a ≡ false → list_any test (ancestors p) ≡ list_any test (ancestors a)
any_rest test a p is none = by (list_any test (ancestors p)) ∙ ap (λ b. list_any test (ancestors p) || b) (sym none) ∙ sym (any_above test a p is)
  where
    by : (b : Bool) → b ≡ (b || false)
    by true = refl
    by false = refl
