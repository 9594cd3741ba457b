-- Each operation fits its object after a grant, and after one that was added.
use Rattle.std.proofs.Common.{◌≡◌, ℕ, true, List, Result, None, sym, ap, subst, ◌∙◌}
use Rattle.cam_type.specs.declared.ObjectDecl.{ObjectDecl}
use Rattle.cam_type.specs.declared.State.{State}
use Rattle.cam_locks.specs.declared.LiveOp.{LiveOp}
use Rattle.cam_locks.specs.declared.Grant.{Grant}
use Rattle.cam_locks.specs.declared.kept.Kept.{Kept}
use Rattle.cam_locks.specs.Site.{AreFit, fits_here}
use Rattle.cam_locks.specs.Granted.{IsGranted, IsAdded, holder_in}
use Rattle.cam_locks.proofs.Fits.{fit_after}

-- of an operation that fits
pub fit_granted : {E : Type 0} {r : Result Grant E} {held after : State} {new : Kept} (old : Kept) (node : ℕ) (o : LiveOp) → IsGranted old o held r new after
    → fits_here old.objects node o.object o.op ≡ true → fits_here new.objects node o.object o.op ≡ true
fit_granted old node o granted fit = ap (λ (ds : List ObjectDecl). fits_here ds node o.object o.op) granted.objects ∙ fit

-- of all live ones
pub fits_granted : {E : Type 0} {r : Result Grant E} {held after : State} {new : Kept} (old : Kept) (node : ℕ) (o : LiveOp) → IsGranted old o held r new after
    → AreFit old.objects node old.live.ops → fits_here old.objects node o.object o.op ≡ true → AreFit new.objects node new.live.ops
fits_granted {r} {new} old node o granted fit one =
    subst (λ (ds : List ObjectDecl). AreFit ds node new.live.ops) (sym granted.objects)
    (fit_after old.objects node r (holder_in old o) old.live.ops new.live.ops o granted.ops granted.err_ops fit one)

-- each live operation fits its object, with one more that does
pub fits_added : {T E : Type 0} {r : Result T E} {new : Kept} (old : Kept) (node : ℕ) (o : LiveOp) → IsAdded old o r new
    → AreFit old.objects node old.live.ops → fits_here old.objects node o.object o.op ≡ true → AreFit new.objects node new.live.ops
fits_added {r} {new} old node o added fit one =
    subst (λ (ds : List ObjectDecl). AreFit ds node new.live.ops) (sym added.objects)
    (fit_after old.objects node r None old.live.ops new.live.ops o added.ops added.err_ops fit one)
