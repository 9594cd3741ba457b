-- Each operation fits its object, whatever is left out, put at the end or put in order.
use Rattle.std.proofs.Common.{◌≡◌, ℕ, ◌<◌, nat_lt, Bool, true, false, cond, List, [], ◌∷◌, ◌++◌, length, get_or, Option, Some, None, Result, Ok, Err, zero, suc, sym, ap, subst, ◌∙◌, arith}
use Rattle.std.specs.Prelude.{filter, OnOk, OnErr}
use Rattle.cam_names.specs.declared.name.Name.{Name}
use Rattle.cam_type.specs.declared.ObjectDecl.{ObjectDecl}
use Rattle.cam_locks.specs.declared.LiveOp.{LiveOp}
use Rattle.cam_locks.specs.Site.{fits_here, AreFit}
use Rattle.cam_locks.specs.Changes.{by_holder}
use Rattle.cam_locks.specs.Restored.{put_in_order, in_order}

-- each operation fits its object, where some are left out
pub fit_filter : (objects : List ObjectDecl) (node : ℕ) (test : LiveOp → Bool) (os : List LiveOp) → AreFit objects node os → AreFit objects node (filter test os)
fit_filter objects node test [] fit = tt
fit_filter objects node test (o ∷ os) fit = by_test (test o) (fit_filter objects node test os fit.1)
  where
    by_test : (b : Bool) → AreFit objects node (filter test os) → AreFit objects node (cond b (o ∷ filter test os) (filter test os))
    by_test true rest = (fit.0, rest)
    by_test false rest = rest

pub fit_push : (objects : List ObjectDecl) (node : ℕ) (os : List LiveOp) (o : LiveOp) → AreFit objects node os → fits_here objects node o.object o.op ≡ true
    → AreFit objects node (os ++ o ∷ [])
fit_push objects node [] o fit one = (one, tt)
fit_push objects node (p ∷ os) o fit one = (fit.0, fit_push objects node os o fit.1 one)

-- after a grant, a conflict or want of memory
pub fit_after : {T E : Type 0} (objects : List ObjectDecl) (node : ℕ) (r : Result T E) (h : Option Name) (os new : List LiveOp) (o : LiveOp)
    → OnOk r (new ≡ by_holder h os (os ++ o ∷ [])) → OnErr r (new ≡ os) → AreFit objects node os → fits_here objects node o.object o.op ≡ true → AreFit objects node new
fit_after objects node (Ok x) h os new o ok err fit one = subst (AreFit objects node) (sym ok) (by_case h)
  where
    by_case : (h : Option Name) → AreFit objects node (by_holder h os (os ++ o ∷ []))
    by_case (Some u) = fit
    by_case None = fit_push objects node os o fit one
fit_after objects node (Err e) h os new o ok err fit one = subst (AreFit objects node) (sym err) fit

put_fit : (objects : List ObjectDecl) (node : ℕ) (o : LiveOp) (os : List LiveOp) → fits_here objects node o.object o.op ≡ true → AreFit objects node os
    → AreFit objects node (put_in_order o os)
put_fit objects node o [] one fit = (one, tt)
put_fit objects node o (p ∷ os) one fit = by_test (nat_lt p.index o.index) (put_fit objects node o os one fit.1)
  where
    by_test : (b : Bool) → AreFit objects node (put_in_order o os) → AreFit objects node (cond b (p ∷ put_in_order o os) (o ∷ p ∷ os))
    by_test true rest = (fit.0, rest)
    by_test false rest = (one, fit)

-- and where they are put in order
pub fit_ordered : (objects : List ObjectDecl) (node : ℕ) (os : List LiveOp) → AreFit objects node os → AreFit objects node (in_order os)
fit_ordered objects node [] fit = tt
fit_ordered objects node (o ∷ os) fit = put_fit objects node o (in_order os) fit.0 (fit_ordered objects node os fit.1)

-- an operation at a place fits its object, where each does
pub fit_at : (objects : List ObjectDecl) (node : ℕ) (os : List LiveOp) (i : ℕ) (x : LiveOp) → i < length os → x ≡ get_or os i x → AreFit objects node os
    → fits_here objects node x.object x.op ≡ true
fit_at objects node [] i x lt is fit = absurd (omega arith)
fit_at objects node (o ∷ os) zero x lt is fit = ap (λ (p : LiveOp). fits_here objects node p.object p.op) is ∙ fit.0
fit_at objects node (o ∷ os) (suc i) x lt is fit = fit_at objects node os i x (omega arith) is fit.1
