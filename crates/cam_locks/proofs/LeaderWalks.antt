-- A walk along leaders that leaves out those that need not be kept.
use Rattle.std.proofs.Common.{◌≡◌, ℕ, ◌+◌, ◌≤◌, ◌<◌, Bool, true, false, ◌&&◌, if◌then◌else◌, List, [], ◌∷◌, ◌++◌, length, take, drop, get_or, Some, None, zero, suc, refl, sym, ap, subst, ◌∙◌, arith}
use Rattle.std.specs.Prelude.{find}
use Rattle.cam_names.specs.declared.name.Name.{Name}
use Rattle.cam_type.specs.declared.Mode.{Mode}
use Rattle.cam_locks.specs.declared.LiveOp.{LiveOp}
use Rattle.cam_locks.specs.Moss.{lift_in}
use Rattle.cam_type.specs.Moss.{is_in_the_way}
use Rattle.cam_locks.specs.Holding.{has_op, KeepsLeaders}
use Rattle.cam_locks.specs.Changes.{holder_in, stands}
use Rattle.cam_locks.proofs.Lists.{find_none, find_some}
use Rattle.cam_locks.proofs.LastElements.{split_at, take_removed}
use Rattle.cam_locks.proofs.TidiedLocks.{is_idle, leaders_drop}

-- an idle one is left out
pub walk_kept : (x : ℕ) (m : Mode) (ns : List Name) (os : List LiveOp) (next : ℕ) (ts : List LiveOp) (p : ℕ) (t : LiveOp) → p < length ts → t ≡ get_or ts p t
    → is_idle ns os (take p ts) t ≡ true → KeepsLeaders x m ns os next ts → KeepsLeaders x m ns os next (take p ts ++ drop (suc p) ts)
walk_kept x m ns os next ts p t lt is idle keeps =
    leaders_drop x m ns os next (take p ts) t (drop (suc p) ts) idle (subst (λ (us : List LiveOp). KeepsLeaders x m ns os next us) (split_at ts p t lt is) keeps)

-- none before a place stands in the way, where one at it is taken out
pub walk_none : (ns : List Name) (os : List LiveOp) (a : Name) (ts : List LiveOp) (p : ℕ) → p ≤ length ts → None ≡ find (stands ns os a) (take p ts)
    → None ≡ find (stands ns os a) (take p (take p ts ++ drop (suc p) ts))
walk_none ns os a ts p le none = none ∙ ap (find (stands ns os a)) (sym (take_removed ts p le))

stands_by_holder : (ns : List Name) (os : List LiveOp) (a : Name) (t : LiveOp) → is_in_the_way a (holder_in ns os t) ≡ stands ns os a t
stands_by_holder ns os a t = by_test (has_op os t.index)
  where
    by_test : (b : Bool) → is_in_the_way a (if b then lift_in ns t.action else None) ≡ (b && is_in_the_way a (lift_in ns t.action))
    by_test true = refl
    by_test false = refl

-- the first in the way ends the walk, and another is passed
pub walk_found : (ns : List Name) (os : List LiveOp) (a : Name) (ts : List LiveOp) (p : ℕ) (t : LiveOp) → p < length ts → t ≡ get_or ts p t
    → None ≡ find (stands ns os a) (take p ts) → is_in_the_way a (holder_in ns os t) ≡ true → Some t ≡ find (stands ns os a) ts
walk_found ns os a ts p t lt is none way = find_some (stands ns os a) ts p t lt is none (sym (stands_by_holder ns os a t) ∙ way)

-- nor with one more that does not stand in the way
pub walk_passed : (ns : List Name) (os : List LiveOp) (a : Name) (ts : List LiveOp) (p : ℕ) (t : LiveOp) → p < length ts → t ≡ get_or ts p t
    → None ≡ find (stands ns os a) (take p ts) → is_in_the_way a (holder_in ns os t) ≡ false → None ≡ find (stands ns os a) (take (p + 1) ts)
walk_passed ns os a ts p t lt is none clear = find_none (stands ns os a) ts p t lt is none (sym (stands_by_holder ns os a t) ∙ clear)

-- a place stays within the list, where one at it is taken out
pub walk_within : (ts : List LiveOp) (p : ℕ) → p ≤ length ts → p ≤ length (take p ts ++ drop (suc p) ts)
walk_within ts zero le = omega arith
walk_within [] (suc p) le = absurd (omega arith)
walk_within (t ∷ ts) (suc p) le = let rest : p ≤ length (take p ts ++ drop (suc p) ts) = walk_within ts p (omega arith) in omega arith
