-- The order of conflicting operations, through each call.
use Rattle.std.proofs.Common.{◌≡◌, ℕ, ◌<◌, Bool, true, false, List, [], ◌∷◌, ◌++◌, sym, ap, ◌∙◌, arith}
use Rattle.std.proofs.Math.Logic.{inl, inr}
use Rattle.std.specs.Prelude.{filter}
use Rattle.cam_names.specs.declared.name.Name.{Name}
use Rattle.cam_type.specs.Table.{mode_of, compatible}
use Rattle.cam_locks.specs.declared.LiveOp.{LiveOp}
use Rattle.cam_locks.specs.Members.{In}
use Rattle.cam_locks.specs.Site.{IndicesRise}
use Rattle.cam_locks.specs.Moss.{is_on, lift_in}
use Rattle.cam_type.specs.Moss.{is_in_the_way}
use Rattle.cam_locks.specs.Holding.{IsNested}
use Rattle.cam_locks.proofs.Members.{in_either, in_last, in_filter, below}
use Rattle.cam_locks.proofs.ClimbingLifts.{AtLeast, clear_stays}

-- Locks stay nested with one more operation in whose way none stands.
pub nested_push : (x : ℕ) (ns : List Name) (os : List LiveOp) (next : ℕ) (n : LiveOp) → n.index ≡ next → IndicesRise 0 os next
    → ((o : LiveOp) → In o os → is_on x o ≡ true → is_on x n ≡ true → compatible (mode_of o.op) (mode_of n.op) ≡ false → is_in_the_way n.action (lift_in ns o.action) ≡ false)
    → IsNested x ns os → IsNested x ns (os ++ n ∷ [])
nested_push x ns os next n at rise clear nested o p h k lt on also apart =
    elim (in_either o os (n ∷ []) h) [
      | inl i ↦ elim (in_either p os (n ∷ []) k) [
        | inl j ↦ nested o p i j lt on also apart
        | inr j ↦ last_clear (in_last p n j) i
      ]
      | inr i ↦ elim (in_either p os (n ∷ []) k) [
        | inl j ↦
            let before : p.index < next = below 0 os next p rise j in
            let same : o.index ≡ n.index = ap (λ (q : LiveOp). q.index) (in_last o n i) in absurd (omega arith)
        | inr j ↦
            let same : o.index ≡ n.index = ap (λ (q : LiveOp). q.index) (in_last o n i) in
            let equal : p.index ≡ n.index = ap (λ (q : LiveOp). q.index) (in_last p n j) in absurd (omega arith)
      ]
    ]
  where
    last_clear : p ≡ n → In o os → is_in_the_way p.action (lift_in ns o.action) ≡ false
    last_clear e i =
        ap (λ (q : LiveOp). is_in_the_way q.action (lift_in ns o.action)) e
        ∙ clear o i on (ap (is_on x) (sym e) ∙ also) (ap (λ (q : LiveOp). compatible (mode_of o.op) (mode_of q.op)) (sym e) ∙ apart)

-- and where more is known committed
pub nested_commit : (x : ℕ) (less more : List Name) (os : List LiveOp) → AtLeast more less → IsNested x less os → IsNested x more os
nested_commit x less more os at_least nested o p h k lt on also apart = clear_stays less more o.action p.action at_least (nested o p h k lt on also apart)

-- and where some operations are left out
pub nested_filter : (x : ℕ) (ns : List Name) (test : LiveOp → Bool) (os : List LiveOp) → IsNested x ns os → IsNested x ns (filter test os)
nested_filter x ns test os nested o p h k lt on also apart = nested o p (in_filter test o os h).0 (in_filter test p os k).0 lt on also apart
