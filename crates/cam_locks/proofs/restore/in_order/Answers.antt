use Rattle.std.proofs.Common.{List, ◌++◌, ap, ◌∙◌, subst, rules}
use Rattle.std.specs.List.Sorted.{IsPermutation}
use Rattle.std.proofs.lemmas.List.Sorted.{IsNonDecreasingBy-from_sort_by_key}
use Rattle.cam_locks.specs.declared.LiveOp.{LiveOp}
use Rattle.cam_locks.proofs.SortedOperations.{sorted_in_order}
use Rattle.cam_locks.proofs.restore.in_order.Goals as goal

pub returns : goal.returns
returns c =
    sorted_in_order c.args.operations.now c.sort_unstable_by_key.new.self.items c.requires
    (subst (λ (os : List LiveOp). IsPermutation os c.sort_unstable_by_key.new.self.items) (c.in_ok-extend_from_slice.ensures.items ∙ ap (λ (xs : List LiveOp). xs ++ c.args.operations.now) c.new-ordered.ensures.items) c.sort_unstable_by_key.ensures.permutation)
    (IsNonDecreasingBy-from_sort_by_key (λ o. o.index) _ c.sort_unstable_by_key.ensures.sorted (λ a r q k. search rules))
