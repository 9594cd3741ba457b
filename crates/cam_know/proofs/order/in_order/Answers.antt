-- A stable sort by the order leaves the outcomes put in order.
use Rattle.std.proofs.Common.{◌≡◌, List, ◌++◌, ap, ◌∙◌, is_lt, rules}
use Rattle.std.proofs.lemmas.List.Sorted.{answers_always}
use Rattle.cam_know.specs.declared.Outcome.{Outcome}
use Rattle.cam_know.specs.Order.{stands_before, in_order}
use Rattle.cam_know.proofs.Compared.{before_is_order}
use Rattle.cam_know.proofs.SortedOrder.{sorted_in_order}
use Rattle.cam_know.proofs.order.in_order.Goals as goal

pub returns : goal.returns
returns c =
    let copied = c.in_ok-extend_from_slice.ensures.items ∙ ap (λ (os : List Outcome). os ++ c.args.outcomes.now) c.new-told.ensures.items in
    let answers = answers_always _ (λ a r. is_lt r ≡ stands_before a.0.now a.1.0.now) _ (λ f a r g called. search rules) in
    c.from_vec.ensures
    ∙ sorted_in_order _ c.sort_by.new.self.items
    (c.in_ok-sort_by.ensures.sorted stands_before before_is_order answers)
    (c.in_ok-sort_by.ensures.stable stands_before before_is_order answers)
    ∙ ap in_order copied
