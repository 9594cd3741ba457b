-- A letter comes that adds nothing to the entry.
use Rattle.std.proofs.lemmas.Result.{IfOk-weaker}
use Rattle.std.proofs.Common.{◌≡◌, None, sym, subst}
use Rattle.cam_node.specs.Planned.{MayBeAdded}
use Rattle.cam_node.proofs.state.Core.comes.Goals as goal

pub returns-in-Start-clause-adds : goal.returns-in-Start-clause-adds
returns-in-Start-clause-adds c =
    IfOk-weaker c.start_comes.result (λ plan. plan.adds ≡ None) (λ plan. MayBeAdded plan.adds) (λ
    plan none. subst MayBeAdded (sym none) tt) c.start_comes.ensures.adds

pub returns-in-Answer-clause-adds : goal.returns-in-Answer-clause-adds
returns-in-Answer-clause-adds c =
    IfOk-weaker c.answer_comes.result (λ plan. plan.adds ≡ None) (λ plan. MayBeAdded plan.adds) (λ
    plan none. subst MayBeAdded (sym none) tt) c.answer_comes.ensures.adds

pub returns-in-News-clause-adds : goal.returns-in-News-clause-adds
returns-in-News-clause-adds c =
    IfOk-weaker c.news_comes.result (λ plan. plan.adds ≡ None) (λ plan. MayBeAdded plan.adds) (λ
    plan none. subst MayBeAdded (sym none) tt) c.news_comes.ensures.adds
