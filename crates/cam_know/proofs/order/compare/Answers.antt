use Rattle.std.proofs.Common.{◌∙◌}
use Rattle.std.specs.Ordering.{ordering_then}
use Rattle.cam_know.specs.declared.Outcome.TheVariants.{Aborted, Committed}
use Rattle.cam_know.proofs.Compared.{counts_cmp, aborts_by_key, by_key_less, by_key_greater}
use Rattle.cam_know.proofs.order.compare.Goals as goal

pub returns-in-Aborted-Aborted-clause-greater : goal.returns-in-Aborted-Aborted-clause-greater
returns-in-Aborted-Aborted-clause-greater c =
    let here = c.in-Aborted-Aborted in
    rw (here.is-0, here.is-1)
    (by_key_greater c.cmp.result (Aborted here.first) (Aborted here.second) (c.cmp.ensures ∙ aborts_by_key here.first here.second))

pub returns-in-Committed-Committed-clause-less : goal.returns-in-Committed-Committed-clause-less
returns-in-Committed-Committed-clause-less c =
    let here = c.in-Committed-Committed in
    rw (here.is-0, here.is-1)
    (by_key_less c.then.result (Committed here.first here.deps) (Committed here.second here.others)
    (c.then.ensures
    ∙ (λ i. ordering_then (c.cmp-in-Committed-Committed.ensures i) ((c.cmp-in-Committed-Committed-2.ensures ∙ (λ j. counts_cmp (c.counts.ensures.value j) (c.counts-in-Committed-Committed.ensures.value j))) i))))

pub returns-in-Committed-Committed-clause-greater : goal.returns-in-Committed-Committed-clause-greater
returns-in-Committed-Committed-clause-greater c =
    let here = c.in-Committed-Committed in
    rw (here.is-0, here.is-1)
    (by_key_greater c.then.result (Committed here.first here.deps) (Committed here.second here.others)
    (c.then.ensures
    ∙ (λ i. ordering_then (c.cmp-in-Committed-Committed.ensures i) ((c.cmp-in-Committed-Committed-2.ensures ∙ (λ j. counts_cmp (c.counts.ensures.value j) (c.counts-in-Committed-Committed.ensures.value j))) i))))
