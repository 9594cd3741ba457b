use Rattle.std.proofs.Common.{sym, subst}
use Rattle.cam_body.specs.Progress.{IsAt, closed, after_step}
use Rattle.cam_body.proofs.progress.Progress.after.Goals as goal

pub returns-in-Got-clause-at : goal.returns-in-Got-clause-at
returns-in-Got-clause-at c =
    λ body place h.
    subst (λ s. IsAt (after_step place s) body c.args.wanted c.closed.result) (sym c.in-Got.is)
    (subst (λ t. IsAt (closed place t) body c.args.wanted c.closed.result) c.value_seen.ensures (c.closed.ensures.at body place h))

pub returns-in-Child-clause-at : goal.returns-in-Child-clause-at
returns-in-Child-clause-at c =
    λ body place h. subst (λ s. IsAt (after_step place s) body c.args.wanted c.closed-in-Child.result) (sym c.in-Child.is) (c.closed-in-Child.ensures.at body place h)
