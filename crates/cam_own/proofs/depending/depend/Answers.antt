use Rattle.std.proofs.Common.{ap, ◌∙◌}
use Rattle.cam_names.specs.Dependencies.{greater_counts}
use Rattle.cam_own.proofs.Gaining.{depends_put}
use Rattle.cam_own.proofs.depending.depend.Goals as goal

pub returns : goal.returns
returns c =
    depends_put c.args.action.now c.args.more.now c.union-deps.result c.args.depending.now c.insert.new.self
    (c.union-deps.ensures ∙ ap (λ ns. greater_counts ns c.args.more.now) c.nodes_in.ensures) c.in_ok-insert.ensures.updates.0
