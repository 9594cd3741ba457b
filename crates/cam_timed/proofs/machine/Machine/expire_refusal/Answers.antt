use Rattle.std.proofs.Common.{◌∙◌}
use Rattle.cam_timed.specs.Machine.{run_of}
use Rattle.cam_timed.specs.TimedRefusals.{where_early}
use Rattle.cam_timed.proofs.Against.{expire_against}
use Rattle.cam_timed.proofs.machine.Machine.expire_refusal.Goals as goal

pub returns : goal.returns
returns c =
    let objects = c.args.objects.now in
    let T = run_of c.args.self.now in
    c.untimed.ensures
    ∙ expire_against objects T c.requires.keeps.run c.home_of-node.result c.args.action.now
    c.home_of-node.ensures.value _ c.here-here.ensures.sight c.end_refusal.result
    c.where_early-early.result c.end_refusal.ensures
    (c.where_early-early.ensures
    ∙ (λ i. where_early (c.moment_of.ensures objects T c.requires.keeps i)
    (c.until_of.ensures objects T c.requires.keeps i)))
