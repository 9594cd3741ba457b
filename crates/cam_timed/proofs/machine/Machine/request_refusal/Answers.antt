use Rattle.std.proofs.Common.{◌∙◌}
use Rattle.cam_timed.specs.Machine.{run_of}
use Rattle.cam_timed.proofs.Against.{request_against}
use Rattle.cam_timed.proofs.machine.Machine.request_refusal.Goals as goal

pub returns : goal.returns
returns c =
    let objects = c.args.objects.now in
    let T = run_of c.args.self.now in
    c.untimed.ensures
    ∙ request_against objects T c.requires.keeps.run c.home_of-node.result c.args.action.now
    c.home_of-node.ensures.value _ c.here-here.ensures.sight c.refusal.result c.against_want.result
    c.args.want.now c.refusal.ensures (c.against_want.ensures objects T c.requires.keeps)
