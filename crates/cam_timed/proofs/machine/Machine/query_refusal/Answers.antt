use Rattle.cam_timed.specs.Machine.{run_of}
use Rattle.cam_timed.proofs.Against.{query_against}
use Rattle.cam_timed.proofs.machine.Machine.query_refusal.Goals as goal

pub returns : goal.returns
returns c =
    query_against c.args.objects.now (run_of c.args.self.now) c.args.node c.args.family.now _
    c.query_refusal.result c.requires.keeps.run c.here.ensures.sight c.query_refusal.ensures
