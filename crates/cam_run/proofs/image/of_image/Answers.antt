-- An image that is too long.
use Rattle.std.proofs.Common.{◌≡◌, Err}
use Rattle.cam_base.specs.Causes.{Rose}
use Rattle.cam_io.specs.declared.fault.ReadFault.TheVariants.{TooLarge}
use Rattle.cam_run.proofs.Imaged.{too_large}
use Rattle.cam_run.proofs.image.of_image.Goals as goal

pub returns-in-Err-TooLarge-clause-answer : goal.returns-in-Err-TooLarge-clause-answer
returns-in-Err-TooLarge-clause-answer g c =
    let is : c.read_all.result ≡ Err TooLarge = cc in
    too_large c.args.making (Rose (g.S.Source.faults c.args.source.now) (g.S.Source.faults c.read_all.new.source))
    (g.S.Source.left c.args.source.now) (g.S.Source.left c.read_all.new.source) c.read_all.result c.refusal.result is c.read_all.ensures.read c.refusal.ensures.answer
