use Rattle.std.proofs.Common.{◌∙◌}
use Rattle.cam_plain.proofs.before.Before.tops.Goals as goal

pub returns : goal.returns
returns c = c.tops_in.ensures ∙ c.requires.kept.tops c.args.node c.args.count
