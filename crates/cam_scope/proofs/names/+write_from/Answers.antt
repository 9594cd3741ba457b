use Rattle.std.proofs.Common.{arith}
use Rattle.std.proofs.lemmas.Grind.{common_steps}
use Rattle.cam_scope.proofs.Naming.{bound_word}
use Rattle.cam_scope.proofs.names.+write_from.Goals as goal

-- src/names.rt:108:9
pub returns-in-Some : goal.returns-in-Some
returns-in-Some t c = grind (arith, common_steps, bound_word c.args.variables.now c.args.levels c.args.ancestor.now c.args.action.now)
