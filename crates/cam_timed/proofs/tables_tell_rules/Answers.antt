-- What tables have tells what a rule makes.
use Rattle.cam_timed.proofs.TablesTell.{tables_tell_the_rule}
use Rattle.cam_timed.proofs.tables_tell_rules.Goals as goal

pub returns : goal.returns
returns c = tables_tell_the_rule
