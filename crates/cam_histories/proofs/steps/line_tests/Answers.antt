-- A line is refused by the first of its tests that fails.
use Rattle.cam_histories.proofs.Lines.{lines_are_tested}
use Rattle.cam_histories.proofs.steps.line_tests.Goals as goal

pub returns : goal.returns
returns c = lines_are_tested
