use Rattle.cam_explain.proofs.Joined.{three}
use Rattle.cam_explain.proofs.marks.write_halt.Goals as goal

pub returns : goal.returns
returns c = three _ _ _ _ _ _ _ c.in_ok-say_number.ensures c.in_ok-say_number-2.ensures c.in_ok-say_taken.ensures
