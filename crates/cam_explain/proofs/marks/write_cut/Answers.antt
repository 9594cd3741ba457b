use Rattle.cam_explain.proofs.Joined.{four}
use Rattle.cam_explain.proofs.marks.write_cut.Goals as goal

pub returns : goal.returns
returns c = four _ _ _ _ _ _ _ _ _ c.in_ok-say_number.ensures c.in_ok-say_number-2.ensures c.in_ok-say_number-3.ensures c.in_ok-say_fault.ensures
