use Rattle.cam_explain.proofs.Joined.{two}
use Rattle.cam_explain.proofs.marks.write_refused_line.Goals as goal

pub returns : goal.returns
returns c = two _ _ _ _ _ c.in_ok-say_number.ensures c.in_ok-write_refused_act.ensures
