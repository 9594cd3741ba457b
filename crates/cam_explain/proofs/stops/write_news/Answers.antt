use Rattle.cam_explain.proofs.Joined.{five}
use Rattle.cam_explain.proofs.stops.write_news.Goals as goal

pub returns : goal.returns
returns c = five _ _ _ _ _ _ _ _ _ _ _ c.in_ok-say_number.ensures c.in_ok-say_kind.ensures c.in_ok-say_number-2.ensures c.in_ok-say_number-3.ensures c.in_ok-say_number-4.ensures
