use Rattle.std.proofs.Common.{◌≡◌, drop}
use Rattle.cam_timed.specs.TimedRules.{pause_of}
use Rattle.cam_timed.specs.Untils.{until_in}
use Rattle.cam_timed.proofs.pausing.pause_of.Given as goal

abbrev pub invariant-loop-deed : goal.invariant-loop-deed
invariant-loop-deed l = pause_of (until_in l.untils) l.now (drop l.deed-index l.deed-items) ≡ pause_of (until_in l.untils) l.now l.deed-items
