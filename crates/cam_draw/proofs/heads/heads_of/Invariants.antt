use Rattle.std.proofs.Common.{◌≡◌, map, string_bytes}
use Rattle.cam_draw.specs.Surroundings.{heads}
use Rattle.cam_draw.proofs.heads.heads_of.Given as goal

abbrev pub invariant-loop-before : goal.invariant-loop-before
invariant-loop-before l = map string_bytes l.found ≡ heads l.script l.before
