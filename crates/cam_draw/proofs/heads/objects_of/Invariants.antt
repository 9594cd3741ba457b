use Rattle.std.proofs.Common.{◌≡◌, reverse, take, string_bytes}
use Rattle.cam_draw.specs.Surroundings.{objects}
use Rattle.cam_draw.proofs.heads.objects_of.Given as goal

abbrev pub invariant-loop-place : goal.invariant-loop-place
invariant-loop-place l = string_bytes l.names ≡ objects l.script.labels l.node (reverse (take l.place l.script.objects))
