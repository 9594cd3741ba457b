use Rattle.std.proofs.Common.{◌≡◌, reverse, take}
use Rattle.cam_draw.specs.Light.{last_seen}
use Rattle.cam_draw.proofs.light.last_seen.Given as goal

abbrev pub invariant-loop-number : goal.invariant-loop-number
invariant-loop-number l = l.last ≡ last_seen (reverse (take l.number l.trace)) l.action
