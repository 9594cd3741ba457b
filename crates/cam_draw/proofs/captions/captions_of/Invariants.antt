use Rattle.std.proofs.Common.{◌≡◌, map, reverse, take}
use Rattle.cam_draw.specs.Captions.{captions, restarts, saying}
use Rattle.cam_draw.proofs.captions.captions_of.Given as goal

abbrev pub invariant-loop-number : goal.invariant-loop-number
invariant-loop-number l = record {
  restarts : l.restarts ≡ restarts (reverse (take l.number l.trace));
  captions : map saying l.captions ≡ captions l.scope l.labels l.light (reverse (take l.number l.trace));
}
