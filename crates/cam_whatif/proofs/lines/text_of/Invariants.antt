-- The lines at the places so far.
use Rattle.std.proofs.Common.{◌≡◌, map, take}
use Rattle.cam_whatif.specs.Texts.{text_at}
use Rattle.cam_whatif.proofs.lines.text_of.Given as goal

abbrev pub invariant-loop-place : goal.invariant-loop-place
invariant-loop-place l = l.text.items ≡ text_at (map (λ line. line.now) l.lines) (take l.place-index l.places)
