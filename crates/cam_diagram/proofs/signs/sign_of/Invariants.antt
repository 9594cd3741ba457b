use Rattle.std.proofs.Common.{◌≡◌, take, reverse}
use Rattle.cam_diagram.specs.Picture.{note_sign, sign_after}
use Rattle.cam_diagram.proofs.signs.sign_of.Given as goal

abbrev pub invariant-loop-deed : goal.invariant-loop-deed
invariant-loop-deed l = l.sign ≡ sign_after (note_sign l.event.note) (reverse (take l.deed-index l.deed-items))
