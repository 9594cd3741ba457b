use Rattle.std.proofs.Common.{◌≡◌, map, take}
use Rattle.cam_node.specs.Calls.{letter_as}
use Rattle.cam_node.proofs.sending.letters.Given as goal

-- the letters so far
abbrev pub invariant-loop-one : goal.invariant-loop-one
invariant-loop-one l = l.letters ≡ map (letter_as l.know l.places l.from l.count) (take l.one-index l.sent)
