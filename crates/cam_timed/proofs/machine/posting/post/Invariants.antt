use Rattle.std.proofs.Common.{◌≡◌, ◌++◌, drop}
use Rattle.cam_timed.specs.Machine.{posted}
use Rattle.cam_timed.proofs.machine.posting.post.Given as goal

-- with those from here on they are all
abbrev pub invariant-loop-one : goal.invariant-loop-one
invariant-loop-one l =
    l.letters ++ posted l.sender l.place (drop l.one-index l.sent) ≡ l.fn.letters ++ posted l.sender 0 l.sent
