use Rattle.std.proofs.Common.{◌≡◌, drop}
use Rattle.cam_names.specs.Dependencies.{has_pair}
use Rattle.cam_own.proofs.votes.has_voter.Given as goal

abbrev pub invariant-loop-voter : goal.invariant-loop-voter
invariant-loop-voter l = has_pair (drop l.voter-index l.voter-items) l.node l.count ≡ has_pair l.voter-items l.node l.count
