use Rattle.std.proofs.Common.{◌+◌, ◌≤◌, length, take}
use Rattle.cam_server.specs.Calls.{answers, AreInformed, aborts_in, commits_in}
use Rattle.cam_server.proofs.server.Server.inform_all.Given as goal

-- The site was informed of the outcomes so far, there is room for the others, and no more room was taken than for one each.
abbrev pub invariant-loop-outcome : goal.invariant-loop-outcome
invariant-loop-outcome l =
    AreInformed (aborts_in (take l.outcome-index l.outcomes)) (commits_in (take l.outcome-index l.outcomes)) (answers l.initial.self) (answers l.self)
    × (length l.outcomes ≤ l.self.table.spare + l.outcome-index)
    × (l.initial.self.table.spare ≤ l.self.table.spare + l.outcome-index)
