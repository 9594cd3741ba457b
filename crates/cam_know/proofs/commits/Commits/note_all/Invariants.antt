use Rattle.std.proofs.Common.{◌≡◌, ◌||◌, ◌+◌, ◌≤◌, length, take}
use Rattle.std.specs.List.{list_any}
use Rattle.cam_know.specs.declared.commits.Commit.{Commit}
use Rattle.cam_know.specs.Commits.{has_commit, is_commit, commits_room}
use Rattle.cam_know.proofs.commits.Commits.note_all.Given as goal

abbrev pub invariant-loop-outcome : goal.invariant-loop-outcome
invariant-loop-outcome l =
    ((c : Commit) → has_commit l.self c ≡ (has_commit l.initial.self c || list_any (is_commit c) (take l.outcome-index l.outcomes)))
    × (length l.outcomes ≤ commits_room l.self + l.outcome-index)
