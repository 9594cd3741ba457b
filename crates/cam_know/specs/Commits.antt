-- Which commits are known, each with its dependencies.
use Rattle.std.specs.Prelude.{◌≡◌, ℕ, Bool, List}
use Rattle.std.specs.List.{list_any}
use Rattle.std.specs.HashSet.{contains, spare}
use Rattle.cam_know.specs.declared.Outcome.{Outcome}
use Rattle.cam_know.specs.declared.Outcome.TheVariants.{Committed}
use Rattle.cam_know.specs.declared.commits.Commit.{Commit}
use Rattle.cam_know.specs.declared.commits.Commits.{Commits}
use Rattle.cam_know.specs.Known.{outcome_eq}

-- whether the outcome is this commit, with these dependencies
abbrev pub is_commit : Commit → Outcome → Bool
is_commit c o = outcome_eq (Committed c.name c.deps) o

abbrev pub commit_eq : Commit → Commit → Bool
commit_eq c q = is_commit c (Committed q.name q.deps)

abbrev pub has_commit : Commits → Commit → Bool
has_commit m c = contains commit_eq m.commits c

-- how many more commits it can take without memory
abbrev pub commits_room : Commits → ℕ
commits_room m = spare m.commits

-- both have the same commits
abbrev pub HasSame : Commits → Commits → Type 0
HasSame m n = (c : Commit) → has_commit n c ≡ has_commit m c

-- Just the commits among the outcomes are known.
abbrev pub HasCommitsOf : List Outcome → Commits → Type 0
HasCommitsOf os m = (c : Commit) → has_commit m c ≡ list_any (is_commit c) os
