-- What is true of every value that holds knowledge.
use Rattle.std.specs.Prelude.{◌≡◌, ℕ, false, List, [], ◌∷◌}
use Rattle.std.specs.List.{list_any}
use Rattle.cam_names.specs.Dependencies.{AreCounts}
use Rattle.cam_know.specs.declared.Outcome.{Outcome}
use Rattle.cam_know.specs.declared.commits.Commits.{Commits}
use Rattle.cam_know.specs.declared.index.Index.{Index}
use Rattle.cam_know.specs.Known.{outcome_eq}
use Rattle.cam_know.specs.Commits.{HasCommitsOf}
use Rattle.cam_know.specs.Index.{IsIndexOf}

-- no outcome is twice in the list
abbrev pub NoTwice : List Outcome → Type 0
NoTwice [] = Unit {0}
NoTwice (o ∷ os) = (list_any (outcome_eq o) os ≡ false) × NoTwice os

pub record IsKnown (outcomes : List Outcome) (index : Index) (commits : Commits)
    (counts : List ℕ) : Type 0 where
  pub distinct : NoTwice outcomes
  pub indexed : IsIndexOf outcomes index
  pub committed : HasCommitsOf outcomes commits
  pub counted : AreCounts 1 counts
