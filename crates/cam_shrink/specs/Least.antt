-- When no further lines can go. `answers kept passed` says that the test may answer so of the places
-- that are kept.
use Rattle.std.specs.Prelude.{◌≡◌, ℕ, ◌≤◌, ◌<◌, Bool, true, false, ◌⊎◌, List, [], ◌∷◌, length}
use Rattle.cam_shrink.specs.Cuts.{without, IsPart}

-- a cut has nothing of what is kept, or the test fails without it
abbrev pub IsNeeded : (List ℕ → Bool → Type 0) → List ℕ → List ℕ → Type 0
IsNeeded answers kept cut = (without cut kept ≡ kept) ⊎ answers (without cut kept) false

-- each of these cuts is needed
abbrev pub EachIsNeeded : (List ℕ → Bool → Type 0) → List ℕ → List (List ℕ) → Type 0
EachIsNeeded answers kept [] = Unit {0}
EachIsNeeded answers kept (cut ∷ cuts) = IsNeeded answers kept cut × EachIsNeeded answers kept cuts

-- a cut was taken away and the rest passes
pub record IsTaken (answers : List ℕ → Bool → Type 0) (cut old new : List ℕ) : Type 0 where
  pub left : new ≡ without cut old
  pub fewer : length new < length old
  pub passes : answers new true

-- a cut was tried: it is needed and stays, or was taken away
abbrev pub IsTried : (List ℕ → Bool → Type 0) → List ℕ → List ℕ → List ℕ → Type 0
IsTried answers cut old new = ((new ≡ old) × IsNeeded answers old cut) ⊎ IsTaken answers cut old new

-- each of these cuts was tried once
pub record IsRound (answers : List ℕ → Bool → Type 0) (cuts : List (List ℕ)) (old new : List ℕ) : Type 0 where
  pub part : IsPart new old
  pub passes : answers old true → answers new true
  pub fewer : length new ≤ length old
  pub same : length new ≡ length old → new ≡ old
  pub least : length new ≡ length old → EachIsNeeded answers new cuts
