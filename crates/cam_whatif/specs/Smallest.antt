-- The smallest text, by taking lines away, whose report has a line.
use Rattle.std.specs.Prelude.{◌≡◌, ℕ, Bool, false, true, List, length}
use Rattle.cam_shrink.specs.Cuts.{alone, places_below, IsPart}
use Rattle.cam_shrink.specs.Least.{EachIsNeeded}
use Rattle.cam_whatif.specs.Reports.{shows}
use Rattle.cam_whatif.specs.Texts.{text_at}

-- whether the report of the lines at these places has the line
abbrev pub Shows : List ℕ → List (List ℕ) → List ℕ → Bool → Type 0
Shows line lines places passed = passed ≡ shows line (text_at lines places)

-- It is a part of the lines, in order, its report has the line, and that of none of it without one
-- further line has it.
pub record IsSmallest (line : List ℕ) (lines : List (List ℕ)) (text : List ℕ) : Type 0 where
  pub kept : List ℕ
  pub part : IsPart kept (places_below (length lines))
  pub is : text ≡ text_at lines kept
  pub has : true ≡ shows line text
  pub needed : EachIsNeeded (Shows line lines) kept (alone (length lines))

-- the report of all lines does not have the line
abbrev pub IsMissing : List ℕ → List (List ℕ) → Type 0
IsMissing line lines = Shows line lines (places_below (length lines)) false
