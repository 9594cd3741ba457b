-- What is left where no further line can go is the smallest text.
use Rattle.std.proofs.Common.{◌≡◌, ◌∙◌, ℕ, true, false, List, ap, length, subst, sym}
use Rattle.cam_shrink.specs.Cuts.{alone, places_below, IsPart}
use Rattle.cam_shrink.specs.Least.{EachIsNeeded}
use Rattle.cam_whatif.specs.Reports.{shows}
use Rattle.cam_whatif.specs.Smallest.{IsMissing, IsSmallest, Shows}
use Rattle.cam_whatif.specs.Texts.{text_at}

pub smallest_of : (line : List ℕ) (lines : List (List ℕ)) (many : ℕ) (kept text : List ℕ) → many ≡ length lines
    → IsPart kept (places_below many) → true ≡ shows line (text_at lines kept)
    → EachIsNeeded (Shows line lines) kept (alone many)
    → text ≡ text_at lines kept → IsSmallest line lines text
smallest_of line lines many kept text as_many part has needed is = record {
  kept = kept;
  part = subst (λ (n : ℕ). IsPart kept (places_below n)) as_many part;
  is = is;
  has = has ∙ sym (ap (shows line) is);
  needed = subst (λ (n : ℕ). EachIsNeeded (Shows line lines) kept (alone n)) as_many needed;
}

pub missing_of : (line : List ℕ) (lines : List (List ℕ)) (many : ℕ) → many ≡ length lines
    → false ≡ shows line (text_at lines (places_below many)) → IsMissing line lines
missing_of line lines many as_many none =
    subst (λ (n : ℕ). Shows line lines (places_below n) false) as_many none
