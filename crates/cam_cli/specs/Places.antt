-- Where the disks are, by the words. A word `files` at the end is taken off, whatever stands before it.
use Rattle.std.specs.Prelude.{◌≡◌, ℕ, ◌-◌, Bool, false, if◌then◌else◌, List, bytes_eq, codes, length, slice_get, take}
use Rattle.std.specs.Option.{option_map_or}
use Rattle.cam_run.specs.Commands.{UsesDisks}
use Rattle.cam_cli.specs.declared.Place.{Place}
use Rattle.cam_cli.specs.declared.Place.TheVariants.{Memory}

-- whether the last word is `files`
abbrev pub asks_for_files : List (List ℕ) → Bool
asks_for_files words =
    option_map_or (λ word. bytes_eq word (codes "files")) (slice_get words (length words - 1)) false

-- the words but for such a last one
abbrev pub without_files : List (List ℕ) → List (List ℕ)
without_files words = if asks_for_files words then take (length words - 1) words else words

-- The disks are in memory unless files are asked for, and the words before that go over disks.
pub record IsPlaceFor (words : List (List ℕ)) (place : Place) : Type 0 where
  pub unasked : asks_for_files words ≡ false → place ≡ Memory
  pub idle : (UsesDisks (without_files words) → ⊥) → place ≡ Memory
