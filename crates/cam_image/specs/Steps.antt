-- What a fault says of an image, and the version after entries.
use Rattle.std.specs.Prelude.{◌≡◌, ℕ, ◌+◌, List, [], ◌∷◌, Result, Ok, Err}
use Rattle.cam_bytes.specs.Reading.{◌>>=◌}
use Rattle.cam_recman.specs.declared.RecFault.{RecFault}
use Rattle.cam_recman.specs.Versions.{version_behind}
use Rattle.cam_recman.specs.Reading.{read_entry}
use Rattle.cam_image.specs.declared.fault.ImageFault.{ImageFault}
use Rattle.cam_image.specs.declared.fault.ImageFault.TheVariants.{NotALog, BadRecord, NoMemory}

-- out of memory says nothing
abbrev pub Refuses : {A : Type 0} → ImageFault → Result A ImageFault → Type 0
Refuses (NotALog at) reading = reading ≡ Err (NotALog at)
Refuses (BadRecord entry at) reading = reading ≡ Err (BadRecord entry at)
Refuses NoMemory reading = Unit {0}

-- the version after the entries from this number on, before which it is this one, or the first
-- fault
unfoldable pub version_from : ℕ → ℕ → List (List ℕ) → Result ℕ RecFault
version_from number version [] = Ok version
version_from number version (entry ∷ entries) = do
  records ← read_entry version number entry
  version_from (number + 1) (version_behind version records) entries
