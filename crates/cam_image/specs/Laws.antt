-- What holds of images that are shown and of images that were upgraded.
use Rattle.std.specs.Prelude.{◌≡◌, ◌↔◌, ◌≤◌, ℕ, List, length, Ok, Err}
use Rattle.cam_log.specs.Laws.{IsBytes}
use Rattle.cam_recman.specs.declared.RecFault.{RecFault}
use Rattle.cam_recman.specs.Inspect.{inspect_text}
use Rattle.cam_recman.specs.Recovery.{recover}
use Rattle.cam_recman.specs.Migrating.{IsUpgraded, ReadsAndRecovers}
use Rattle.cam_image.specs.Images.{most_bytes, upgraded}

-- Entries are refused by `inspect` exactly if they cannot be recovered, with the same fault.
abbrev pub ShownIsRecovered : Type 0
ShownIsRecovered =
    (entries : List (List ℕ)) (fault : RecFault) → (inspect_text entries ≡ Err fault)
    ↔ (recover entries ≡ Err fault)

-- What is written is the migrated log, up to its closed gate; and read as a log it gives the
-- migrated entries, of which exactly that is recovered which was recovered of the image that was read.
pub record IsUpgrade (image output : List ℕ) : Type 0 where
  pub migrated : IsUpgraded image output
  pub recovers : ReadsAndRecovers migrated.entries migrated.left output

abbrev pub UpgradeIsMigration : Type 0
UpgradeIsMigration = (image output : List ℕ) → IsBytes image → upgraded image ≡ Ok output
    → IsUpgrade image output

-- Upgraded again, it is left as it is, unless it is then too long.
abbrev pub UpgradeIsOnce : Type 0
UpgradeIsOnce =
    (image output : List ℕ) → IsBytes image → length output ≤ most_bytes
    → upgraded image ≡ Ok output → upgraded output ≡ Ok output
