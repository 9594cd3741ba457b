-- A log that is brought to version 2. Where no entry has a Version, an entry of a Version alone comes after the others; it says nothing
-- that is recovered.
use Rattle.std.specs.Prelude.{◌≡◌, ℕ, ◌==◌, List, [], ◌∷◌, ◌++◌, map, flat_map, Result, Ok, Err, if◌then◌else◌}
use Rattle.std.specs.List.{AllByRecursion}
use Rattle.cam_log.specs.Image.{header, gated}
use Rattle.cam_log.specs.Reading.{read_log}
use Rattle.cam_log.specs.Laws.{AreEntries}
use Rattle.cam_log.specs.Moments.{Opened, IsBeforeOrAfter}
use Rattle.cam_bytes.specs.Reading.{◌>>=◌}
use Rattle.cam_recman.specs.declared.Record.{Record}
use Rattle.cam_recman.specs.declared.Record.TheVariants.{Version}
use Rattle.cam_recman.specs.declared.RecFault.{RecFault}
use Rattle.cam_recman.specs.declared.RecFault.TheVariants.{BadRecord as BadEntry, NoMemory as OutOfMemory}
use Rattle.cam_recman.specs.declared.Migrated.{Migrated}
use Rattle.cam_recman.specs.declared.Migrated.TheVariants.{Done, Already}
use Rattle.cam_recman.specs.declared.MigrateFault.{MigrateFault}
use Rattle.cam_recman.specs.declared.MigrateFault.TheVariants.{BadRecord, NoMemory}
use Rattle.cam_recman.specs.declared.recovering.SoFar.{SoFar}
use Rattle.cam_recman.specs.Records.{entry_bytes}
use Rattle.cam_recman.specs.Ranges.{AreRecords}
use Rattle.cam_recman.specs.Versions.{version_behind, AreOf}
use Rattle.cam_recman.specs.Recovery.{all_records, said_by, recover}

-- the entry of a Version alone
abbrev pub version_entry : List ℕ
version_entry = entry_bytes (Version ∷ [])

-- what is left of entries after which the format has this version
abbrev pub with_version : ℕ → List (List ℕ) → List (List ℕ)
with_version version entries = if version == 1 then entries ++ version_entry ∷ [] else entries

abbrev pub migrated : List (List ℕ) → Result (List (List ℕ)) RecFault
migrated entries = said_by entries >>= (λ s. Ok (with_version s.version entries))

-- which of the two a migration was
abbrev pub outcome_of : ℕ → Migrated
outcome_of version = if version == 1 then Done else Already

-- The entries were migrated: they had this version after them.
pub record IsMigrated (old : List (List ℕ)) (which : Migrated) (new : List (List ℕ)) : Type 0 where
  pub said : SoFar
  pub is : said_by old ≡ Ok said
  pub was : which ≡ outcome_of said.version
  pub left : new ≡ with_version said.version old

-- why entries are not migrated
abbrev pub fault_of : RecFault → MigrateFault
fault_of (BadEntry entry at) = BadRecord entry at
fault_of OutOfMemory = NoMemory

-- What migration leaves recovers what was recovered before, and has the same fault.
abbrev pub MigrationKeepsRecovery : Type 0
MigrationKeepsRecovery = (entries left : List (List ℕ)) → migrated entries ≡ Ok left → recover left ≡ recover entries

abbrev pub MigrationHasTheFault : Type 0
MigrationHasTheFault = (entries : List (List ℕ)) (fault : RecFault) → recover entries ≡ Err fault → migrated entries ≡ Err fault

-- After it the format has version 2, and once is enough.
abbrev pub MigratedIsVersion2 : Type 0
MigratedIsVersion2 = (entries left : List (List ℕ)) (s : SoFar) → migrated entries ≡ Ok left → said_by left ≡ Ok s → s.version ≡ 2

abbrev pub MigrationIsOnce : Type 0
MigrationIsOnce = (entries left : List (List ℕ)) → migrated entries ≡ Ok left → migrated left ≡ Ok left

-- Of entries that were written, those with a Version are left as they are, and the others get theirs.
abbrev pub WrittenIsMigrated : Type 0
WrittenIsMigrated =
    (all : List (List Record)) → AllByRecursion AreRecords all → AreOf 1 (all_records all)
    → migrated (map entry_bytes all) ≡ Ok (with_version (version_behind 1 (all_records all)) (map entry_bytes all))

-- A log that was stopped while it was migrated opens with the entries before or with that one besides, and recovers the same.
pub record RecoversTheSame (entries : List (List ℕ)) (opened : Opened) : Type 0 where
  pub found : List (List ℕ)
  pub opens : opened ≡ Ok found
  pub recovers : recover found ≡ recover entries

abbrev pub StoppedMigrationRecovers : Type 0
StoppedMigrationRecovers =
    (entries : List (List ℕ)) (s : SoFar) (opened : Opened) → said_by entries ≡ Ok s → s.version ≡ 1
    → IsBeforeOrAfter entries version_entry opened → RecoversTheSame entries opened

-- The image of a log, and what an upgrade writes of it: the migrated log, which ends with its closed gate.
pub record IsUpgraded (input output : List ℕ) : Type 0 where
  pub entries : List (List ℕ)
  pub left : List (List ℕ)
  pub gate : ℕ
  pub read : read_log input ≡ Ok entries
  pub migrates : migrated entries ≡ Ok left
  pub is_closed : gate ≡ 1 → ⊥
  pub is : output ≡ header ++ flat_map gated left ++ gate ∷ []

-- Read as a log, an image gives exactly these entries, and what is recovered of them is what is recovered of others.
pub record ReadsAndRecovers (others entries : List (List ℕ)) (image : List ℕ) : Type 0 where
  pub reads : read_log image ≡ Ok entries
  pub recovers : recover entries ≡ recover others

-- What an upgrade wrote is read as the migrated entries, and recovers what the image that was read does.
abbrev pub UpgradeKeepsRecovery : Type 0
UpgradeKeepsRecovery =
    (input output : List ℕ) (up : IsUpgraded input output) → AreEntries up.entries → ReadsAndRecovers up.entries up.left output
