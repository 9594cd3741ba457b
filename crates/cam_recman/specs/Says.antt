-- Entries of a log that was brought to version 2, or began with it, and what they say.
use Rattle.std.specs.Prelude.{◌≡◌, ℕ, eqb, Bool, true, false, List, [], ◌∷◌, ◌++◌, Result, Ok, Err}
use Rattle.cam_recman.specs.declared.Record.{Record}
use Rattle.cam_recman.specs.declared.Recovered.{Recovered}
use Rattle.cam_recman.specs.declared.recovering.SoFar.{SoFar}
use Rattle.cam_recman.specs.declared.RecFault.{RecFault}
use Rattle.cam_recman.specs.declared.Migrated.{Migrated}
use Rattle.cam_recman.specs.declared.Migrated.TheVariants.{Already}
use Rattle.cam_recman.specs.Records.{entry_bytes}
use Rattle.cam_recman.specs.Ranges.{AreRecords}
use Rattle.cam_recman.specs.Versions.{AreOf}
use Rattle.cam_recman.specs.Recovery.{fresh, with_records, said_by, recover}
use Rattle.cam_recman.specs.Migrating.{version_entry, IsMigrated}
use Rattle.cam_recman.specs.Snapshot.{snapshot, CanBeKept}

-- The entries say this, and after them the format has version 2.
abbrev pub Says : List (List ℕ) → Recovered → Type 0
Says entries r = said_by entries ≡ Ok (record { version = 2; recovered = r })

-- the same as a test, whatever they say
abbrev pub is_version2 : Result SoFar RecFault → Bool
is_version2 (Ok s) = eqb s.version 2
is_version2 (Err fault) = false

abbrev pub are_version2 : List (List ℕ) → Bool
are_version2 entries = is_version2 (said_by entries)

-- The Version alone says nothing;
abbrev pub FirstSays : Type 0
FirstSays = Says (version_entry ∷ []) fresh

-- one more entry adds what its records say;
abbrev pub EntrySays : Type 0
EntrySays =
    (entries : List (List ℕ)) (r : Recovered) (added : List Record) → AreRecords added → AreOf 2 added → Says entries r
    → Says (entries ++ entry_bytes added ∷ []) (with_records r added)

-- and the entry of all that is kept says it alone.
abbrev pub SnapshotSays : Type 0
SnapshotSays = (r : Recovered) → CanBeKept r → Says (entry_bytes (snapshot r) ∷ []) r

-- What is recovered after a migration is said; it leaves entries of version 2 as they are, and these can be recovered.
abbrev pub MigratedSays : Type 0
MigratedSays = (old new : List (List ℕ)) (which : Migrated) (r : Recovered) → IsMigrated old which new → recover new ≡ Ok r → Says new r

abbrev pub Version2IsLeft : Type 0
Version2IsLeft = (old new : List (List ℕ)) (which : Migrated) → are_version2 old ≡ true → IsMigrated old which new → which ≡ Already

abbrev pub Version2IsRecovered : Type 0
Version2IsRecovered = (entries : List (List ℕ)) (fault : RecFault) → are_version2 entries ≡ true → recover entries ≡ Err fault → ⊥

-- What is recovered of entries of version 2 is said by them,
abbrev pub Version2Says : Type 0
Version2Says = (entries : List (List ℕ)) (r : Recovered) → are_version2 entries ≡ true → recover entries ≡ Ok r → Says entries r

-- and what is said is recovered, of such entries.
abbrev pub SaidIsRecovered : Type 0
SaidIsRecovered = (entries : List (List ℕ)) (r : Recovered) → Says entries r → (recover entries ≡ Ok r) × (are_version2 entries ≡ true)
