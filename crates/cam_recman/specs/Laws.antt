-- What holds of writing, reading and recovering records.
use Rattle.std.specs.Prelude.{◌≡◌, ◌⊎◌, ℕ, Bool, false, List, [], ◌∷◌, ◌++◌, length, map, flat_map, Result, Ok, Err, max, eqb, if◌then◌else◌}
use Rattle.std.specs.List.{AllByRecursion, list_any}
use Rattle.cam_log.specs.Moments.{Opened, IsBeforeOrAfter}
use Rattle.cam_type.specs.declared.Held.{Held}
use Rattle.cam_know.specs.declared.Outcome.{Outcome}
use Rattle.cam_know.specs.declared.Outcome.TheVariants.{Aborted, Committed}
use Rattle.cam_know.specs.Known.{knows, known_count, outcome_eq}
use Rattle.cam_bytes.specs.Ranges.{IsBytes, IsFrom}
use Rattle.cam_bytes.specs.Reading.{◌>>=◌}
use Rattle.cam_recman.specs.declared.Record.{Record}
use Rattle.cam_recman.specs.declared.Record.TheVariants.{Count, Abort, Commit, Seen, Secure, Version}
use Rattle.cam_recman.specs.declared.Recovered.{Recovered}
use Rattle.cam_recman.specs.declared.RecFault.{RecFault}
use Rattle.cam_recman.specs.declared.RecFault.TheVariants.{BadRecord}
use Rattle.cam_recman.specs.Records.{entry_bytes}
use Rattle.cam_recman.specs.Ranges.{AreRecords}
use Rattle.cam_recman.specs.Reading.{read_entry}
use Rattle.cam_recman.specs.Versions.{AreOf}
use Rattle.cam_recman.specs.declared.recovering.SoFar.{SoFar}
use Rattle.cam_recman.specs.Recovery.{fresh, with_records, with_entry, said_by, all_records, recover}
use Rattle.cam_recman.specs.Faults.{IsFirstBad}

-- An entry that was written is read again where the format has the version of its records.
abbrev pub EntriesAreRead : Type 0
EntriesAreRead =
    (version number : ℕ) (records : List Record) → AreRecords records → AreOf version records
    → read_entry version number (entry_bytes records) ≡ Ok records

-- What is recovered is what all records together say, in their order, where Version stands at most once and before every Add.
abbrev pub RecoveryIsOfTheRecords : Type 0
RecoveryIsOfTheRecords =
    (entries : List (List Record)) → AllByRecursion AreRecords entries → AreOf 1 (all_records entries)
    → recover (map entry_bytes entries) ≡ Ok (with_records fresh (all_records entries))

-- An outcome is recovered exactly if a record says it.
abbrev pub says : Outcome → Record → Bool
says o (Count c) = false
says o (Abort a) = outcome_eq o (Aborted a)
says o (Commit a d) = outcome_eq o (Committed a d)
says o (Seen s c) = false
says o (Secure held) = false
says o Version = false

abbrev pub OutcomesAreThoseSaid : Type 0
OutcomesAreThoseSaid = (records : List Record) (o : Outcome) → knows (with_records fresh records).know o ≡ list_any (says o) records

-- What is held is what the records secure, in their order.
abbrev pub secured : Record → List Held
secured (Secure held) = held ∷ []
secured _ = []

abbrev pub HeldIsWhatWasSecured : Type 0
HeldIsWhatWasSecured = (records : List Record) → (with_records fresh records).held ≡ flat_map secured records

-- The count of a node is the greatest that a record has seen, or 1.
abbrev pub seen_by : ℕ → Record → ℕ
seen_by node (Seen s c) = if eqb s node then c else 0
seen_by node _ = 0

abbrev pub greatest_seen : ℕ → List Record → ℕ
greatest_seen node [] = 0
greatest_seen node (one ∷ records) = max (seen_by node one) (greatest_seen node records)

abbrev pub CountsAreTheGreatest : Type 0
CountsAreTheGreatest =
    (records : List Record) (node : ℕ) → AreRecords records → IsFrom 1 8 node
    → known_count (with_records fresh records).know node ≡ max 1 (greatest_seen node records)

-- The node's own count is that of the last Count, or 1.
abbrev pub own_counts : Record → List ℕ
own_counts (Count c) = c ∷ []
own_counts _ = []

abbrev pub last_of : ℕ → List ℕ → ℕ
last_of c [] = c
last_of c (d ∷ counts) = last_of d counts

abbrev pub CountIsTheLast : Type 0
CountIsTheLast = (records : List Record) → (with_records fresh records).count ≡ last_of 1 (flat_map own_counts records)

-- What is read as records is their bytes.
abbrev pub ReadIsWritten : Type 0
ReadIsWritten =
    (version number : ℕ) (bytes : List ℕ) (records : List Record) → IsBytes bytes → read_entry version number bytes ≡ Ok records
    → (entry_bytes records ≡ bytes) × (AreRecords records × AreOf version records)

-- One more entry adds what its records say to what was said without it; a fault of the entries before comes first.
abbrev pub OneMoreEntryAdds : Type 0
OneMoreEntryAdds =
    (entries : List (List ℕ)) (entry : List ℕ)
    → said_by (entries ++ entry ∷ [])
    ≡ (said_by entries >>= (λ s. read_entry s.version (length entries) entry >>= (λ records. Ok (with_entry s records))))

-- what was recovered, and what the records add to it
abbrev pub adding : Result Recovered RecFault → List Record → Result Recovered RecFault
adding before records = before >>= (λ r. Ok (with_records r records))

-- the records may stand after the entries
abbrev pub MayFollow : List (List ℕ) → List Record → Type 0
MayFollow entries records = (s : SoFar) → said_by entries ≡ Ok s → AreOf s.version records

abbrev pub WrittenEntryAdds : Type 0
WrittenEntryAdds =
    (entries : List (List ℕ)) (records : List Record) → AreRecords records → MayFollow entries records
    → recover (entries ++ entry_bytes records ∷ []) ≡ adding (recover entries) records

-- Where a log opens as it was or with one entry more, as one does that was stopped while the entry was appended, it recovers what it would
-- without the entry or with it, and nothing between.
pub record IsRecoveredBeforeOrAfter (entries : List (List ℕ)) (records : List Record) (opened : Opened) : Type 0 where
  pub found : List (List ℕ)
  pub opens : opened ≡ Ok found
  pub recovers : (recover found ≡ recover entries) ⊎ (recover found ≡ adding (recover entries) records)

abbrev pub StoppedAppendRecovers : Type 0
StoppedAppendRecovers =
    (entries : List (List ℕ)) (records : List Record) (opened : Opened) → AreRecords records → MayFollow entries records
    → IsBeforeOrAfter entries (entry_bytes records) opened → IsRecoveredBeforeOrAfter entries records opened

-- A fault is that of the first entry that is no list of records, and comes wherever there is one.
abbrev pub FaultIsTheFirst : Type 0
FaultIsTheFirst =
    (entries : List (List ℕ)) (entry at : ℕ) → AllByRecursion IsBytes entries
    → recover entries ≡ Err (BadRecord entry at) → IsFirstBad entries entry at

abbrev pub FirstIsTheFault : Type 0
FirstIsTheFault = (entries : List (List ℕ)) (entry at : ℕ) → IsFirstBad entries entry at → recover entries ≡ Err (BadRecord entry at)
