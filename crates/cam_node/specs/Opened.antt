-- What a node's log opens as: entries from which a restart recovers what a history keeps.
use Rattle.std.specs.Prelude.{◌≡◌, ◌⊎◌, ℕ, ◌+◌, ◌<◌, Bool, true, false, List, [], ◌∷◌, ◌++◌, length, IsTrue, Ok, Err, Option, Some}
use Rattle.cam_names.specs.Dependencies.{AreCounts}
use Rattle.cam_type.specs.declared.ObjectDecl.{ObjectDecl}
use Rattle.cam_know.specs.Knowledge.{Knowledge}
use Rattle.cam_know.specs.Known.{counts_raised, with_count}
use Rattle.cam_know.specs.Invariant.{NoTwice}
use Rattle.cam_ckpt.specs.Opening.{can_follow}
use Rattle.cam_log.specs.Moments.{Opened}
use Rattle.cam_locks.specs.Restored.{CanRestore}
use Rattle.cam_recman.specs.declared.Record.{Record}
use Rattle.cam_recman.specs.declared.Record.TheVariants as records
use Rattle.cam_recman.specs.declared.Recovered.{Recovered}
use Rattle.cam_recman.specs.Records.{entry_bytes}
use Rattle.cam_recman.specs.Recovery.{with_records, recover}
use Rattle.cam_recman.specs.Says.{Says, are_version2}
use Rattle.cam_recman.specs.Snapshot.{snapshot}
use Rattle.cam_node.specs.declared.restart.Reread.{Reread}
use Rattle.cam_node.specs.Log.{Logged}
use Rattle.cam_node.specs.Restartable.{are_low, depend_on_known, AreOnce}

abbrev pub logged_of : Recovered → Logged
logged_of r = record { count = r.count; know = r.know; held = r.held }

abbrev pub is_readable : Opened → Bool
is_readable (Ok entries) = are_version2 entries
is_readable (Err fault) = false

-- What may be read from a disk: what is recovered of what it opens as after a crash at some moment since this one.
pub record MayRead (opens_since : ℕ → Opened → Type 0) (t : ℕ) (logged : Logged) : Type 0 where
  pub entries : List (List ℕ)
  pub opens : opens_since t (Ok entries)
  pub recovered : Recovered
  pub recovers : recover entries ≡ Ok recovered
  pub is : logged ≡ logged_of recovered

-- knowledge as every value that holds it is: no outcome twice, and eight counts
pub record IsKnowledge (k : Knowledge) : Type 0 where
  pub distinct : NoTwice k.outcomes
  pub counts : AreCounts 1 k.counts

-- the entries with an entry of these records after them; an empty one is not written
abbrev pub with_entry_of : List (List ℕ) → List Record → List (List ℕ)
with_entry_of entries [] = entries
with_entry_of entries (one ∷ rest) = entries ++ entry_bytes (one ∷ rest) ∷ []

-- What a restart makes of what it reads: the count is one more, and the node knows it.
abbrev pub raised : ℕ → Recovered → Recovered
raised s r = record { count = r.count + 1; know = with_count s (r.count + 1) r.know; held = r.held }

-- What a restart puts in place of the entries: one entry of all that is kept then. Where the log's list cannot be replaced, as the number
-- of its generation is the last, the raised count goes after them.
abbrev pub kept_entries : Bool → List (List ℕ) → Recovered → List (List ℕ)
kept_entries true entries kept = entry_bytes (snapshot kept) ∷ []
kept_entries false entries kept = entries ++ entry_bytes (records.Count kept.count ∷ []) ∷ []

-- Unless the list has the last number, it is the one entry of what is kept: so a log does not grow
-- from restart to restart.
abbrev pub IsReplaced : ℕ → Recovered → List (List ℕ) → Type 0
IsReplaced generation kept entries =
    IsTrue (can_follow false generation) → entries ≡ kept_entries true [] kept

-- it lists one entry then
abbrev pub HasOneEntry : ℕ → List (List ℕ) → Type 0
HasOneEntry generation entries = IsTrue (can_follow false generation) → length entries ≡ 1

-- what they say then, where the entries said this before
abbrev pub kept_by : Bool → Recovered → Recovered → Recovered
kept_by true r kept = kept
kept_by false r kept = with_records r (records.Count kept.count ∷ [])

-- It opens with the entries that were read, or with those that a restart leaves, which say what is kept.
abbrev pub IsReadOrKept : Bool → List (List ℕ) → Recovered → Recovered → Opened → Type 0
IsReadOrKept replaced entries r kept opened =
    (opened ≡ Ok entries) ⊎ ((opened ≡ Ok (kept_entries replaced entries kept)) × Says (kept_entries replaced entries kept) (kept_by replaced r kept))

-- What a restart takes: a count that can be raised; operations of the node's own objects, each index once and at most 499,999,999; no family
-- twice; and no commit that depends on a count above the known one of its node.
abbrev pub CanRestart : List ObjectDecl → ℕ → Recovered → Type 0
CanRestart objects s r =
    (r.count < 1000000000) × CanRestore objects s r.held × (are_low r.held ≡ true) × AreOnce r.held
    × (depend_on_known s r ≡ true)

-- whatever it opens as, a restart takes
abbrev pub MayRestart : List ObjectDecl → ℕ → Opened → Type 0
MayRestart objects s opened =
    (entries : List (List ℕ)) (r : Recovered) → opened ≡ Ok entries → recover entries ≡ Ok r → CanRestart objects s r

-- A restart that read one of these, and what it left: the entries, and what is kept, with the raised count.
pub record IsRestarted (objects : List ObjectDecl) (s : ℕ) (read : List (List ℕ)) (now : List (List ℕ)) (kept : Recovered) : Type 0 where
  pub recovered : Recovered
  pub says : Says read recovered
  pub can : CanRestart objects s recovered
  pub is : kept ≡ raised s recovered
  pub replaced : Bool
  pub left : now ≡ kept_entries replaced read kept
  pub says_now : Says now (kept_by replaced recovered kept)

-- what was opened before is read, where the disk tells what it holds
pub record Restarts (objects : List ObjectDecl) (s : ℕ) (tells : Bool) (before : Opened → Type 0) (now : List (List ℕ)) (kept : Recovered) : Type 0 where
  pub read : List (List ℕ)
  pub was : tells ≡ true → before (Ok read)
  pub restarted : IsRestarted objects s read now kept

-- The same with what the restart answers: what is kept, and the counts that were known by what it read.
pub record Rereads (objects : List ObjectDecl) (s : ℕ) (tells : Bool) (before : Opened → Type 0) (now : List (List ℕ)) (reread : Reread) : Type 0 where
  pub restarts : Restarts objects s tells before now reread.kept
  pub counts : reread.counts ≡ counts_raised restarts.restarted.recovered.know.counts s restarts.restarted.recovered.count

-- It opens as a restart leaves it that read one of these, of a list with this number: with the one
-- entry in place of that list, or, if the number is the last, with the raised count after it.
pub record OpensRestarted (objects : List ObjectDecl) (s : ℕ) (number : Option ℕ)
    (before : Opened → Type 0) (opened : Opened) : Type 0 where
  pub now : List (List ℕ)
  pub opens : opened ≡ Ok now
  pub kept : Recovered
  pub restarts : Restarts objects s true before now kept
  pub generation : ℕ
  pub numbered : number ≡ Some generation
  pub replaced : restarts.restarted.replaced ≡ can_follow false generation
