-- One entry that keeps all that a node has.
use Rattle.std.specs.Prelude.{◌≡◌, ℕ, ◌+◌, ◌≤◌, nat_lt, if◌then◌else◌, List, [], ◌∷◌, ◌++◌, map, Ok}
use Rattle.cam_names.specs.Dependencies.{AreCounts}
use Rattle.cam_know.specs.declared.Outcome.{Outcome}
use Rattle.cam_know.specs.declared.Outcome.TheVariants.{Aborted, Committed}
use Rattle.cam_know.specs.Invariant.{NoTwice}
use Rattle.cam_recman.specs.declared.Record.{Record}
use Rattle.cam_recman.specs.declared.Record.TheVariants.{Count, Abort, Commit, Seen, Secure, Version}
use Rattle.cam_recman.specs.declared.Recovered.{Recovered}
use Rattle.cam_recman.specs.Records.{entry_bytes}
use Rattle.cam_recman.specs.Ranges.{AreRecords}
use Rattle.cam_recman.specs.Recovery.{recover}

-- the node's own count; the first count has no record
abbrev pub own_record : ℕ → List Record
own_record c = if nat_lt 1 c then Count c ∷ [] else []

abbrev pub outcome_record : Outcome → Record
outcome_record (Aborted a) = Abort a
outcome_record (Committed a d) = Commit a d

-- the counts of the nodes from this number on; the first count of a node has no record
abbrev pub seen_records : ℕ → List ℕ → List Record
seen_records node [] = []
seen_records node (c ∷ counts) = if nat_lt 1 c then Seen node c ∷ seen_records (node + 1) counts else seen_records (node + 1) counts

-- The records: the format's version 2, which has each operation; the own count, each outcome in the order in which they were learnt,
-- each count that was seen in order of nodes, and what each secured family holds.
abbrev pub snapshot : Recovered → List Record
snapshot r =
    Version ∷ own_record r.count ++ map outcome_record r.know.outcomes ++ seen_records 1 r.know.counts ++ map (λ held. Secure held) r.held

-- What a node can keep so: no outcome stands twice, counts are 1 at least, and each number that goes into a record is in its range.
pub record CanBeKept (r : Recovered) : Type 0 where
  pub count : 1 ≤ r.count
  pub distinct : NoTwice r.know.outcomes
  pub counts : AreCounts 1 r.know.counts
  pub range : AreRecords (snapshot r)

-- Recovery of that one entry gives all that the node has.
abbrev pub SnapshotKeepsAll : Type 0
SnapshotKeepsAll = (r : Recovered) → CanBeKept r → recover (entry_bytes (snapshot r) ∷ []) ≡ Ok r
