-- What the index has of an action: all that the outcomes say of it.
use Rattle.std.specs.Prelude.{◌≡◌, ℕ, ◌≤◌, true, false, List, length, flat_map, replicate}
use Rattle.std.specs.List.{list_any}
use Rattle.std.specs.Option.{unwrap_or}
use Rattle.std.specs.HashMap.{get, spare}
use Rattle.cam_names.specs.declared.name.Name.{Name}
use Rattle.cam_names.specs.Names.{name_eq}
use Rattle.cam_names.specs.Dependencies.{pairs_of}
use Rattle.cam_know.specs.declared.Outcome.{Outcome}
use Rattle.cam_know.specs.declared.index.Entry.{Entry}
use Rattle.cam_know.specs.declared.index.Index.{Index}
use Rattle.cam_know.specs.Known.{is_abort_of, is_commit_of}
use Rattle.cam_know.specs.Orphans.{commit_pairs}
use Rattle.cam_know.specs.LeastCounts.{least_counts, lesser_counts}

-- nothing is known of the action
abbrev pub blank : Entry
blank = record { aborted = false; committed = false; oldest = replicate 8 0 }

-- the action committed
abbrev pub with_commit : Entry → Entry
with_commit e = record { aborted = e.aborted; committed = true; oldest = e.oldest }

abbrev pub with_abort : Entry → Entry
with_abort e = record { aborted = true; committed = e.committed; oldest = e.oldest }

-- a child of the action committed
abbrev pub with_child : List ℕ → Entry → Entry
with_child d e =
    record {
      aborted = e.aborted;
      committed = e.committed;
      oldest = lesser_counts e.oldest (least_counts (pairs_of d));
    }

-- the entry that the index has
abbrev pub entry_at : Index → Name → Entry
entry_at m a = unwrap_or (get name_eq m.entries a) blank

-- how many more entries it can take without memory
abbrev pub index_room : Index → ℕ
index_room m = spare m.entries

-- both say the same
abbrev pub SaysSame : Index → Index → Type 0
SaysSame m n = (a : Name) → entry_at n a ≡ entry_at m a

-- The index says what the outcomes say: of each action whether it aborted and whether it committed, and the least counts of the
-- commits of its children.
pub record IsIndexOf (os : List Outcome) (m : Index) : Type 0 where
  pub aborted : (a : Name) → (entry_at m a).aborted ≡ list_any (is_abort_of a) os
  pub committed : (a : Name) → (entry_at m a).committed ≡ list_any (is_commit_of a) os
  pub oldest : (a : Name) → 1 ≤ length a
      → (entry_at m a).oldest ≡ least_counts (flat_map (commit_pairs a) os)
