-- The live operations as they are kept.
use Rattle.std.specs.Prelude.{◌≡◌, ℕ, ◌≤◌, ◌<◌, eqb, Bool, false, not, ◌&&◌, slice_get, List, length, map, filter, get_or}
use Rattle.std.specs.Option.{option_map_or}
use Rattle.std.specs.BTreeSet.{BTreeSet, contains}
use Rattle.cam_locks.specs.declared.LiveOp.{LiveOp}
use Rattle.cam_locks.specs.declared.live.Slot.{Slot}
use Rattle.cam_locks.specs.declared.placed.Placed.{Placed}
use Rattle.cam_locks.specs.Site.{IndicesRise}
use Rattle.cam_locks.specs.Placed.{placed_cmp, has_placed}

-- the operations in order, and the next index
pub record LiveView : Type 0 where
  pub ops : List LiveOp
  pub next : ℕ

-- the operations of all slots, and of those that are not dropped
abbrev pub all_of : List Slot → List LiveOp
all_of slots = map (λ s. s.operation) slots

abbrev pub live_of : List Slot → List LiveOp
live_of slots = map (λ s. s.operation) (filter (λ s. not s.is_dropped) slots)

-- the indices of all slots rise
abbrev pub AreInOrder : List Slot → Type 0
AreInOrder slots = (next : ℕ) × IndicesRise 0 (all_of slots) next

-- The set has exactly the operations that are not dropped.
pub record IsLive (slots : List Slot) (by_name : BTreeSet Placed) (next : ℕ) : Type 0 where
  pub rising : IndicesRise 0 (all_of slots) next
  pub bound : next ≤ 1000000000
  pub named : (p : Placed) → contains placed_cmp by_name p ≡ has_placed (live_of slots) p

-- the first place whose index is not less
pub record IsPlaceOf (slots : List Slot) (index place : ℕ) : Type 0 where
  pub within : place ≤ length slots
  pub before : (k : ℕ) (s : Slot) → k < place → (get_or slots k s).operation.index < index
  pub behind : (k : ℕ) (s : Slot) → place ≤ k → k < length slots
      → index ≤ (get_or slots k s).operation.index

-- whether the slot at the place has the index and is not dropped
abbrev pub is_live_at : List Slot → ℕ → ℕ → Bool
is_live_at slots place i =
    option_map_or (λ s. eqb s.operation.index i && not s.is_dropped) (slice_get slots place) false

-- all but the operation with the index
abbrev pub other : ℕ → LiveOp → Bool
other i o = not (eqb i o.index)
