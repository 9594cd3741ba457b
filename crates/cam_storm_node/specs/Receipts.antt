-- What is kept of the letters that a node received: how often each came.
use Rattle.std.specs.Prelude.{◌≡◌, ℕ, List, unwrap_or}
use Rattle.std.specs.Ordering.{nat_cmp, ordering_then}
use Rattle.std.specs.declared.cmp.Ordering.{Ordering}
use Rattle.std.specs.BTreeMap.{get}
use Rattle.cam_event.specs.declared.Event.{Event}
use Rattle.cam_event.specs.declared.LetterId.{LetterId}
use Rattle.cam_storm.specs.Runs.{received}
use Rattle.cam_storm_node.specs.declared.receipts.Receipts.{Receipts}

-- the order of letters by event and place
abbrev pub letter_cmp : ℕ × ℕ → ℕ × ℕ → Ordering
letter_cmp x y = ordering_then (nat_cmp x.0 y.0) (nat_cmp x.1 y.1)

-- how often a letter came, as the table has it
abbrev pub times_in : Receipts → ℕ → ℕ → ℕ
times_in receipts number place = unwrap_or (get letter_cmp receipts.times (number, place)) 0

-- the receipts of these events
abbrev pub AreReceipts : List Event → Receipts → Type 0
AreReceipts t receipts =
    (letter : LetterId) → times_in receipts letter.event letter.place ≡ received t letter
