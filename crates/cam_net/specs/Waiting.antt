-- Letters that wait: which is handed out next, and where the first stands that waits for a node.
use Rattle.std.specs.Prelude.{◌≡◌, ◌≤◌, ◌<◌, ℕ, suc, ◌+◌, ◌-◌, eqb, Bool, false, not, ◌&&◌, ◌||◌, if◌then◌else◌, List, [], ◌∷◌, length, Option, Some, None, slice_get, slice_index}
use Rattle.std.specs.List.{AllByRecursion, position_or_len}
use Rattle.std.specs.Option.{unwrap_or}
use Rattle.cam_net.specs.Letters.{InFlightFields}

-- a letter waits while it is neither lost nor delivered
abbrev pub is_waiting : InFlightFields → Bool
is_waiting letter = not (letter.lost || letter.delivered)

-- whether a node is halted; a node after the end of the list is not
abbrev pub is_halted : List Bool → ℕ → Bool
is_halted halted node = unwrap_or (slice_get halted (node - 1)) false

-- whether a letter waits for a node that is not halted
abbrev pub may_go : List Bool → InFlightFields → Bool
may_go halted letter = is_waiting letter && not (is_halted halted letter.receiver)

-- the least number of a letter that is neither lost nor delivered nor for a halted node, where the first letter has this number
abbrev pub next_from : List Bool → ℕ → List InFlightFields → Option ℕ
next_from halted number [] = None
next_from halted number (letter ∷ letters) =
    if may_go halted letter then Some number else next_from halted (number + 1) letters

abbrev pub next_of : List Bool → List InFlightFields → Option ℕ
next_of halted letters = next_from halted 1 letters

-- whether a letter waits for this node
abbrev pub waits_for : ℕ → InFlightFields → Bool
waits_for node letter = eqb letter.receiver node && is_waiting letter

-- the place of the first letter that waits for a node, or how many letters there are
abbrev pub first_for : ℕ → List InFlightFields → ℕ
first_for node letters = position_or_len (waits_for node) letters

-- of each node at most that place, and exactly that place
abbrev pub NoneAfterFirst : List ℕ → List InFlightFields → Type 0
NoneAfterFirst places letters = (place : ℕ) → place < 8 → slice_index places place ≤ first_for (suc place) letters

abbrev pub AreFirst : List ℕ → List InFlightFields → Type 0
AreFirst places letters = (place : ℕ) → place < 8 → slice_index places place ≡ first_for (suc place) letters

abbrev pub HasReceiver : InFlightFields → Type 0
HasReceiver letter = (1 ≤ letter.receiver) × (letter.receiver ≤ 8)

-- Each letter is for a node, none has a number beyond four bytes, and of each node the first that waits for it is known.
pub record IsNet (letters : List InFlightFields) (places : List ℕ) : Type 0 where
  pub receivers : AllByRecursion HasReceiver letters
  pub few : length letters ≤ 4294967295
  pub first : AreFirst places letters
