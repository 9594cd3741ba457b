-- The bytes that the calls of a log with checkpoints write.
use Rattle.std.specs.Prelude.{ℕ, ◌+◌, List, [], ◌∷◌}
use Rattle.cam_disk.specs.Disk.{Holds}

-- An append: after the closed gate at this place the entry and a closed gate, and then that gate open.
abbrev pub IsAppended : ℕ → List ℕ → List ℕ → List ℕ → Type 0
IsAppended gate behind old new =
    (mid : List ℕ) × Holds old (gate + 1) behind mid × Holds mid gate (1 ∷ []) new

-- A replacement: the other slot's gate closed, if it is open; the new segment; what the other slot has after its gate; and that gate open.
pub record IsReplaced (other : ℕ) (closing : List ℕ) (at : ℕ) (text nums old new : List ℕ) : Type 0
  where
    pub shut : List ℕ
    pub put : List ℕ
    pub numbered : List ℕ
    pub closes : Holds old other closing shut
    pub puts : Holds shut at text put
    pub numbers : Holds put (other + 1) nums numbered
    pub opens : Holds numbered other (1 ∷ []) new
