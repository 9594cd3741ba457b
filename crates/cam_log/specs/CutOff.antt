-- What a stop leaves of calls of a disk that it cuts off.
use Rattle.std.specs.Prelude.{ℕ, zero, suc, ◌≡◌, ◌<◌, nat_lt, if◌then◌else◌, List, [], ◌∷◌, ◌++◌, Option, Some}
use Rattle.cam_disk.specs.Disk.{Holds}

-- So many calls of a disk were needed, and fewer were left: those were done, which did this, and none is left.
pub record IsCutOff (wanted : ℕ) (before left : Option ℕ) (Did : ℕ → Type 0) : Type 0 where
  pub calls : ℕ
  pub had : before ≡ Some calls
  pub fewer : calls < wanted
  pub none : left ≡ Some 0
  pub did : Did calls

-- after so many calls of a write that is synced: the first writes the bytes
abbrev pub ForcedBy : ℕ → ℕ → List ℕ → List ℕ → List ℕ → Type 0
ForcedBy zero at bytes old new = new ≡ old
ForcedBy (suc calls) at bytes old new = Holds old at bytes new

-- What a log lists that is opened after so many calls of an append: the third opens the gate of the new entry.
abbrev pub entries_after : ℕ → List (List ℕ) → List ℕ → List (List ℕ)
entries_after calls entries entry = if nat_lt calls 3 then entries else entries ++ entry ∷ []
