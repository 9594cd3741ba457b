-- The disks of a storm: how often they had failed before it, and what they open as when they are
-- taken out of its nodes.
use Rattle.std.specs.Prelude.{◌≡◌, ◌≤◌, ℕ, ◌+◌, ◌-◌, false, List, [], ◌∷◌, Ok, slice_get}
use Rattle.std.specs.Option.{option_map_or}
use Rattle.cam_ckpt.specs.Reading.{read_ckpt}
use Rattle.cam_storm_node.specs.Playing.{StormNodeFields, is_over}

-- how often the disk of the node of this number, from 1, has failed; 0 if there is none
abbrev pub count_at : {D : Type 0} → (D → ℕ) → List D → ℕ → ℕ
count_at faults_of disks s = option_map_or faults_of (slice_get disks (s - 1)) 0

-- Each disk has failed just so often, the first for the node of this number.
abbrev pub HaveFailed : {D : Type 0} → (D → ℕ) → (ℕ → ℕ) → ℕ → List D → Type 0
HaveFailed faults_of failures s [] = Unit {0}
HaveFailed faults_of failures s (disk ∷ disks) =
    (failures s ≡ faults_of disk) × HaveFailed faults_of failures (s + 1) disks

-- None has failed less often.
abbrev pub HaveFailedSince : {D : Type 0} → (D → ℕ) → (ℕ → ℕ) → ℕ → List D → Type 0
HaveFailedSince faults_of failures s [] = Unit {0}
HaveFailedSince faults_of failures s (disk ∷ disks) =
    (failures s ≤ faults_of disk) × HaveFailedSince faults_of failures (s + 1) disks

-- The cores in order, the first for the node of this number: nothing has happened to them.
abbrev pub AreNew : {N : Type 0} → (N → ℕ → Type 0) → ℕ → List N → Type 0
AreNew is_new s [] = Unit {0}
AreNew is_new s (core ∷ cores) = is_new core s × AreNew is_new (s + 1) cores

-- A disk that was taken out of a node: it has failed as often as the node knew; and if the node is
-- not over, whatever a crash now leaves of it opens as the entries of the node's log.
pub record IsOut {D : Type 0} (faults_of : D → ℕ) (moment : D → ℕ)
    (left_since : D → ℕ → List ℕ → Type 0) (node : StormNodeFields) (disk : D) : Type 0 where
  pub faults : faults_of disk ≡ node.faults
  pub rest :
      is_over node ≡ false → (image : List ℕ) → left_since disk (moment disk) image
      → read_ckpt image ≡ Ok node.entries

-- the disks of all nodes, in order
abbrev pub AreOut : {N D : Type 0} → (N → StormNodeFields) → (D → ℕ) → (D → ℕ)
    → (D → ℕ → List ℕ → Type 0) → List N → List D → Type 0
AreOut fields faults_of moment left_since [] [] = Unit {0}
AreOut fields faults_of moment left_since [] (disk ∷ disks) = ⊥
AreOut fields faults_of moment left_since (node ∷ nodes) [] = ⊥
AreOut fields faults_of moment left_since (node ∷ nodes) (disk ∷ disks) =
    IsOut faults_of moment left_since (fields node) disk
    × AreOut fields faults_of moment left_since nodes disks
