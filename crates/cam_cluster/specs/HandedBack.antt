-- Disks that are handed over and back, place by place, by their counts of faults; and which of them
-- failed by themselves meanwhile.
use Rattle.std.specs.Prelude.{◌≡◌, ◌≤◌, ◌<◌, ℕ, ◌-◌, ◌+◌, Bool, List, [], ◌∷◌, length, slice_get}
use Rattle.std.specs.Prelude.{Option, Some, None, Result, Ok, Err}
use Rattle.cam_base.specs.Causes.{Rose}
use Rattle.cam_cluster.specs.declared.fault.RunFault.{RunFault}
use Rattle.cam_cluster.specs.declared.fault.RunFault.TheVariants as faults

-- A disk later, or what holds it: it tells what it holds exactly if it did, and its count of faults
-- did not fall.
pub record IsLater {A B : Type 0} (told_before : A → Bool) (faults_before : A → ℕ)
    (tells : B → Bool) (faults_of : B → ℕ) (old : A) (new : B) : Type 0 where
  pub told : tells new ≡ told_before old
  pub later : faults_before old ≤ faults_of new

-- all disks, place by place
abbrev pub AreLater : {A B : Type 0} → (A → Bool) → (A → ℕ) → (B → Bool) → (B → ℕ)
    → List A → List B → Type 0
AreLater told_before faults_before tells faults_of [] [] = Unit {0}
AreLater told_before faults_before tells faults_of [] (new ∷ news) = ⊥
AreLater told_before faults_before tells faults_of (old ∷ olds) [] = ⊥
AreLater told_before faults_before tells faults_of (old ∷ olds) (new ∷ news) =
    IsLater told_before faults_before tells faults_of old new
    × AreLater told_before faults_before tells faults_of olds news

-- Disks that are handed back: as many; place by place, each tells what it holds exactly if it did, and
-- no count of faults fell.
abbrev pub AreHandedBack : {D : Type 0} → (D → Bool) → (D → ℕ) → List D → List D → Type 0
AreHandedBack tells faults_of before after =
    AreLater tells faults_of tells faults_of before after

-- The disk at the place of the node of this number failed by itself: its count of faults rose.
pub record HasFailed {A B : Type 0} (faults_before : A → ℕ) (faults_of : B → ℕ) (s : ℕ)
    (before : List A) (after : List B) : Type 0 where
  pub low : 1 ≤ s
  pub high : s ≤ length before
  pub old : A
  pub new : B
  pub was : slice_get before (s - 1) ≡ Some old
  pub is : slice_get after (s - 1) ≡ Some new
  pub rose : Rose (faults_before old) (faults_of new)

-- None of the disks failed by itself.
abbrev pub NoneFailed : {A B : Type 0} → (A → ℕ) → (B → ℕ) → List A → List B → Type 0
NoneFailed faults_before faults_of before after =
    (s : ℕ) → HasFailed faults_before faults_of s before after → ⊥

-- The disk of the node of this number failed, and that of no node before it, in order of numbers.
pub record IsFirstFailed {A B : Type 0} (faults_before : A → ℕ) (faults_of : B → ℕ) (s : ℕ)
    (before : List A) (after : List B) : Type 0 where
  pub failed : HasFailed faults_before faults_of s before after
  pub first : (k : ℕ) → k < s → HasFailed faults_before faults_of k before after → ⊥

-- The first node whose disk failed; none exactly if none failed.
abbrev pub FindsFailed : {A B : Type 0} → (A → ℕ) → (B → ℕ) → List A → List B → Option ℕ → Type 0
FindsFailed faults_before faults_of before after (Some s) =
    IsFirstFailed faults_before faults_of s before after
FindsFailed faults_before faults_of before after None =
    NoneFailed faults_before faults_of before after

-- the node whose disk is named by what a run gives, if one is
abbrev pub disk_named : {T : Type 0} → Result T RunFault → Option ℕ
disk_named (Ok run) = None
disk_named (Err (faults.DiskFault s)) = Some s
disk_named (Err faults.NoMemory) = None

-- A fault that names a disk: that one failed by itself.
abbrev pub NamesFailed : {D : Type 0} → (D → ℕ) → List D → List D → RunFault → Type 0
NamesFailed faults_of before after (faults.DiskFault s) =
    HasFailed faults_of faults_of s before after
NamesFailed faults_of before after faults.NoMemory = Unit {0}
