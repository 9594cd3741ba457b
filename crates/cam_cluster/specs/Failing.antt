-- What has failed by itself in a cluster: which disks, whose counts of faults rose; and by what the
-- run has to end: memory that ran out in a node, which is halted since, or a restart that failed.
-- What is known of it after each call.
use Rattle.std.specs.Prelude.{◌≡◌, ◌⊎◌, ◌≤◌, ℕ, ◌+◌, ◌∷◌, [], true, false, List, set}
use Rattle.std.specs.Prelude.{length}
use Rattle.cam_base.specs.Causes.{Rose}
use Rattle.cam_node.specs.declared.fault.NodeFault.{NodeFault}
use Rattle.cam_node.specs.declared.fault.NodeFault.TheVariants as faults
use Rattle.cam_cluster.specs.declared.fault.RunFault.{RunFault}
use Rattle.cam_cluster.specs.declared.fault.RunFault.TheVariants as run_faults
use Rattle.cam_cluster.specs.declared.works.failing.Failed.{Failed}
use Rattle.cam_cluster.specs.declared.works.failing.Ending.{Ending}
use Rattle.cam_cluster.specs.declared.works.failing.Ending.TheVariants as endings
use Rattle.cam_cluster.specs.HandedBack.{AreHandedBack, HasFailed}
use Rattle.cam_cluster.specs.Works.{NodeFields, WorksFields, has_failed}

-- nothing has failed
abbrev pub nothing_failed : Failed
nothing_failed = record {
  disks = false ∷ false ∷ false ∷ false ∷ false ∷ false ∷ false ∷ false ∷ [];
  ends = endings.Nothing;
}

-- By what a run has to end, where this comes now: the first that came stays.
abbrev pub KnownFirst : Ending → Ending → Ending → Type 0
KnownFirst endings.Nothing this new = new ≡ this
KnownFirst old this new = new ≡ old

-- A call of the node at a place, by the count of its disk before and after it: its disk has failed
-- exactly if it had, or the count rose.
pub record IsAfterCall (place before count : ℕ) (old new : Failed) : Type 0 where
  pub eight : length old.disks ≡ 8
  pub rose :
      Rose before count → new ≡ record { disks = set old.disks place true; ends = old.ends }
  pub still : (Rose before count → ⊥) → new ≡ old

-- A node halted in its step: the run has to end if memory ran out.
abbrev pub IsAfterHalt : NodeFault → Failed → Failed → Type 0
IsAfterHalt faults.NoMemory old new =
    (new.disks ≡ old.disks) × KnownFirst old.ends endings.Memory new.ends
IsAfterHalt faults.DiskFault old new = new ≡ old

-- The restart of the node at a place failed: its disk has failed, or else memory ran out.
pub record IsAfterRestart (place : ℕ) (old new : Failed) : Type 0 where
  pub same : new.disks ≡ old.disks
  pub disk :
      has_failed old (place + 1) ≡ true → KnownFirst old.ends (endings.Disk (place + 1)) new.ends
  pub memory : has_failed old (place + 1) ≡ false → KnownFirst old.ends endings.Memory new.ends

-- how a run has to end, where it ends by this fault
abbrev pub failure : RunFault → Ending
failure (run_faults.DiskFault s) = endings.Disk s
failure run_faults.NoMemory = endings.Memory

-- A fault that names a disk names the one by which the run has to end.
abbrev pub IsOfKnown : Failed → RunFault → Type 0
IsOfKnown known (run_faults.DiskFault s) = known.ends ≡ endings.Disk s
IsOfKnown known run_faults.NoMemory = Unit {0}

-- the disk of the node of this number has failed
abbrev pub FailedIn : Failed → ℕ → Type 0
FailedIn known s = (1 ≤ s) × (has_failed known s ≡ true)

-- What has failed has failed for good.
pub record KnowsMore (old new : Failed) : Type 0 where
  pub ends : new.ends ≡ endings.Nothing → old.ends ≡ endings.Nothing
  pub disks : (s : ℕ) → has_failed new s ≡ false → has_failed old s ≡ false

-- What is known to have failed, by what was known before: a disk only where its count rose since,
-- and a run ends by a disk only where that has failed.
pub record IsKnownToFail (before : Failed) (olds : List NodeFields) (now : Failed)
    (news : List NodeFields) : Type 0 where
  pub more : KnowsMore before now
  pub disk :
      (s : ℕ) → 1 ≤ s → has_failed now s ≡ true
      → (has_failed before s ≡ true)
      ⊎ HasFailed (λ (n : NodeFields). n.failures) (λ (n : NodeFields). n.failures) s olds news
  pub ends :
      (s : ℕ) → now.ends ≡ endings.Disk s
      → (before.ends ≡ endings.Disk s) ⊎ FailedIn now s

-- So nodes go on with their disks: each is at its place and tells what it holds exactly if it did, no
-- count of faults fell, and it is known what failed by itself.
pub record GoOn (olds : List NodeFields) (before : Failed) (news : List NodeFields)
    (now : Failed) : Type 0 where
  pub later :
      AreHandedBack (λ (n : NodeFields). n.tells) (λ (n : NodeFields). n.failures) olds news
  pub known : IsKnownToFail before olds now news

-- THE CLAUSE on the disks of works, at every outcome of a call
abbrev pub DisksGoOn : WorksFields → WorksFields → Type 0
DisksGoOn old new = GoOn old.nodes old.failed new.nodes new.failed
