-- A cluster before its first line: its nodes, each formatted over the disk at its place, and the
-- disks that are handed back where none is made.
use Rattle.std.specs.Prelude.{◌≡◌, ◌≤◌, ◌+◌, ℕ, Bool, true, false, List, [], ◌∷◌, None}
use Rattle.cam_ckpt.specs.Reading.{read_ckpt}
use Rattle.cam_log.specs.Moments.{OpeningsBy}
use Rattle.cam_type.specs.declared.ObjectDecl.{ObjectDecl}
use Rattle.cam_node.specs.Log.{Logged}
use Rattle.cam_node.specs.Opened.{MayRead, is_readable}
use Rattle.cam_node.specs.declared.fault.NodeFault.{NodeFault}
use Rattle.cam_node.specs.declared.fault.NodeFault.TheVariants as node_faults
use Rattle.cam_runs.specs.Standing.{start}
use Rattle.cam_script.specs.declared.Script.{Script}
use Rattle.cam_histories.specs.Whole.{StandsAt}
use Rattle.cam_cluster.specs.declared.fault.RunFault.{RunFault}
use Rattle.cam_cluster.specs.declared.fault.RunFault.TheVariants as faults
use Rattle.cam_cluster.specs.Failing.{nothing_failed}
use Rattle.cam_cluster.specs.Seen.{Seen}
use Rattle.cam_cluster.specs.Works.{NodeFields, WorksFields}

-- the cluster of a script before its first line
abbrev pub before_first : Script → Seen
before_first script = record { script = script; standing = start; halts = [] }

-- A node, of this number, to which nothing has happened.
pub record IsNewNode (objects : List ObjectDecl) (s : ℕ) (node : NodeFields) : Type 0 where
  pub over : node.objects ≡ objects
  pub running : node.halted ≡ false
  pub number : node.site.node.number ≡ s
  pub stands : StandsAt objects s [] node.site
  -- its disk is not stopped
  pub passes : node.passes ≡ None

-- the nodes in order, where the first has this number
abbrev pub AreNewNodes : {N : Type 0} → (N → NodeFields) → List ObjectDecl → ℕ → List N → Type 0
AreNewNodes part objects s [] = Unit {0}
AreNewNodes part objects s (node ∷ more) = IsNewNode objects s (part node)
    × AreNewNodes part objects (s + 1) more

-- why no cluster was made, where the node of this number was refused
abbrev pub fault_at : ℕ → NodeFault → RunFault
fault_at s node_faults.DiskFault = faults.DiskFault s
fault_at s node_faults.NoMemory = faults.NoMemory

-- the works over these nodes, where nothing has happened
abbrev pub new_works : List NodeFields → WorksFields
new_works nodes = record {
  nodes = nodes;
  outbox = record { net = []; unput = [] };
  halted = false ∷ false ∷ false ∷ false ∷ false ∷ false ∷ false ∷ false ∷ [];
  failed = nothing_failed;
  undecided = [];
  events = [];
  marks = [];
}

-- A disk that was taken out of a node: it tells what it holds exactly if the node's log did, whatever
-- may be read from it might be read from the log, and whatever a crash now leaves of it is a log of a
-- node.
pub record IsTakenOut {N D : Type 0} (tells_node : N → Bool) (node_reads : N → Logged → Type 0)
    (tells : D → Bool) (moment : D → ℕ) (left_since : D → ℕ → List ℕ → Type 0) (node : N)
    (disk : D) : Type 0 where
  pub told : tells disk ≡ tells_node node
  pub less :
      (logged : Logged) → MayRead (OpeningsBy read_ckpt (left_since disk)) (moment disk) logged
      → node_reads node logged
  pub readable :
      (image : List ℕ) → tells disk ≡ true → left_since disk (moment disk) image
      → is_readable (read_ckpt image) ≡ true

-- those of all nodes, each at its place
abbrev pub AreTakenOut : {N D : Type 0} → (N → Bool) → (N → Logged → Type 0) → (D → Bool)
    → (D → ℕ) → (D → ℕ → List ℕ → Type 0) → List N → List D → Type 0
AreTakenOut tells_node node_reads tells moment left_since [] [] = Unit {0}
AreTakenOut tells_node node_reads tells moment left_since [] (disk ∷ disks) = ⊥
AreTakenOut tells_node node_reads tells moment left_since (node ∷ nodes) [] = ⊥
AreTakenOut tells_node node_reads tells moment left_since (node ∷ nodes) (disk ∷ disks) =
    IsTakenOut tells_node node_reads tells moment left_since node disk
    × AreTakenOut tells_node node_reads tells moment left_since nodes disks
