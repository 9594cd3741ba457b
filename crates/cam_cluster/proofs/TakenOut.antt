-- Disks that are taken out of nodes.
use Rattle.std.proofs.Common.{◌≡◌, ℕ, Bool, List, [], ◌∷◌, ◌++◌, Ok, sym, subst}
use Rattle.cam_ckpt.specs.Reading.{read_ckpt}
use Rattle.cam_disk.specs.declared.stop.StopDisk.{StopDisk}
use Rattle.cam_disk.specs.Stopping.{within}
use Rattle.cam_log.specs.Moments.{Opened, OpeningsBy}
use Rattle.cam_node.specs.Log.{Logged}
use Rattle.cam_node.specs.Opened.{MayRead}
use Rattle.cam_cluster.specs.Founding.{AreTakenOut, IsTakenOut}

-- what may be read of the disk might be read of the log
pub disk_reads : {left : ℕ → List ℕ → Type 0} {opens : ℕ → Opened → Type 0} {now was : ℕ}
    → ((t : ℕ) (image : List ℕ) → left t image → opens t (read_ckpt image)) → now ≡ was
    → (logged : Logged) → MayRead (OpeningsBy read_ckpt left) now logged → MayRead opens was logged
disk_reads {opens = opens} {now = now} since same logged read = record {
  entries = read.entries;
  opens = rw (← same) (subst (opens now) read.opens.2 (since now read.opens.0 read.opens.1));
  recovered = read.recovered;
  recovers = read.recovers;
  is = read.is;
}

-- what is told of a disk that can be stopped is told of the disk within
pub out_within : {N D : Type 0} {tells_node : N → Bool} {node_reads : N → Logged → Type 0}
    {tells : D → Bool} {moment : D → ℕ} {left : D → ℕ → List ℕ → Type 0} {node : N}
    (over : StopDisk D) (disk : D) → disk ≡ within over
    → IsTakenOut tells_node node_reads tells moment left node over.inner
    → IsTakenOut tells_node node_reads tells moment left node disk
out_within {tells_node = tells_node} {node_reads = node_reads} {tells = tells} {moment = moment}
    {left = left} {node = node} over disk is out =
    subst (IsTakenOut tells_node node_reads tells moment left node) (sym is) out

module _ {N D : Type 0} {tells_node : N → Bool} {node_reads : N → Logged → Type 0}
    {tells : D → Bool} {moment : D → ℕ} {left : D → ℕ → List ℕ → Type 0} where
  out_behind : (nodes : List N) (disks : List D) (node : N) (disk : D)
      → AreTakenOut tells_node node_reads tells moment left nodes disks
      → IsTakenOut tells_node node_reads tells moment left node disk
      → AreTakenOut tells_node node_reads tells moment left (nodes ++ node ∷ [])
      (disks ++ disk ∷ [])
  out_behind [] [] node disk out last = (last, tt)
  out_behind [] (d ∷ disks) node disk out last = elim out [ ]
  out_behind (n ∷ nodes) [] node disk out last = elim out [ ]
  out_behind (n ∷ nodes) (d ∷ disks) node disk out last =
      (out.0, out_behind nodes disks node disk out.1 last)

  -- the last disk is taken out after the others
  pub out_last : (nodes all : List N) (disks now : List D) (node : N) (disk : D)
      → all ≡ nodes ++ node ∷ [] → now ≡ disks ++ disk ∷ []
      → AreTakenOut tells_node node_reads tells moment left nodes disks
      → IsTakenOut tells_node node_reads tells moment left node disk
      → AreTakenOut tells_node node_reads tells moment left all now
  out_last nodes all disks now node disk all_is now_is out last =
      subst (λ (z : List N × List D). AreTakenOut tells_node node_reads tells moment left z.0 z.1)
      (sym (λ i. (all_is i, now_is i))) (out_behind nodes disks node disk out last)
