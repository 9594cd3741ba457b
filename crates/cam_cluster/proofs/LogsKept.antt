-- What the logs of the nodes keep at the end of a run, and so the disks that are taken out of them.
use Rattle.std.proofs.Common.{◌≡◌, ◌≤◌, ℕ, zero, suc, ◌+◌, ◌-◌, Bool, true, false, List, [], ◌∷◌}
use Rattle.std.proofs.Common.{Some, sym, ap, ◌∙◌, subst, arith, refl}
use Rattle.std.specs.Prelude.{map, slice_get}
use Rattle.std.proofs.lemmas.Option.{none-some, same_Some, slice_get_past}
use Rattle.cam_event.specs.declared.RunRecord.{RunRecord}
use Rattle.cam_node.specs.Log.{Logged, KeepsLog}
use Rattle.cam_runs.specs.Running.{has_number}
use Rattle.cam_script.specs.declared.Script.{Script}
use Rattle.cam_histories.specs.Laws.{history_of}
use Rattle.cam_cluster.specs.Clusters.{Tells}
use Rattle.cam_cluster.specs.Disks.{AreLogs, KeepsLogs, MayReadDisk}
use Rattle.cam_cluster.specs.Founding.{AreTakenOut, IsTakenOut}
use Rattle.cam_cluster.specs.Seen.{Seen}
use Rattle.cam_cluster.specs.WholeRuns.{IsRunWithLogs}
use Rattle.cam_cluster.specs.Works.{KeepsRun, MayReadAt, NodeFields, WorksFields}
use Rattle.cam_cluster.proofs.PlacedNodes.{seen_there}
use Rattle.cam_cluster.proofs.RestartReads.{IsReadOf}
use Rattle.cam_cluster.proofs.RestartedWorks.{read_awake}

-- The log of a node that is not halted is at rest: what may be read of it is what its entries say,
-- and they keep the node's history.
pub logs_kept : {N : Type 0} (part : N → NodeFields) (tells : N → Bool)
    (reads : N → Logged → Type 0)
    → ((node : N) (logged : Logged) → tells node ≡ true → (part node).halted ≡ false
    → reads node logged → IsReadOf (part node).site.entries logged)
    → (seen : Seen) (works : WorksFields) (might : ℕ → Logged → Type 0) (nodes : List N)
    → works.nodes ≡ map part nodes → seen.script.nodes ≤ 8
    → KeepsRun seen.script seen.standing works might
    → KeepsLogs seen (MayReadAt tells reads nodes)
logs_kept {N} part tells reads rest seen works might nodes are eight keeps s logged low high awake
    read = rw (← here) (read_awake _ _ _ works might _ keeps at _ (ap (has_number
    seen.standing.halted) here ∙ awake) (rest read.node logged read.told runs read.reads)).keeps
  where
    here : s - 1 + 1 ≡ s
    here = omega (arith, low)

    at : slice_get works.nodes (s - 1) ≡ Some (part read.node)
    at =
        ap (λ (ns : List NodeFields). slice_get ns (s - 1)) are ∙ seen_there part nodes _ _
        read.at

    runs : (part read.node).halted ≡ false
    runs =
        (keeps.nodes (s - 1) (part read.node) at).is_halted
        ∙ keeps.whole.network.stands.nodes (s - 1 + 1) (omega arith)
        (omega (arith, low, high, eight))
        ∙ ap (has_number seen.standing.halted) here ∙ awake

module _ {N D : Type 0} (tells_node : N → Bool) (node_reads : N → Logged → Type 0)
    (tells : D → Bool) (moment : D → ℕ) (left : D → ℕ → List ℕ → Type 0) where
  -- the node that a disk was taken out of
  record IsOutOf (nodes : List N) (place : ℕ) (disk : D) : Type 0 where
    pub node : N
    pub at : slice_get nodes place ≡ Some node
    pub out : IsTakenOut tells_node node_reads tells moment left node disk

  out_of : (nodes : List N) (disks : List D) (place : ℕ) (disk : D)
      → AreTakenOut tells_node node_reads tells moment left nodes disks
      → slice_get disks place ≡ Some disk → IsOutOf nodes place disk
  out_of [] [] place disk out at =
      absurd (none-some disk (sym (slice_get_past [] place (omega arith)) ∙ at))
  out_of [] (d ∷ disks) place disk out at = elim out [ ]
  out_of (n ∷ nodes) [] place disk out at = elim out [ ]
  out_of (n ∷ nodes) (d ∷ disks) zero disk out at = record {
    node = n;
    at = refl;
    out =
        subst (IsTakenOut tells_node node_reads tells moment left n) (same_Some d disk at) out.0;
  }
  out_of (n ∷ nodes) (d ∷ disks) (suc place) disk out at =
      let later = out_of nodes disks place disk out.1 at in
      record { node = later.node; at = later.at; out = later.out }

  -- What may be read from a disk might be read from the log of its node.
  reads_less : (nodes : List N) (disks : List D) (s : ℕ) (logged : Logged)
      → AreTakenOut tells_node node_reads tells moment left nodes disks
      → MayReadDisk tells moment left disks s logged
      → MayReadAt tells_node node_reads nodes s logged
  reads_less nodes disks s logged out read =
      let of = out_of nodes disks (s - 1) read.disk out read.at in
      record {
        node = of.node;
        at = of.at;
        told = sym of.out.told ∙ read.told;
        reads = of.out.less logged read.reads;
      }

  pub record_of_disks : (script : Script) (failed : ℕ → Type 0) (nodes : List N) (disks : List D)
      (given : RunRecord) → AreTakenOut tells_node node_reads tells moment left nodes disks
      → IsRunWithLogs script failed (MayReadAt tells_node node_reads nodes) given
      → IsRunWithLogs script failed (MayReadDisk tells moment left disks) given
  record_of_disks script failed nodes disks given out is = record {
    recorded = is.recorded;
    logs = λ s logged low high awake read. is.logs s logged low high awake
        (reads_less nodes disks s logged out read);
    halted = λ s low high on.
        let of = is.halted s low high on in record {
          taken = of.taken;
          either = λ logged read. of.either logged (reads_less nodes disks s logged out read);
        };
  }

  -- So what a cluster tells of the logs of its nodes it tells of their disks.
  pub tells_of_disks : (seen : Seen) (works : WorksFields) (nodes : List N) (disks : List D)
      → AreTakenOut tells_node node_reads tells moment left nodes disks
      → Tells seen works (MayReadAt tells_node node_reads nodes)
      → Tells seen works (MayReadDisk tells moment left disks)
  tells_of_disks seen works nodes disks out is = record {
    between = is.between;
    events = is.events;
    marks = is.marks;
    asleep = is.asleep;
    known = is.known;
    logs = λ s logged low high awake read. is.logs s logged low high awake
        (reads_less nodes disks s logged out read);
    halted = λ s low high on.
        let one = is.halted s low high on in record {
          number = one.number;
          put_in = one.put_in;
          either = λ logged read. one.either logged (reads_less nodes disks s logged out read);
        };
    stopped = is.stopped;
  }

  pub disks_are_logs : (nodes : List N) (disks : List D)
      → AreTakenOut tells_node node_reads tells moment left nodes disks
      → AreLogs tells moment left disks
  disks_are_logs nodes disks out place disk image at told is =
      (out_of nodes disks place disk out at).out.readable image told is
