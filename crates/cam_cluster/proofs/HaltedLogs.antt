-- What the logs of nodes keep that are halted at the end of a run.
use Rattle.std.proofs.Common.{◌≡◌, ◌⊎◌, inl, inr, ℕ, ◌+◌, ◌-◌, ◌≤◌, true, List, length, Some}
use Rattle.std.proofs.Common.{ap, ◌∙◌, subst, arith}
use Rattle.std.specs.Prelude.{slice_get}
use Rattle.std.proofs.lemmas.Option.{slice_get_cases}
use Rattle.cam_event.specs.Readings.{by_pasts}
use Rattle.cam_node.specs.Log.{Logged}
use Rattle.cam_runs.specs.Halts.{Halt}
use Rattle.cam_runs.specs.HaltedLines.{run_with}
use Rattle.cam_runs.specs.Running.{has_number}
use Rattle.cam_runs.specs.Standing.{Standing}
use Rattle.cam_cluster.specs.Between.{KeepsBetween, seen_found}
use Rattle.cam_cluster.specs.Clusters.{KeepsOneOf}
use Rattle.cam_cluster.specs.Disks.{KeepsHistoryOf}
use Rattle.cam_cluster.specs.FoundHalts.{IsPutIn}
use Rattle.cam_cluster.specs.HaltedLogs.{KeepsEither, KeepsHaltedLogs}
use Rattle.cam_cluster.specs.Seen.{Seen, lines_taken, run_of_lines}
use Rattle.cam_cluster.specs.SoFar.{LinesFields}
use Rattle.cam_cluster.specs.Works.{IsHaltOf}
use Rattle.cam_cluster.proofs.AllLines.{lines_make_the_run}
use Rattle.cam_cluster.proofs.FoundSeen.{put_in}
use Rattle.cam_cluster.proofs.TakenHalts.{either_kept}

-- a node of a list
pub record IsAt {N : Type 0} (nodes : List N) (place : ℕ) : Type 0 where
  pub node : N
  pub at : slice_get nodes place ≡ Some node

pub within_at : {N : Type 0} (nodes : List N) (place : ℕ) → place + 1 ≤ length nodes
    → IsAt nodes place
within_at nodes place within = elim ((slice_get_cases nodes place).1) [
  | inl there ↦ record { node = there.0; at = there.2 }
  | inr past ↦ let high = past.0 in absurd (omega (arith, within, high))
]

-- What may be read of the log of a node that is halted between lines.
module _ (seen : Seen) (lines : LinesFields) (may : ℕ → Logged → Type 0)
    (keeps : KeepsBetween seen lines may) (s : ℕ) (low : 1 ≤ s) (high : s ≤ seen.script.nodes)
    (halted : has_number seen.standing.halted s ≡ true) where
  here : s - 1 + 1 ≡ s
  here = omega (arith, low)

  there : IsAt lines.works.nodes (s - 1)
  there = within_at _ _ (let many = keeps.keeps.runs.one_each in omega (arith, low, high, many))

  halt : IsHaltOf seen.script.objects seen.standing.running.trace seen.standing.undecided s
      there.node (may s)
  halt =
      subst (λ (n : ℕ). IsHaltOf seen.script.objects seen.standing.running.trace
      seen.standing.undecided n there.node (may n)) here
      (keeps.keeps.runs.halts (s - 1) there.node there.at
      (ap (has_number seen.standing.halted) here ∙ halted))

  pub one_kept : KeepsOneOf seen s (may s)
  one_kept =
      let found = put_in seen lines may keeps s halted in record {
        number = (keeps.lost s halted).number;
        put_in = found;
        either = λ logged read.
            either_kept seen.script seen.standing (seen_found seen s).standing s
            (keeps.lost s halted).number found.before found.event there.node (may s) found.beyond
            halt logged read;
      }

-- So it is at the end of the run.
module _ (seen : Seen) (lines : LinesFields) (may : ℕ → Logged → Type 0)
    (keeps : KeepsBetween seen lines may) (all : lines_taken seen ≡ length seen.script.steps)
    (one : seen.standing ≡ run_with by_pasts seen.script seen.halts) where
  module _ (s : ℕ) (low : 1 ≤ s) (high : s ≤ seen.script.nodes)
      (halted : has_number seen.standing.halted s ≡ true) where
    abbrev from : Seen
    from = seen_found seen s

    abbrev halts : List Halt
    halts = from.halts

    kept : KeepsOneOf seen s (may s)
    kept = one_kept seen lines may keeps s low high halted

    found_is : from.standing ≡ run_with by_pasts seen.script halts
    found_is =
        ap (run_of_lines by_pasts seen.script halts) all
        ∙ lines_make_the_run by_pasts seen.script halts

    either_at_end : KeepsEither seen.script seen.halts s (may s)
    either_at_end = record {
      taken = record {
        halts = halts;
        number = kept.number;
        put_in =
            subst (λ (z : Standing × Standing). IsPutIn seen.script.objects
            kept.number s z.0 z.1) (λ i. (one i, found_is i)) kept.put_in;
      };
      either = λ logged read.
          subst (λ (z : Standing × Standing). KeepsHistoryOf seen.script s z.0 logged
          ⊎ KeepsHistoryOf seen.script s z.1 logged) (λ i. (one i, found_is i))
          (kept.either logged read);
    }

  pub halted_logs : KeepsHaltedLogs seen.script seen.halts may
  halted_logs s low high halted =
      either_at_end s low high (ap (λ (st : Standing). has_number st.halted s) one ∙ halted)
