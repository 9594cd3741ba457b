use Rattle.std.proofs.Common.{◌≡◌, ◌+◌, ◌≤◌, List, length, filter}
use Rattle.std.specs.List.{flat_map}
use Rattle.cam_event.specs.declared.Deed.{Deed}
use Rattle.cam_event.specs.Rules.{sorted_names}
use Rattle.cam_report.specs.declared.milestones.Milestone.TheVariants.{Committed}
use Rattle.cam_report.specs.Gathered.{reached}
use Rattle.cam_report.specs.Summary.{is_committed_top}
use Rattle.cam_report.proofs.summary.committed_tops.Given as goal

abbrev pub invariant-loop-action : goal.invariant-loop-action
invariant-loop-action l = record {
  counted : (L : List Deed) → l.committed.keys ≡ sorted_names (flat_map (reached Committed) L)
      → l.tops + length (filter (is_committed_top L) l.action-iterator) ≡ length (filter (is_committed_top L) l.created.keys);
  few : l.tops + length l.action-iterator ≤ length l.created.keys;
}
