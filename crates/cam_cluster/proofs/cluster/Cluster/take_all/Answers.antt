-- The lines are taken one after another.
use Rattle.std.proofs.Common.{◌≤◌, ◌∙◌, ℕ, ap, arith, length, refl, subst}
use Rattle.cam_script.specs.declared.Act.TheVariants.{Begin}
use Rattle.cam_cluster.specs.WholeRuns.{HasTakenLines}
use Rattle.cam_cluster.proofs.AsSeen.{lines_of, part, reads_of}
use Rattle.cam_cluster.proofs.DisksGoOn.{goes_on_still, goes_on_then}
use Rattle.cam_cluster.proofs.WholeRuns.{of_stands, step_at}
use Rattle.cam_cluster.proofs.cluster.Cluster.take_all.Goals as goal

pub loop-step-init : goal.loop-step-init
loop-step-init g c = record {
  taken = of_stands _ _ _ _ c.requires.before_first;
  items = c.as_slice-step-items.ensures;
  disks = goes_on_still;
  as_many = refl;
}

pub take_next-requires : goal.take_next-requires
take_next-requires g c =
    let at =
    step_at c.args.script.now _ _ (record { line = 0; act = Begin 0 }) c.loop-step-test.true
    c.loop-step.invariant.items
    in record {
      next = record { many = c.loop-step.step-index; taken = c.loop-step.invariant.taken; at = at };
    }

pub loop-step-preserved : goal.loop-step-preserved
loop-step-preserved g c =
    let at =
    step_at c.args.script.now c.as_slice-step-items.result.now c.loop-step.step-index
    (record { line = 0; act = Begin 0 }) c.loop-step-test.true c.loop-step.invariant.items
    in record {
      taken = c.in_ok-take_next.ensures.taken c.loop-step.step-index c.loop-step.invariant.taken at;
      items = c.loop-step.invariant.items;
      disks = goes_on_then c.loop-step.invariant.disks c.take_next.ensures.disks;
      as_many = c.take_next.ensures.as_many ∙ c.loop-step.invariant.as_many;
    }

pub returns-clause-all : goal.returns-clause-all
returns-clause-all g c =
    let end : length c.as_slice-step-items.result.now ≤ c.loop-step.step-index = omega arith in
    subst (λ (n : ℕ). HasTakenLines c.args.script.now n
    (lines_of g.L.CheckpointLog g.L.EntryLog c.loop-step.self.course.lines)
    (reads_of g.L.CheckpointLog g.L.EntryLog c.loop-step.self.course.lines.works)
    c.loop-step.self.course.workers)
    (omega (arith, end) ∙ ap length c.loop-step.invariant.items) c.loop-step.invariant.taken

pub returns-in_err-take_next-clause-disks : goal.returns-in_err-take_next-clause-disks
returns-in_err-take_next-clause-disks g c =
    goes_on_then c.loop-step.invariant.disks c.take_next.ensures.disks

pub returns-clause-disks : goal.returns-clause-disks
returns-clause-disks g c =
    c.loop-step.invariant.disks

pub returns-in_err-take_next-clause-as_many : goal.returns-in_err-take_next-clause-as_many
returns-in_err-take_next-clause-as_many g c =
    c.take_next.ensures.as_many ∙ c.loop-step.invariant.as_many

pub returns-clause-as_many : goal.returns-clause-as_many
returns-clause-as_many g c =
    c.loop-step.invariant.as_many
