-- The disks are handed back, and those that failed decide what is returned.
use Rattle.std.proofs.Common.{rules, None, Some, Err, ◌≡◌, ◌∙◌, sym, subst}
use Rattle.cam_cluster.specs.declared.fault.RunFault.TheVariants as faults
use Rattle.cam_cluster.specs.HandedBack.{FindsFailed, disk_named}
use Rattle.cam_cluster.proofs.FirstFailed.{found_since}
use Rattle.cam_storm_run.specs.Disks.{count_at}
use Rattle.cam_storm_run.proofs.Founded.{as_counted, handed_back}
use Rattle.cam_storm_run.proofs.storm.run_storm.Goals as goal

pub storm_as-run-requires-clause-failed : goal.storm_as-run-requires-clause-failed
storm_as-run-requires-clause-failed g c κs within =
    as_counted g.D.Disk.faults c.args.disks.now.items

pub returns-in_err-run-in-None-clause-disks : goal.returns-in_err-run-in-None-clause-disks
returns-in_err-run-in-None-clause-disks g c =
    handed_back g.D.Disk.faults (count_at g.D.Disk.faults c.args.disks.now.items) g.D.Disk.tells
    c.of-before.ensures.always 1 c.args.disks.now.items c.storm_as-run.new.disks.items
    (c.storm_as-run.ensures.count ∙ sym c.requires.one_each)
    (as_counted g.D.Disk.faults c.args.disks.now.items) c.storm_as-run.ensures.floor

pub returns-in_err-run-in-None-clause-failed : goal.returns-in_err-run-in-None-clause-failed
returns-in_err-run-in-None-clause-failed g c =
    let is : c.from_residual.result ≡ Err faults.NoMemory = search rules in
    subst
    (λ r.
    FindsFailed g.D.Disk.faults g.D.Disk.faults c.args.disks.now.items
    c.storm_as-run.new.disks.items (disk_named r))
    (sym is)
    (found_since g.D.Disk.tells g.D.Disk.faults c.args.disks.now.items
    c.storm_as-run.new.disks.items c.as_slice.result.now c.as_slice-2.result.now
    c.of-before.result.counts None c.as_slice.ensures.value c.as_slice-2.ensures.value
    c.of-before.ensures.counts
    (handed_back g.D.Disk.faults (count_at g.D.Disk.faults c.args.disks.now.items) g.D.Disk.tells
    c.of-before.ensures.always 1 c.args.disks.now.items c.storm_as-run.new.disks.items
    (c.storm_as-run.ensures.count ∙ sym c.requires.one_each)
    (as_counted g.D.Disk.faults c.args.disks.now.items) c.storm_as-run.ensures.floor)
    c.in-None.ensures)

pub returns-in-Some-clause-disks : goal.returns-in-Some-clause-disks
returns-in-Some-clause-disks g c =
    handed_back g.D.Disk.faults (count_at g.D.Disk.faults c.args.disks.now.items) g.D.Disk.tells
    c.of-before.ensures.always 1 c.args.disks.now.items c.storm_as-run.new.disks.items
    (c.storm_as-run.ensures.count ∙ sym c.requires.one_each)
    (as_counted g.D.Disk.faults c.args.disks.now.items) c.storm_as-run.ensures.floor

pub returns-in-Some-clause-failed : goal.returns-in-Some-clause-failed
returns-in-Some-clause-failed g c =
    found_since g.D.Disk.tells g.D.Disk.faults c.args.disks.now.items
    c.storm_as-run.new.disks.items c.as_slice.result.now c.as_slice-2.result.now
    c.of-before.result.counts (Some c.in-Some.node) c.as_slice.ensures.value c.as_slice-2.ensures.value
    c.of-before.ensures.counts
    (handed_back g.D.Disk.faults (count_at g.D.Disk.faults c.args.disks.now.items) g.D.Disk.tells
    c.of-before.ensures.always 1 c.args.disks.now.items c.storm_as-run.new.disks.items
    (c.storm_as-run.ensures.count ∙ sym c.requires.one_each)
    (as_counted g.D.Disk.faults c.args.disks.now.items) c.storm_as-run.ensures.floor)
    c.in-Some.ensures

pub returns-in_ok-run-in-None-clause-disks : goal.returns-in_ok-run-in-None-clause-disks
returns-in_ok-run-in-None-clause-disks g c =
    handed_back g.D.Disk.faults (count_at g.D.Disk.faults c.args.disks.now.items) g.D.Disk.tells
    c.of-before.ensures.always 1 c.args.disks.now.items c.storm_as-run.new.disks.items
    (c.storm_as-run.ensures.count ∙ sym c.requires.one_each)
    (as_counted g.D.Disk.faults c.args.disks.now.items) c.storm_as-run.ensures.floor

pub returns-in_ok-run-in-None-clause-failed : goal.returns-in_ok-run-in-None-clause-failed
returns-in_ok-run-in-None-clause-failed g c =
    found_since g.D.Disk.tells g.D.Disk.faults c.args.disks.now.items
    c.storm_as-run.new.disks.items c.as_slice.result.now c.as_slice-2.result.now
    c.of-before.result.counts None c.as_slice.ensures.value c.as_slice-2.ensures.value
    c.of-before.ensures.counts
    (handed_back g.D.Disk.faults (count_at g.D.Disk.faults c.args.disks.now.items) g.D.Disk.tells
    c.of-before.ensures.always 1 c.args.disks.now.items c.storm_as-run.new.disks.items
    (c.storm_as-run.ensures.count ∙ sym c.requires.one_each)
    (as_counted g.D.Disk.faults c.args.disks.now.items) c.storm_as-run.ensures.floor)
    c.in-None.ensures
