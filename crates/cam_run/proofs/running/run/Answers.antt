-- A run over the first disks, and what it says of the whole list.
use Rattle.std.proofs.Common.{◌≡◌, List, sym, subst, arith}
use Rattle.std.proofs.lemmas.Grind.{common_steps}
use Rattle.cam_cluster.specs.HandedBack.{AreHandedBack}
use Rattle.cam_run.proofs.FirstDisks.{all_back, as_they_were, failed_over, first_length}
use Rattle.cam_run.proofs.FirstDisks.{is_over_first, named_over, rest_stays}
use Rattle.cam_run.proofs.LeftDisks.{run_over}
use Rattle.cam_run.proofs.running.run.Goals as goal

pub returns-in_err-further-clause-back : goal.returns-in_err-further-clause-back
returns-in_err-further-clause-back g c =
    let stay : c.set_aside.new.disks ≡ c.args.disks.now = c.in_err-further.ensures.stay in
    subst (λ disks. AreHandedBack g.D.Disk.tells g.D.Disk.faults c.args.disks.now.items disks.items)
    (sym stay) (as_they_were g.D.Disk.tells g.D.Disk.faults c.args.disks.now.items)

pub put_back-requires : goal.put_back-requires
put_back-requires g c =
    let many =
    first_length g.D.Disk.tells g.D.Disk.faults c.args.script.now.nodes c.args.disks.now.items
    c.run_script-run.new.disks.items c.requires.enough
    (subst (λ (xs : List _). AreHandedBack g.D.Disk.tells g.D.Disk.faults xs c.run_script-run.new.disks.items)
    c.in_ok-further.ensures.first c.run_script-run.ensures.disks) in
    grind (arith, common_steps)

pub returns-clause-run : goal.returns-clause-run
returns-clause-run g c =
    let over = is_over_first g.D.Disk.tells g.D.Disk.faults c.args.script.now.nodes c.args.disks.now.items
    c.set_aside.new.disks.items c.run_script-run.new.disks.items c.in_ok-further.further.items
    c.put_back.new.disks.items c.requires.enough c.in_ok-further.ensures.first
    c.run_script-run.ensures.disks c.in_ok-further.ensures.further c.put_back.ensures in
    run_over g.D.Disk.tells g.D.Disk.faults g.D.Disk.moment g.D.Disk.left_since
    c.args.script.now _ c.args.disks.now.items c.run_script-run.new.disks.items
    c.put_back.new.disks.items c.run_script-run.result over c.requires.script
    (failed_over g.D.Disk.tells g.D.Disk.faults c.args.script.now.nodes c.args.disks.now.items
    c.set_aside.new.disks.items c.run_script-run.new.disks.items c.put_back.new.disks.items over
    c.in_ok-further.ensures.first)
    c.run_script-run.ensures.run c.run_script-run.ensures.logs

pub returns-clause-cause : goal.returns-clause-cause
returns-clause-cause g c =
    named_over g.D.Disk.tells g.D.Disk.faults c.args.script.now.nodes c.args.disks.now.items
    c.set_aside.new.disks.items c.run_script-run.new.disks.items c.put_back.new.disks.items
    c.run_script-run.result
    (is_over_first g.D.Disk.tells g.D.Disk.faults c.args.script.now.nodes c.args.disks.now.items
    c.set_aside.new.disks.items c.run_script-run.new.disks.items c.in_ok-further.further.items
    c.put_back.new.disks.items c.requires.enough c.in_ok-further.ensures.first
    c.run_script-run.ensures.disks c.in_ok-further.ensures.further c.put_back.ensures)
    c.in_ok-further.ensures.first c.run_script-run.ensures.cause

pub returns-clause-back : goal.returns-clause-back
returns-clause-back g c =
    all_back g.D.Disk.tells g.D.Disk.faults c.args.script.now.nodes c.args.disks.now.items
    c.run_script-run.new.disks.items c.put_back.new.disks.items
    (is_over_first g.D.Disk.tells g.D.Disk.faults c.args.script.now.nodes c.args.disks.now.items
    c.set_aside.new.disks.items c.run_script-run.new.disks.items c.in_ok-further.further.items
    c.put_back.new.disks.items c.requires.enough c.in_ok-further.ensures.first
    c.run_script-run.ensures.disks c.in_ok-further.ensures.further c.put_back.ensures)

pub returns-clause-others : goal.returns-clause-others
returns-clause-others g c =
    rest_stays g.D.Disk.tells g.D.Disk.faults c.args.script.now.nodes c.args.disks.now.items
    c.run_script-run.new.disks.items c.put_back.new.disks.items
    (is_over_first g.D.Disk.tells g.D.Disk.faults c.args.script.now.nodes c.args.disks.now.items
    c.set_aside.new.disks.items c.run_script-run.new.disks.items c.in_ok-further.further.items
    c.put_back.new.disks.items c.requires.enough c.in_ok-further.ensures.first
    c.run_script-run.ensures.disks c.in_ok-further.ensures.further c.put_back.ensures)
