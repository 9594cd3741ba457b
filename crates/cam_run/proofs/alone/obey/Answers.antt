-- `gen` leaves the source as it is; a command that runs no script leaves the disks as they are.
use Rattle.std.proofs.Common.{◌≡◌, ℕ, List, IfOk, drop, subst, sym}
use Rattle.cam_args.specs.declared.Command.{Command}
use Rattle.cam_base.specs.Causes.{Rose}
use Rattle.cam_run.specs.Disks.{disks_left}
use Rattle.cam_run.specs.Answer.{nodes_for}
use Rattle.cam_run.proofs.Commanded.{of_unread}
use Rattle.cam_run.proofs.AnswersSeed.{answers_seed}
use Rattle.cam_run.proofs.alone.obey.Goals as goal

pub returns-in-Gen-clause-answer : goal.returns-in-Gen-clause-answer
returns-in-Gen-clause-answer g c =
    answers_seed c.args.command.now c.in-Gen.seed c.in-Gen.size
    (record {
      source_failed = Rose (g.S.Source.faults c.args.source.now) (g.S.Source.faults c.args.source.now);
      disks =
          disks_left g.D.Disk.tells g.D.Disk.faults g.D.Disk.moment g.D.Disk.left_since
          c.args.disks.now.items c.of_seed.new.disks.items;
    })
    (g.S.Source.left c.args.source.now) c.of_seed.result c.in-Gen.is c.of_seed.ensures.answer

pub returns-in-Gen-clause-others : goal.returns-in-Gen-clause-others
returns-in-Gen-clause-others g c =
    of_unread (g.S.Source.left c.args.source.now)
    (λ (input : List ℕ).
    drop (nodes_for c.args.command.now input) c.of_seed.new.disks.items
    ≡ drop (nodes_for c.args.command.now input) c.args.disks.now.items)
    (λ input.
    subst
    (λ (command : Command).
    drop (nodes_for command input) c.of_seed.new.disks.items
    ≡ drop (nodes_for command input) c.args.disks.now.items)
    (sym c.in-Gen.is) c.of_seed.ensures.others)
