-- What the sink took is the answer's text, or a prefix of it.
use Rattle.std.proofs.Common.{◌≡◌, ◌⊎◌, inl, ◌∙◌, ℕ, subst, sym, arith}
use Rattle.cam_base.proofs.Told.{if_told_weaker}
use Rattle.cam_base.specs.Causes.{Rose}
use Rattle.cam_run.specs.Status.{number}
use Rattle.cam_run.specs.Disks.{disks_left}
use Rattle.cam_run.specs.Answer.{IsOfCommand}
use Rattle.cam_run.proofs.CommandStatus.{command_has_status}
use Rattle.cam_run.proofs.Written.{is_telling, not_telling, own_status}
use Rattle.cam_run.proofs.Written.{writes_front, writes_whole}
use Rattle.cam_run.proofs.alone.camelot_alone.Goals as goal

pub returns-in-Ok-write_all-clause-written : goal.returns-in-Ok-write_all-clause-written
returns-in-Ok-write_all-clause-written g c =
    writes_whole
    (IsOfCommand c.args.command.now
    (record {
      source_failed = Rose (g.S.Source.faults c.args.source.now) (g.S.Source.faults c.obey.new.source);
      disks =
          disks_left g.D.Disk.tells g.D.Disk.faults g.D.Disk.moment g.D.Disk.left_since
          c.args.disks.now.items c.obey.new.disks.items;
    }))
    (g.S.Source.left c.args.source.now) (g.S.Source.left c.obey.new.source)
    (g.K.Sink.written c.args.sink.now) (g.K.Sink.written c.write_all.new.sink)
    _ (number c.in-Ok.answer.status) c.in-Ok.answer.text.items c.deref.result.now
    c.number-in-Ok-write_all.ensures (own_status c.in-Ok.answer.status (inl c.in-Ok.ensures.statuses))
    c.deref.ensures.value c.in-Ok.ensures.answer c.in-Ok-write_all.ensures.all

pub returns-clause-written : goal.returns-clause-written
returns-clause-written g c =
    writes_front
    (IsOfCommand c.args.command.now
    (record {
      source_failed = Rose (g.S.Source.faults c.args.source.now) (g.S.Source.faults c.obey.new.source);
      disks =
          disks_left g.D.Disk.tells g.D.Disk.faults g.D.Disk.moment g.D.Disk.left_since
          c.args.disks.now.items c.obey.new.disks.items;
    }))
    (g.S.Source.left c.args.source.now) (g.S.Source.left c.obey.new.source)
    (g.K.Sink.written c.args.sink.now) (g.K.Sink.written c.write_all.new.sink)
    _ (number c.in-Ok.answer.status) c.in-Ok.answer.text.items c.deref.result.now
    c.number-in-Err.ensures c.deref.ensures.value c.in-Ok.ensures.answer c.in-Err.ensures.front

pub returns-in-Ok-write_all-clause-complete : goal.returns-in-Ok-write_all-clause-complete
returns-in-Ok-write_all-clause-complete g c =
    if_told_weaker (g.S.Source.left c.args.source.now) (g.S.Source.left c.obey.new.source)
    (λ input rest is read took none.
    inl (c.number-in-Ok-write_all.ensures
    ∙ command_has_status c.args.command.now _ input _ _ is read none))
    c.in-Ok.ensures.answer
