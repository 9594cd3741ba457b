-- What the sink took is the answer's text, or a prefix of it.
use Rattle.std.proofs.Common.{◌≡◌, ◌⊎◌, inl, ◌∙◌, ℕ, map, string_bytes, subst, sym, arith}
use Rattle.cam_base.proofs.Told.{if_told_weaker}
use Rattle.cam_base.specs.Causes.{Rose}
use Rattle.cam_run.specs.Status.{number}
use Rattle.cam_run.specs.Disks.{FailedAt, disks_left}
use Rattle.cam_run.specs.Answer.{IsAnswer, IsOfStorm}
use Rattle.cam_run.specs.Commands.{storm_of}
use Rattle.cam_run.specs.Storm.{KeepStorm}
use Rattle.cam_run.proofs.Written.{is_telling, not_telling, own_status}
use Rattle.cam_run.proofs.Stormed.{storms_keep_promises}
use Rattle.cam_run.proofs.Written.{writes_front, writes_nothing, writes_whole, written_front, written_whole}
use Rattle.cam_run.proofs.top.camelot.Goals as goal

pub returns-in-Ok-write_all-clause-written : goal.returns-in-Ok-write_all-clause-written
returns-in-Ok-write_all-clause-written g c =
    writes_whole
    (IsAnswer (map string_bytes c.args.words.now)
    (record {
      source_failed = Rose (g.S.Source.faults c.args.source.now) (g.S.Source.faults c.answer_to.new.source);
      disks =
          disks_left g.D.Disk.tells g.D.Disk.faults g.D.Disk.moment g.D.Disk.left_since
          c.args.disks.now.items c.answer_to.new.disks.items;
    }))
    (g.S.Source.left c.args.source.now) (g.S.Source.left c.answer_to.new.source)
    (g.K.Sink.written c.args.sink.now) (g.K.Sink.written c.write_all.new.sink)
    _ (number c.in-Ok.answer.status) c.in-Ok.answer.text.items c.deref.result.now
    c.number-in-Ok-write_all.ensures (own_status c.in-Ok.answer.status c.in-Ok.ensures.statuses)
    c.deref.ensures.value c.in-Ok.ensures.answer c.in-Ok-write_all.ensures.all

pub returns-clause-written : goal.returns-clause-written
returns-clause-written g c =
    writes_front
    (IsAnswer (map string_bytes c.args.words.now)
    (record {
      source_failed = Rose (g.S.Source.faults c.args.source.now) (g.S.Source.faults c.answer_to.new.source);
      disks =
          disks_left g.D.Disk.tells g.D.Disk.faults g.D.Disk.moment g.D.Disk.left_since
          c.args.disks.now.items c.answer_to.new.disks.items;
    }))
    (g.S.Source.left c.args.source.now) (g.S.Source.left c.answer_to.new.source)
    (g.K.Sink.written c.args.sink.now) (g.K.Sink.written c.write_all.new.sink)
    _ (number c.in-Ok.answer.status) c.in-Ok.answer.text.items c.deref.result.now
    c.number-in-Err.ensures c.deref.ensures.value c.in-Ok.ensures.answer c.in-Err.ensures.front

pub returns-in-Ok-write_all-clause-storm : goal.returns-in-Ok-write_all-clause-storm
returns-in-Ok-write_all-clause-storm g c = λ seed actions threads calm form.
    written_whole
    (IsOfStorm (storm_of seed actions calm)
    (FailedAt g.D.Disk.faults c.args.disks.now.items c.answer_to.new.disks.items)
    (KeepStorm g.D.Disk.tells g.D.Disk.moment g.D.Disk.left_since c.answer_to.new.disks.items
    (storm_of seed actions calm)))
    (g.K.Sink.written c.args.sink.now) (g.K.Sink.written c.write_all.new.sink)
    _ (number c.in-Ok.answer.status) c.in-Ok.answer.text.items c.deref.result.now
    c.number-in-Ok-write_all.ensures (own_status c.in-Ok.answer.status c.in-Ok.ensures.statuses)
    c.deref.ensures.value (c.in-Ok.ensures.storm seed actions threads calm form)
    c.in-Ok-write_all.ensures.all

pub returns-clause-storm : goal.returns-clause-storm
returns-clause-storm g c = λ seed actions threads calm form.
    written_front
    (IsOfStorm (storm_of seed actions calm)
    (FailedAt g.D.Disk.faults c.args.disks.now.items c.answer_to.new.disks.items)
    (KeepStorm g.D.Disk.tells g.D.Disk.moment g.D.Disk.left_since c.answer_to.new.disks.items
    (storm_of seed actions calm)))
    (g.K.Sink.written c.args.sink.now) (g.K.Sink.written c.write_all.new.sink)
    _ (number c.in-Ok.answer.status) c.in-Ok.answer.text.items c.deref.result.now
    c.number-in-Err.ensures c.deref.ensures.value
    (c.in-Ok.ensures.storm seed actions threads calm form) c.in-Err.ensures.front

pub returns-in-Ok-write_all-clause-complete : goal.returns-in-Ok-write_all-clause-complete
returns-in-Ok-write_all-clause-complete g c =
    if_told_weaker (g.S.Source.left c.args.source.now) (g.S.Source.left c.answer_to.new.source)
    (λ input rest said command form read took none.
    inl (c.number-in-Ok-write_all.ensures ∙ said command form read none))
    c.in-Ok.ensures.complete

pub returns-in_default-clause-written : goal.returns-in_default-clause-written
returns-in_default-clause-written g c =
    writes_nothing _
    (IsAnswer (map string_bytes c.args.words.now)
    (record {
      source_failed = Rose (g.S.Source.faults c.args.source.now) (g.S.Source.faults c.answer_to.new.source);
      disks =
          disks_left g.D.Disk.tells g.D.Disk.faults g.D.Disk.moment g.D.Disk.left_since
          c.args.disks.now.items c.answer_to.new.disks.items;
    }))
    (g.S.Source.left c.args.source.now) (g.S.Source.left c.answer_to.new.source)
    (g.K.Sink.written c.args.sink.now) _ c.number.ensures c.answer_to.ensures.answer

pub returns-in-Ok-write_all-clause-read : goal.returns-in-Ok-write_all-clause-read
returns-in-Ok-write_all-clause-read g c = λ reading ends.
    if_told_weaker (g.S.Source.left c.args.source.now) (g.S.Source.left c.answer_to.new.source)
    (λ input rest said.
    said
    (is_telling c.in-Ok.answer.status
    (subst (λ (n : ℕ). (n ≡ 0) ⊎ (n ≡ 8)) c.number-in-Ok-write_all.ensures ends)))
    (c.in-Ok.ensures.read reading)

pub returns-in_default-clause-headline_of_storms : goal.returns-in_default-clause-headline_of_storms
returns-in_default-clause-headline_of_storms g c = storms_keep_promises

pub returns-in-Ok-write_all-clause-headline_of_storms :
    goal.returns-in-Ok-write_all-clause-headline_of_storms
returns-in-Ok-write_all-clause-headline_of_storms g c = storms_keep_promises

pub returns-clause-headline_of_storms : goal.returns-clause-headline_of_storms
returns-clause-headline_of_storms g c = storms_keep_promises
