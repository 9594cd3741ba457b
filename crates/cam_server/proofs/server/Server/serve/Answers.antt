-- Room changes no reply.
use Rattle.std.proofs.Common.{if◌then◌else◌, Option, sym, ap, ap₂, ◌∙◌, refl}
use Rattle.cam_event.specs.declared.Reply.{Reply}
use Rattle.cam_locks.specs.Site.{TableView}
use Rattle.cam_server.specs.declared.Performed.{Performed}
use Rattle.cam_server.specs.declared.server.Server.{Server as Tables}
use Rattle.cam_server.specs.Calls.{answers, call_eq, granted, reply_by, reply_of, AreSame}
use Rattle.cam_server.proofs.HeldValues.{granted_holds}
use Rattle.cam_server.proofs.Noting.{on_err}
use Rattle.cam_server.proofs.server.Server.serve.Goals as goal

pub returns-in_err-reserve-2-clause-err : goal.returns-in_err-reserve-2-clause-err
returns-in_err-reserve-2-clause-err g c =
    let old = c.args.self.now in
    let new : Tables = record { count = old.count; table = old.table; performed = c.reserve.new.self; bounced = c.reserve-2.new.self } in
    on_err c.from_residual-in_err-reserve-2.result (AreSame (answers old) (answers new))
    (record {
      count = refl;
      site = refl;
      replies = λ a n.
          ap₂ reply_by (c.reserve.ensures.entries.2 (record { action = a; number = n })) (c.reserve-2.ensures.entries.2 (record { action = a; number = n }));
    })

pub returns-in_err-grant-clause-err : goal.returns-in_err-grant-clause-err
returns-in_err-grant-clause-err g c =
    let old = c.args.self.now in
    let new : Tables = record { count = old.count; table = c.try_lock_and_apply.new.self; performed = c.reserve.new.self; bounced = c.reserve-2.new.self } in
    on_err c.from_residual-in_err-grant.result (AreSame (answers old) (answers new))
    (record {
      count = refl;
      site = c.in_err-grant.ensures.err;
      replies = λ a n.
          ap₂ reply_by (c.reserve.ensures.entries.2 (record { action = a; number = n })) (c.reserve-2.ensures.entries.2 (record { action = a; number = n }));
    })

pub note-requires-clause-fresh : goal.note-requires-clause-fresh
note-requires-clause-fresh g c =
    ap₂ reply_by (c.reserve.ensures.entries.2 c.args.call.now) (c.reserve-2.ensures.entries.2 c.args.call.now) ∙ c.requires.fresh

pub returns-clause-replies : goal.returns-clause-replies
returns-clause-replies g c = λ d.
    c.note.ensures.replies d
    ∙ ap₂ (λ (r : Performed) (o : Option Reply). if call_eq c.args.call.now d then reply_of r else o)
    (sym c.note.ensures.value) (ap₂ reply_by (c.reserve.ensures.entries.2 d) (c.reserve-2.ensures.entries.2 d))

pub returns-clause-holds : goal.returns-clause-holds
returns-clause-holds g c =
    granted_holds c.args.self.now.table.site c.note.new.self.table.site c.args.call.now.action c.args.object
    c.args.op.now (g.T.DataType.held c.args.server.now) (g.T.DataType.held c.try_lock_and_apply.new.server) c.note.result
    (c.note.ensures.value ∙ ap granted c.in_ok-grant.ensures.grant)
    (ap (λ (t : TableView). t.site) c.note.ensures.table ∙ c.in_ok-grant.ensures.ok)
    c.in_ok-grant.ensures.served
