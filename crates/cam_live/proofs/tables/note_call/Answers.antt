use Rattle.cam_event.specs.History.{Addressed}
use Rattle.cam_live.proofs.Noting.{calls_put}
use Rattle.cam_live.proofs.tables.note_call.Goals as goal

pub returns-clause-noted : goal.returns-clause-noted
returns-clause-noted c = λ L before.
    let asked = c.args.call.now in
    let call : Addressed = record { object = asked.object; op = asked.op; count = asked.count } in
    calls_put L c.args.action.now c.args.number call c.args.calls.now c.insert.new.self before c.in_ok-insert.ensures.updates.0
