-- A call goes ahead, and is taken back where its plan finds no memory.
use Rattle.std.proofs.Common.{refl, sym, ap, ◌∙◌}
use Rattle.cam_locks.specs.Moss.{value}
use Rattle.cam_server.specs.Calls as server
use Rattle.cam_node.specs.declared.plan.Change.{Change}
use Rattle.cam_node.specs.Holdings.{held_ahead}
use Rattle.cam_node.specs.Served.{asked_of}
use Rattle.cam_node.proofs.state.Core.call_goes_ahead.Goals as goal

pub returns-in-Err-clause-err : goal.returns-in-Err-clause-err
returns-in-Err-clause-err g c =
    c.take_back.ensures.back c.know.result.now (asked_of c.args.call.now)
    (server.answers c.args.self.now.server) refl refl
    c.in_ok-done.ensures.value c.in_ok-done.ensures.new

pub returns-in-Ok-clause-held : goal.returns-in-Ok-clause-held
returns-in-Ok-clause-held g c =
    c.in_ok-done.ensures.holds
    ∙ ap (λ (change : Change). held_ahead change
    (value (server.answers c.perform.new.self).table.site c.args.call.now.object)
    (g.T.DataType.held c.args.server.now))
    (sym (c.in-Ok.ensures.made.change ∙ c.in-Ok.ensures.change))
