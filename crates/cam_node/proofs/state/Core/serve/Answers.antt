-- What a site does with a call.
use Rattle.std.proofs.Common.{None, refl, sym, ap, ◌∙◌}
use Rattle.cam_know.specs.Knowledge.{Knowledge}
use Rattle.cam_event.specs.Rules.{Did}
use Rattle.cam_locks.specs.Moss.{value}
use Rattle.cam_server.specs.Calls as server
use Rattle.cam_server.specs.Calls.{performed_by}
use Rattle.cam_node.specs.declared.plan.Change.TheVariants as changes
use Rattle.cam_node.specs.Holdings.{held_then}
use Rattle.cam_node.specs.Served.{asked_of}
use Rattle.cam_node.proofs.CallServed.{done_copy}
use Rattle.cam_node.proofs.HandedIn.{did_held}
use Rattle.cam_node.proofs.state.Core.serve.Goals as goal

pub returns-in_ok-did_performed-in-None-clause-done :
    goal.returns-in_ok-did_performed-in-None-clause-done
returns-in_ok-did_performed-in-None-clause-done g c = (
  c.in_ok-done-in-None.done,
  done_copy c.args.heard.now.news c.args.self.now.knowing.known (asked_of c.args.call.now)
      (server.answers c.args.self.now.server)
      (server.answers c.in_ok-informed-in-None.informed) (server.answers c.reserve.new.self)
      (server.answers c.informed.new.self) c.perform.new.self
      c.in_ok-did_performed-in-None.field-0
      (record {
        did = c.in_ok-did_performed-in-None.field-0;
        change = changes.Served c.perform.new.self;
        adds = None;
      })
      c.in_ok-done-in-None.done c.in_ok-informed-in-None.ensures c.reserve.ensures.same
      c.informed.ensures.informed
      (c.in_ok-done-in-None.ensures.value
      ∙ ap (λ (k : Knowledge). performed_by k (server.answers c.informed.new.self)
      (asked_of c.args.call.now)) c.know-know.ensures)
      c.in_ok-done-in-None.ensures.new c.in_ok-did_performed-in-None.ensures.did refl,
)

pub returns-in_ok-did_performed-in-None-clause-held :
    goal.returns-in_ok-did_performed-in-None-clause-held
returns-in_ok-did_performed-in-None-clause-held g c =
    c.in_ok-done-in-None.ensures.holds
    ∙ sym (did_held (asked_of c.args.call.now) c.in_ok-done-in-None.done
    (value (server.answers c.perform.new.self).table.site c.args.call.now.object)
    (g.T.DataType.held c.args.server.now))
    ∙ ap (λ (d : Did). held_then d.deeds
    (value (server.answers c.perform.new.self).table.site c.args.call.now.object)
    (g.T.DataType.held c.args.server.now)) (sym c.in_ok-did_performed-in-None.ensures.did)
