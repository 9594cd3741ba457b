-- The data server of the object's kind does a call.
use Rattle.cam_node.specs.Calls.{answers}
use Rattle.cam_node.specs.Served.{asked_of}
use Rattle.cam_node.proofs.Elsewhere.{unfit_there}
use Rattle.cam_node.proofs.state.Core.call_of_kind.Goals as goal

pub call_elsewhere-requires-clause-elsewhere : goal.call_elsewhere-requires-clause-elsewhere
call_elsewhere-requires-clause-elsewhere g c = record {
  asked = asked_of c.args.call.now;
  call = c.requires.call;
  unfit =
      unfit_there c.table-table.result.now (answers c.args.self.now).server.table c.args.call.now.object
      c.args.call.now.op c.takes.result c.table-table.ensures c.takes.ensures c.if-not-takes.true;
}
