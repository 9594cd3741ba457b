use Rattle.std.proofs.Common.{◌≡◌, rules, ◌∙◌}
use Rattle.std.specs.BTreeMap.{get}
use Rattle.cam_event.specs.History.{call_of}
use Rattle.cam_live.specs.Tables.{call_cmp}
use Rattle.cam_live.proofs.Noting.{addressed_of}
use Rattle.cam_live.proofs.ledger.Ledger.call.Goals as goal

pub returns : goal.returns
returns c = λ objects L keeps.
    let found : c.copied.result ≡ get call_cmp c.args.self.now.tables.calls (c.args.action.now, c.args.number) = search rules in
    addressed_of c.copied.result (call_of L c.args.action.now c.args.number) (found ∙ keeps.tells.calls c.args.action.now c.args.number)
