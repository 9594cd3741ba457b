use Rattle.std.proofs.Common.{◌≡◌, true, take}
use Rattle.std.specs.List.{list_all}
use Rattle.cam_server.specs.Ahead.{is_apart}
use Rattle.cam_server.proofs.server.Server.is_apart.Given as goal

abbrev pub invariant-loop-outcome : goal.invariant-loop-outcome
invariant-loop-outcome l = list_all (is_apart l.self.table.site) (take l.outcome-index l.outcome-items) ≡ true
