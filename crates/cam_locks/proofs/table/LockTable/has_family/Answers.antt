use Rattle.std.proofs.Common.{ap, ◌∙◌}
use Rattle.std.specs.List.{list_any}
use Rattle.cam_locks.specs.Calls.{is_of}
use Rattle.cam_locks.proofs.table.LockTable.has_family.Goals as goal

pub returns : goal.returns
returns c = c.has_family.ensures ∙ ap (λ v. list_any (is_of c.args.family.now) v.site.live) c.self.view_is
