use Rattle.std.proofs.Common.{rules, ◌≡◌, [], ◌∷◌}
use Rattle.cam_recman.specs.Migrating.{version_entry}
use Rattle.cam_node.proofs.Moments.{first_readable}
use Rattle.cam_node.proofs.log.append_version.Goals as goal

pub returns-clause-readable : goal.returns-clause-readable
returns-clause-readable g c =
    let first : g.L.EntryLog.listed c.append.new.self ≡ version_entry ∷ [] = search rules in
    first_readable (g.L.EntryLog.listed c.append.new.self) first
