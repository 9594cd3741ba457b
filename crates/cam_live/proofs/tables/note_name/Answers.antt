use Rattle.cam_live.proofs.Noting.{name_put}
use Rattle.cam_live.proofs.tables.note_name.Goals as goal

pub returns-clause-noted : goal.returns-clause-noted
returns-clause-noted c = name_put c.args.site c.args.name.now c.args.names.now c.insert.new.self c.in_ok-insert.ensures.updates.0
