use Rattle.cam_recman.proofs.Again.{entries_are_read}
use Rattle.cam_recman.proofs.Exactly.{read_is_written}
use Rattle.cam_recman.proofs.laws.entries.Goals as goal

pub returns-clause-read : goal.returns-clause-read
returns-clause-read c = entries_are_read

pub returns-clause-exactly : goal.returns-clause-exactly
returns-clause-exactly c = read_is_written
