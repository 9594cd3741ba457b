use Rattle.std.specs.Prelude.{Some}
use Rattle.cam_journal.proofs.journal.Journal.record.Given as goal

abbrev pub ghosts-record_as : goal.ghosts-record_as
ghosts-record_as g a = record { told = Some a.event.now }
