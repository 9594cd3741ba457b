use Rattle.std.specs.Prelude.{Some}
use Rattle.cam_journal.proofs.journal.Journal.note.Given as goal

abbrev pub ghosts-note_as : goal.ghosts-note_as
ghosts-note_as g a = record { told = Some a.sent.now }
