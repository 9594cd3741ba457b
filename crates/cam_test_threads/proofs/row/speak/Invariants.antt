use Rattle.cam_test_threads.proofs.row.speak.Given as goal

abbrev pub ghosts-speak_in : goal.ghosts-speak_in
ghosts-speak_in g a = record { journal = a.journal.id }
