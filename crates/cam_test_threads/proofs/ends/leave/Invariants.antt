use Rattle.cam_test_threads.proofs.ends.leave.Given as goal

abbrev pub ghosts-leave_in : goal.ghosts-leave_in
ghosts-leave_in a = record { journal = a.journal.id }
