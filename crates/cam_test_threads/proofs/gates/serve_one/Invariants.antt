use Rattle.cam_test_threads.proofs.gates.serve_one.Given as goal

abbrev pub ghosts-serve_in : goal.ghosts-serve_in
ghosts-serve_in g a = record { journal = a.journal.id }
