use Rattle.cam_test_threads.proofs.workers.talk.Given as goal

abbrev pub ghosts-talk_in : goal.ghosts-talk_in
ghosts-talk_in g a = record { journal = a.journal.id }
