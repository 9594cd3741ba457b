use Rattle.cam_test_locks.proofs.locks.histories.+action.Given as goal

abbrev pub decreases-action : goal.decreases-action
decreases-action l = l.place
