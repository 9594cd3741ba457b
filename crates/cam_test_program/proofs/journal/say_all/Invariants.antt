use Rattle.std.proofs.Common.{◌≡◌}
use Rattle.cam_test_program.proofs.journal.say_all.Given as goal

abbrev pub invariant-loop-number : goal.invariant-loop-number
invariant-loop-number l = (l.seat.journal ≡ l.fn.seat.journal) × (l.seat.node ≡ l.fn.seat.node)
