-- The ranges of a run's letters and numbers.
use Rattle.cam_histories.proofs.Ranging.{performs_are_few, numbers_are_few}
use Rattle.cam_histories.proofs.Writing.{letters_are_in_range}
use Rattle.cam_histories.proofs.ranges.Goals as goal

pub returns-clause-letters : goal.returns-clause-letters
returns-clause-letters c = letters_are_in_range

pub returns-clause-performs : goal.returns-clause-performs
returns-clause-performs c = performs_are_few

pub returns-clause-numbers : goal.returns-clause-numbers
returns-clause-numbers c = numbers_are_few
