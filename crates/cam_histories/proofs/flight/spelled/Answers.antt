-- The bytes of a network of a run.
use Rattle.cam_histories.proofs.LetterBytes.{unput_may_be_written, bytes_are_spellings, cuts_are_fronts}
use Rattle.cam_histories.proofs.ManyPut.{all_may_be_written, some_put_stand}
use Rattle.cam_histories.proofs.flight.spelled.Goals as goal

pub returns-clause-may : goal.returns-clause-may
returns-clause-may c = unput_may_be_written

pub returns-clause-bytes : goal.returns-clause-bytes
returns-clause-bytes c = bytes_are_spellings

pub returns-clause-cut : goal.returns-clause-cut
returns-clause-cut c = cuts_are_fronts

pub returns-clause-all : goal.returns-clause-all
returns-clause-all c = all_may_be_written

pub returns-clause-some : goal.returns-clause-some
returns-clause-some c = some_put_stand
