-- The letters of a run.
use Rattle.cam_histories.proofs.Sent.{letters_may_be_put, halted_letters_may_be_put, whole_letters_may_be_put}
use Rattle.cam_histories.proofs.letters.Goals as goal

pub returns-clause-plain : goal.returns-clause-plain
returns-clause-plain c = letters_may_be_put

pub returns-clause-halted : goal.returns-clause-halted
returns-clause-halted c = halted_letters_may_be_put

pub returns-clause-whole : goal.returns-clause-whole
returns-clause-whole c = whole_letters_may_be_put
