-- The nodes between which letters go.
use Rattle.cam_histories.proofs.LettersAmong.{inputs_stay_among, letters_go_among}
use Rattle.cam_histories.proofs.addressees.Goals as goal

pub returns-clause-letters : goal.returns-clause-letters
returns-clause-letters c = letters_go_among

pub returns-clause-inputs : goal.returns-clause-inputs
returns-clause-inputs c = inputs_stay_among
