-- What letters carry from when they are sent.
use Rattle.cam_histories.proofs.Staying.{letters_are_sent, letters_stay}
use Rattle.cam_histories.proofs.sending.Goals as goal

pub returns-clause-sent : goal.returns-clause-sent
returns-clause-sent c = letters_are_sent

pub returns-clause-stay : goal.returns-clause-stay
returns-clause-stay c = letters_stay
