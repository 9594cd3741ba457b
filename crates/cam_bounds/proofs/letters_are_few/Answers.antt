-- An event sends few letters.
use Rattle.cam_bounds.proofs.Letters.{letters_are_few}
use Rattle.cam_bounds.proofs.letters_are_few.Goals as goal

pub returns : goal.returns
returns c = letters_are_few
