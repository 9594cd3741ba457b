use Rattle.cam_image.proofs.Behind.{shown_is_recovered}
use Rattle.cam_image.proofs.laws.inspections.Goals as goal

pub returns : goal.returns
returns c = record { recovered = shown_is_recovered }
