use Rattle.cam_headline.proofs.SceneRun.{is_worked}
use Rattle.cam_headline.proofs.worked_scene.Goals as goal

pub returns : goal.returns
returns c = is_worked
