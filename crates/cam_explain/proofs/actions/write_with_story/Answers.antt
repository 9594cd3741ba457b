use Rattle.cam_explain.proofs.Joined.{three}
use Rattle.cam_explain.proofs.actions.write_with_story.Goals as goal

pub returns : goal.returns
returns c = three _ _ _ _ _ _ _ c.in_ok-write_head.ensures c.in_ok-push_str.ensures.bytes c.in_ok-write_if_open.ensures
