use Rattle.std.proofs.Common.{refl, sym, ◌∙◌}
use Rattle.cam_tranman.proofs.Changing.{without_among}
use Rattle.cam_tranman.proofs.homed.Homed.close_child.Goals as goal

pub returns : goal.returns
returns c =
    record {
      node = refl;
      count = refl;
      tops = refl;
      action = λ a. refl;
      call = λ a. refl;
      children = λ b. c.remove.ensures b ∙ sym (without_among c.args.child.now b c.args.self.now.children.names);
    }
