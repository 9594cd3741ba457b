use Rattle.std.proofs.Common.{rules, arith, refl, inl}
use Rattle.cam_shrink.proofs.Rounds.{nothing_cut}
use Rattle.cam_shrink.proofs.shrinking.try_cut.Goals as goal

pub returns-then-len : goal.returns-then-len
returns-then-len g c =
    inl (refl, nothing_cut (g.T.Test.answers c.args.test.now) c.args.cut.now c.args.kept.now c.in_ok-left.left (search rules) (grind arith))
