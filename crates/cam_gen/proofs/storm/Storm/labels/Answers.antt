use Rattle.std.proofs.Common.{◌≡◌, ◌++◌, ◌+◌, ◌∙◌}
use Rattle.std.specs.Prelude.{codes, decimal}
use Rattle.cam_gen.proofs.StormNumbers.{mapped_more}
use Rattle.cam_gen.proofs.storm.Storm.labels.Goals as goal

pub loop-before-preserved : goal.loop-before-preserved
loop-before-preserved c =
    let one : c.new.result ≡ codes "r" ++ decimal (c.loop-before.before + 1) =
    c.new.ensures ∙ c.in_ok-format.ensures.ok in
    c.in_ok-push.ensures.ok
    ∙ mapped_more (λ i. codes "r" ++ decimal i) c.loop-before.before c.new.result
    c.loop-before.labels c.loop-before.invariant one
