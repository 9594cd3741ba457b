use Rattle.std.proofs.Common.{◌≤◌, length, eqb, ◌&&◌, ◌||◌, ◌∙◌, arith}
use Rattle.cam_names.specs.Dependencies.{has_pair}
use Rattle.cam_plain.proofs.Dependent.{ask_step}
use Rattle.cam_plain.proofs.dependencies.take_ask.Goals as goal

pub returns : goal.returns
returns c =
    let named : 1 ≤ length c.args.action.now = omega (arith, c.depth.ensures.from, c.depth.ensures.value) in
    ask_step c.args.dependencies.now c.depend.new.dependencies c.args.action.now c.args.child.now c.add_pair.new.pairs named
    (λ s t. c.in_ok-add_pair.ensures s t ∙ (λ i. (eqb (c.home-home.ensures i).0 s && eqb (c.home-home.ensures i).1 t) || has_pair (c.in_ok-pairs.ensures i) s t))
    c.in_ok-depend.ensures
