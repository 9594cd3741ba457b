use Rattle.std.proofs.Common.{◌≤◌, length, sym, ap, ◌∙◌, ℕ, not, nat_eq, arith}
use Rattle.std.specs.List.{list_any}
use Rattle.cam_names.specs.Names.{is_child}
use Rattle.cam_tranman.specs.Children.{ChildrenView}
use Rattle.cam_tranman.proofs.Counting.{some_number}
use Rattle.cam_tranman.proofs.children.Children.has_any.Goals as goal

pub returns : goal.returns
returns c =
    let named : 1 ≤ length c.args.action.now = omega (arith, c.depth.ensures.from, c.depth.ensures.value) in
    ap (λ (n : ℕ). not (nat_eq n 0)) (c.number_in.ensures ∙ c.self.invariant c.args.action.now named)
    ∙ sym (some_number c.args.action.now c.self.inside.names.keys)
    ∙ ap (λ (v : ChildrenView). list_any (is_child c.args.action.now) v.names) c.self.view_is
