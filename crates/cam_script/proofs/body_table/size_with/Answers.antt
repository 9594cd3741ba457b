use Rattle.std.proofs.Common.{◌≡◌, sym, ap, subst, ◌∙◌}
use Rattle.std.specs.Prelude.{min, max}
use Rattle.cam_script.specs.SoFar.{Size}
use Rattle.cam_script.specs.declared.Statement.{Statement}
use Rattle.cam_script.specs.BodyTable.{capped, size_with}
use Rattle.cam_script.proofs.Sizes.{child_with}
use Rattle.cam_script.proofs.body_table.size_with.Goals as goal

pub returns-in-Child : goal.returns-in-Child
returns-in-Child c = λ all exact is_sizes is_size.
    let s = c.in-Child in
    let size : Size = record { cost = c.size.inside.cost; nesting = c.size.inside.nesting } in
    let child : Size = record { cost = c.child.inside.cost; nesting = c.child.inside.nesting } in
    let after : Size = record { cost = c.dear-in-Child.result; nesting = c.min.result } in
    subst (λ (t : Statement). after ≡ capped (size_with all exact t)) (sym s.is)
    (child_with all exact s.tries s.node s.body size child c.dear-in-Child.result c.min.result (c.size.view_is ∙ is_size) (c.child.view_is ∙ c.size_at-child.ensures all is_sizes) c.dear-in-Child.ensures
    (c.min.ensures ∙ ap (λ n. min n 9) (c.max.ensures ∙ ap (max size.nesting) c.saturating_add.ensures)))
