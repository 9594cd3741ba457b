use Rattle.std.proofs.Common.{◌≡◌, List, [], ap, subst, ◌∙◌}
use Rattle.cam_script.specs.declared.Statement.{Statement}
use Rattle.cam_script.specs.SoFar.{Size, Writing}
use Rattle.cam_script.specs.Law.{sizes_behind}
use Rattle.cam_script.specs.BodyTable.{Bodies, capped, size_of, with_body_written}
use Rattle.cam_script.proofs.Sizes.{kept_more, written}
use Rattle.cam_script.proofs.body_table.BodyTable.push.Goals as goal

pub invariant_of-self-in-Ok : goal.invariant_of-self-in-Ok
invariant_of-self-in-Ok c =
    let bodies = c.self.inside.bodies in
    let statements = c.writing.inside.statements in
    let all : List Size = sizes_behind [] bodies in
    kept_more bodies c.push-3.new.self statements c.self.inside.sizes.items c.push-2.new.self.items c.size_of-size.result c.self.invariant c.in_ok-push-2.ensures.items
    (c.size_of-size.ensures all (c.as_slice-2.ensures.value ∙ c.self.invariant) ∙ ap (λ (ss : List Statement). capped (size_of all ss)) c.as_slice.ensures)
    c.in-Ok.ensures.ok

pub returns-in-Ok : goal.returns-in-Ok
returns-in-Ok c =
    let names = c.self.inside.names in
    let bodies = c.self.inside.bodies in
    let before : Bodies = record { names = names; bodies = bodies; sizes = sizes_behind [] bodies } in
    let after : Bodies = record { names = c.push.new.self; bodies = c.push-3.new.self; sizes = sizes_behind [] c.push-3.new.self } in
    subst (λ (t : Bodies). after ≡ with_body_written t c.args.writing) c.self.view_is
    (subst (λ (w : Writing). after ≡ with_body_written before w) c.writing.view_is
    (written names c.push.new.self bodies c.push-3.new.self c.writing.inside.name c.writing.inside.statements c.in_ok-push.ensures.ok c.in-Ok.ensures.ok))
