use Rattle.std.proofs.Common.{◌≡◌, ◌∙◌, List, [], ◌∷◌, ◌++◌, ap, subst}
use Rattle.cam_script.specs.declared.variables.Bound.{Bound}
use Rattle.cam_script.specs.SoFar.{Variable}
use Rattle.cam_script.specs.VariableTable.{named, all_named}
use Rattle.cam_script.proofs.Tables.{variables_more}
use Rattle.cam_script.proofs.variables.Variables.push.Goals as goal

pub returns-clause-ok : goal.returns-clause-ok
returns-clause-ok c =
    let names = c.self.inside.names in
    let bounds = c.self.inside.bound.items in
    let after = c.push_reserved.new.self.items in
    subst (λ (vs : List Variable). all_named c.push.new.self after ≡ vs ++ named c.args.name c.args.bound ∷ []) c.self.view_is
    (variables_more names c.push.new.self bounds after c.args.name c.args.bound c.self.invariant c.in_ok-push.ensures.ok
    (c.push_reserved.ensures.items ∙ ap (λ (bs : List Bound). bs ++ c.args.bound ∷ []) c.reserve.ensures.items))
