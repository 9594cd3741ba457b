use Rattle.std.proofs.Common.{◌≡◌, List, sym, subst}
use Rattle.cam_script.specs.SoFar.{Variable, variable_names}
use Rattle.cam_script.proofs.Tables.{names_kept}
use Rattle.cam_script.proofs.variables.Variables.names.Goals as goal

pub returns : goal.returns
returns c =
    let names = c.self.inside.names in
    subst (λ (vs : List Variable). names ≡ variable_names vs) c.self.view_is (sym (names_kept names c.self.inside.bound.items c.self.invariant))
