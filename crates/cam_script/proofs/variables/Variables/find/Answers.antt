use Rattle.std.proofs.Common.{◌≡◌, ◌∙◌, List, ap, sym, subst}
use Rattle.std.specs.Prelude.{option_map, slice_get}
use Rattle.cam_script.specs.declared.variables.Bound.{Bound}
use Rattle.cam_script.specs.SoFar.{Variable}
use Rattle.cam_script.specs.Variables.{variable_of}
use Rattle.cam_script.specs.VariableTable.{bound_of}
use Rattle.cam_script.proofs.Tables.{none_found, found_at, lent_at}
use Rattle.cam_script.proofs.variables.Variables.find.Goals as goal

pub returns-in_err-place : goal.returns-in_err-place
returns-in_err-place c =
    let names = c.self.inside.names in
    let bounds = c.self.inside.bound.items in
    let name = c.args.name.now in
    subst (λ (vs : List Variable). c.from_residual.result ≡ option_map bound_of (variable_of vs name)) c.self.view_is
    (c.from_residual.ensures ∙ none_found names bounds name c.self.invariant (sym c.in_err-place.ensures.value))

pub returns : goal.returns
returns c =
    let names = c.self.inside.names in
    let bounds = c.self.inside.bound.items in
    let name = c.args.name.now in
    let got = c.copied.ensures ∙ lent_at c.deref.result.now c.in_ok-place.place c.get.result c.get.ensures.lookup ∙ ap (λ (bs : List Bound). slice_get bs c.in_ok-place.place) c.deref.ensures.value in
    subst (λ (vs : List Variable). c.copied.result ≡ option_map bound_of (variable_of vs name)) c.self.view_is
    (got ∙ found_at names bounds name c.in_ok-place.place c.self.invariant (sym c.in_ok-place.ensures.value))
