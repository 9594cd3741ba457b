use Rattle.std.proofs.Common.{◌∙◌, List, ℕ, ◌∷◌, [], ◌++◌, ap}
use Rattle.cam_script.specs.NameTable.{place_in}
use Rattle.cam_script.proofs.Tables.{pushed}
use Rattle.cam_script.proofs.name_table.NameTable.push.Goals as goal

pub invariant_of-self-3 : goal.invariant_of-self-3
invariant_of-self-3 c =
    let names = c.self.inside.list.items in
    pushed names c.push_reserved.new.self.items c.args.name c.as_bytes.result.now c.len-place.result (place_in c.self.inside.places) (place_in c.put.new.places) c.self.invariant c.in_ok-put.ensures.ok
    (c.as_bytes.ensures.value ∙ c.as_str.ensures) (c.len-place.ensures ∙ c.self.inside.list.ok.0)
    (c.push_reserved.ensures.items ∙ ap (λ (ns : List (List ℕ)). ns ++ c.args.name ∷ []) c.reserve.ensures.items)
