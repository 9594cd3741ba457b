use Rattle.std.proofs.Common.{◌<◌, ◌∙◌, List, ℕ, length, subst}
use Rattle.std.specs.Prelude.{IfSome}
use Rattle.cam_script.proofs.Tables.{place_within}
use Rattle.cam_script.proofs.name_table.NameTable.place_of.Goals as goal

pub returns-clause-within : goal.returns-clause-within
returns-clause-within c =
    subst (λ (names : List (List ℕ)). IfSome c.copied.result (λ place. place < length names)) c.self.view_is
    (place_within c.self.inside.list.items c.args.name.now c.copied.result (c.copied.ensures ∙ c.get.ensures.value ∙ c.self.invariant c.args.name.now))
