use Rattle.std.proofs.Common.{List, ◌∷◌, ◌++◌, [], take, refl, sym, ap, ◌∙◌}
use Rattle.std.proofs.lemmas.List.{take_all, take_more}
use Rattle.cam_names.specs.declared.name.Name.{Name}
use Rattle.cam_plain.specs.Sites.{crashed_family, crashed_families}
use Rattle.cam_plain.proofs.Crashing.{crashed_last}
use Rattle.cam_plain.proofs.site.crash_families.Goals as goal

pub loop-family-init : goal.loop-family-init
loop-family-init c = λ objects L keeps. refl

pub loop-family-preserved : goal.loop-family-preserved
loop-family-preserved c = λ objects L keeps.
    let fs = c.as_slice-family-items.result.now in
    let i = c.loop-family.family-index in
    let old = c.args.locks.now.site in
    c.in_ok-crash_family.ensures objects L keeps
    ∙ ap (crashed_family L c.args.site c.family-item.result) (c.loop-family.invariant objects L keeps)
    ∙ sym (crashed_last L c.args.site (take i fs) c.family-item.result old)
    ∙ ap (λ (gs : List Name). crashed_families L c.args.site gs old)
    (sym (take_more fs i c.family-item.result c.loop-family-test.true ∙ ap (λ (g : Name). take i fs ++ g ∷ []) (sym c.family-item.is)))

pub returns : goal.returns
returns c = λ objects L keeps.
    let fs = c.as_slice-family-items.result.now in
    let i = c.loop-family.family-index in
    c.loop-family.invariant objects L keeps
    ∙ ap (λ (gs : List Name). crashed_families L c.args.site gs c.args.locks.now.site) (take_all i fs c.loop-family-test.false ∙ c.as_slice-family-items.ensures)
