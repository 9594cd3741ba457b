use Rattle.std.proofs.Common.{◌≡◌, ◌∷◌, Some, cond, sym, ap, ◌∙◌, subst, rules, w64}
use Rattle.std.specs.Ordering.{is_eq}
use Rattle.std.specs.BTreeMap.{get}
use Rattle.cam_names.specs.Names.{name_cmp}
use mir.Val.{to_z, of_z}
use Rattle.cam_event.specs.declared.Deed.{Deed}
use Rattle.cam_report.specs.Gathered.{TellsValues}
use Rattle.cam_report.proofs.Viewing.{values_put}
use Rattle.cam_report.proofs.views.note_value.Goals as goal

pub returns-in_ok-insert : goal.returns-in_ok-insert
returns-in_ok-insert c = λ L before.
    let arm = c.in-AskCommit in
    let whole : to_z w64 (of_z w64 arm.value) ≡ arm.value = search rules in
    subst (λ (d : Deed). TellsValues (d ∷ L) c.insert.new.self) (sym arm.is)
    (values_put L arm.action arm.value c.args.values.now c.insert.new.self before
    (λ q. c.in_ok-insert.ensures.updates.0 q ∙ ap (λ v. cond (is_eq (name_cmp arm.action q)) (Some v) (get name_cmp c.args.values.now q)) whole))
