use Rattle.std.proofs.Common.{◌≡◌, false, true, ◌∷◌, ap, sym, subst, ◌∙◌}
use Rattle.cam_names.specs.Names.{is_child}
use Rattle.cam_event.specs.declared.Deed.{Deed}
use Rattle.cam_cut.specs.Watched.{Watches}
use Rattle.cam_cut.proofs.Watching.{finished_put, finished_same}
use Rattle.cam_cut.proofs.watch.Watch.note.Goals as goal

pub returns-in_ok-insert-in-AskCommit : goal.returns-in_ok-insert-in-AskCommit
returns-in_ok-insert-in-AskCommit c = λ L a has.
    let arm = c.in-AskCommit in
    let w = c.args.self.now in
    let child : is_child a arm.action ≡ true = ap (λ p. is_child p arm.action) (sym has.action) ∙ sym c.is_parent.ensures ∙ c.if-is_parent.true in
    subst (λ (d : Deed). Watches (d ∷ L) a (record { action = w.action; created = w.created; finished = c.insert.new.self })) (sym arm.is) (record {
      action = has.action;
      created = has.created;
      finished = finished_put L a arm.action arm.value w c.insert.new.self has child c.in_ok-insert-in-AskCommit.ensures.updates.0;
    })

pub returns-else-is_parent : goal.returns-else-is_parent
returns-else-is_parent c = λ L a has.
    let arm = c.in-AskCommit in
    let w = c.args.self.now in
    let other : is_child a arm.action ≡ false = ap (λ p. is_child p arm.action) (sym has.action) ∙ sym c.is_parent.ensures ∙ c.if-is_parent.false in
    subst (λ (d : Deed). Watches (d ∷ L) a w) (sym arm.is) (record {
      action = has.action;
      created = has.created;
      finished = finished_same L a arm.action arm.value w has other;
    })
