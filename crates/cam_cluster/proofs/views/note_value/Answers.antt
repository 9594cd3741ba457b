-- The value of one more request to commit.
use Rattle.std.proofs.Common.{rules, ◌≡◌, ◌∷◌, ℤ, w64, sym, subst}
use mir.Val.{to_z, of_z}
use Rattle.cam_event.specs.declared.Deed.{Deed}
use Rattle.cam_event.specs.declared.Deed.TheVariants.{AskCommit}
use Rattle.cam_event.specs.Values.{HasValues}
use Rattle.cam_event.proofs.Viewed.{values_put}
use Rattle.cam_cluster.proofs.views.note_value.Goals as goal

pub returns-in_ok-insert : goal.returns-in_ok-insert
returns-in_ok-insert c = λ L before.
    let arm = c.in-AskCommit in
    let whole : to_z w64 (of_z w64 arm.value) ≡ arm.value = search rules in
    rw arm.is (rw (← whole) (values_put L _ _ c.args.values.now c.insert.new.self before
    c.in_ok-insert.ensures.updates.0))
