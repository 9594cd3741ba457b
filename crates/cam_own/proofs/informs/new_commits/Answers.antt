use Rattle.std.proofs.Common.{not, true, ap, ◌∙◌, filter, drop, arith}
use Rattle.cam_event.specs.History.{informed}
use Rattle.cam_event.specs.Rules.{sorted_names}
use Rattle.cam_own.proofs.Gathering.{from_before}
use Rattle.cam_own.proofs.informs.new_commits.Goals as goal

pub loop-place-preserved : goal.loop-place-preserved
loop-place-preserved c = λ objects s L E keeps.
    let some = c.loop-place-test.true in
    let within = c.loop-place.auto.place in
    c.in_ok-note_commit.ensures objects s L E (drop c.loop-place.place c.args.commits.now) keeps (c.loop-place.invariant objects s L E keeps)
    ∙ ap (λ names. sorted_names (filter (λ a. not (informed L s a true)) names))
    (from_before c.args.commits.now c.loop-place.place _ (omega (arith, some)) (omega (arith, within)) c.index-commits-place.is)
