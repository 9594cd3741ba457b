-- One entry is changed, and for a commit that of the parent too.
use Rattle.std.proofs.Common.{ap, ◌∙◌}
use Rattle.cam_know.specs.Index.{with_abort, with_commit, with_child}
use Rattle.cam_know.proofs.Noting.{abort_noted, top_noted, child_noted}
use Rattle.cam_know.proofs.index.Index.note.Goals as goal

pub returns-in-Aborted-clause-value : goal.returns-in-Aborted-clause-value
returns-in-Aborted-clause-value c =
    rw c.in-Aborted.is
    (abort_noted c.args.self.now c.set.new.self c.in-Aborted.name c.with_abort.result (c.with_abort.ensures ∙ ap with_abort c.entry.ensures) c.set.ensures.value)

pub returns-in-Some-clause-value : goal.returns-in-Some-clause-value
returns-in-Some-clause-value c =
    let d = c.in-Committed.deps in
    rw c.in-Committed.is
    (child_noted c.args.self.now c.set-in-Committed.new.self c.set-in-Some.new.self c.in-Committed.name d c.in-Some.parent c.with_commit.result c.with_child.result c.in-Some.ensures.value
    (c.with_commit.ensures ∙ ap with_commit c.entry-in-Committed.ensures) c.set-in-Committed.ensures.value
    (c.with_child.ensures ∙ ap (with_child d) c.entry-in-Some.ensures) c.set-in-Some.ensures.value)

pub returns-in_default-clause-value : goal.returns-in_default-clause-value
returns-in_default-clause-value c =
    rw c.in-Committed.is
    (top_noted c.args.self.now c.set-in-Committed.new.self c.in-Committed.name c.in-Committed.deps c.with_commit.result c.in_default.ensures.value
    (c.with_commit.ensures ∙ ap with_commit c.entry-in-Committed.ensures) c.set-in-Committed.ensures.value)
