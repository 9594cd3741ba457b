use Rattle.std.proofs.Common.{◌≡◌, true, false, refl, sym, ◌∙◌}
use Rattle.cam_event.specs.History.{committed, aborted}
use Rattle.cam_report.proofs.States.{has_committed, has_aborted}
use Rattle.cam_report.proofs.action.Actions.state.Goals as goal

pub returns-then-contains : goal.returns-then-contains
returns-then-contains c = λ L g.
    let e : committed L c.args.action.now ≡ true = sym (has_committed L _ g.committed c.args.action.now) ∙ sym c.contains.ensures ∙ c.if-contains.true in
    rw e refl

pub returns-then-contains-2 : goal.returns-then-contains-2
returns-then-contains-2 c = λ L g.
    let e : committed L c.args.action.now ≡ false = sym (has_committed L _ g.committed c.args.action.now) ∙ sym c.contains.ensures ∙ c.if-contains.false in
    let f : aborted L c.args.action.now ≡ true = sym (has_aborted L _ g.aborted c.args.action.now) ∙ sym c.contains-else-contains.ensures ∙ c.if-contains-2.true in
    rw (e, f) refl

pub returns-else-contains-2 : goal.returns-else-contains-2
returns-else-contains-2 c = λ L g.
    let e : committed L c.args.action.now ≡ false = sym (has_committed L _ g.committed c.args.action.now) ∙ sym c.contains.ensures ∙ c.if-contains.false in
    let f : aborted L c.args.action.now ≡ false = sym (has_aborted L _ g.aborted c.args.action.now) ∙ sym c.contains-else-contains.ensures ∙ c.if-contains-2.false in
    rw (e, f) refl
