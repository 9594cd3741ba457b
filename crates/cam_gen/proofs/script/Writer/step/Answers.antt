-- A step by the draw of its kind.
use Rattle.std.proofs.Common.{◌≡◌, ◌∙◌, sym, arith, refl}
use Rattle.cam_gen.specs.Draws.{drawn}
use Rattle.cam_gen.specs.Script.{ask_step, commit_step, abort_step, begin_step, call_step, drain_step, restart_step, step_at}
use Rattle.cam_gen.proofs.DrawnSteps.{kind_step, restart_kind, calm_kind, begin_kind, call_kind, last_kind}
use Rattle.cam_gen.proofs.script.Writer.step.Goals as goal

pub returns-in-2 : goal.returns-in-2
returns-in-2 c =
    let k : step_at c.args.self.now.draws.state c.args.self.now.variables
    ≡ ask_step c.below.new.self.state c.args.self.now.variables =
    kind_step c.args.self.now.draws.state c.below.new.self.state c.args.self.now.variables
    c.below.result (omega (arith, c.if-self-eq0.false)) c.below.ensures.value c.below.ensures.state
    ∙ rw c.in-2.is refl in
    rw k c.ask.ensures

pub returns-in-6 : goal.returns-in-6
returns-in-6 c =
    let k : step_at c.args.self.now.draws.state c.args.self.now.variables
    ≡ commit_step c.below.new.self.state c.args.self.now.variables =
    kind_step c.args.self.now.draws.state c.below.new.self.state c.args.self.now.variables
    c.below.result (omega (arith, c.if-self-eq0.false)) c.below.ensures.value c.below.ensures.state
    ∙ rw c.in-6.is refl in
    rw k c.commit.ensures

pub returns-in-7 : goal.returns-in-7
returns-in-7 c =
    let k : step_at c.args.self.now.draws.state c.args.self.now.variables
    ≡ abort_step c.below.new.self.state c.args.self.now.variables =
    kind_step c.args.self.now.draws.state c.below.new.self.state c.args.self.now.variables
    c.below.result (omega (arith, c.if-self-eq0.false)) c.below.ensures.value c.below.ensures.state
    ∙ rw c.in-7.is refl in
    rw k c.abort.ensures

pub returns-in-0 : goal.returns-in-0
returns-in-0 c =
    let k : step_at c.args.self.now.draws.state c.args.self.now.variables
    ≡ begin_step c.below.new.self.state c.args.self.now.variables =
    kind_step c.args.self.now.draws.state c.below.new.self.state c.args.self.now.variables
    c.below.result (omega (arith, c.if-self-eq0.false)) c.below.ensures.value c.below.ensures.state
    ∙ begin_kind _ _ c.below.result (omega (arith, c.in-0)) in
    rw k c.begin-in-0.ensures

pub returns-in-3-to-5 : goal.returns-in-3-to-5
returns-in-3-to-5 c =
    let k : step_at c.args.self.now.draws.state c.args.self.now.variables
    ≡ call_step c.below.new.self.state c.args.self.now.variables =
    kind_step c.args.self.now.draws.state c.below.new.self.state c.args.self.now.variables
    c.below.result (omega (arith, c.if-self-eq0.false)) c.below.ensures.value c.below.ensures.state
    ∙ call_kind _ _ c.below.result (omega (arith, c.in-3-to-5)) (omega (arith, c.in-3-to-5)) in
    rw k c.call.ensures

pub returns-in_default : goal.returns-in_default
returns-in_default c =
    let k : step_at c.args.self.now.draws.state c.args.self.now.variables
    ≡ drain_step c.below.new.self.state c.args.self.now.variables =
    kind_step c.args.self.now.draws.state c.below.new.self.state c.args.self.now.variables
    c.below.result (omega (arith, c.if-self-eq0.false)) c.below.ensures.value c.below.ensures.state
    ∙ last_kind _ _ c.below.result (omega (arith, c.in_default)) in
    rw k c.drain-in_default.ensures

pub returns-then-below-eq0 : goal.returns-then-below-eq0
returns-then-below-eq0 c =
    let k : step_at c.args.self.now.draws.state c.args.self.now.variables
    ≡ restart_step c.below-in-8.new.self.state c.args.self.now.variables =
    kind_step c.args.self.now.draws.state c.below.new.self.state c.args.self.now.variables
    c.below.result (omega (arith, c.if-self-eq0.false)) c.below.ensures.value c.below.ensures.state
    ∙ rw c.in-8.is (restart_kind c.below.new.self.state c.below-in-8.new.self.state
    c.args.self.now.variables (sym c.below-in-8.ensures.value ∙ c.if-below-eq0.true)
    c.below-in-8.ensures.state) in
    rw k c.restart.ensures

pub returns-else-below-eq0 : goal.returns-else-below-eq0
returns-else-below-eq0 c =
    let k : step_at c.args.self.now.draws.state c.args.self.now.variables
    ≡ drain_step c.below-in-8.new.self.state c.args.self.now.variables =
    kind_step c.args.self.now.draws.state c.below.new.self.state c.args.self.now.variables
    c.below.result (omega (arith, c.if-self-eq0.false)) c.below.ensures.value c.below.ensures.state
    ∙ rw c.in-8.is (calm_kind c.below.new.self.state c.below-in-8.new.self.state
    c.args.self.now.variables (λ (e : drawn c.below.new.self.state 8 ≡ 0).
    omega (arith, e, c.below-in-8.ensures.value, c.if-below-eq0.false)) c.below-in-8.ensures.state)
    in
    rw k c.drain.ensures
