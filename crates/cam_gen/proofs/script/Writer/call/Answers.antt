-- A call is its start and an operation.
use Rattle.std.proofs.Common.{◌≡◌, ℕ, sym, subst, arith, string_bytes}
use Rattle.std.proofs.lemmas.Grind.{common_steps}
use Rattle.cam_gen.specs.Writes.{Writes}
use Rattle.cam_gen.specs.Script.{operation_step}
use Rattle.cam_gen.proofs.DrawnSteps.{call_writes, on_ok, register_word, queue_word}
use Rattle.cam_gen.proofs.script.Writer.call.Goals as goal

pub returns-in_ok-write : goal.returns-in_ok-write
returns-in_ok-write c =
    let word = register_word c.below-object.result c.if-object-lt3.true in
    on_ok c.register_operation.result
    (λ w. call_writes (string_bytes c.args.self.now.text) (string_bytes c.write.new.self)
    c.register_operation.new.self c.below.result c.below-object.result c.below-operation.result
    c.args.self.now.draws.state c.below.new.self.state c.below-object.new.self.state
    c.below-operation.new.self.state c.args.self.now.variables
    c.below.ensures.value c.below.ensures.state c.below-object.ensures.value
    c.below-object.ensures.state
    c.below-operation.ensures.value c.below-operation.ensures.state
    (grind (arith, common_steps, word, c.in_ok-write.ensures.bytes))
    (w c.below-object.result c.if-object-lt3.true))
    c.register_operation.ensures

pub returns-in_ok-write-2 : goal.returns-in_ok-write-2
returns-in_ok-write-2 c =
    let three : c.below-object.result
    ≡ 3 = omega (arith, c.if-object-lt3.false, c.below-object.ensures.range) in
    let word = queue_word c.below-object.result three in
    on_ok c.queue_operation.result
    (λ w. call_writes (string_bytes c.args.self.now.text)
    (string_bytes c.write-else-object-lt3.new.self) c.queue_operation.new.self c.below.result
    c.below-object.result c.below-operation.result
    c.args.self.now.draws.state c.below.new.self.state c.below-object.new.self.state
    c.below-operation.new.self.state c.args.self.now.variables
    c.below.ensures.value c.below.ensures.state c.below-object.ensures.value
    c.below-object.ensures.state
    c.below-operation.ensures.value c.below-operation.ensures.state
    (grind (arith, common_steps, word, c.in_ok-write-2.ensures.bytes))
    (subst (λ (object : ℕ). Writes (string_bytes c.write-else-object-lt3.new.self)
    c.queue_operation.new.self (operation_step object c.below-operation.result
    c.below-operation.new.self.state c.args.self.now.variables)) (sym three) w))
    c.queue_operation.ensures
