use Rattle.std.proofs.Common.{◌≡◌, ◌<◌, ◌≤◌, [], ◌∷◌, ℕ, ◌+◌, length, refl, subst, arith}
use Rattle.std.proofs.lemmas.Bool.Decides.{nat_tests}
use Rattle.cam_hall.specs.declared.served.End.TheVariants as ends
use Rattle.cam_hall.specs.Serving.{IsServed}
use Rattle.cam_hall.proofs.Tallied.{steps_within, empty_within, served_quiet, served_spent}
use Rattle.cam_hall.proofs.worker.serve.Goals as goal

pub loop-taken-init : goal.loop-taken-init
loop-taken-init g c = ([], record { steps_are = refl; empty_are = refl }, refl, tt)

pub add-requires : goal.add-requires
add-requires g c =
    let kept = c.loop-taken.invariant in
    let steps = steps_within kept.0 in
    let empty = empty_within kept.0 in
    let steps_are = kept.1.steps_are in
    let empty_are = kept.1.empty_are in
    let long = kept.2 in
    (omega (arith, steps, steps_are, long), omega (arith, empty, empty_are, long))

pub loop-taken-preserved : goal.loop-taken-preserved
loop-taken-preserved g c =
    let kept = c.loop-taken.invariant in
    let turn = c.in_ok-turn.turn in
    let tallied = c.add.ensures kept.0 kept.1 in
    let empty_are = tallied.empty_are in
    let long = kept.2 in
    (turn ∷ kept.0, tallied, omega (arith, long), (grind (arith, nat_tests), kept.3))

pub returns-then-quiet : goal.returns-then-quiet
returns-then-quiet g c =
    let kept = c.loop-taken.invariant in
    let turn = c.in_ok-turn.turn in
    let tallied = c.add.ensures kept.0 kept.1 in
    let long = kept.2 in
    let quiet : 4096 ≤ c.add.new.self.empty = grind (arith, nat_tests) in
    let within : length kept.0 < c.args.turns = omega (arith, long) in (
      turn ∷ kept.0,
      subst (λ (n : ℕ). IsServed c.args.turns (turn ∷ kept.0)
          (record { steps = c.add.new.self.steps; turns = n + 1; end = ends.Quiet })) long
          (served_quiet c.args.turns turn kept.0 c.add.new.self tallied within kept.3 quiet),
    )

pub returns : goal.returns
returns g c =
    let kept = c.loop-taken.invariant in
    let long = kept.2 in
    let all : length kept.0 ≡ c.args.turns = omega (arith, long) in
    (kept.0, served_spent c.args.turns kept.0 c.loop-taken.tally kept.1 all kept.3)
