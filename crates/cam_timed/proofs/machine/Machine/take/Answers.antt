use Rattle.std.proofs.Common.{◌≡◌, ◌≤◌, ◌∷◌, ◌+◌, ◌-◌, ℕ, sym, ◌∙◌, subst, arith}
use Rattle.std.proofs.lemmas.List.{length-set}
use Rattle.std.proofs.lemmas.Option.{slice_get_read}
use Rattle.std.proofs.lemmas.Result.{on_ok_weaker}
use Rattle.cam_timed.specs.Here.{input_of}
use Rattle.cam_timed.specs.Machine.{KeepsNode, run_of}
use Rattle.cam_timed.specs.TimedRules.{timed_next}
use Rattle.cam_timed.proofs.Hearing.{hears_kept}
use Rattle.cam_timed.proofs.Machines.{nodes_after, run_after}
use Rattle.cam_timed.proofs.machine.Machine.take.Goals as goal

back : (s : ℕ) → 1 ≤ s → s - 1 + 1 ≡ s
back s some = omega (arith, some)

pub step-requires-clause-node : goal.step-requires-clause-node
step-requires-clause-node c =
    let s = c.args.turn.now.node in
    let from = c.requires.turn.range.0 in
    let to = c.requires.turn.range.1 in
    let node = c.index_mut.result.now in
    subst (λ (n : ℕ). KeepsNode c.args.turn.now.objects.now (run_of c.args.self.now) n node)
    (back s from)
    (c.requires.keeps.nodes (s - 1) node
    (slice_get_read c.args.self.now.nodes.items 8 (s - 1) node (sym c.requires.keeps.eight)
    (omega (arith, from, to)) c.index_mut.ensures.value))

pub returns : goal.returns
returns c =
    let objects = c.args.turn.now.objects.now in
    let s = c.args.turn.now.node in
    let T = run_of c.args.self.now in
    let input = c.args.turn.now.input.now in
    let e = timed_next objects T (input_of input) in
    let from = c.requires.turn.range.0 in
    let to = c.requires.turn.range.1 in
    let eight = c.requires.keeps.eight in
    on_ok_weaker c.hear.result
    (λ heard. record {
      run = run_after objects T input c.requires.keeps.run c.requires.turn.may;
      trace = c.in_ok-step.ensures.trace;
      eight = length-set c.args.self.now.nodes.items (s - 1) c.step.new.node ∙ eight;
      nodes =
          nodes_after objects T e (s - 1) c.args.self.now.nodes.items c.step.new.node
          (omega (arith, from, to, eight)) (c.requires.turn.node ∙ sym (back s from))
          (subst (λ (n : ℕ). KeepsNode objects (e ∷ T) n c.step.new.node) (sym (back s from))
          c.in_ok-step.ensures.node) c.requires.keeps.nodes;
      heard =
          hears_kept objects T s input c.args.turn.now.letter.now c.args.self.now.heard
          c.hear.new.heard c.requires.turn heard c.requires.keeps.heard;
      shared = c.in_ok-step.ensures.shared;
    }) c.hear.ensures
