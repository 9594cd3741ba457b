-- Node by node the least place of a letter that may go is found.
use Rattle.std.proofs.Common.{rules, ◌≡◌, suc, min, length, Some, ap, sym, ◌∙◌, arith}
use Rattle.std.specs.List.{position_or_len}
use Rattle.cam_net.specs.Waiting.{may_go, first_for, next_of}
use Rattle.cam_net.proofs.Next.{goes_within, none_within, all_within, next_is, no_next, first_with, first_without}
use Rattle.cam_net.proofs.net.Net.next.Goals.{then-not-is_halted, else-not-is_halted}
use Rattle.cam_net.proofs.net.Net.next.Goals as goal

pub loop-node-init : goal.loop-node-init
loop-node-init c =
    let all : c.len-least.result ≡ length c.self.inside.letters.items = search rules in
    record { least = all ∙ none_within c.args.halted.now c.self.inside.letters.items c.self.invariant.receivers }

pub loop-node-preserved : goal.loop-node-preserved
loop-node-preserved c =
    let letters = c.self.inside.letters.items in
    let node = c.loop-node.node in
    record {
      least = elim c.if-not-is_halted.branch [
        | then-not-is_halted w ↦
            w.least-is ∙ w.min-least.ensures
            ∙ ap (λ n. min c.loop-node.least n) (c.self.invariant.first node c.loop-node-test.true)
            ∙ ap (λ n. min n (first_for (suc node) letters)) c.loop-node.invariant.least
            ∙ sym (first_with c.args.halted.now node (sym c.is_halted.ensures ∙ w.if-not-is_halted.true) letters)
        | else-not-is_halted w ↦
            w.least-is ∙ c.loop-node.invariant.least
            ∙ sym (first_without c.args.halted.now node (sym c.is_halted.ensures ∙ w.if-not-is_halted.false) letters)
      ];
    }

pub returns-then-least-len : goal.returns-then-least-len
returns-then-least-len c =
    let letters = c.self.inside.letters.items in
    let halted = c.args.halted.now in
    let eight : c.loop-node.node ≡ 8 = search rules in
    let least : c.loop-node.least ≡ position_or_len (may_go halted) letters =
    c.loop-node.invariant.least ∙ ap (λ n. position_or_len (goes_within halted n) letters) eight ∙ all_within halted letters c.self.invariant.receivers in
    let all : c.len.result ≡ length letters = search rules in
    ap Some (omega (arith, least)) ∙ sym (next_is halted 1 letters (omega (arith, least, all, c.if-least-len.true))) ∙ ap (next_of halted) c.self.view_is

pub returns-else-least-len : goal.returns-else-least-len
returns-else-least-len c =
    let letters = c.self.inside.letters.items in
    let halted = c.args.halted.now in
    let eight : c.loop-node.node ≡ 8 = search rules in
    let least : c.loop-node.least ≡ position_or_len (may_go halted) letters =
    c.loop-node.invariant.least ∙ ap (λ n. position_or_len (goes_within halted n) letters) eight ∙ all_within halted letters c.self.invariant.receivers in
    let all : c.len.result ≡ length letters = search rules in
    sym (no_next halted 1 letters (omega (arith, least, all, c.if-least-len.false))) ∙ ap (next_of halted) c.self.view_is
