use Rattle.std.proofs.Common.{rules, ◌≡◌, ℕ, ◌<◌, ◌+◌, max, take_all, get_or, subst, arith, ◌≤◌}
use Rattle.std.proofs.lemmas.List.{get_or_default}
use Rattle.cam_past.specs.Tables.{table_of, AreWithin}
use Rattle.cam_past.proofs.Tables.{within_more}
use Rattle.cam_past.proofs.walk.table_count.Goals as goal

pub loop-node-preserved : goal.loop-node-preserved
loop-node-preserved c =
    let n : ℕ = get_or c.args.nodes.now c.loop-node.node-index 0 in
    let small : n < 256 = search rules in
    let more : c.max-count.result ≡ max c.loop-node.count (table_of n + 1) = search rules in
    let few : c.max-count.result ≤ 32 = search rules in
    (few, within_more c.loop-node.count c.max-count.result c.args.nodes.now c.loop-node.node-index n c.loop-node-test.true (get_or_default c.args.nodes.now c.loop-node.node-index 0 n c.loop-node-test.true) small more c.loop-node.invariant.1)

pub returns-clause-within : goal.returns-clause-within
returns-clause-within c = subst (AreWithin c.loop-node.count) (take_all c.loop-node.node-index c.args.nodes.now (omega (arith, c.loop-node-test.false))) c.loop-node.invariant.1
