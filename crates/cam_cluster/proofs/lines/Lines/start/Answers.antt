-- The line `start`.
use Rattle.std.proofs.Common.{◌≡◌, ◌-◌, Err, sym, ap, ◌∙◌, subst, arith, rules}
use Rattle.cam_net.specs.Waiting.{is_halted}
use Rattle.cam_cluster.specs.declared.LineFault.TheVariants as line_faults
use Rattle.cam_cluster.proofs.AsSeen.{lines_of, part, reads_of}
use Rattle.cam_cluster.proofs.BeginEnds.{begin_may, begin_within}
use Rattle.cam_cluster.proofs.BegunLine.{unput_may_be_written}
use Rattle.cam_cluster.proofs.PlacedNodes.{after_is, each_there, seen_there, sees}
use Rattle.cam_cluster.proofs.StartEnds.{IsStart, start_halted, start_led, start_wanting}
use Rattle.cam_cluster.proofs.lines.Lines.start.Goals as goal

pub overflow_cast-place : goal.overflow_cast-place
overflow_cast-place g c =
    search rules

pub overflow_sub-place : goal.overflow_sub-place
overflow_sub-place g c =
    c.requires.low

pub returns-then-is_halted-clause-disks : goal.returns-then-is_halted-clause-disks
returns-then-is_halted-clause-disks g c =
    c.refused.ensures.disks

pub returns-then-is_halted-clause-line : goal.returns-then-is_halted-clause-line
returns-then-is_halted-clause-line g c =
    let there = sees _ _ _ (let low = c.requires.low in let node = c.requires.node in omega (
      arith,
      low,
      node,
    )) in
    let stops = ap (is_halted c.args.self.now.works.halted) (after_is (c.args.node - 1)) ∙ sym
    c.is_halted.ensures ∙ c.if-is_halted.true in
    start_halted _ _ _ (let low = c.requires.low in omega (arith, low)) _ _ _ _ there stops
    _ c.refused.ensures.refused

pub lead-requires-clause-place : goal.lead-requires-clause-place
lead-requires-clause-place g c =
    let there = sees _ _ _ (let low = c.requires.low in let node = c.requires.node in omega (
      arith,
      low,
      node,
    )) in
    begin_within _ _ _ c.requires.stand there

pub lead-requires-clause-may : goal.lead-requires-clause-may
lead-requires-clause-may g c =
    let old = lines_of g.L.CheckpointLog g.L.EntryLog c.args.self.now in
    let might = reads_of g.L.CheckpointLog g.L.EntryLog c.args.self.now.works in
    let there = sees (part g.L.CheckpointLog g.L.EntryLog) c.args.self.now.works.nodes.items
    (c.args.node - 1) (let low = c.requires.low in let node = c.requires.node in omega (
      arith,
      low,
      node,
    )) in
    let runs = ap (is_halted c.args.self.now.works.halted) (after_is (c.args.node - 1)) ∙ sym
    c.is_halted.ensures ∙ c.if-is_halted.false in
    each_there _ c.args.self.now.works.nodes.items (c.args.node - 1) (λ node at. let may =
    begin_may old might (c.args.node - 1) c.requires.stand there runs _ (seen_there (part
    g.L.CheckpointLog g.L.EntryLog) c.args.self.now.works.nodes.items (c.args.node - 1) node at) in
    (may.0, tt, may.1))

pub lead-requires-clause-there : goal.lead-requires-clause-there
lead-requires-clause-there g c =
    (let low = c.requires.low in let node = c.requires.node in omega (arith, low, node))

pub lead-requires-clause-writable : goal.lead-requires-clause-writable
lead-requires-clause-writable g c =
    unput_may_be_written _ _ c.requires.stand

pub returns-in_err-lead-clause-disks : goal.returns-in_err-lead-clause-disks
returns-in_err-lead-clause-disks g c =
    c.lead.ensures.disks

pub returns-in_err-lead-clause-line : goal.returns-in_err-lead-clause-line
returns-in_err-lead-clause-line g c =
    let wants : c.from_residual.result ≡ Err line_faults.NoMemory = search rules in rw wants
    (start_wanting _ (c.args.node - 1) _ (let low = c.requires.low in omega (arith, low)) _ _ _
    _ c.in_err-lead.ensures.as_before)

pub returns-clause-disks : goal.returns-clause-disks
returns-clause-disks g c =
    c.lead.ensures.disks

pub returns-clause-line : goal.returns-clause-line
returns-clause-line g c =
    let there = sees _ _ _ (let low = c.requires.low in let node = c.requires.node in omega (
      arith,
      low,
      node,
    )) in
    let runs = ap (is_halted c.args.self.now.works.halted) (after_is (c.args.node - 1)) ∙ sym
    c.is_halted.ensures ∙ c.if-is_halted.false in
    start_led _ _ _ (let low = c.requires.low in omega (
      arith,
      low,
    )) _ _ _ _ _ there runs c.in_ok-lead.ensures.led
