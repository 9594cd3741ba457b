-- The line `begin`.
use Rattle.std.proofs.Common.{◌≡◌, ◌-◌, Err, sym, ap, ◌∙◌, subst, arith, rules}
use Rattle.cam_net.specs.Waiting.{is_halted}
use Rattle.cam_event.specs.Inputs.{Begins}
use Rattle.cam_script.specs.declared.Act.TheVariants as acts
use Rattle.cam_cluster.specs.declared.LineFault.TheVariants as line_faults
use Rattle.cam_cluster.specs.SoFar.{IsLineOfInput}
use Rattle.cam_cluster.proofs.AsSeen.{lines_of, part, reads_of}
use Rattle.cam_cluster.proofs.BeginEnds.{begin_led, begin_may, begin_refused, begin_wanting}
use Rattle.cam_cluster.proofs.BeginEnds.{begin_within}
use Rattle.cam_cluster.proofs.BegunLine.{unput_may_be_written}
use Rattle.cam_cluster.proofs.PlacedNodes.{after_is, each_there, seen_there, sees}
use Rattle.cam_cluster.proofs.lines.Lines.begin.Goals as goal

pub overflow_cast-place : goal.overflow_cast-place
overflow_cast-place g c =
    search rules

pub overflow_sub-place : goal.overflow_sub-place
overflow_sub-place g c =
    c.requires.low

pub returns-in_err-refuse-clause-disks : goal.returns-in_err-refuse-clause-disks
returns-in_err-refuse-clause-disks g c =
    c.refuse.ensures.disks

pub returns-in_err-refuse-clause-line : goal.returns-in_err-refuse-clause-line
returns-in_err-refuse-clause-line g c =
    let wants : c.from_residual.result ≡ Err line_faults.NoMemory = search rules in
    rw wants (begin_wanting _ (c.args.node - 1) _ (let low = c.requires.low in omega (arith, low))
    _ _ _ _ c.in_err-refuse.ensures.as_before)

pub returns-then-is_halted-clause-disks : goal.returns-then-is_halted-clause-disks
returns-then-is_halted-clause-disks g c =
    c.refuse.ensures.disks

pub returns-then-is_halted-clause-line : goal.returns-then-is_halted-clause-line
returns-then-is_halted-clause-line g c =
    begin_refused _ _ _ (let low = c.requires.low in omega (arith, low)) _ _ _ _ (sees _ _
    _ (let low = c.requires.low in let node = c.requires.node in omega (arith, low, node))) (ap
    (is_halted c.args.self.now.works.halted) (after_is (c.args.node - 1)) ∙ sym c.is_halted.ensures
    ∙ c.if-is_halted.true) c.in_ok-refuse.ensures.refused

pub lead-requires-clause-place : goal.lead-requires-clause-place
lead-requires-clause-place g c =
    begin_within _ _ _ c.requires.stand (sees _ _ _ (let low = c.requires.low in let node =
    c.requires.node in omega (arith, low, node)))

pub lead-requires-clause-may : goal.lead-requires-clause-may
lead-requires-clause-may g c =
    each_there _ c.args.self.now.works.nodes.items (c.args.node - 1) (λ node at.
    let may = begin_may (lines_of g.L.CheckpointLog g.L.EntryLog c.args.self.now)
    (reads_of g.L.CheckpointLog g.L.EntryLog c.args.self.now.works) (c.args.node - 1)
    c.requires.stand
    (sees (part g.L.CheckpointLog g.L.EntryLog) c.args.self.now.works.nodes.items (c.args.node - 1)
    (let low = c.requires.low in let node = c.requires.node in omega (arith, low, node)))
    (ap (is_halted c.args.self.now.works.halted) (after_is (c.args.node - 1))
    ∙ sym c.is_halted.ensures ∙ c.if-is_halted.false) _
    (seen_there (part g.L.CheckpointLog g.L.EntryLog) c.args.self.now.works.nodes.items
    (c.args.node - 1) node at) in (may.0, tt, may.1))

pub lead-requires-clause-there : goal.lead-requires-clause-there
lead-requires-clause-there g c =
    (let low = c.requires.low in let node = c.requires.node in omega (arith, low, node))

pub lead-requires-clause-writable : goal.lead-requires-clause-writable
lead-requires-clause-writable g c =
    unput_may_be_written _ _ c.requires.stand

pub returns-in_err-lead-clause-disks : goal.returns-in_err-lead-clause-disks
returns-in_err-lead-clause-disks g c =
    c.lead.ensures.disks

pub returns-in_err-lead-clause-line : goal.returns-in_err-lead-clause-line
returns-in_err-lead-clause-line g c =
    let wants : c.from_residual-in_err-lead.result ≡ Err line_faults.NoMemory = search rules in
    rw wants (begin_wanting _ (c.args.node - 1) _ (let low = c.requires.low in omega (arith, low))
    _ _ _ _ c.in_err-lead.ensures.as_before)

pub returns-clause-disks : goal.returns-clause-disks
returns-clause-disks g c =
    c.lead.ensures.disks

pub returns-clause-line : goal.returns-clause-line
returns-clause-line g c =
    begin_led _ _ _ (let low = c.requires.low in omega (arith, low)) _ _ _ _ _ (sees _ _
    _ (let low = c.requires.low in let node = c.requires.node in omega (arith, low, node))) (ap
    (is_halted c.args.self.now.works.halted) (after_is (c.args.node - 1)) ∙ sym c.is_halted.ensures
    ∙ c.if-is_halted.false) c.in_ok-lead.ensures.led
