-- The input of a line, put unless it is refused.
use Rattle.std.proofs.Common.{◌≡◌, ◌+◌, Err, refl, sym, ap, ◌∙◌, subst, rules, arith}
use Rattle.std.proofs.lemmas.Grind.{common_steps}
use Rattle.cam_net.specs.Waiting.{is_halted}
use Rattle.cam_cluster.specs.declared.LineFault.TheVariants as line_faults
use Rattle.cam_cluster.specs.InputLines.{IsTriedLine}
use Rattle.cam_cluster.proofs.AsSeen.{lines_of, part, reads_of}
use Rattle.cam_cluster.proofs.BeginEnds.{begin_may, begin_within}
use Rattle.cam_cluster.proofs.BegunLine.{unput_may_be_written}
use Rattle.cam_cluster.proofs.PlacedNodes.{after_is, seen_there, taken_there, one_there}
use Rattle.cam_cluster.proofs.TriedEnds.{place_of, tried_halted, tried_led, tried_lines, tried_may}
use Rattle.cam_cluster.proofs.TriedEnds.{tried_refused, tried_there, tried_wanting}
use Rattle.cam_cluster.proofs.lines.Lines.try_lead.Goals as goal

pub returns-then-is_halted-clause-disks : goal.returns-then-is_halted-clause-disks
returns-then-is_halted-clause-disks g c =
    c.refused.ensures.disks

pub returns-then-is_halted-clause-line : goal.returns-then-is_halted-clause-line
returns-then-is_halted-clause-line g c =
    let within = tried_there _ _ _ _ c.requires.to in
    let stops = ap (is_halted c.args.self.now.works.halted) (after_is c.args.place) ∙ sym
    c.is_halted.ensures ∙ c.if-is_halted.true in
    tried_halted _ _ _ _ _ _ _ within stops _ c.refused.ensures.refused

pub index-requires : goal.index-requires
index-requires g c =
    let within = tried_there _ _ _ _ c.requires.to in
    let item = place_of _ _ _ within in
    first_of (search rules, grind (arith, common_steps, item))

pub lead-requires-clause-place : goal.lead-requires-clause-place
lead-requires-clause-place g c =
    let within = tried_there _ _ _ _ c.requires.to in
    let some = tried_lines _ _ _ _ c.requires.to in
    begin_within _ _ _ some within

pub lead-requires-clause-may : goal.lead-requires-clause-may
lead-requires-clause-may g c =
    let old = lines_of g.L.CheckpointLog g.L.EntryLog c.args.self.now in
    let might = reads_of g.L.CheckpointLog g.L.EntryLog c.args.self.now.works in
    let within = tried_there c.args.place c.args.input.now old might c.requires.to in
    let item = place_of (part g.L.CheckpointLog g.L.EntryLog) c.args.self.now.works.nodes.items
    c.args.place within in
    let taken = taken_there c.args.self.now.works.nodes.items c.args.place c.index.result.now item
    c.index.ensures in
    let seen = seen_there (part g.L.CheckpointLog g.L.EntryLog) c.args.self.now.works.nodes.items
    c.args.place c.index.result.now taken in
    let some = tried_lines (c.args.place + 1) c.args.input.now old might c.requires.to in
    let runs = ap (is_halted c.args.self.now.works.halted) (after_is c.args.place) ∙ sym
    c.is_halted.ensures ∙ c.if-is_halted.false in
    one_there _ c.args.self.now.works.nodes.items c.args.place c.index.result.now taken (
      (begin_may old might c.args.place some within runs _ seen).0,
      c.in-None.ensures.free refl,
      tried_may c.args.line c.args.place c.args.input.now old old might might within
          c.requires.to runs _ seen
          (c.in-None.ensures.rule (begin_may old might c.args.place some within runs _ seen).0),
    )

pub lead-requires-clause-there : goal.lead-requires-clause-there
lead-requires-clause-there g c =
    let within = tried_there _ _ _ _ c.requires.to in
    (place_of _ _ _ within)

pub lead-requires-clause-writable : goal.lead-requires-clause-writable
lead-requires-clause-writable g c =
    let some = tried_lines _ _ _ _ c.requires.to in
    unput_may_be_written _ _ some

pub returns-in_err-lead-in-None-clause-disks : goal.returns-in_err-lead-in-None-clause-disks
returns-in_err-lead-in-None-clause-disks g c =
    c.lead.ensures.disks

pub returns-in_err-lead-in-None-clause-line : goal.returns-in_err-lead-in-None-clause-line
returns-in_err-lead-in-None-clause-line g c =
    let old = lines_of g.L.CheckpointLog g.L.EntryLog c.args.self.now in
    let might = reads_of g.L.CheckpointLog g.L.EntryLog c.args.self.now.works in
    let new = lines_of g.L.CheckpointLog g.L.EntryLog c.lead.new.self in
    let may = reads_of g.L.CheckpointLog g.L.EntryLog c.lead.new.self.works in
    let within = tried_there c.args.place c.args.input.now old might c.requires.to in
    let wants : c.from_residual.result ≡ Err line_faults.NoMemory = search rules in subst (λ r.
    IsTriedLine c.args.line (c.args.place + 1) c.args.input.now old might new may r) (sym wants)
    (tried_wanting c.args.line c.args.place c.args.input.now old new might may within
    c.in_err-lead-in-None.ensures.as_before)

pub returns-in-Some-clause-disks : goal.returns-in-Some-clause-disks
returns-in-Some-clause-disks g c =
    c.refused-in-Some.ensures.disks

pub returns-in-Some-clause-line : goal.returns-in-Some-clause-line
returns-in-Some-clause-line g c =
    let old = lines_of g.L.CheckpointLog g.L.EntryLog c.args.self.now in
    let might = reads_of g.L.CheckpointLog g.L.EntryLog c.args.self.now.works in
    let new = lines_of g.L.CheckpointLog g.L.EntryLog c.refused-in-Some.new.self in
    let may = reads_of g.L.CheckpointLog g.L.EntryLog c.refused-in-Some.new.self.works in
    let within = tried_there c.args.place c.args.input.now old might c.requires.to in
    let item = place_of (part g.L.CheckpointLog g.L.EntryLog) c.args.self.now.works.nodes.items
    c.args.place within in
    let taken = taken_there c.args.self.now.works.nodes.items c.args.place c.index.result.now item
    c.index.ensures in
    let seen = seen_there (part g.L.CheckpointLog g.L.EntryLog) c.args.self.now.works.nodes.items
    c.args.place c.index.result.now taken in
    let some = tried_lines (c.args.place + 1) c.args.input.now old might c.requires.to in
    let runs = ap (is_halted c.args.self.now.works.halted) (after_is c.args.place) ∙ sym
    c.is_halted.ensures ∙ c.if-is_halted.false in
    tried_refused c.args.line c.args.place c.args.input.now old new might may within
    c.in-Some.refusal runs _ seen
    (c.in-Some.ensures.rule (begin_may old might c.args.place some within runs _ seen).0)
    c.refused-in-Some.result
    c.refused-in-Some.ensures.refused

pub returns-in_ok-lead-in-None-clause-disks : goal.returns-in_ok-lead-in-None-clause-disks
returns-in_ok-lead-in-None-clause-disks g c =
    c.lead.ensures.disks

pub returns-in_ok-lead-in-None-clause-line : goal.returns-in_ok-lead-in-None-clause-line
returns-in_ok-lead-in-None-clause-line g c =
    let old = lines_of g.L.CheckpointLog g.L.EntryLog c.args.self.now in
    let might = reads_of g.L.CheckpointLog g.L.EntryLog c.args.self.now.works in
    let new = lines_of g.L.CheckpointLog g.L.EntryLog c.lead.new.self in
    let may = reads_of g.L.CheckpointLog g.L.EntryLog c.lead.new.self.works in
    let within = tried_there c.args.place c.args.input.now old might c.requires.to in
    let item = place_of (part g.L.CheckpointLog g.L.EntryLog) c.args.self.now.works.nodes.items
    c.args.place within in
    let taken = taken_there c.args.self.now.works.nodes.items c.args.place c.index.result.now item
    c.index.ensures in
    let seen = seen_there (part g.L.CheckpointLog g.L.EntryLog) c.args.self.now.works.nodes.items
    c.args.place c.index.result.now taken in
    let some = tried_lines (c.args.place + 1) c.args.input.now old might c.requires.to in
    let runs = ap (is_halted c.args.self.now.works.halted) (after_is c.args.place) ∙ sym
    c.is_halted.ensures ∙ c.if-is_halted.false in
    tried_led c.args.line c.args.place c.args.input.now old new might may within
    c.in_ok-lead-in-None.field-0 runs _ seen
    (c.in-None.ensures.rule (begin_may old might c.args.place some within runs _ seen).0)
    c.in_ok-lead-in-None.ensures.led
