-- What a round may expect of an action.
use Rattle.std.proofs.Common.{◌≤◌, ◌-◌, ℕ, Some, sym, ap, ◌∙◌, subst, rules, arith}
use Rattle.std.proofs.lemmas.Grind.{common_steps}
use Rattle.cam_net.specs.Waiting.{is_halted}
use Rattle.cam_cluster.proofs.AsSeen.{part, reads_of, works_of}
use Rattle.cam_cluster.proofs.Outlooks.{goes_where_free, halted_waits, outlook_there}
use Rattle.cam_cluster.proofs.Outlooks.{over_where_ended, stopped_is_over, waits_where_refused}
use Rattle.cam_cluster.proofs.PlacedNodes.{after_is, seen_there, taken_there}
use Rattle.cam_cluster.proofs.TriedEnds.{place_of}
use Rattle.cam_cluster.proofs.VariableEnds.{home_place}
use Rattle.cam_cluster.proofs.works.Works.outlook.Goals as goal

pub returns-then-was_stopped : goal.returns-then-was_stopped
returns-then-was_stopped g c =
    stopped_is_over c.args.name.now _ _ _ (λ st caught. sym c.if-was_stopped.true ∙
    c.was_stopped.ensures st caught)

pub overflow_cast-place : goal.overflow_cast-place
overflow_cast-place g c =
    search rules

pub overflow_sub-place : goal.overflow_sub-place
overflow_sub-place g c =
    subst (λ (p : ℕ × ℕ). 1 ≤ p.0) (sym c.home.ensures) c.requires.home.placed.0

pub returns-then-is_halted : goal.returns-then-is_halted
returns-then-is_halted g c =
    let some = c.requires.home in
    let home = sym (home_place _ _ _ c.home.ensures some.placed.0) in
    let place = c.home.result.0 - 1 in
    let told = ap (is_halted c.args.self.now.halted) (after_is place) ∙ sym c.is_halted.ensures ∙
    c.if-is_halted.true in
    halted_waits _ _ _ some _ home _ told

pub index-requires : goal.index-requires
index-requires g c =
    let reads = reads_of g.L.CheckpointLog g.L.EntryLog c.args.self.now in
    let some = c.requires.home in
    let home = sym (home_place _ _ _ c.home.ensures some.placed.0) in
    let within = outlook_there c.args.name.now _ reads some _ home in
    let item = place_of _ _ _ within in
    first_of (search rules, grind (arith, common_steps, item))

pub returns-in-None : goal.returns-in-None
returns-in-None g c =
    let works = works_of g.L.CheckpointLog g.L.EntryLog c.args.self.now in
    let reads = reads_of g.L.CheckpointLog g.L.EntryLog c.args.self.now in
    let some = c.requires.home in
    let home = sym (home_place c.home.result _ _ c.home.ensures some.placed.0) in
    let place = c.home.result.0 - 1 in
    let within = outlook_there c.args.name.now works reads some place home in
    let item = place_of (part g.L.CheckpointLog g.L.EntryLog) c.args.self.now.nodes.items
    place within in
    let taken = taken_there c.args.self.now.nodes.items place c.index.result.now item
    c.index.ensures in
    let seen = seen_there (part g.L.CheckpointLog g.L.EntryLog) c.args.self.now.nodes.items
    place c.index.result.now taken in
    let awake = ap (is_halted c.args.self.now.halted) (after_is place) ∙ sym c.is_halted.ensures
    ∙ c.if-is_halted.false in
    goes_where_free c.args.name.now works reads some place home c.args.workers.now awake
    (λ st caught. sym c.if-was_stopped.false ∙ c.was_stopped.ensures st caught) _ seen
    c.refusal.result (c.refusal.ensures.rule ((some.keeps.nodes place _ seen).is_halted ∙ awake)) c.in-None.is

pub returns-in-Some-Ended : goal.returns-in-Some-Ended
returns-in-Some-Ended g c =
    let works = works_of g.L.CheckpointLog g.L.EntryLog c.args.self.now in
    let reads = reads_of g.L.CheckpointLog g.L.EntryLog c.args.self.now in
    let some = c.requires.home in
    let home = sym (home_place c.home.result _ _ c.home.ensures some.placed.0) in
    let place = c.home.result.0 - 1 in
    let within = outlook_there c.args.name.now works reads some place home in
    let item = place_of (part g.L.CheckpointLog g.L.EntryLog) c.args.self.now.nodes.items
    place within in
    let taken = taken_there c.args.self.now.nodes.items place c.index.result.now item
    c.index.ensures in
    let seen = seen_there (part g.L.CheckpointLog g.L.EntryLog) c.args.self.now.nodes.items
    place c.index.result.now taken in
    let awake = ap (is_halted c.args.self.now.halted) (after_is place) ∙ sym c.is_halted.ensures
    ∙ c.if-is_halted.false in
    over_where_ended c.args.name.now works reads some place home c.args.workers.now awake
    (λ st caught. sym c.if-was_stopped.false ∙ c.was_stopped.ensures st caught) _ seen
    c.refusal.result (c.refusal.ensures.rule ((some.keeps.nodes place _ seen).is_halted ∙ awake))
    (c.in-Some-Ended.is ∙ ap Some c.in-Some-Ended.field-0-is)

pub returns : goal.returns
returns g c =
    let works = works_of g.L.CheckpointLog g.L.EntryLog c.args.self.now in
    let reads = reads_of g.L.CheckpointLog g.L.EntryLog c.args.self.now in
    let some = c.requires.home in
    let home = sym (home_place c.home.result _ _ c.home.ensures some.placed.0) in
    let place = c.home.result.0 - 1 in
    let within = outlook_there c.args.name.now works reads some place home in
    let item = place_of (part g.L.CheckpointLog g.L.EntryLog) c.args.self.now.nodes.items
    place within in
    let taken = taken_there c.args.self.now.nodes.items place c.index.result.now item
    c.index.ensures in
    let seen = seen_there (part g.L.CheckpointLog g.L.EntryLog) c.args.self.now.nodes.items
    place c.index.result.now taken in
    let awake = ap (is_halted c.args.self.now.halted) (after_is place) ∙ sym c.is_halted.ensures
    ∙ c.if-is_halted.false in
    waits_where_refused c.args.name.now works reads some place home c.args.workers.now awake
    (λ st caught. sym c.if-was_stopped.false ∙ c.was_stopped.ensures st caught) _ seen
    c.refusal.result (c.refusal.ensures.rule ((some.keeps.nodes place _ seen).is_halted ∙ awake)) c.in-Some.field-0 c.in-Some.is
