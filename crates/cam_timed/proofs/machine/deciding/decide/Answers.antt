use Rattle.std.proofs.Common.{Option, ap, ◌∙◌}
use Rattle.cam_event.specs.Inputs.{Mail}
use Rattle.cam_event.specs.Rules.{Did}
use Rattle.cam_timed.specs.Here.{input_of}
use Rattle.cam_timed.specs.KeptSights.{kept_sight}
use Rattle.cam_timed.specs.Machine.{trace_of}
use Rattle.cam_timed.specs.Moments.{events}
use Rattle.cam_timed.specs.TimedRules.{pause_by, timed_got_of, timed_rule}
use Rattle.cam_timed.specs.Turns.{taken}
use Rattle.cam_timed.specs.Untils.{until_in}
use Rattle.cam_timed.proofs.Deciding.{decided_next, decided_calm}
use Rattle.cam_timed.proofs.Standing.{stand_here}
use Rattle.cam_timed.proofs.TimedSees.{input_early}
use Rattle.cam_timed.proofs.machine.deciding.decide.Goals as goal

pub made-requires-clause-stands : goal.made-requires-clause-stands
made-requires-clause-stands c =
    let T = trace_of c.args.shared.now in
    let input = input_of c.args.turn.now.input.now in
    stand_here c.args.turn.now.objects.now T c.args.turn.now.node (timed_got_of input) c.args.first.now c.args.node.now.own c.args.shared.now.all_nodes
    c.requires.turn.run (input_early c.args.turn.now.objects.now T input c.requires.turn.may) c.requires.turn.range c.requires.first
    c.requires.keeps.own c.requires.keeps.all_nodes

pub returns-clause-event : goal.returns-clause-event
returns-clause-event c =
    let T = trace_of c.args.shared.now in
    ap (λ (d : Did). taken c.args.turn.now.node c.args.turn.now.letter.now c.args.first.now
    (record { did = d; moment = c.moment_by-moment.result; until = c.until_given.result; pause = c.pause_by-pause.result })) c.paused.ensures
    ∙ decided_next c.args.turn.now.objects.now T c.args.turn.now.node c.args.turn.now.input.now c.args.turn.now.letter.now c.args.first.now
    c.args.node.now.moment c.moment_by-moment.result c.until_given.result (until_in c.args.shared.now.untils) _ c.pause_by-pause.result
    c.requires.turn c.requires.first c.requires.keeps.moment c.requires.keeps.untils
    (c.in_ok-did.ensures ∙ ap (λ (m : Option Mail). timed_rule c.args.turn.now.objects.now
    (kept_sight c.args.turn.now.objects.now (events T) c.args.turn.now.node c.args.first.now) m (input_of c.args.turn.now.input.now)) c.mail_of.ensures)
    (c.moment_by-moment.ensures T) (c.until_given.ensures T c.requires.keeps.untils)
    (c.pause_by-pause.ensures ∙ ap (λ (d : Did). pause_by (until_in c.args.shared.now.untils) c.moment_by-moment.result (input_of c.args.turn.now.input.now) d.deeds) c.did.view_is)

pub returns-clause-calm : goal.returns-clause-calm
returns-clause-calm c =
    decided_calm c.args.turn.now.objects.now (trace_of c.args.shared.now) c.args.turn.now.node c.args.turn.now.input.now c.args.turn.now.letter.now
    c.args.first.now (record { did = c.paused.result; moment = c.moment_by-moment.result; until = c.until_given.result; pause = c.pause_by-pause.result })
    c.requires.turn.run c.requires.turn.may (returns-clause-event c)
