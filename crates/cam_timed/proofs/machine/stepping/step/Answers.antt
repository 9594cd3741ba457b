use Rattle.cam_timed.specs.Machine.{trace_of}
use Rattle.cam_timed.proofs.Deciding.{first_calm}
use Rattle.cam_timed.proofs.machine.stepping.step.Goals as goal

pub note_all-requires : goal.note_all-requires
note_all-requires c = first_calm c.args.turn.now.objects.now (trace_of c.args.shared.now) c.args.turn.now.node c.args.turn.now.input.now c.args.first c.requires.first

pub decide-requires-clause-keeps : goal.decide-requires-clause-keeps
decide-requires-clause-keeps c = record {
  own = c.in_ok-note_all.ensures.own c.args.turn.now.node _ _ c.requires.node.own;
  moment = c.requires.node.moment;
  all_nodes = c.in_ok-note_all.ensures.all_nodes _ c.requires.shared.all_nodes;
  untils = c.requires.shared.untils;
  letters = c.requires.shared.letters;
}

pub take_over-requires-clause-first : goal.take_over-requires-clause-first
take_over-requires-clause-first c = record {
  own = c.in_ok-note_all.ensures.own c.args.turn.now.node _ _ c.requires.node.own;
  moment = c.requires.node.moment;
  all_nodes = c.in_ok-note_all.ensures.all_nodes _ c.requires.shared.all_nodes;
  untils = c.requires.shared.untils;
  letters = c.requires.shared.letters;
}

pub take_over-requires-clause-first_calm : goal.take_over-requires-clause-first_calm
take_over-requires-clause-first_calm c = first_calm c.args.turn.now.objects.now (trace_of c.args.shared.now) c.args.turn.now.node c.args.turn.now.input.now c.args.first c.requires.first
