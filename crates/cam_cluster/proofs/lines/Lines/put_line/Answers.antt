-- A line that puts one input.
use Rattle.std.proofs.Common.{ℤ, arith, sym, subst, w64}
use Rattle.std.proofs.lemmas.Int.{to_z-of_z}
use Rattle.cam_event.specs.declared.Want.TheVariants as wants
use Rattle.cam_event.specs.Inputs.{Begins, Tells}
use Rattle.cam_script.specs.declared.Act.TheVariants as acts
use Rattle.cam_cluster.specs.VariableLines.{action_of, give_up_of, query_of, request_of}
use Rattle.cam_cluster.proofs.SeenLines.{IsNext, IsVariableLineAs, begin_node, input_as, letter_as}
use Rattle.cam_cluster.proofs.SeenLines.{next_as, stands_before, start_node, variable_as}
use Rattle.cam_cluster.proofs.Takes.{puts_none}
use Rattle.cam_cluster.proofs.lines.Lines.put_line.Goals as goal

pub begin-requires : goal.begin-requires
begin-requires g c =
    let within =
    begin_node _ c.args.self.now _ c.in-Begin.is c.requires.next in
    record {
      low = within.0;
      node = within.1;
      stand = stands_before _ c.args.self.now c.requires.next;
    }

pub start-requires : goal.start-requires
start-requires g c =
    let within =
    start_node _ c.args.self.now _ _ c.in-Start.is c.requires.next in record {
      low = within.0;
      node = within.1;
      stand = stands_before _ c.args.self.now c.requires.next;
    }

pub ask-requires : goal.ask-requires
ask-requires g c = record {
  next = next_as _ c.args.self.now _ c.in-Ask.is c.requires.next;
}

pub call-requires : goal.call-requires
call-requires g c = record {
  next = next_as _ c.args.self.now _ c.in-Call.is c.requires.next;
}

pub abort-requires : goal.abort-requires
abort-requires g c = record {
  next = next_as _ c.args.self.now _ c.in-Abort.is c.requires.next;
}

pub give_up-requires : goal.give_up-requires
give_up-requires g c = record {
  next = next_as _ c.args.self.now _ c.in-GiveUp.is c.requires.next;
}

pub tell-requires : goal.tell-requires
tell-requires g c = record {
  next = next_as _ c.args.self.now _ c.in-Tell.is c.requires.next;
}

pub query-requires : goal.query-requires
query-requires g c = record {
  next = next_as _ c.args.self.now _ c.in-Query.is c.requires.next;
}

pub commit-requires : goal.commit-requires
commit-requires g c = record {
  next =
      rw (to_z-of_z w64 c.in-Commit.value (omega (arith, c.in-Commit.value-1-given))) (next_as _ c.args.self.now _ c.in-Commit.is c.requires.next);
}

pub deliver-requires : goal.deliver-requires
deliver-requires g c = record {
  stand = stands_before _ c.args.self.now c.requires.next;
}

pub unreachable-requires : goal.unreachable-requires
unreachable-requires g c = puts_none _ c.requires.input c.in-Go.is

pub unreachable-unreachable : goal.unreachable-unreachable
unreachable-unreachable g c = absurd (puts_none _ c.requires.input c.in-Go.is)

pub returns-in-Begin : goal.returns-in-Begin
returns-in-Begin g c = record {
  line =
      input_as c.args.step.now c.args.self.now c.begin.new.self c.begin.result
      c.requires.input _ (Begins c.in-Begin.node) c.in-Begin.is c.begin.ensures.line;
  disks = c.begin.ensures.disks;
}

pub returns-in-Start : goal.returns-in-Start
returns-in-Start g c = record {
  line =
      input_as c.args.step.now c.args.self.now c.start.new.self c.start.result
      c.requires.input _ (Begins c.in-Start.node) c.in-Start.is
      (c.start.ensures.line c.in-Start.body);
  disks = c.start.ensures.disks;
}

pub returns-in-Ask : goal.returns-in-Ask
returns-in-Ask g c = record {
  line =
      variable_as c.args.step.now c.args.self.now c.ask.new.self c.ask.result c.requires.input _
      (request_of (action_of c.args.self.now.bound.items c.in-Ask.parent)
      (wants.Ask c.in-Ask.node))
      c.in-Ask.is c.ask.ensures.line;
  disks = c.ask.ensures.disks;
}

pub returns-in-Call : goal.returns-in-Call
returns-in-Call g c = record {
  line =
      variable_as c.args.step.now c.args.self.now c.call.new.self c.call.result c.requires.input _
      (request_of (action_of c.args.self.now.bound.items c.in-Call.action)
      (wants.Call c.in-Call.object c.in-Call.op))
      c.in-Call.is c.call.ensures.line;
  disks = c.call.ensures.disks;
}

pub returns-in-Commit : goal.returns-in-Commit
returns-in-Commit g c = record {
  line =
      variable_as c.args.step.now c.args.self.now c.commit.new.self c.commit.result c.requires.input
      _ (request_of (action_of c.args.self.now.bound.items c.in-Commit.action) (wants.Commit
      c.in-Commit.value)) c.in-Commit.is (rw (← (to_z-of_z w64 c.in-Commit.value (omega (
        arith,
        c.in-Commit.value-1-given,
      )))) c.commit.ensures.line);
  disks = c.commit.ensures.disks;
}

pub returns-in-Abort : goal.returns-in-Abort
returns-in-Abort g c = record {
  line =
      variable_as c.args.step.now c.args.self.now c.abort.new.self c.abort.result c.requires.input _
      (request_of (action_of c.args.self.now.bound.items c.in-Abort.action) wants.Abort)
      c.in-Abort.is c.abort.ensures.line;
  disks = c.abort.ensures.disks;
}

pub returns-in-GiveUp : goal.returns-in-GiveUp
returns-in-GiveUp g c = record {
  line =
      variable_as c.args.step.now c.args.self.now c.give_up.new.self c.give_up.result
      c.requires.input _
      (give_up_of (action_of c.args.self.now.bound.items c.in-GiveUp.action)
      (action_of c.args.self.now.bound.items c.in-GiveUp.child))
      c.in-GiveUp.is c.give_up.ensures.line;
  disks = c.give_up.ensures.disks;
}

pub returns-in-Tell : goal.returns-in-Tell
returns-in-Tell g c = record {
  line =
      input_as c.args.step.now c.args.self.now c.tell.new.self c.tell.result
      c.requires.input _ (Tells c.in-Tell.node c.in-Tell.to) c.in-Tell.is c.tell.ensures.line;
  disks = c.tell.ensures.disks;
}

pub returns-in-Query : goal.returns-in-Query
returns-in-Query g c = record {
  line =
      variable_as c.args.step.now c.args.self.now c.query.new.self c.query.result c.requires.input _
      (query_of c.in-Query.node (action_of c.args.self.now.bound.items c.in-Query.action))
      c.in-Query.is c.query.ensures.line;
  disks = c.query.ensures.disks;
}

pub returns-in-Deliver : goal.returns-in-Deliver
returns-in-Deliver g c = record {
  line =
      letter_as c.args.step.now c.args.self.now c.deliver.new.self c.deliver.result
      c.requires.input c.in-Deliver.letter c.in-Deliver.is c.deliver.ensures.line;
  disks = c.deliver.ensures.disks;
}
