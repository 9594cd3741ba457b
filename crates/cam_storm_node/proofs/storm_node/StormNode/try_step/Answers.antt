-- A step is what its node took, with what the storm node makes of it.
use Rattle.std.proofs.Common.{◌<◌, sym, subst, arith}
use Rattle.cam_event.specs.declared.Event.{Event}
use Rattle.cam_journal.specs.Taking.{letter_in}
use Rattle.cam_node.specs.Calls.{answers}
use Rattle.cam_storm.specs.Core.{used_by}
use Rattle.cam_storm.specs.Lawful.{carried, own_history}
use Rattle.cam_storm_node.specs.declared.receipts.Receipts.{Receipts}
use Rattle.cam_storm_node.specs.Playing.{StormNodeFields}
use Rattle.cam_storm_node.specs.Receipts.{times_in}
use Rattle.cam_storm_node.specs.Taking.{HasTaken}
use Rattle.cam_storm_node.proofs.Handed.{can_take}
use Rattle.cam_storm_node.proofs.Played.{busy_runs, may_take}
use Rattle.cam_storm_node.proofs.Stepped.{may_follow, stepped}
use Rattle.cam_storm_node.proofs.Steps.{few_times, goes_there, not_true, own_length, sent_to}
use Rattle.cam_storm_node.proofs.TookInput.{few_taken}
use Rattle.cam_storm_node.proofs.storm_node.StormNode.try_step.Goals as goal

pub take-requires-clause-can : goal.take-requires-clause-can
take-requires-clause-can g c =
    let can = c.requires.can in
    let old : StormNodeFields = record {
      storm = c.args.self.now.storm;
      node = answers c.args.self.now.node.core;
      objects = c.args.self.now.node.objects;
      entries = g.L.EntryLog.listed c.args.self.now.node.log.log;
      halted = c.args.self.now.node.log.halted;
      faults = g.L.EntryLog.faults_within c.args.self.now.node.log.log;
      lost = c.args.self.now.lost;
      events = c.args.self.now.events;
      tops = c.args.self.now.tops;
      copies = c.args.self.now.copies;
      works = c.args.self.now.works;
      next = c.args.self.now.next;
      receipts = c.args.self.now.receipts;
    } in
    can_take g.W.Storming.words old can.node can.history c.args.item can.replay.plays
    (not_true _ c.requires.busy) can.room can.letter

pub follow-requires-clause-events : goal.follow-requires-clause-events
follow-requires-clause-events g c =
    let can = c.requires.can in
    let old : StormNodeFields = record {
      storm = c.args.self.now.storm;
      node = answers c.args.self.now.node.core;
      objects = c.args.self.now.node.objects;
      entries = g.L.EntryLog.listed c.args.self.now.node.log.log;
      halted = c.args.self.now.node.log.halted;
      faults = g.L.EntryLog.faults_within c.args.self.now.node.log.log;
      lost = c.args.self.now.lost;
      events = c.args.self.now.events;
      tops = c.args.self.now.tops;
      copies = c.args.self.now.copies;
      works = c.args.self.now.works;
      next = c.args.self.now.next;
      receipts = c.args.self.now.receipts;
    } in
    let may =
    may_take g.W.Storming.words old can.node can.history can.replay.plays
    (busy_runs old c.args.item (not_true _ c.requires.busy)) in
    let events = may.events in
    let whole = own_length can.history in
    let only = c.take.ensures.only.events in
    let room = can.room in
    omega (arith, events, whole, only, room)

pub follow-requires-clause-receipts : goal.follow-requires-clause-receipts
follow-requires-clause-receipts g c =
    let words = g.W.Storming.words in
    let can = c.requires.can in
    let item = c.args.item in
    let busy = not_true _ c.requires.busy in
    let old : StormNodeFields = record {
      storm = c.args.self.now.storm;
      node = answers c.args.self.now.node.core;
      objects = c.args.self.now.node.objects;
      entries = g.L.EntryLog.listed c.args.self.now.node.log.log;
      halted = c.args.self.now.node.log.halted;
      faults = g.L.EntryLog.faults_within c.args.self.now.node.log.log;
      lost = c.args.self.now.lost;
      events = c.args.self.now.events;
      tops = c.args.self.now.tops;
      copies = c.args.self.now.copies;
      works = c.args.self.now.works;
      next = c.args.self.now.next;
      receipts = c.args.self.now.receipts;
    } in
    let taken = c.in_ok-taken.taken in
    let after = c.take.new.self in
    few_taken words can.node (own_history can.history) item taken.stepped.event
    taken.stepped.letters taken.finish (answers after.node.core)
    (g.L.EntryLog.listed after.node.log.log) after.receipts
    (c.in_ok-taken.ensures.taken words can.node (own_history can.history)
    (may_take words old can.node can.history can.replay.plays (busy_runs old item busy))
    (goes_there words can.node (letter_in item) can.letter))
    (λ k place d is.
    subst (λ (rs : Receipts). times_in rs k place < 255) (sym c.take.ensures.only.receipts)
    (few_times words can.node old item busy can.letter k place d is))

pub returns-in-Ok-clause-stepped : goal.returns-in-Ok-clause-stepped
returns-in-Ok-clause-stepped g c s history plays item =
    let words = g.W.Storming.words in
    let given = c.args.item in
    let own = own_history history in
    let e = c.in-Ok.stepped in
    let busy = not_true _ c.requires.busy in
    let old : StormNodeFields = record {
      storm = c.args.self.now.storm;
      node = answers c.args.self.now.node.core;
      objects = c.args.self.now.node.objects;
      entries = g.L.EntryLog.listed c.args.self.now.node.log.log;
      halted = c.args.self.now.node.log.halted;
      faults = g.L.EntryLog.faults_within c.args.self.now.node.log.log;
      lost = c.args.self.now.lost;
      events = c.args.self.now.events;
      tops = c.args.self.now.tops;
      copies = c.args.self.now.copies;
      works = c.args.self.now.works;
      next = c.args.self.now.next;
      receipts = c.args.self.now.receipts;
    } in
    let sent = sent_to words s c.requires.can.node (letter_in given) item c.requires.can.letter in
    let is = c.in-Ok.ensures.event in
    let taken = c.in_ok-taken.taken in
    let mid : StormNodeFields = record {
      storm = c.take.new.self.storm;
      node = answers c.take.new.self.node.core;
      objects = c.take.new.self.node.objects;
      entries = g.L.EntryLog.listed c.take.new.self.node.log.log;
      halted = c.take.new.self.node.log.halted;
      faults = g.L.EntryLog.faults_within c.take.new.self.node.log.log;
      lost = c.take.new.self.lost;
      events = c.take.new.self.events;
      tops = c.take.new.self.tops;
      copies = c.take.new.self.copies;
      works = c.take.new.self.works;
      next = c.take.new.self.next;
      receipts = c.take.new.self.receipts;
    } in
    let only = c.take.ensures.only in
    let took =
    subst
    (λ (ev : Event).
    HasTaken words s own given ev taken.stepped.letters taken.finish mid.node mid.entries) (sym is)
    (c.in_ok-taken.ensures.taken words s own
    (may_take words old s history plays (busy_runs old given busy)) item) in
    stepped words s history given old plays busy sent mid only e taken.stepped.letters
    taken.finish took
    _
    (c.in-Ok.ensures.followed words s plays.sent own (carried e (used_by e given)) is
    (may_follow words s history given old plays busy sent mid only e taken.stepped.letters
    taken.finish took))
