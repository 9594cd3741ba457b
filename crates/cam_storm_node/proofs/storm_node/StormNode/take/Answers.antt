-- What the node did is what it took for the item.
use Rattle.std.proofs.Common.{◌≡◌, ◌<◌, ◌≤◌, List, length, Option, true, false, sym, ap, ◌∙◌, subst, arith}
use Rattle.std.specs.Prelude.{option_map}
use Rattle.std.proofs.lemmas.Result.{IfOk-weaker}
use Rattle.cam_type.specs.declared.ObjectDecl.{ObjectDecl}
use Rattle.cam_event.specs.declared.Letter.{Letter}
use Rattle.cam_event.specs.declared.Request.{Request}
use Rattle.cam_node.specs.declared.Input.TheVariants as puts
use Rattle.cam_node.specs.Calls.{answers}
use Rattle.cam_node.specs.Keeping.{KeepsNode}
use Rattle.cam_node.specs.MayStep.{MayStep}
use Rattle.cam_journal.specs.declared.input.CoreInput.{CoreInput}
use Rattle.cam_journal.specs.Taking.{letter_in}
use Rattle.cam_gen.specs.Storms.{tops_of, restarts_at}
use Rattle.cam_storm.specs.Core.{IsLeastDrive}
use Rattle.cam_storm.specs.Events.{Copied}
use Rattle.cam_storm_node.specs.Playing.{StormNodeFields, IsNextRequest}
use Rattle.cam_storm_node.specs.Taking.{HasPut, MayReceive}
use Rattle.cam_storm_node.proofs.Played.{has_next}
use Rattle.cam_storm_node.proofs.Steps.{not_true}
use Rattle.cam_storm_node.proofs.Puts.{begin_allowed, letter_allowed, request_allowed}
use Rattle.cam_storm_node.proofs.TookInput.{begin_taken, received_taken, request_taken, restart_taken}
use Rattle.cam_storm_node.proofs.storm_node.StormNode.take.Goals as goal

pub returns-then-self-clause-taken : goal.returns-then-self-clause-taken
returns-then-self-clause-taken g c =
    IfOk-weaker c.put.result _ _
    (λ taken put words s own may item.
    let old = c.args.self.now in
    let low = c.if-self.true in
    let events = may.events in
    let tops = may.tops in
    let few : length own < tops_of words s = omega (arith, low, events, tops) in
    begin_taken words s own old.node.objects may.objects _ may.number taken.stepped.event
    taken.stepped.letters taken.finish _ c.put.ensures.only.number _ c.args.item few
    (put own
    (subst
    (λ (os : List ObjectDecl).
    KeepsNode os own (answers old.node.core) (g.L.EntryLog.listed old.node.log.log))
    (sym may.objects) may.node)))
    c.put.ensures.put

pub returns-then-restarts_at-clause-taken : goal.returns-then-restarts_at-clause-taken
returns-then-restarts_at-clause-taken g c =
    IfOk-weaker c.restart.result _ _
    (λ taken restarted words s own may item.
    let old = c.args.self.now in
    let high = c.if-self.false in
    let events = may.events in
    let tops = may.tops in
    let all : tops_of words s ≤ length own = omega (arith, high, events, tops) in
    let due : restarts_at words (length own) ≡ true =
    sym (λ i. restarts_at (may.words_are i) (may.events i)) ∙ sym c.restarts_at.ensures
    ∙ c.if-restarts_at.true in
    restart_taken words s own old.node.objects may.objects _ may.number taken.stepped.event
    taken.stepped.letters taken.finish _ c.restart.ensures.only.number _ c.args.item all due
    (restarted own
    (subst
    (λ (os : List ObjectDecl).
    KeepsNode os own (answers old.node.core) (g.L.EntryLog.listed old.node.log.log))
    (sym may.objects) may.node)))
    c.restart.ensures.restarted

pub returns-in-Letter-clause-taken : goal.returns-in-Letter-clause-taken
returns-in-Letter-clause-taken g c =
    IfOk-weaker c.put-in-Letter.result _ _
    (λ taken put words s own may item.
    let old = c.args.self.now in
    let high = c.if-self.false in
    let events = may.events in
    let tops = may.tops in
    let all : tops_of words s ≤ length own = omega (arith, high, events, tops) in
    let none : restarts_at words (length own) ≡ false =
    sym (λ i. restarts_at (may.words_are i) (may.events i)) ∙ sym c.restarts_at.ensures
    ∙ c.if-restarts_at.false in
    received_taken words s own old.node.objects may.objects _ may.number taken.stepped.event
    taken.stepped.letters taken.finish _ c.put-in-Letter.ensures.only.number _ c.args.item
    c.in-Letter.number c.in-Letter.place c.in-Letter.letter c.in-Letter.is all none
    (subst
    (λ (l : Letter).
    HasPut old.node.objects own
    (puts.Letter (record { event = c.in-Letter.number; place = c.in-Letter.place }) l)
    (answers old.node.core) taken.stepped.event taken.stepped.letters taken.finish
    (answers c.put-in-Letter.new.self.node.core)
    (g.L.EntryLog.listed c.put-in-Letter.new.self.node.log.log))
    (ap (λ (k : Copied). k.letter) c.letter.view_is)
    (put own
    (subst
    (λ (os : List ObjectDecl).
    KeepsNode os own (answers old.node.core) (g.L.EntryLog.listed old.node.log.log))
    (sym may.objects) may.node))))
    c.put-in-Letter.ensures.put

pub returns-in-Some-clause-taken : goal.returns-in-Some-clause-taken
returns-in-Some-clause-taken g c =
    IfOk-weaker c.put-in-Drive.result _ _
    (λ taken put words s own may item.
    let old = c.args.self.now in
    let high = c.if-self.false in
    let events = may.events in
    let tops = may.tops in
    let all : tops_of words s ≤ length own = omega (arith, high, events, tops) in
    let none : restarts_at words (length own) ≡ false =
    sym (λ i. restarts_at (may.words_are i) (may.events i)) ∙ sym c.restarts_at.ensures
    ∙ c.if-restarts_at.false in
    request_taken words s own old.node.objects may.objects _ may.number taken.stepped.event
    taken.stepped.letters taken.finish _ c.put-in-Drive.ensures.only.number _ c.args.item
    c.in-Some.request c.in-Drive.is all none
    (subst
    (λ (o : Option Request). IsLeastDrive words s own (option_map (λ (q : Request). q.action) o))
    c.in-Some.is may.drive)
    (subst (IsNextRequest words s own) c.in-Some.is may.next)
    (put own
    (subst
    (λ (os : List ObjectDecl).
    KeepsNode os own (answers old.node.core) (g.L.EntryLog.listed old.node.log.log))
    (sym may.objects) may.node)))
    c.put-in-Drive.ensures.put

-- what is put to the node is not refused, and numbers are left for it
pub put-requires-clause-may : goal.put-requires-clause-may
put-requires-clause-may g c =
    let can = c.requires.can in
    let keeps = can.may.node in
    (begin_allowed g.W.Storming.words can.node can.own (answers c.args.self.now.node.core)
    (g.L.EntryLog.listed c.args.self.now.node.log.log) can.may.number can.few can.lawful can.room
    keeps).1

pub put-requires-in-Letter-clause-may : goal.put-requires-in-Letter-clause-may
put-requires-in-Letter-clause-may g c =
    let can = c.requires.can in
    let at =
    subst (λ (i : CoreInput Copied). MayReceive g.W.Storming.words can.node (letter_in i))
    c.in-Letter.is can.letter in
    let letter = ap (λ (k : Copied). k.letter) c.letter.view_is in
    subst
    (λ (l : Letter).
    MayStep (answers c.args.self.now.node.core)
    (puts.Letter (record { event = c.in-Letter.number; place = c.in-Letter.place }) l)) (sym letter)
    (letter_allowed g.W.Storming.words can.node can.own (answers c.args.self.now.node.core)
    (g.L.EntryLog.listed c.args.self.now.node.log.log) can.may.number can.few can.lawful can.room
    can.may.node (record { event = c.in-Letter.number; place = c.in-Letter.place })
    c.in-Letter.letter.letter at.0 at.1).1

pub put-requires-in-Drive-clause-free : goal.put-requires-in-Drive-clause-free
put-requires-in-Drive-clause-free g c =
    let can = c.requires.can in
    (request_allowed g.W.Storming.words can.node can.own (answers c.args.self.now.node.core)
    (g.L.EntryLog.listed c.args.self.now.node.log.log) can.may.number can.few can.lawful can.room
    can.may.node c.in-Some.request
    (subst (IsNextRequest g.W.Storming.words can.node can.own) c.in-Some.is can.may.next)).0

pub put-requires-in-Drive-clause-may : goal.put-requires-in-Drive-clause-may
put-requires-in-Drive-clause-may g c =
    let can = c.requires.can in
    (request_allowed g.W.Storming.words can.node can.own (answers c.args.self.now.node.core)
    (g.L.EntryLog.listed c.args.self.now.node.log.log) can.may.number can.few can.lawful can.room
    can.may.node c.in-Some.request
    (subst (IsNextRequest g.W.Storming.words can.node can.own) c.in-Some.is can.may.next)).1

-- with nothing from outside there is something to do: so there is a request
pub unreachable-requires : goal.unreachable-requires
unreachable-requires g c =
    let old : StormNodeFields = record {
      storm = c.args.self.now.storm;
      node = answers c.args.self.now.node.core;
      objects = c.args.self.now.node.objects;
      entries = g.L.EntryLog.listed c.args.self.now.node.log.log;
      halted = c.args.self.now.node.log.halted;
      faults = g.L.EntryLog.faults_within c.args.self.now.node.log.log;
      lost = c.args.self.now.lost;
      events = c.args.self.now.events;
      tops = c.args.self.now.tops;
      copies = c.args.self.now.copies;
      works = c.args.self.now.works;
      next = c.args.self.now.next;
      receipts = c.args.self.now.receipts;
    } in
    has_next old c.args.item c.in-Drive.is c.if-self.false c.in_default.is
    (not_true _ c.requires.busy)
