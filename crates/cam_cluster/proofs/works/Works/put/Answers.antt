-- An input is put to a node.
use Rattle.std.proofs.Common.{sym, ap, ◌∙◌, subst, arith, rules, ◌+◌, ◌∷◌}
use Rattle.std.specs.Prelude.{length, map, vec_len, ◌<◌}
use Rattle.std.proofs.lemmas.Grind.{common_steps}
use Rattle.cam_node.specs.declared.fault.NodeFault.TheVariants.{DiskFault}
use Rattle.cam_cluster.proofs.AsSeen.{part}
use Rattle.cam_cluster.proofs.AskedNode.{asked_in_vain, event_stands, node_halts}
use Rattle.cam_cluster.proofs.DisksGoOn.{goes_on_same}
use Rattle.cam_cluster.proofs.PlacedNodes.{asked_there, put_there, on_err}
use Rattle.cam_cluster.proofs.PutWorks.{net_grows}
use Rattle.cam_cluster.proofs.RoomInWorks.{made_room, there_set, there_still}
use Rattle.cam_cluster.proofs.StoppedWorks.{fault_is}
use Rattle.cam_cluster.proofs.works.Works.put.Goals as goal

pub make_room-requires : goal.make_room-requires
make_room-requires g c = c.requires.writable

pub returns-in_err-make_room : goal.returns-in_err-make_room
returns-in_err-make_room g c =
    let old = c.args.self.now in
    let mid = c.make_room.new.self in
    let room = c.make_room.ensures in
    record {
      put = search rules;
      as_before =
          on_err _ _ (made_room old mid room.nodes room.some room.halted room.failed room.undecided
          room.events room.marks);
      disks =
          goes_on_same _ _ _ _ (ap (λ v. map (part g.L.CheckpointLog g.L.EntryLog) v.items)
          room.nodes) room.failed;
      net = net_grows _ _ room.some;
    }

pub index-requires : goal.index-requires
index-requires g c =
    rw c.make_room.ensures.nodes (first_of (search rules, grind (arith, common_steps, c.requires.there)))

pub index_mut-requires : goal.index_mut-requires
index_mut-requires g c =
    rw c.make_room.ensures.nodes (first_of (search rules, grind (arith, common_steps, c.requires.there)))

pub index-requires-in-Err : goal.index-requires-in-Err
index-requires-in-Err g c =
    rw c.make_room.ensures.nodes (first_of (search rules, grind (arith, common_steps, c.requires.there)))

pub step-requires : goal.step-requires
step-requires g c =
    let may = asked_there _ _ _ _ _ (ap (λ v. v.items) c.make_room.ensures.nodes)
    c.requires.there c.index_mut.ensures.value c.requires.may in
    record {
      running = may.0;
      free = may.1;
      may = may.2;
      register = c.args.servers.now.of_registers;
      queue = c.args.servers.now.of_queues;
      counter = c.args.servers.now.of_counters;
    }

pub stand-requires : goal.stand-requires
stand-requires g c =
    let room = c.in_ok-make_room.ensures.event_room in
    let events = room.0 in
    let counts = room.1 in
    record {
      room = (omega (arith, events), omega (arith, counts));
      none = c.in_ok-make_room.ensures.all;
    }

pub halt-requires : goal.halt-requires
halt-requires g c = record {
  place = c.requires.place;
  room = c.in_ok-make_room.ensures.mark_room;
  halt_room = c.in_ok-make_room.ensures.halt_room;
}

pub failed_since-self-requires : goal.failed_since-self-requires
failed_since-self-requires g c = record {
  place = c.requires.place;
  there =
      there_set c.args.self.now c.make_room.new.self c.make_room.ensures.nodes _ _
      c.requires.there;
}

pub failed_since-self-requires-in-Err : goal.failed_since-self-requires-in-Err
failed_since-self-requires-in-Err g c = record {
  place = c.requires.place;
  there =
      there_set c.args.self.now c.make_room.new.self c.make_room.ensures.nodes _ _
      c.requires.there;
}

pub returns-then-not-is_halted : goal.returns-then-not-is_halted
returns-then-not-is_halted g c =
    let old = c.args.self.now in
    let mid = c.make_room.new.self in
    let room = c.make_room.ensures in
    let node = c.index_mut.result.now in
    let new = c.step.new.self in
    let step = c.step.ensures in
    let ran = (asked_there _ old.nodes.items mid.nodes.items c.args.place node
    (ap (λ v. v.items) room.nodes) c.requires.there c.index_mut.ensures.value c.requires.may).0 in
    let there = there_still old mid room.nodes c.args.place c.requires.there in
    let runs = sym (ap (λ n. n.log.halted) (put_there mid.nodes.items c.args.place new
    c.index-in-Err.result.now there c.index-in-Err.ensures)) ∙ sym c.is_halted.ensures
    ∙ c.if-not-is_halted.true in
    let ends =
    asked_in_vain old mid room.nodes room.some room.halted room.failed room.undecided
    room.events room.marks c.args.place c.requires.there c.requires.place c.index.result.now node
    new c.failures-before.result c.failed_since-self-in-Err.result c.index.ensures
    c.index_mut.ensures.value
    (c.failures-before.ensures ∙ ap g.L.EntryLog.faults_within c.log.ensures)
    c.failed_since-self-in-Err.ensures step.tells step.faults_within step.objects ran runs
    (c.in-Err.ensures.same runs) c.in-Err.ensures.not_listed
    (c.in-Err.ensures.not_called runs) in
    record {
      put = tt;
      as_before = ends.0;
      disks = ends.1;
      net = net_grows old.outbox mid.outbox room.some;
    }

pub returns-in-Ok : goal.returns-in-Ok
returns-in-Ok g c =
    let old = c.args.self.now in
    let mid = c.make_room.new.self in
    let room = c.make_room.ensures in
    let node = c.index_mut.result.now in
    let new = c.step.new.self in
    let step = c.step.ensures in
    let ran = (asked_there _ old.nodes.items mid.nodes.items c.args.place node
    (ap (λ v. v.items) room.nodes) c.requires.there c.index_mut.ensures.value c.requires.may).0 in
    let stood = c.stand.ensures in
    let few = c.in_ok-make_room.ensures.few in
    let ends =
    event_stands old mid room.nodes room.some room.halted room.failed room.undecided
    room.events room.marks c.args.place c.requires.there c.requires.place c.index.result.now node
    new c.failures-before.result c.failed_since-self.result c.index.ensures
    c.index_mut.ensures.value
    (c.failures-before.ensures ∙ ap g.L.EntryLog.faults_within c.log.ensures)
    c.failed_since-self.ensures step.tells step.faults_within step.objects
    c.args.line c.args.input.now c.stand.new.self (ap (λ v. v.items) stood.nodes)
    c.in_ok-make_room.ensures.all c.in-Ok.stepped.event c.in-Ok.stepped.letters stood.outbox
    stood.halted stood.failed (ap (λ v. v.items) stood.undecided) stood.events
    (ap (λ v. v.items) stood.marks) (omega (arith, few)) (c.in-Ok.ensures.runs ∙ sym ran)
    c.in-Ok.ensures.step c.in-Ok.ensures.keeps c.in-Ok.ensures.letters c.in-Ok.ensures.entry in
    record {
      put = ends.0;
      as_before = tt;
      disks = ends.1;
      net = ends.2;
    }

pub returns-else-not-is_halted : goal.returns-else-not-is_halted
returns-else-not-is_halted g c =
    let old = c.args.self.now in
    let mid = c.make_room.new.self in
    let room = c.make_room.ensures in
    let node = c.index_mut.result.now in
    let new = c.step.new.self in
    let step = c.step.ensures in
    let there = there_still old mid room.nodes c.args.place c.requires.there in
    let stops = sym (ap (λ n. n.log.halted) (put_there mid.nodes.items c.args.place new
    c.index-in-Err.result.now there c.index-in-Err.ensures)) ∙ sym c.is_halted.ensures
    ∙ c.if-not-is_halted.false in
    let halt = c.halt.ensures in
    let ends =
    node_halts old mid room.nodes room.some room.halted room.failed room.undecided
    room.events room.marks c.args.place c.requires.there c.requires.place c.index.result.now node
    new c.failures-before.result c.failed_since-self-in-Err.result c.index.ensures
    c.index_mut.ensures.value
    (c.failures-before.ensures ∙ ap g.L.EntryLog.faults_within c.log.ensures)
    c.failed_since-self-in-Err.ensures step.tells step.faults_within step.objects
    c.args.line c.args.input.now c.halt.new.self (ap (λ v. v.items) halt.nodes)
    c.in_ok-make_room.ensures.all c.in-Err.fault halt.outbox halt.halted halt.failed
    (halt.undecided ∙ ap (λ g. record {
      node = c.args.place + 1;
      before = length mid.events.events.items;
      got = g;
    } ∷ mid.undecided.items) c.received_in.ensures)
    (ap (λ v. v.events.items) halt.events) halt.marks stops step.number
    (λ told. step.halt (sym step.tells ∙ told) stops) (step.halted_at stops)
    (λ same. step.cut_off (fault_is c.step.result c.in-Err.fault DiskFault c.in-Err.is same)) in
    record {
      put = ends.0;
      as_before = tt;
      disks = ends.1;
      net = ends.2;
    }

pub invariant_of-servers : goal.invariant_of-servers
invariant_of-servers g c = record {
  of_registers = c.step.ensures.register_stays ∙ c.args.servers.now.of_registers;
  of_queues = c.step.ensures.queue_stays ∙ c.args.servers.now.of_queues;
  of_counters = c.step.ensures.counter_stays ∙ c.args.servers.now.of_counters;
}
