-- A node is restarted.
use Rattle.std.proofs.Common.{◌≡◌, ◌+◌, ◌++◌, ◌∷◌, [], false, Some, None, set, refl, sym, ap, ◌∙◌}
use Rattle.std.proofs.Common.{◌<◌, subst, arith, rules, suc}
use Rattle.std.specs.Prelude.{map, vec_len}
use Rattle.std.proofs.lemmas.Grind.{common_steps}
use Rattle.cam_net.specs.Waiting.{is_halted}
use Rattle.cam_cluster.proofs.AsSeen.{part, reads_at, tells_of}
use Rattle.cam_cluster.proofs.AskedNode.{disks_on}
use Rattle.cam_cluster.proofs.DisksGoOn.{goes_on_same, restart_known}
use Rattle.cam_cluster.proofs.Failures.{restart_ends}
use Rattle.cam_cluster.proofs.FoundByStop.{none_by_stop, some_by_stop}
use Rattle.cam_cluster.proofs.HaltsKept.{open_without}
use Rattle.cam_cluster.proofs.PlacedNodes.{after_is, on_err, one_there}
use Rattle.cam_cluster.proofs.RestartEnds.{none_if, some_if}
use Rattle.cam_cluster.proofs.RestartReads.{rest_reads}
use Rattle.cam_cluster.proofs.RestartedNode.{found_again, node_there, stood_again}
use Rattle.cam_cluster.proofs.RoomInWorks.{made_room, there_set}
use Rattle.cam_cluster.proofs.works.Works.restart.Goals as goal

pub make_room-requires : goal.make_room-requires
make_room-requires g c = c.requires.writable

pub returns-in_err-make_room : goal.returns-in_err-make_room
returns-in_err-make_room g c =
    let room = c.make_room.ensures in
    record {
      restarted = search rules;
      by_stop = search rules;
      as_before =
          on_err _ _ (made_room c.args.self.now c.make_room.new.self room.nodes room.some
          room.halted room.failed room.undecided room.events room.marks);
      disks =
          goes_on_same _ _ _ _ (ap (λ v. map (part g.L.CheckpointLog g.L.EntryLog) v.items)
          room.nodes) room.failed;
    }

pub index-requires : goal.index-requires
index-requires g c =
    rw c.make_room.ensures.nodes (first_of (search rules, grind (arith, common_steps, c.requires.there)))

pub index_mut-requires : goal.index_mut-requires
index_mut-requires g c =
    rw c.make_room.ensures.nodes (first_of (search rules, grind (arith, common_steps, c.requires.there)))

pub put_in-requires : goal.put_in-requires
put_in-requires g c = record {
  place = c.requires.place;
  room = c.in_ok-make_room.ensures.event_room;
}

pub go_on-requires-in-None : goal.go_on-requires-in-None
go_on-requires-in-None g c =
    let room = c.in_ok-make_room.ensures.event_room in
    let events = room.0 in
    let counts = room.1 in
    record {
      place = c.requires.place;
      room = (omega (arith, events), omega (arith, counts));
      none = c.in_ok-make_room.ensures.all;
    }

pub bounds-self-place : goal.bounds-self-place
bounds-self-place g c = c.requires.place

pub go_on-requires : goal.go_on-requires
go_on-requires g c = record {
  place = c.requires.place;
  room = c.put_in.ensures.still_room;
  none = ap (λ o. o.unput) c.put_in.ensures.outbox ∙ c.in_ok-make_room.ensures.all;
}

pub failed_since-self-requires : goal.failed_since-self-requires
failed_since-self-requires g c = record {
  place = c.requires.place;
  there =
      there_set c.args.self.now c.make_room.new.self c.make_room.ensures.nodes _ _
      c.requires.there;
}

pub failed_since-self-requires-in-Err : goal.failed_since-self-requires-in-Err
failed_since-self-requires-in-Err g c = record {
  place = c.requires.place;
  there =
      there_set c.args.self.now c.make_room.new.self c.make_room.ensures.nodes _ _
      c.requires.there;
}

pub returns-in-Some : goal.returns-in-Some
returns-in-Some g c =
    let got : c.of_halted.result ≡ Some c.in-Some.event = search rules in
    let was = c.args.self.now in
    let mid = c.make_room.new.self in
    let room = c.make_room.ensures in
    let old = c.index_mut.result.now in
    let new = c.restart_cleared.new.node in
    let again = c.restart_cleared.ensures in
    let at =
    node_there was mid room.nodes room.some room.halted room.failed room.undecided
    room.events room.marks c.args.place c.requires.there c.requires.place c.index.result.now old new
    c.failures-before.result c.failed_since-self.result c.index.ensures
    c.index_mut.ensures.value
    (c.failures-before.ensures ∙ ap g.L.EntryLog.faults_within c.log.ensures)
    c.failed_since-self.ensures again.tells again.faults_within in
    let on = c.go_on.ensures in
    let put = c.put_in.ensures in
    let found = some_if _ _ c.in-Some.event (sym got ∙ c.of_halted.ensures) in
    let all =
    found_again was mid room.nodes room.some room.halted room.failed room.undecided
    room.events room.marks c.args.place c.requires.there c.requires.place c.index.result.now old new
    c.failures-before.result c.failed_since-self.result c.index.ensures
    c.index_mut.ensures.value
    (c.failures-before.ensures ∙ ap g.L.EntryLog.faults_within c.log.ensures)
    c.failed_since-self.ensures again.tells again.faults_within again.objects
    (λ told awake logged read. rest_reads _ _ _ logged
    (λ o is. g.met.L.EntryLog.at_rest old.log.log o told (old.log.whole awake) is) read)
    c.in_ok-make_room.ensures.all c.in-Ok.restarted c.in-Ok.ensures.runs c.in-Ok.ensures.restarted
    c.in-Ok.ensures.letters again.passes
    c.go_on.new.self (ap (λ v. v.items) on.nodes ∙ ap (λ v. v.items) put.nodes)
    (on.failed ∙ put.failed)
    (on.outbox
    ∙ ap (λ o. record { net = o.net; unput = c.in-Ok.restarted.stepped.letters }) put.outbox)
    (on.halted ∙ ap (λ hs. set hs c.args.place false) put.halted) c.in-Some.event
    c.in_ok-make_room.ensures.few
    (ap (is_halted mid.halted) (after_is c.args.place) ∙ sym c.is_halted-was_halted.ensures
    ∙ found.0) found.1
    (on.undecided ∙ ap (open_without (c.args.place + 1)) put.undecided)
    (on.events ∙ ap (λ es. es ++ c.in-Ok.restarted.stepped.event ∷ []) put.events)
    (ap (λ v. v.items) on.marks ∙ put.marks) in
    record {
      restarted = all.0;
      by_stop =
          some_by_stop (part g.L.CheckpointLog g.L.EntryLog)
          (tells_of g.L.CheckpointLog g.L.EntryLog)
          (reads_at g.L.CheckpointLog g.L.EntryLog) c.args.place was.nodes.items was.outbox
          was.halted was.failed was.undecided.items was.events.events.items was.marks.items old
          c.requires.place at c.in-Ok.restarted.found (λ told. c.in-Ok.ensures.found told)
          c.in-Some.event found.1;
      as_before = tt;
      disks = all.1;
    }

pub returns-in-None : goal.returns-in-None
returns-in-None g c =
    let got : c.of_halted.result ≡ None = search rules in
    let was = c.args.self.now in
    let mid = c.make_room.new.self in
    let room = c.make_room.ensures in
    let old = c.index_mut.result.now in
    let new = c.restart_cleared.new.node in
    let again = c.restart_cleared.ensures in
    let at =
    node_there was mid room.nodes room.some room.halted room.failed room.undecided
    room.events room.marks c.args.place c.requires.there c.requires.place c.index.result.now old new
    c.failures-before.result c.failed_since-self.result c.index.ensures
    c.index_mut.ensures.value
    (c.failures-before.ensures ∙ ap g.L.EntryLog.faults_within c.log.ensures)
    c.failed_since-self.ensures again.tells again.faults_within in
    let on = c.go_on-in-None.ensures in
    let few = c.in_ok-make_room.ensures.few in
    let all =
    stood_again was mid room.nodes room.some room.halted room.failed room.undecided
    room.events room.marks c.args.place c.requires.there c.requires.place c.index.result.now old new
    c.failures-before.result c.failed_since-self.result c.index.ensures
    c.index_mut.ensures.value
    (c.failures-before.ensures ∙ ap g.L.EntryLog.faults_within c.log.ensures)
    c.failed_since-self.ensures again.tells again.faults_within again.objects
    (λ told awake logged read. rest_reads _ _ _ logged
    (λ o is. g.met.L.EntryLog.at_rest old.log.log o told (old.log.whole awake) is) read)
    c.in_ok-make_room.ensures.all c.in-Ok.restarted c.in-Ok.ensures.runs c.in-Ok.ensures.restarted
    c.in-Ok.ensures.letters again.passes
    c.go_on-in-None.new.self (ap (λ v. v.items) on.nodes) on.failed on.outbox on.halted
    (omega (arith, few))
    (λ stops. none_if _ _ (sym got ∙ c.of_halted.ensures)
    (c.is_halted-was_halted.ensures ∙ sym (ap (is_halted mid.halted) (after_is c.args.place))
    ∙ stops))
    on.undecided on.events (ap (λ v. v.items) on.marks) in
    record {
      restarted = all.0;
      by_stop =
          none_by_stop (part g.L.CheckpointLog g.L.EntryLog)
          (tells_of g.L.CheckpointLog g.L.EntryLog)
          (reads_at g.L.CheckpointLog g.L.EntryLog) c.args.place was.nodes.items was.outbox
          was.halted was.failed was.undecided.items was.events.events.items was.marks.items old
          c.requires.place at c.in-Ok.restarted.found (λ told. c.in-Ok.ensures.found told)
          (λ stops. none_if _ _ (sym got ∙ c.of_halted.ensures)
          (c.is_halted-was_halted.ensures
          ∙ ap (λ hs. is_halted hs (suc c.args.place)) room.halted
          ∙ sym (ap (is_halted was.halted) (after_is c.args.place)) ∙ stops));
      as_before = tt;
      disks = all.1;
    }

pub returns-in-Err : goal.returns-in-Err
returns-in-Err g c =
    let was = c.args.self.now in
    let mid = c.make_room.new.self in
    let room = c.make_room.ensures in
    let old = c.index_mut.result.now in
    let new = c.restart_cleared.new.node in
    let again = c.restart_cleared.ensures in
    let known = c.failed_since-self-in-Err.result in
    record {
      restarted =
          one_there _ was.nodes.items c.args.place old
          (node_there was mid room.nodes room.some room.halted room.failed room.undecided
          room.events room.marks c.args.place c.requires.there c.requires.place c.index.result.now
          old new
          c.failures-before.result c.failed_since-self-in-Err.result c.index.ensures
          c.index_mut.ensures.value
          (c.failures-before.ensures ∙ ap g.L.EntryLog.faults_within c.log.ensures)
          c.failed_since-self-in-Err.ensures again.tells again.faults_within)
          (λ told. restart_ends c.args.place known c.after_restart-self.result
          c.after_restart-self.ensures);
      by_stop = λ script st is keeps sound said. tt;
      as_before = tt;
      disks =
          disks_on was mid room.nodes room.some room.halted room.failed room.undecided
          room.events room.marks c.args.place c.requires.there c.requires.place c.index.result.now
          old new
          c.failures-before.result c.failed_since-self-in-Err.result c.index.ensures
          c.index_mut.ensures.value
          (c.failures-before.ensures ∙ ap g.L.EntryLog.faults_within c.log.ensures)
          c.failed_since-self-in-Err.ensures again.tells again.faults_within _
          c.after_restart-self.result refl
          (restart_known c.args.place known c.after_restart-self.result
          c.after_restart-self.ensures);
    }

pub after_restart-self-requires : goal.after_restart-self-requires
after_restart-self-requires g c = c.requires.place
