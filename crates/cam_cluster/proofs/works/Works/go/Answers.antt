-- An action makes the next request of its body.
use Rattle.std.proofs.Common.{ℕ, ◌≤◌, ◌-◌, length, rules, sym, ◌∙◌, subst, arith}
use Rattle.cam_node.specs.declared.Input.TheVariants as inputs
use Rattle.cam_cluster.specs.SoFar.{IsBinding}
use Rattle.cam_cluster.proofs.AsSeen.{part, reads_of, works_of}
use Rattle.cam_cluster.proofs.DisksGoOn.{goes_on_still}
use Rattle.cam_cluster.proofs.GoneOn.{CatchesUp, idle_gone, is_next, request_gone, rests}
use Rattle.cam_cluster.proofs.HomeSteps.{goes_writably, home_has_numbers, home_is_free}
use Rattle.cam_cluster.proofs.HomeSteps.{home_runs, home_there, home_within}
use Rattle.cam_cluster.proofs.PlacedNodes.{each_there, on_err, seen_there}
use Rattle.cam_cluster.proofs.TriedEnds.{place_of}
use Rattle.cam_cluster.proofs.VariableEnds.{home_place}
use Rattle.cam_cluster.proofs.WorkersStand.{as_many}
use Rattle.cam_cluster.proofs.works.Works.go.Goals as goal

pub catch_up-requires : goal.catch_up-requires
catch_up-requires g c =
    let goes = c.requires.goes in
    let fits = goes.are_workers.within in
    let many =
    as_many c.args.self.now.events.events.items goes.standing.running.trace goes.keeps.events in
    rw c.as_slice.ensures.value (omega (arith, fits, many))

pub returns-in_err-catch_up : goal.returns-in_err-catch_up
returns-in_err-catch_up g c = record {
  disks = goes_on_still;
  gone = search rules;
  as_before = on_err c.from_residual.result _ (λ script st is keeps. keeps);
  workers_as_before =
      on_err c.from_residual.result _ (λ script st keeps are.
      c.catch_up.ensures.stay st (c.as_slice.ensures.value ∙ keeps.events) are);
}

pub returns-in_err-reserve : goal.returns-in_err-reserve
returns-in_err-reserve g c = record {
  disks = goes_on_still;
  gone = search rules;
  as_before = on_err c.from_residual-in_err-reserve.result _ (λ script st is keeps. keeps);
  workers_as_before =
      on_err c.from_residual-in_err-reserve.result _ (λ script st keeps are.
      c.reserve.ensures.stay st
      (c.catch_up.ensures.stay st (c.as_slice.ensures.value ∙ keeps.events) are));
}

pub overflow_cast-place : goal.overflow_cast-place
overflow_cast-place g c =
    search rules

pub put-requires : goal.put-requires
put-requires g c =
    let works = works_of g.L.CheckpointLog g.L.EntryLog c.args.self.now in
    let reads = reads_of g.L.CheckpointLog g.L.EntryLog c.args.self.now in
    let goes = c.requires.goes in
    let home = sym (home_place c.home.result _ _ c.home.ensures goes.may.low) in
    record {
      place =
          home_within c.args.name.now c.args.bodies.now works reads c.args.workers.now goes
          (c.home.result.0 - 1) home;
      there =
          place_of (part g.L.CheckpointLog g.L.EntryLog) c.args.self.now.nodes.items
          (c.home.result.0 - 1) (home_there c.args.name.now c.args.bodies.now works reads
          c.args.workers.now goes (c.home.result.0 - 1) home);
      may =
          let caught : CatchesUp c.args.self.now.events.events.items c.args.workers.now
          c.reserve.new.self =
          λ st is are. (
            c.reserve.ensures.stay st
                (c.catch_up.ensures.stay st (c.as_slice.ensures.value ∙ is) are),
            c.reserve.ensures.caught_up st
                (c.in_ok-catch_up.ensures.caught_up st (c.as_slice.ensures.value ∙ is) are),
          ) in
          let asks =
          is_next c.args.bodies.now c.args.name.now works c.args.workers.now c.reserve.new.self
          c.intention-next.result caught c.intention-next.ensures goes.script goes.standing
          goes.bodies_are goes.keeps.events goes.are_workers ∙ c.in-Request.is in
          each_there _ c.args.self.now.nodes.items (c.home.result.0 - 1) (λ node at.
          let seen =
          seen_there (part g.L.CheckpointLog g.L.EntryLog) c.args.self.now.nodes.items
          (c.home.result.0 - 1) node at in (
            home_runs c.args.name.now c.args.bodies.now works reads c.args.workers.now goes
                (c.home.result.0 - 1) home _ seen,
            home_is_free c.args.name.now c.args.bodies.now works reads c.args.workers.now goes
                (c.home.result.0 - 1) home c.in-Request.want asks _ seen,
            home_has_numbers c.args.name.now c.args.bodies.now works reads c.args.workers.now goes
                (c.home.result.0 - 1) home c.in-Request.want asks _ seen,
          ));
      writable =
          goes_writably c.args.name.now c.args.bodies.now works reads c.args.workers.now goes;
    }

pub returns-in_err-done-in-Request : goal.returns-in_err-done-in-Request
returns-in_err-done-in-Request g c = record {
  disks = c.put.ensures.disks;
  gone = search rules;
  as_before =
      on_err c.from_residual-in_err-done-in-Request.result _
      c.in_err-done-in-Request.ensures.as_before;
  workers_as_before =
      on_err c.from_residual-in_err-done-in-Request.result _ (λ script st keeps are.
      c.reserve.ensures.stay st
      (c.catch_up.ensures.stay st (c.as_slice.ensures.value ∙ keeps.events) are));
}

pub overflow_sub-place : goal.overflow_sub-place
overflow_sub-place g c =
    let goes = c.requires.goes in
    let low = goes.may.low in
    subst (λ (p : ℕ × ℕ). 1 ≤ p.0) (sym c.home.ensures) low

pub give_body-requires : goal.give_body-requires
give_body-requires g c = c.in_ok-reserve.ensures.room

pub returns-in_ok-done-in-Request : goal.returns-in_ok-done-in-Request
returns-in_ok-done-in-Request g c = record {
  disks = c.put.ensures.disks;
  gone =
      let works = works_of g.L.CheckpointLog g.L.EntryLog c.args.self.now in
      let reads = reads_of g.L.CheckpointLog g.L.EntryLog c.args.self.now in
      let goes = c.requires.goes in
      let home = sym (home_place c.home.result _ _ c.home.ensures goes.may.low) in
      let caught : CatchesUp c.args.self.now.events.events.items c.args.workers.now
      c.reserve.new.self =
      λ st is are. (
        c.reserve.ensures.stay st
            (c.catch_up.ensures.stay st (c.as_slice.ensures.value ∙ is) are),
        c.reserve.ensures.caught_up st
            (c.in_ok-catch_up.ensures.caught_up st (c.as_slice.ensures.value ∙ is) are),
      ) in
      request_gone c.args.line c.args.bodies.now c.args.name.now works reads c.args.workers.now
      c.reserve.new.self c.intention-next.result caught c.intention-next.ensures c.in-Request.want
      (c.home.result.0 - 1) c.in_ok-done-in-Request.done
      (works_of g.L.CheckpointLog g.L.EntryLog c.put.new.self)
      (reads_of g.L.CheckpointLog g.L.EntryLog c.put.new.self) c.bound_after-asked.result
      c.give_body.new.workers c.in-Request.is home c.in_ok-done-in-Request.ensures.put
      (subst (λ es. IsBinding (inputs.Request (record {
        action = c.args.name.now;
        want = c.in-Request.want;
      })) es c.in_ok-done-in-Request.done c.bound_after-asked.result)
      c.as_slice-in-Request.ensures.value c.bound_after-asked.ensures)
      c.give_body.ensures;
  as_before = tt;
  workers_as_before = tt;
}

pub returns-in-Wait : goal.returns-in-Wait
returns-in-Wait g c =
    let caught : CatchesUp c.args.self.now.events.events.items c.args.workers.now
    c.reserve.new.self =
    λ st is are. (
      c.reserve.ensures.stay st
          (c.catch_up.ensures.stay st (c.as_slice.ensures.value ∙ is) are),
      c.reserve.ensures.caught_up st (c.in_ok-catch_up.ensures.caught_up st
          (c.as_slice.ensures.value ∙ is) are),
    ) in record {
      gone =
          idle_gone _ _ _ _ _ _ _ _ caught c.intention-next.ensures (rests _ c.in-Wait.is);
      as_before = tt;
      workers_as_before = tt;
      disks = goes_on_still;
    }
