-- An action has its turn in a round.
use Rattle.std.proofs.Common.{◌≤◌, length, rules, sym, ◌∙◌, subst, arith}
use Rattle.cam_cluster.specs.Goes.{HasGone, KeepsWorkersAsBefore}
use Rattle.cam_cluster.specs.Rounds.{HasHadTurn, IsOutlook}
use Rattle.cam_cluster.proofs.AsSeen.{reads_of, works_of}
use Rattle.cam_cluster.proofs.DisksGoOn.{goes_on_still}
use Rattle.cam_cluster.proofs.GoneOn.{CatchesUp}
use Rattle.cam_cluster.proofs.PlacedNodes.{on_err}
use Rattle.cam_cluster.proofs.Turns.{at_node, if_ok_gives, on_err_gives, turn_goes, turn_gone}
use Rattle.cam_cluster.proofs.Turns.{turn_over, turn_waits, workers_before}
use Rattle.cam_cluster.proofs.WorkersStand.{as_many}
use Rattle.cam_cluster.proofs.works.Works.take_turn.Goals as goal

pub catch_up-requires : goal.catch_up-requires
catch_up-requires g c =
    let turn = c.requires.turn in
    let fits = turn.are_workers.within in
    let many = as_many c.args.self.now.events.events.items turn.standing.running.trace
    turn.keeps.events in
    rw c.as_slice.ensures.value (omega (arith, fits, many))

pub returns-in_err-catch_up-clause-disks : goal.returns-in_err-catch_up-clause-disks
returns-in_err-catch_up-clause-disks g c =
    goes_on_still

pub returns-in_err-catch_up-clause-turn : goal.returns-in_err-catch_up-clause-turn
returns-in_err-catch_up-clause-turn g c =
    search rules

pub returns-in_err-catch_up-clause-as_before : goal.returns-in_err-catch_up-clause-as_before
returns-in_err-catch_up-clause-as_before g c =
    on_err c.from_residual.result _ (λ script st is keeps. keeps)

pub returns-in_err-catch_up-clause-workers_as_before :
    goal.returns-in_err-catch_up-clause-workers_as_before
returns-in_err-catch_up-clause-workers_as_before g c =
    on_err c.from_residual.result _ (λ script st keeps are.
    c.catch_up.ensures.stay st (c.as_slice.ensures.value ∙ keeps.events) are)

pub outlook-requires : goal.outlook-requires
outlook-requires g c =
    let caught_up : CatchesUp c.args.self.now.events.events.items c.args.workers.now
    c.catch_up.new.self = λ st is are. (
      c.catch_up.ensures.stay st (c.as_slice.ensures.value ∙ is)
          are,
      c.in_ok-catch_up.ensures.caught_up st (c.as_slice.ensures.value ∙ is) are,
    ) in
    record {
      home = at_node c.args.line _ c.args.bodies.now _ _ c.args.workers.now c.catch_up.new.self
          c.requires.turn caught_up;
    }

pub go-requires : goal.go-requires
go-requires g c = record {
  goes =
      let works = works_of g.L.CheckpointLog g.L.EntryLog c.args.self.now in
      let reads = reads_of g.L.CheckpointLog g.L.EntryLog c.args.self.now in
      let caught_up : CatchesUp c.args.self.now.events.events.items c.args.workers.now
      c.catch_up.new.self = λ st is are. (
        c.catch_up.ensures.stay st (c.as_slice.ensures.value ∙ is) are,
        c.in_ok-catch_up.ensures.caught_up st (c.as_slice.ensures.value ∙ is) are,
      ) in
      let told = subst (λ o. IsOutlook c.args.name.now works reads c.catch_up.new.self o)
      c.in-GoesOn.is c.outlook.ensures in
      turn_goes c.args.line c.args.name.now c.args.bodies.now works reads c.args.workers.now
      c.catch_up.new.self c.requires.turn caught_up told;
}

pub returns-in-GoesOn-clause-disks : goal.returns-in-GoesOn-clause-disks
returns-in-GoesOn-clause-disks g c =
    c.go.ensures.disks

pub returns-in-GoesOn-clause-turn : goal.returns-in-GoesOn-clause-turn
returns-in-GoesOn-clause-turn g c =
    let works = works_of g.L.CheckpointLog g.L.EntryLog c.args.self.now in
    let reads = reads_of g.L.CheckpointLog g.L.EntryLog c.args.self.now in
    let caught_up : CatchesUp c.args.self.now.events.events.items c.args.workers.now
    c.catch_up.new.self = λ st is are. (
      c.catch_up.ensures.stay st (c.as_slice.ensures.value ∙ is)
          are,
      c.in_ok-catch_up.ensures.caught_up st (c.as_slice.ensures.value ∙ is) are,
    ) in
    let told = subst (λ o. IsOutlook c.args.name.now works reads c.catch_up.new.self o)
    c.in-GoesOn.is c.outlook.ensures in
    let new = works_of g.L.CheckpointLog g.L.EntryLog c.go.new.self in
    let may = reads_of g.L.CheckpointLog g.L.EntryLog c.go.new.self in
    if_ok_gives _ (λ end. HasGone c.args.line c.args.name.now c.args.bodies.now works reads
    c.catch_up.new.self end new may c.go.new.workers) (λ end. HasHadTurn c.args.line c.args.name.now
    c.args.bodies.now works reads c.args.workers.now end new may c.go.new.workers) (λ end has.
    turn_gone _ _ _ _ _ _ _ c.requires.turn caught_up _ _ _ _ told has) c.go.ensures.gone

pub returns-in-GoesOn-clause-as_before : goal.returns-in-GoesOn-clause-as_before
returns-in-GoesOn-clause-as_before g c =
    c.go.ensures.as_before

pub returns-in-GoesOn-clause-workers_as_before :
    goal.returns-in-GoesOn-clause-workers_as_before
returns-in-GoesOn-clause-workers_as_before g c =
    let works = works_of g.L.CheckpointLog g.L.EntryLog c.args.self.now in
    let reads = reads_of g.L.CheckpointLog g.L.EntryLog c.args.self.now in
    let caught_up : CatchesUp c.args.self.now.events.events.items c.args.workers.now
    c.catch_up.new.self = λ st is are. (
      c.catch_up.ensures.stay st (c.as_slice.ensures.value ∙ is)
          are,
      c.in_ok-catch_up.ensures.caught_up st (c.as_slice.ensures.value ∙ is) are,
    ) in
    on_err_gives _ (KeepsWorkersAsBefore works reads c.catch_up.new.self c.go.new.workers)
    (KeepsWorkersAsBefore works reads c.args.workers.now c.go.new.workers) (workers_before
    c.args.line c.args.name.now c.args.bodies.now _ _ _ _ c.requires.turn caught_up _)
    c.go.ensures.workers_as_before

pub returns-in-Waits-clause-disks : goal.returns-in-Waits-clause-disks
returns-in-Waits-clause-disks g c =
    goes_on_still

pub returns-in-Waits-clause-turn : goal.returns-in-Waits-clause-turn
returns-in-Waits-clause-turn g c =
    let works = works_of g.L.CheckpointLog g.L.EntryLog c.args.self.now in
    let reads = reads_of g.L.CheckpointLog g.L.EntryLog c.args.self.now in
    let caught_up : CatchesUp c.args.self.now.events.events.items c.args.workers.now
    c.catch_up.new.self = λ st is are. (
      c.catch_up.ensures.stay st (c.as_slice.ensures.value ∙ is)
          are,
      c.in_ok-catch_up.ensures.caught_up st (c.as_slice.ensures.value ∙ is) are,
    ) in
    turn_waits _ _ _ _ _ _ _ c.requires.turn caught_up (subst (λ o. IsOutlook c.args.name.now
    works reads c.catch_up.new.self o) c.in-Waits.is c.outlook.ensures)

pub returns-in-Over-clause-disks : goal.returns-in-Over-clause-disks
returns-in-Over-clause-disks g c =
    goes_on_still

pub returns-in-Over-clause-turn : goal.returns-in-Over-clause-turn
returns-in-Over-clause-turn g c =
    let works = works_of g.L.CheckpointLog g.L.EntryLog c.args.self.now in
    let reads = reads_of g.L.CheckpointLog g.L.EntryLog c.args.self.now in
    let caught_up : CatchesUp c.args.self.now.events.events.items c.args.workers.now
    c.catch_up.new.self = λ st is are. (
      c.catch_up.ensures.stay st (c.as_slice.ensures.value ∙ is)
          are,
      c.in_ok-catch_up.ensures.caught_up st (c.as_slice.ensures.value ∙ is) are,
    ) in
    turn_over _ _ _ _ _ _ _ c.requires.turn caught_up _ (subst (λ o. IsOutlook
    c.args.name.now works reads c.catch_up.new.self o) c.in-Over.is c.outlook.ensures)
    c.pass_over.ensures
