-- All actions with a body have their turns.
use Rattle.std.proofs.Common.{◌≤◌, length, rules, sym, ◌∙◌, subst, arith}
use Rattle.cam_cluster.specs.Making.{HaveMade}
use Rattle.cam_cluster.specs.Plays.{HasPlayedSome, all_turns}
use Rattle.cam_cluster.specs.Rounds.{HaveHadSomeTurns, HaveHadTurns}
use Rattle.cam_cluster.proofs.AsSeen.{reads_of, works_of}
use Rattle.cam_cluster.proofs.GoneOn.{CatchesUp}
use Rattle.cam_cluster.proofs.PlacedNodes.{on_err}
use Rattle.cam_cluster.proofs.AllTurns.{all_had, no_turns, some_had, turns_of_all}
use Rattle.cam_cluster.proofs.DisksGoOn.{goes_on_still}
use Rattle.cam_cluster.proofs.Turns.{on_err_gives, on_ok_gives}
use Rattle.cam_cluster.proofs.WorkersStand.{as_many}
use Rattle.cam_cluster.proofs.works.Works.take_all_turns.Goals as goal

pub catch_up-requires : goal.catch_up-requires
catch_up-requires g c =
    let play = c.requires.play in
    let fits = play.keeps.workers.within in
    let many = as_many c.args.self.now.events.events.items play.standing.running.trace
    play.keeps.runs.events in
    rw c.as_slice.ensures.value (omega (arith, fits, many))

pub returns-in_err-catch_up-clause-disks : goal.returns-in_err-catch_up-clause-disks
returns-in_err-catch_up-clause-disks g c =
    goes_on_still

pub returns-in_err-catch_up-clause-turns : goal.returns-in_err-catch_up-clause-turns
returns-in_err-catch_up-clause-turns g c =
    search rules

pub returns-in_err-catch_up-clause-part : goal.returns-in_err-catch_up-clause-part
returns-in_err-catch_up-clause-part g c =
    on_err _ _ (no_turns _ _ _ _ _ _ (λ script st keeps are. c.catch_up.ensures.stay st
    (c.as_slice.ensures.value ∙ keeps.events) are))

pub returns-in_err-names-clause-disks : goal.returns-in_err-names-clause-disks
returns-in_err-names-clause-disks g c =
    goes_on_still

pub returns-in_err-names-clause-turns : goal.returns-in_err-names-clause-turns
returns-in_err-names-clause-turns g c =
    search rules

pub returns-in_err-names-clause-part : goal.returns-in_err-names-clause-part
returns-in_err-names-clause-part g c =
    on_err _ _ (no_turns _ _ _ _ _ _ (λ script st keeps are. c.catch_up.ensures.stay st
    (c.as_slice.ensures.value ∙ keeps.events) are))

pub take_turns-requires : goal.take_turns-requires
take_turns-requires g c = record {
  turns =
      let works = works_of g.L.CheckpointLog g.L.EntryLog c.args.self.now in
      let reads = reads_of g.L.CheckpointLog g.L.EntryLog c.args.self.now in
      let caught_up : CatchesUp c.args.self.now.events.events.items c.args.workers.now
      c.catch_up.new.self = λ st is are. (
        c.catch_up.ensures.stay st (c.as_slice.ensures.value ∙ is) are,
        c.in_ok-catch_up.ensures.caught_up st (c.as_slice.ensures.value ∙ is) are,
      ) in
      turns_of_all c.args.line c.args.bodies.now works reads c.args.workers.now c.catch_up.new.self
      caught_up c.as_slice-2.result.now
      (λ st up. c.as_slice-2.ensures ∙ c.in_ok-names.ensures st up) c.requires.play;
}

pub returns-clause-disks : goal.returns-clause-disks
returns-clause-disks g c =
    c.take_turns.ensures.disks

pub returns-clause-turns : goal.returns-clause-turns
returns-clause-turns g c =
    let works = works_of g.L.CheckpointLog g.L.EntryLog c.args.self.now in
    let reads = reads_of g.L.CheckpointLog g.L.EntryLog c.args.self.now in
    let new = works_of g.L.CheckpointLog g.L.EntryLog c.take_turns.new.self in
    let may = reads_of g.L.CheckpointLog g.L.EntryLog c.take_turns.new.self in
    let caught_up : CatchesUp c.args.self.now.events.events.items c.args.workers.now
    c.catch_up.new.self = λ st is are. (
      c.catch_up.ensures.stay st (c.as_slice.ensures.value ∙ is)
          are,
      c.in_ok-catch_up.ensures.caught_up st (c.as_slice.ensures.value ∙ is) are,
    ) in
    on_ok_gives _ (HaveHadTurns c.args.line c.as_slice-2.result.now c.args.bodies.now works reads
    c.catch_up.new.self new may c.take_turns.new.workers) (HaveMade all_turns c.args.line
    c.args.bodies.now works reads c.args.workers.now new may c.take_turns.new.workers) (all_had
    c.args.line c.args.bodies.now works reads c.args.workers.now c.catch_up.new.self caught_up
    c.as_slice-2.result.now (λ st up. c.as_slice-2.ensures ∙ c.in_ok-names.ensures st up) new may
    c.take_turns.new.workers) c.take_turns.ensures.turns

pub returns-clause-part : goal.returns-clause-part
returns-clause-part g c =
    let works = works_of g.L.CheckpointLog g.L.EntryLog c.args.self.now in
    let reads = reads_of g.L.CheckpointLog g.L.EntryLog c.args.self.now in
    let new = works_of g.L.CheckpointLog g.L.EntryLog c.take_turns.new.self in
    let may = reads_of g.L.CheckpointLog g.L.EntryLog c.take_turns.new.self in
    let caught_up : CatchesUp c.args.self.now.events.events.items c.args.workers.now
    c.catch_up.new.self = λ st is are. (
      c.catch_up.ensures.stay st (c.as_slice.ensures.value ∙ is)
          are,
      c.in_ok-catch_up.ensures.caught_up st (c.as_slice.ensures.value ∙ is) are,
    ) in
    on_err_gives _ (HaveHadSomeTurns c.args.line c.as_slice-2.result.now c.args.bodies.now works
    reads c.catch_up.new.self new may c.take_turns.new.workers) (HasPlayedSome c.args.line
    c.args.bodies.now works reads c.args.workers.now new may c.take_turns.new.workers) (some_had
    c.args.line c.args.bodies.now works reads c.args.workers.now c.catch_up.new.self caught_up
    c.as_slice-2.result.now (λ st up. c.as_slice-2.ensures ∙ c.in_ok-names.ensures st up) new may
    c.take_turns.new.workers) c.take_turns.ensures.part
