-- A letter is handed over to its node.
use Rattle.std.proofs.Common.{sym, ap, ◌∙◌, subst, rules, arith}
use Rattle.std.proofs.lemmas.Grind.{common_steps}
use Rattle.std.proofs.lemmas.Option.{slice_get_within}
use Rattle.std.specs.List.{AllByRecursion}
use Rattle.cam_net.specs.Waiting.{is_halted}
use Rattle.cam_wire.specs.Writable.{IsWritable}
use Rattle.cam_cluster.specs.Coming.{HasDelivered}
use Rattle.cam_cluster.proofs.AsSeen.{part, reads_at, reads_of, tells_of, works_of}
use Rattle.cam_cluster.proofs.DisksGoOn.{goes_on_still}
use Rattle.cam_cluster.proofs.HandedOver.{handed, node_awake, place_within}
use Rattle.cam_cluster.proofs.NumbersLeft.{letter_may_come}
use Rattle.cam_cluster.proofs.PlacedNodes.{after_is, each_there, on_err, seen_there, sees}
use Rattle.cam_cluster.proofs.PutWorks.{seen}
use Rattle.cam_cluster.proofs.works.Works.hand_over.Goals as goal

pub returns-then-coming-len-clause-disks : goal.returns-then-coming-len-clause-disks
returns-then-coming-len-clause-disks g c =
    goes_on_still

pub returns-then-coming-len-clause-as_before : goal.returns-then-coming-len-clause-as_before
returns-then-coming-len-clause-as_before g c =
    λ script st is keeps. keeps

pub put-requires-clause-place : goal.put-requires-clause-place
put-requires-clause-place g c =
    place_within _ _ _ c.requires.stand (sees _ _ _ (grind (arith, common_steps)))

pub put-requires-clause-may : goal.put-requires-clause-may
put-requires-clause-may g c =
    let works = works_of g.L.CheckpointLog g.L.EntryLog c.args.self.now in
    let reads = reads_of g.L.CheckpointLog g.L.EntryLog c.args.self.now in
    let place = c.args.coming.now.place in
    let some = c.requires.stand in
    each_there _ c.args.self.now.nodes.items place (λ node at.
    let seen = seen_there (part g.L.CheckpointLog g.L.EntryLog) c.args.self.now.nodes.items place
    node at in
    let there = sees (part g.L.CheckpointLog g.L.EntryLog) c.args.self.now.nodes.items place
    (slice_get_within c.args.self.now.nodes.items place node at) in (
      node_awake works reads place some c.requires.awake _ seen,
      tt,
      letter_may_come some.script some.standing works reads some.is_script some.keeps place there
          (ap (is_halted c.args.self.now.halted) (after_is place) ∙ c.requires.awake) _ seen
          c.args.coming.now.letter c.args.letter
          (c.requires.read some.script some.standing some.is_script some.keeps)
          (c.requires.found some.script some.standing some.is_script some.keeps).1,
    ))

pub put-requires-clause-there : goal.put-requires-clause-there
put-requires-clause-there g c =
    grind (arith, common_steps)

pub put-requires-clause-writable : goal.put-requires-clause-writable
put-requires-clause-writable g c =
    subst (AllByRecursion IsWritable) (sym c.requires.all) tt

pub returns-in_err-done-clause-disks : goal.returns-in_err-done-clause-disks
returns-in_err-done-clause-disks g c =
    c.put.ensures.disks

pub returns-in_err-done-clause-delivered : goal.returns-in_err-done-clause-delivered
returns-in_err-done-clause-delivered g c =
    search rules

pub returns-in_err-done-clause-as_before : goal.returns-in_err-done-clause-as_before
returns-in_err-done-clause-as_before g c = on_err _ _ c.in_err-done.ensures.as_before

pub returns-clause-disks : goal.returns-clause-disks
returns-clause-disks g c =
    c.put.ensures.disks

pub returns-clause-delivered : goal.returns-clause-delivered
returns-clause-delivered g c =
    rw c.delivered.ensures (handed _ _ _ _ _ _ c.requires.found c.requires.all
    c.requires.awake c.requires.read _ _ _ (place_within _ _ _ c.requires.stand (sees _ _ _
    (grind (arith, common_steps)))) c.in_ok-done.ensures.put c.put.ensures.net)
