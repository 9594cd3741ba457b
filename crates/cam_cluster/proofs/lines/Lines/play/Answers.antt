-- The line `play`.
use Rattle.std.proofs.Common.{◌++◌, ◌∷◌, [], None, ap, ◌∙◌, rules}
use Rattle.cam_cluster.proofs.AsSeen.{reads_of, works_of}
use Rattle.cam_cluster.proofs.DisksGoOn.{goes_on_still}
use Rattle.cam_cluster.proofs.PlacedNodes.{on_err}
use Rattle.cam_cluster.proofs.PlayLine.{none_played, play_line, play_wanting}
use Rattle.cam_cluster.proofs.lines.Lines.play.Goals as goal

pub returns-in_err-reserve_one-clause-disks : goal.returns-in_err-reserve_one-clause-disks
returns-in_err-reserve_one-clause-disks g c =
    goes_on_still

pub returns-in_err-reserve_one-clause-line : goal.returns-in_err-reserve_one-clause-line
returns-in_err-reserve_one-clause-line g c =
    search rules

pub returns-in_err-reserve_one-clause-part : goal.returns-in_err-reserve_one-clause-part
returns-in_err-reserve_one-clause-part g c =
    let works = works_of g.L.CheckpointLog g.L.EntryLog c.args.self.now.works in
    let reads = reads_of g.L.CheckpointLog g.L.EntryLog c.args.self.now.works in
    on_err _ _ (play_wanting c.args.line c.args.bodies.now works works reads reads
    c.args.workers.now c.args.workers.now c.args.self.now.bound.items c.reserve_one.new.list.items
    (none_played _ _ _ _ _) c.reserve_one.ensures.same)

pub play-requires : goal.play-requires
play-requires g c = record { play = c.requires.play }

pub returns-in_err-play-clause-disks : goal.returns-in_err-play-clause-disks
returns-in_err-play-clause-disks g c =
    c.play.ensures.disks

pub returns-in_err-play-clause-line : goal.returns-in_err-play-clause-line
returns-in_err-play-clause-line g c =
    search rules

pub returns-in_err-play-clause-part : goal.returns-in_err-play-clause-part
returns-in_err-play-clause-part g c =
    on_err _ _ (play_wanting c.args.line c.args.bodies.now (works_of g.L.CheckpointLog g.L.EntryLog
    c.args.self.now.works) (works_of g.L.CheckpointLog g.L.EntryLog c.play.new.self) (reads_of
    g.L.CheckpointLog g.L.EntryLog c.args.self.now.works) (reads_of g.L.CheckpointLog g.L.EntryLog
    c.play.new.self) c.args.workers.now c.play.new.workers c.args.self.now.bound.items
    c.reserve_one.new.list.items c.in_err-play.ensures.part c.reserve_one.ensures.same)

pub push_reserved-requires : goal.push_reserved-requires
push_reserved-requires g c =
    c.in_ok-reserve_one.ensures.room

pub returns-clause-disks : goal.returns-clause-disks
returns-clause-disks g c =
    c.play.ensures.disks

pub returns-clause-line : goal.returns-clause-line
returns-clause-line g c =
    play_line c.args.line c.args.bodies.now
    (works_of g.L.CheckpointLog g.L.EntryLog c.args.self.now.works)
    (works_of g.L.CheckpointLog g.L.EntryLog c.play.new.self)
    (reads_of g.L.CheckpointLog g.L.EntryLog c.args.self.now.works)
    (reads_of g.L.CheckpointLog g.L.EntryLog c.play.new.self) c.args.workers.now
    c.play.new.workers c.args.self.now.bound.items c.push_reserved.new.list.items
    c.in_ok-play.ensures.played
    (c.push_reserved.ensures ∙ ap (λ bs. bs ++ None ∷ []) c.reserve_one.ensures.same)
