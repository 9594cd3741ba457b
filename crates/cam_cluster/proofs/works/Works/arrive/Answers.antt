-- A letter is read from the bytes that are left of it.
use Rattle.std.proofs.Common.{ap, ◌∙◌}
use Rattle.cam_net.specs.Letters.{cut_of}
use Rattle.cam_cluster.proofs.AsSeen.{reads_of, works_of}
use Rattle.cam_cluster.proofs.ReadLetters.{arrives, no_front}
use Rattle.cam_cluster.proofs.works.Works.arrive.Goals as goal

pub unreachable-requires : goal.unreachable-requires
unreachable-requires g c =
    no_front (works_of g.L.CheckpointLog g.L.EntryLog c.args.self.now)
    (reads_of g.L.CheckpointLog g.L.EntryLog c.args.self.now) c.args.number c.args.coming.now
    c.requires.found c.requires.all c.requires.stand c.args.bytes
    (c.in-None.ensures ∙ ap (λ n. cut_of n c.args.number c.args.bytes) c.net.ensures)

pub unreachable-unreachable : goal.unreachable-unreachable
unreachable-unreachable g c =
    no_front (works_of g.L.CheckpointLog g.L.EntryLog c.args.self.now)
    (reads_of g.L.CheckpointLog g.L.EntryLog c.args.self.now) c.args.number c.args.coming.now
    c.requires.found c.requires.all c.requires.stand c.args.bytes
    (c.in-None.ensures ∙ ap (λ n. cut_of n c.args.number c.args.bytes) c.net.ensures)

pub returns : goal.returns
returns g c =
    arrives _ _ _ _ c.requires.found c.requires.all _ _ _ (c.in-Some.ensures ∙ ap (λ n.
    cut_of n c.args.number c.args.bytes) c.net.ensures) c.read_arrival.ensures.whole
    c.read_arrival.ensures.cut
