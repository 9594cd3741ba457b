-- A letter is read from all of its bytes.
use Rattle.std.proofs.Common.{ap, ◌∙◌, rules}
use Rattle.cam_net.specs.Letters.{whole_of}
use Rattle.cam_cluster.proofs.AsSeen.{reads_of, works_of}
use Rattle.cam_cluster.proofs.ReadLetters.{no_bytes, no_cut, reads_it}
use Rattle.cam_cluster.proofs.works.Works.read.Goals as goal

pub unreachable-requires : goal.unreachable-requires
unreachable-requires g c =
    no_bytes (works_of g.L.CheckpointLog g.L.EntryLog c.args.self.now)
    (reads_of g.L.CheckpointLog g.L.EntryLog c.args.self.now) c.args.number c.args.coming.now
    c.requires.found c.requires.all c.requires.stand
    (c.in_default.ensures ∙ ap (λ n. whole_of n c.args.number) c.net.ensures)

pub unreachable-unreachable : goal.unreachable-unreachable
unreachable-unreachable g c =
    no_bytes (works_of g.L.CheckpointLog g.L.EntryLog c.args.self.now)
    (reads_of g.L.CheckpointLog g.L.EntryLog c.args.self.now) c.args.number c.args.coming.now
    c.requires.found c.requires.all c.requires.stand
    (c.in_default.ensures ∙ ap (λ n. whole_of n c.args.number) c.net.ensures)

pub returns-in_err-letter : goal.returns-in_err-letter
returns-in_err-letter g c =
    search rules

pub unreachable-requires-in-Cut : goal.unreachable-requires-in-Cut
unreachable-requires-in-Cut g c =
    no_cut (works_of g.L.CheckpointLog g.L.EntryLog c.args.self.now)
    (reads_of g.L.CheckpointLog g.L.EntryLog c.args.self.now) c.args.number c.args.coming.now
    c.requires.found c.requires.all
    c.requires.stand c.in_ok-letter.field-0 c.in-Some.bytes.now c.in-Cut.field-0
    (c.in-Some.ensures ∙ ap (λ n. whole_of n c.args.number) c.net.ensures)
    c.in_ok-letter.ensures.whole c.in-Cut.is

pub unreachable-unreachable-in-Cut : goal.unreachable-unreachable-in-Cut
unreachable-unreachable-in-Cut g c =
    no_cut (works_of g.L.CheckpointLog g.L.EntryLog c.args.self.now)
    (reads_of g.L.CheckpointLog g.L.EntryLog c.args.self.now) c.args.number c.args.coming.now
    c.requires.found c.requires.all
    c.requires.stand c.in_ok-letter.field-0 c.in-Some.bytes.now c.in-Cut.field-0
    (c.in-Some.ensures ∙ ap (λ n. whole_of n c.args.number) c.net.ensures)
    c.in_ok-letter.ensures.whole c.in-Cut.is

pub returns : goal.returns
returns g c =
    reads_it _ _ _ _ c.requires.found c.requires.all _ _ _ (c.in-Some.ensures ∙ ap (λ n.
    whole_of n c.args.number) c.net.ensures) c.in_ok-letter.ensures.whole c.in-Whole.is
