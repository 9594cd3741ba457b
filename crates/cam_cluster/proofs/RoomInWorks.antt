-- Room was made in works, as they are seen: they keep what they kept, also where more is known to
-- have failed since.
use Rattle.std.proofs.Common.{◌≡◌, ℕ, ◌<◌, ap, length, set, subst, sym}
use Rattle.std.proofs.lemmas.List.{length-set}
use Rattle.cam_ckpt.specs.declared.checkpoint_log.CheckpointLog.{Ghosts as CkptGhosts}
use Rattle.cam_log.specs.declared.entry_log.EntryLog.{Ghosts as LogGhosts}
use Rattle.cam_net.specs.Outbox.{HasPutSome}
use Rattle.cam_node.specs.declared.node.Node.{Node}
use Rattle.cam_cluster.specs.declared.works.failing.Failed.{Failed}
use Rattle.cam_cluster.specs.declared.works.Works.{Works}
use Rattle.cam_cluster.specs.Failing.{KnowsMore}
use Rattle.cam_cluster.specs.Puts.{KeepsAsBefore}
use Rattle.cam_cluster.proofs.AsSeen.{part, reads_at, reads_of, tells_of, works_of}
use Rattle.cam_cluster.proofs.PutWorks.{failed_as, room_made, seen}

module _ {X : Type 0} {g : CkptGhosts X} {h : LogGhosts X} (old mid : Works X g h)
    (nodes : mid.nodes ≡ old.nodes) where
  -- a node is at its place still
  pub there_still : (place : ℕ) → place < length old.nodes.items → place < length mid.nodes.items
  there_still place there = rw (← (ap (λ v. length v.items) (sym nodes))) there

  pub there_set : (place : ℕ) (new : Node X g h) → place < length old.nodes.items
      → place < length (set mid.nodes.items place new)
  there_set place new there = rw (length-set mid.nodes.items place new) (there_still place there)

  module _ (some : HasPutSome old.outbox mid.outbox) (halted : mid.halted ≡ old.halted)
      (failed : mid.failed ≡ old.failed)
      (undecided : mid.undecided.items ≡ old.undecided.items)
      (events : mid.events.events.items ≡ old.events.events.items)
      (marks : mid.marks.items ≡ old.marks.items) where
    pub made_room : KeepsAsBefore (works_of g h old) (reads_of g h old) (works_of g h mid)
        (reads_of g h mid)
    made_room =
        room_made (part g h) _ (reads_at g h) _ _ _ _ _ _ _ _ _ _ _ _ _ _ (ap (λ v.
        v.items) nodes) some halted failed undecided events marks

    module _ (known : Failed) (fed : KnowsMore mid.failed known) where
      pub known_too : KeepsAsBefore (works_of g h old) (reads_of g h old)
          (seen (part g h) (tells_of g h) (reads_at g h) mid.nodes.items mid.outbox mid.halted known
          mid.undecided.items mid.events.events.items mid.marks.items) (reads_of g h mid)
      known_too script st is keeps =
          failed_as (part g h) _ (reads_at g h) _ _ _ _ _ _ _ _ fed script st is (made_room
          script st is keeps)
