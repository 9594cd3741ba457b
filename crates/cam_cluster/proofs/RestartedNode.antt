-- A node of works was restarted after room was made, with works as they are seen: what its ends
-- make of them.
use Rattle.std.proofs.Common.{◌≡◌, ℕ, ◌+◌, ◌≤◌, ◌<◌, true, false, List, [], ◌∷◌, ◌++◌, length}
use Rattle.std.proofs.Common.{get_or, set, ap, sym, subst, None, Some}
use Rattle.std.specs.Prelude.{IfSome, map, slice_get}
use Rattle.cam_ckpt.specs.declared.checkpoint_log.CheckpointLog.{Ghosts as CkptGhosts}
use Rattle.cam_event.specs.declared.Event.{Event}
use Rattle.cam_log.specs.declared.entry_log.EntryLog.{Ghosts as LogGhosts}
use Rattle.cam_net.specs.Outbox.{HasPutSome}
use Rattle.cam_net.specs.Waiting.{is_halted}
use Rattle.cam_node.specs.declared.found.Restarted.{Restarted}
use Rattle.cam_node.specs.declared.node.Node.{Node}
use Rattle.cam_node.specs.Found.{HasRestarted}
use Rattle.cam_node.specs.Log.{Logged}
use Rattle.cam_cluster.specs.declared.works.failing.Failed.{Failed}
use Rattle.cam_cluster.specs.declared.works.restart.Restart.{Restart}
use Rattle.cam_cluster.specs.declared.works.restart.Restart.TheVariants as ends
use Rattle.cam_cluster.specs.declared.works.Works.{Works}
use Rattle.cam_cluster.specs.Failing.{GoOn, IsAfterCall}
use Rattle.cam_cluster.specs.OpenHalts.{events_found, halts_found, marks_found, open_halt_of}
use Rattle.cam_cluster.specs.Puts.{KeepsAsBefore}
use Rattle.cam_cluster.specs.Restarts.{HasRestartedAs}
use Rattle.cam_cluster.specs.Works.{NodeFields, WorksFields}
use Rattle.cam_cluster.proofs.AskedNode.{disks_on, knows, less}
use Rattle.cam_cluster.proofs.AsSeen.{part, reads_at, reads_of, tells_of, works_of}
use Rattle.cam_cluster.proofs.DisksGoOn.{same_known}
use Rattle.cam_cluster.proofs.HaltsKept.{open_without}
use Rattle.cam_cluster.proofs.PlacedNodes.{one_there, taken_there}
use Rattle.cam_cluster.proofs.PutWorks.{seen}
use Rattle.cam_cluster.proofs.RestartEnds.{after_room, same_works}
use Rattle.cam_cluster.proofs.RestartReads.{IsReadOf}
use Rattle.cam_cluster.proofs.RestartedWorks.{found_in, restarted_in}
use Rattle.cam_cluster.proofs.RoomInWorks.{known_too, there_still}

module _ {X : Type 0} {g : CkptGhosts X} {h : LogGhosts X} (old mid : Works X g h)
    (nodes : mid.nodes ≡ old.nodes) (some : HasPutSome old.outbox mid.outbox)
    (halted : mid.halted ≡ old.halted) (failed : mid.failed ≡ old.failed)
    (undecided : mid.undecided.items ≡ old.undecided.items)
    (events : mid.events.events.items ≡ old.events.events.items)
    (marked : mid.marks.items ≡ old.marks.items) (place : ℕ)
    (there : place < length old.nodes.items) (within : place < 8) (asked node new : Node X g h)
    (before : ℕ) (known : Failed) (is_asked : asked ≡ get_or mid.nodes.items place asked)
    (is_node : node ≡ get_or mid.nodes.items place node)
    (is_before : before ≡ (part g h asked).failures)
    (after : IfSome (slice_get (set mid.nodes.items place new) place)
    (λ (n : Node X g h). IsAfterCall place before (part g h n).failures mid.failed known))
    (told : (part g h new).tells ≡ (part g h node).tells)
    (later : (part g h node).failures ≤ (part g h new).failures) where
  abbrev was : NodeFields
  was = part g h node

  abbrev made : NodeFields
  made = part g h new

  -- the works that made room, where it is known what failed
  abbrev between : WorksFields
  between =
      seen (part g h) (tells_of g h) (reads_at g h) mid.nodes.items mid.outbox mid.halted known
      mid.undecided.items mid.events.events.items mid.marks.items

  there_now : place < length mid.nodes.items
  there_now = there_still old mid nodes _ there

  known_before : KeepsAsBefore (works_of g h old) (reads_of g h old) between (reads_of g h mid)
  known_before =
      known_too old mid nodes some halted failed undecided events marked known (knows
      old mid nodes some halted failed undecided events marked place there within asked node new
      before _ is_asked is_node is_before after told later)

  -- the node that was there
  pub node_there : slice_get old.nodes.items place ≡ Some node
  node_there = rw (← (ap (λ v. v.items) nodes)) (taken_there _ _ _ there_now is_node)

  module _ (objects : made.objects ≡ was.objects)
      (rest : tells_of g h node ≡ true → was.halted ≡ false → (logged : Logged)
      → reads_at g h node logged → IsReadOf was.site.entries logged)
      (none_left : mid.outbox.unput ≡ []) (r : Restarted) (runs : made.halted ≡ false)
      (has : HasRestarted was.objects was.site.node.number (tells_of g h node) (reads_at g h node)
      was.site.node was.halted_at made.site.node made.site.entries r)
      (no_letters : r.stepped.letters ≡ []) (passes : made.passes ≡ None) (end : Works X g h)
      (are : end.nodes.items ≡ set mid.nodes.items place new) (is_f : end.failed ≡ known)
      (is_o : end.outbox ≡ record { net = mid.outbox.net; unput = r.stepped.letters })
      (is_h : end.halted ≡ set mid.halted place false) where
    -- At the end the node restarted so, where its disk tells what it holds, and the disks go on.
    abbrev pub HasEnded : Restart → Type 0
    HasEnded done =
        IfSome (slice_get old.nodes.items place)
        (λ (n : Node X g h). tells_of g h n ≡ true → HasRestartedAs place (works_of g h old)
        (reads_of g h old) done (works_of g h end) (reads_of g h end))
        × GoOn (map (part g h) old.nodes.items) old.failed (map (part g h) end.nodes.items)
        end.failed

    -- what is said of the works with the room holds of those before
    ended : (done : Restart)
        → (tells_of g h node ≡ true
        → HasRestartedAs place between (reads_of g h mid) done (works_of g h end)
        (reads_of g h end))
        → HasEnded done
    ended done so = (
      one_there (λ (n : Node X g h). tells_of g h n ≡ true → HasRestartedAs place
          (works_of g h old) (reads_of g h old) done (works_of g h end) (reads_of g h end))
          old.nodes.items place node node_there
          (λ tells. after_room place (works_of g h old) between (works_of g h end)
          (reads_of g h old) (reads_of g h mid) (reads_of g h end) done known_before (so tells)),
      disks_on old mid nodes some halted failed undecided events marked place there within asked
          node new before known is_asked is_node is_before after told later end.nodes.items
          end.failed are (same_known known end.failed is_f),
    )

    -- nothing was found
    pub stood_again : length mid.events.events.items + 1 < 1000000000
        → (is_halted mid.halted (place + 1) ≡ true → r.found.event ≡ None)
        → end.undecided.items ≡ open_without (place + 1) mid.undecided.items
        → end.events.events.items ≡ mid.events.events.items ++ r.stepped.event ∷ []
        → end.marks.items ≡ mid.marks.items → HasEnded ends.Stood
    stood_again few none is_u is_e is_m =
        ended ends.Stood (λ tells. subst (λ (w : WorksFields). HasRestartedAs place between
        (reads_of g h mid) ends.Stood w (reads_of g h end))
        (sym (same_works (part g h) (tells_of g h) (reads_at g h) end.nodes.items end.outbox _
        end.halted _ end.failed known end.undecided.items _ end.events.events.items _
        end.marks.items _ is_o is_h is_f is_u is_e is_m))
        (restarted_in (part g h) (tells_of g h) (reads_at g h) place mid.nodes.items mid.outbox
        mid.halted known mid.undecided.items mid.events.events.items mid.marks.items node new
        there_now within is_node end.nodes.items are objects tells (rest tells) none_left r runs has
        no_letters passes
        (less old mid nodes some halted failed undecided events marked place there within asked node
        new before known is_asked is_node is_before after told later) few none))

    -- the event was found
    pub found_again : (event : Event) → length mid.events.events.items + 2 < 1000000000
        → is_halted mid.halted (place + 1) ≡ true → r.found.event ≡ Some event
        → end.undecided.items ≡ open_without (place + 1)
        (halts_found (place + 1) (open_halt_of (place + 1) mid.undecided.items)
        mid.undecided.items)
        → end.events.events.items ≡ events_found (open_halt_of (place + 1) mid.undecided.items)
        event mid.events.events.items ++ r.stepped.event ∷ []
        → end.marks.items ≡ marks_found (place + 1) (open_halt_of (place + 1) mid.undecided.items)
        mid.marks.items
        → HasEnded ends.Found
    found_again event few stops says is_u is_e is_m =
        ended ends.Found (λ tells. subst (λ (w : WorksFields). HasRestartedAs place between
        (reads_of g h mid) ends.Found w (reads_of g h end))
        (sym (same_works (part g h) (tells_of g h) (reads_at g h) end.nodes.items end.outbox _
        end.halted _ end.failed known end.undecided.items _ end.events.events.items _
        end.marks.items _ is_o is_h is_f is_u is_e is_m))
        (found_in (part g h) (tells_of g h) (reads_at g h) place mid.nodes.items mid.outbox
        mid.halted known mid.undecided.items mid.events.events.items mid.marks.items node new
        there_now within is_node end.nodes.items are objects tells (rest tells) none_left r runs has
        no_letters passes
        (less old mid nodes some halted failed undecided events marked place there within asked node
        new before known is_asked is_node is_before after told later) event few stops says))
