-- A node of works was asked for a step after room was made, with works as they are seen: what its
-- ends make of them.
use Rattle.std.proofs.Common.{◌≡◌, ◌⊎◌, ℕ, ◌+◌, ◌≤◌, ◌<◌, Bool, true, false, List, [], ◌∷◌, ◌++◌, length}
use Rattle.std.proofs.Common.{get_or, set, ap, sym, subst, ◌∙◌, refl}
use Rattle.std.specs.Prelude.{IfSome, map, slice_get}
use Rattle.cam_base.specs.Causes.{Rose}
use Rattle.cam_ckpt.specs.declared.checkpoint_log.CheckpointLog.{Ghosts as CkptGhosts}
use Rattle.cam_event.specs.declared.Event.{Event}
use Rattle.cam_event.specs.declared.Letter.{Letter}
use Rattle.cam_event.specs.declared.Mark.TheVariants as marks
use Rattle.cam_log.specs.declared.entry_log.EntryLog.{Ghosts as LogGhosts}
use Rattle.cam_log.specs.CutOff.{IsCutOff}
use Rattle.cam_net.specs.Outbox.{HasPutSome, OutboxFields}
use Rattle.cam_net.specs.Waiting.{is_halted}
use Rattle.cam_node.specs.declared.fault.NodeFault.{NodeFault}
use Rattle.cam_node.specs.declared.fault.NodeFault.TheVariants as faults
use Rattle.cam_node.specs.declared.node.Node.{Node}
use Rattle.cam_node.specs.declared.Input.{Input as NodeInput}
use Rattle.cam_node.specs.Appending.{HasAppended, OpensAfter}
use Rattle.cam_node.specs.Calls.{AreSame, input_of, letters_of, load_of, mail_of}
use Rattle.cam_node.specs.Found.{HaltsAt}
use Rattle.cam_node.specs.Halting.{IsStepThrough}
use Rattle.cam_node.specs.Keeping.{IsHalt, KeepsOn}
use Rattle.cam_cluster.specs.declared.works.failing.Failed.{Failed}
use Rattle.cam_cluster.specs.declared.works.Put.{Put}
use Rattle.cam_cluster.specs.declared.works.Put.TheVariants as puts
use Rattle.cam_cluster.specs.declared.works.Works.{Works}
use Rattle.cam_cluster.specs.Failing.{GoOn, IsAfterCall, IsAfterHalt, IsKnownToFail, KnowsMore}
use Rattle.cam_cluster.specs.Puts.{HasPut, KeepsAsBefore, letter_of}
use Rattle.cam_cluster.specs.Works.{HasTellingDisk, MayReadAt, NodeFields}
use Rattle.cam_cluster.proofs.AsSeen.{part, reads_at, reads_of, tells_of, works_of}
use Rattle.cam_cluster.proofs.Failures.{call_knows, halt_by_disk, halt_disks, halt_knows}
use Rattle.cam_cluster.proofs.Failures.{knows_then, not_risen_there}
use Rattle.cam_cluster.proofs.DisksGoOn.{goes_on_with, halt_known, same_known}
use Rattle.cam_cluster.proofs.OneDiskCalled.{goes_on_in, watched_there}
use Rattle.cam_cluster.proofs.PutWorks.{as_before_in, halted_in, net_grows, seen, seen_as, stood_in}
use Rattle.cam_cluster.proofs.RoomInWorks.{known_too, made_room, there_still}
use Rattle.cam_cluster.proofs.StoppedWorks.{told_cut, unfailing_less}

module _ {X : Type 0} {g : CkptGhosts X} {h : LogGhosts X} (old mid : Works X g h)
    (nodes : mid.nodes ≡ old.nodes) (some : HasPutSome old.outbox mid.outbox)
    (halted : mid.halted ≡ old.halted) (failed : mid.failed ≡ old.failed)
    (undecided : mid.undecided.items ≡ old.undecided.items)
    (events : mid.events.events.items ≡ old.events.events.items)
    (marked : mid.marks.items ≡ old.marks.items) (place : ℕ)
    (there : place < length old.nodes.items) (within : place < 8) (asked node new : Node X g h)
    (before : ℕ) (known : Failed) (is_asked : asked ≡ get_or mid.nodes.items place asked)
    (is_node : node ≡ get_or mid.nodes.items place node)
    (is_before : before ≡ (part g h asked).failures)
    (after : IfSome (slice_get (set mid.nodes.items place new) place)
    (λ (n : Node X g h). IsAfterCall place before (part g h n).failures mid.failed known))
    (told : (part g h new).tells ≡ (part g h node).tells)
    (later : (part g h node).failures ≤ (part g h new).failures) where
  abbrev was : NodeFields
  was = part g h node

  abbrev made : NodeFields
  made = part g h new

  there_now : place < length mid.nodes.items
  there_now = there_still old mid nodes _ there

  watched : IsAfterCall place was.failures made.failures mid.failed known
  watched =
      watched_there (part g h) _ _ _ _ _ _ _ _ there_now is_asked is_node is_before after

  pub knows : KnowsMore mid.failed known
  knows = call_knows _ _ _ _ _ within watched

  pub less : HasTellingDisk made → HasTellingDisk was
  less = unfailing_less was made told

  -- the disks go on
  pub disks_on : (news : List (Node X g h)) (now : Failed) → news ≡ set mid.nodes.items place new
      → ((nodes : List NodeFields) → IsKnownToFail known nodes now nodes)
      → GoOn (map (part g h) old.nodes.items) old.failed (map (part g h) news) now
  disks_on news now are more =
      goes_on_with (goes_on_in _ _ _ _ _ _ _ _ _ _ (ap (λ v. v.items)
      nodes) failed there_now is_node are told later watched within) (more _)

  module _ (objects : made.objects ≡ was.objects) where
    -- memory ran out, and the node runs
    pub asked_in_vain : was.halted ≡ false → made.halted ≡ false
        → AreSame was.site.node made.site.node → made.site.entries ≡ was.site.entries
        → made.passes ≡ was.passes
        → KeepsAsBefore (works_of g h old) (reads_of g h old)
        (seen (part g h) (tells_of g h) (reads_at g h) (set mid.nodes.items place new) mid.outbox
        mid.halted known mid.undecided.items mid.events.events.items mid.marks.items)
        (MayReadAt (tells_of g h) (reads_at g h) (set mid.nodes.items place new))
        × GoOn (map (part g h) old.nodes.items) old.failed
        (map (part g h) (set mid.nodes.items place new)) known
    asked_in_vain ran runs same entries passes = (
      λ script st is keeps.
          as_before_in (part g h) (tells_of g h) (reads_at g h) place mid.nodes.items mid.outbox
          mid.halted known mid.undecided.items mid.events.events.items mid.marks.items node new
          there_now within is_node (set mid.nodes.items place new) refl objects ran runs same
          entries
          passes less script st is
          (known_too old mid nodes some halted failed undecided events marked known knows script st
          is keeps),
      disks_on (set mid.nodes.items place new) known refl (same_known known known refl),
    )

    -- At the end the input was put, the disks go on, and the network only grew.
    abbrev pub HasEnded : ℕ → NodeInput → Put → Works X g h → Type 0
    HasEnded line input done end =
        HasPut line place input (works_of g h old) (reads_of g h old) done (works_of g h end)
        (reads_of g h end)
        × GoOn (map (part g h) old.nodes.items) old.failed (map (part g h) end.nodes.items)
        end.failed
        × (length old.outbox.net ≤ length end.outbox.net)

    module _ (line : ℕ) (input : NodeInput) (end : Works X g h)
        (are : end.nodes.items ≡ set mid.nodes.items place new)
        (none_left : mid.outbox.unput ≡ []) where
      -- its event stands
      pub event_stands : (event : Event) (letters : List Letter)
          → end.outbox ≡ record { net = mid.outbox.net; unput = letters }
          → end.halted ≡ mid.halted → end.failed ≡ known
          → end.undecided.items ≡ mid.undecided.items
          → end.events.events.items ≡ mid.events.events.items ++ event ∷ []
          → end.marks.items ≡ mid.marks.items
          → length mid.events.events.items + 1 < 1000000000
          → made.halted ≡ was.halted
          → IsStepThrough was.objects was.site.node made.site.node
          (input_of was.site.node.number input) (mail_of input) (load_of input) event
          → KeepsOn was.objects was.site.node was.site.entries made.site.node made.site.entries
          (input_of was.site.node.number input) (mail_of input) (load_of input) event
          → letters ≡ letters_of made.site.node event.sent
          → HasAppended was.objects was.site.node (input_of was.site.node.number input)
          (mail_of input) (load_of input) event was.site.entries made.site.entries was.passes
          made.passes
          → HasEnded line input puts.Stood end
      event_stands event letters is_o is_h is_f is_u is_e is_m few runs step on sent appended = (
        λ script st halts restarted is keeps put_so none.
            seen_as (part g h) (tells_of g h) (reads_at g h) script _ end.nodes.items
            (record { net = mid.outbox.net; unput = letters }) end.outbox mid.halted end.halted
            known
            end.failed mid.undecided.items end.undecided.items
            (mid.events.events.items ++ event ∷ []) end.events.events.items mid.marks.items
            end.marks.items is_o is_h is_f is_u is_e is_m
            (stood_in (part g h) (tells_of g h) (reads_at g h) place mid.nodes.items mid.outbox
            mid.halted known mid.undecided.items mid.events.events.items mid.marks.items node new
            there_now within is_node end.nodes.items are objects line input event letters none_left
            few runs step on sent less appended script st halts restarted is
            (known_too old mid nodes some halted failed undecided events marked known knows script
            st is keeps) put_so none),
        disks_on end.nodes.items end.failed are (same_known known end.failed is_f),
        subst (λ (o : OutboxFields). length old.outbox.net ≤ length o.net) (sym is_o)
            (net_grows old.outbox mid.outbox some),
      )

      -- it halts
      pub node_halts : (fault : NodeFault) → end.outbox ≡ mid.outbox
          → end.halted ≡ set mid.halted place true → IsAfterHalt fault known end.failed
          → end.undecided.items ≡ record {
            node = place + 1;
            before = length mid.events.events.items;
            got = letter_of input;
          } ∷ mid.undecided.items
          → end.events.events.items ≡ mid.events.events.items
          → end.marks.items ≡ mid.marks.items ++ marks.Halted line (place + 1) false ∷ []
          → made.halted ≡ true
          → made.site.node.number ≡ was.site.node.number
          → (tells_of g h new ≡ true → IsHalt was.objects was.site.node was.site.entries
          (input_of was.site.node.number input) (mail_of input) (load_of input) (reads_at g h new))
          → HaltsAt was.objects was.site.node was.site.entries
          (input_of was.site.node.number input) (mail_of input) (load_of input) made.site.node
          made.halted_at
          → (fault ≡ faults.DiskFault
          → Rose was.failures made.failures ⊎ IsCutOff 4 was.passes made.passes
          (λ calls. was.tells ≡ true → OpensAfter calls was.objects was.site.node
          was.site.entries (input_of was.site.node.number input) (mail_of input) (load_of input)
          made.reads))
          → HasEnded line input puts.Halted end
      node_halts fault is_o is_h is_f is_u is_e is_m stops same halt at_event cut = (
        λ script st halts restarted is keeps put_so lost.
            seen_as (part g h) (tells_of g h) (reads_at g h) script _ end.nodes.items mid.outbox
            end.outbox (set mid.halted place true) end.halted end.failed end.failed
            (record {
              node = place + 1;
              before = length mid.events.events.items;
              got = letter_of input;
            } ∷ mid.undecided.items) end.undecided.items mid.events.events.items
            end.events.events.items (mid.marks.items ++ marks.Halted line (place + 1) false ∷ [])
            end.marks.items is_o is_h refl is_u is_e is_m
            (halted_in (part g h) (tells_of g h) (reads_at g h) place mid.nodes.items mid.outbox
            mid.halted mid.failed mid.undecided.items mid.events.events.items mid.marks.items node
            new
            there_now within is_node end.nodes.items are objects line input none_left stops same
            halt
            at_event end.failed
            (knows_then mid.failed known end.failed knows (halt_knows fault known end.failed is_f))
            less
            (λ none sound now_told. told_cut _ _ _ _
            (not_risen_there place was.failures made.failures mid.failed known within watched
            (ap (λ (ds : List Bool). is_halted ds (place + 1))
            (sym (halt_disks fault known end.failed is_f)) ∙ sound)) (sym told ∙ now_told)
            (cut (halt_by_disk fault known end.failed is_f none)))
            script st halts restarted is
            (made_room old mid nodes some halted failed undecided events marked script st is keeps)
            put_so lost),
        disks_on end.nodes.items end.failed are (halt_known fault known end.failed is_f),
        subst (λ (o : OutboxFields). length old.outbox.net ≤ length o.net) (sym is_o)
            (net_grows old.outbox mid.outbox some),
      )
