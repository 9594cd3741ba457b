-- Agreement on outcomes: of runs.
use Rattle.std.proofs.Common.{◌≡◌, ℕ, Bool, true, List, ◌∷◌, Some, refl, sym, ◌∙◌, subst}
use Rattle.std.specs.List.{list_any}
use Rattle.std.proofs.lemmas.Bool.{false_from_ne_true}
use Rattle.cam_names.specs.declared.name.Name.{Name}
use Rattle.cam_type.specs.declared.ObjectDecl.{ObjectDecl}
use Rattle.cam_know.specs.Known.{knows_abort, knows_commit, is_abort_of, is_commit_of}
use Rattle.cam_know.proofs.OrphanBySet.{any_same}
use Rattle.cam_event.specs.declared.Event.{Event}
use Rattle.cam_event.specs.declared.Deed.{Deed}
use Rattle.cam_event.specs.declared.Deed.TheVariants.{Commit}
use Rattle.cam_event.specs.History.{is_commit, is_abort, committed, aborted}
use Rattle.cam_event.specs.Pasts.{last_of, holds, in_past, plain_all, every}
use Rattle.cam_event.specs.Inputs.{event_at}
use Rattle.cam_event.specs.ByPast.{own_past}
use Rattle.cam_event.specs.ByKnowledge.{held, of_node, carried_of}
use Rattle.cam_event.specs.Runs.{IsRun}
use Rattle.cam_event.proofs.Members.{any_more, plain_more, in_event}
use Rattle.cam_event.proofs.RunLaws.{runs_are_sent}
use Rattle.cam_event.proofs.SameOutcomes.{held_and_brought}
use Rattle.cam_event.proofs.Decisions.{tells_aborts, tells_commits}
use Rattle.cam_plain.specs.Legal.{Legal}
use Rattle.cam_plain.proofs.Histories.{legal_before}
use Rattle.cam_plain.proofs.Deciding.{one_outcome}
use Rattle.cam_cut.proofs.Holds.{every_closed}
use Rattle.cam_cut.proofs.Laws.{closed_sets_are_legal}
use Rattle.cam_serial.proofs.Depended.{commit_needs, commit_secured}
use Rattle.cam_delta.proofs.Addressed.{runs_are_addressed}
use Rattle.cam_delta.proofs.SameKnown.{nodes_know_the_same}
use Rattle.cam_delta.specs.Laws.{known_by}
use Rattle.cam_headline.specs.Outcomes.{EachIsDecidedOnce, NoTwoEventsDiffer, HeldWasDecided, NoTwoNodesDiffer, CommittedIsSecured, CommitNeedsSecured}
use Rattle.cam_headline.proofs.Decided.{decided_once}

-- the whole of a run reads as a legal history
pub whole_legal : (objects : List ObjectDecl) (t : List Event) → IsRun objects t → Legal objects (plain_all t)
whole_legal objects t run = closed_sets_are_legal objects t every run (every_closed t)

pub each_is_decided_once : EachIsDecidedOnce
each_is_decided_once objects t a run = decided_once objects (plain_all t) a (whole_legal objects t run)

-- what an event decides is decided in the whole
pub event_in_whole : (p : Deed → Bool) (t : List Event) (i : ℕ) (e : Event) → event_at t i ≡ Some e → list_any p e.deeds ≡ true → list_any p (plain_all t) ≡ true
event_in_whole p t i e at h = any_more p e.deeds (plain_all t) (λ d there. in_event t every i e d at refl there) h

pub no_two_events_differ : NoTwoEventsDiffer
no_two_events_differ objects t i j d e a run first second commits =
    false_from_ne_true (list_any (is_abort a) e.deeds)
    (λ aborts. one_outcome objects (plain_all t) a (whole_legal objects t run) (event_in_whole (is_commit a) t i d first commits) (event_in_whole (is_abort a) t j e second aborts))

-- What a node holds stands in the past of its last event.
pub holds_aborts : (objects : List ObjectDecl) (t : List Event) (s : ℕ) (a : Name) → IsRun objects t → knows_abort (known_by objects t s) a ≡ aborted (own_past t s) a
holds_aborts objects t s a run =
    any_same (is_abort_of a) (known_by objects t s) (held objects (of_node (carried_of objects t) s)) (nodes_know_the_same objects t s (runs_are_addressed objects t run))
    ∙ (held_and_brought (is_abort a) (is_abort_of a) (tells_aborts a) objects t (runs_are_sent objects t run)).0 s

pub holds_commits : (objects : List ObjectDecl) (t : List Event) (s : ℕ) (a : Name) → IsRun objects t → knows_commit (known_by objects t s) a ≡ committed (own_past t s) a
holds_commits objects t s a run =
    any_same (is_commit_of a) (known_by objects t s) (held objects (of_node (carried_of objects t) s)) (nodes_know_the_same objects t s (runs_are_addressed objects t run))
    ∙ (held_and_brought (is_commit a) (is_commit_of a) (tells_commits a) objects t (runs_are_sent objects t run)).0 s

-- and so in the whole
pub own_in_whole : (p : Deed → Bool) (t : List Event) (s : ℕ) → list_any p (own_past t s) ≡ true → list_any p (plain_all t) ≡ true
own_in_whole p t s h = any_more p (own_past t s) (plain_all t) (plain_more t (λ i. holds (in_past t i) (last_of t s)) every (λ k g. refl)) h

pub held_was_decided : HeldWasDecided
held_was_decided objects t s a run = (
  λ h. own_in_whole (is_commit a) t s (sym (holds_commits objects t s a run) ∙ h),
  λ h. own_in_whole (is_abort a) t s (sym (holds_aborts objects t s a run) ∙ h),
)

pub no_two_nodes_differ : NoTwoNodesDiffer
no_two_nodes_differ objects t s r a run commits =
    false_from_ne_true (knows_abort (known_by objects t r) a)
    (λ aborts. one_outcome objects (plain_all t) a (whole_legal objects t run) ((held_was_decided objects t s a run).0 commits) ((held_was_decided objects t r a run).1 aborts))

pub committed_is_secured : CommittedIsSecured
committed_is_secured objects t f run top there = commit_secured objects (plain_all t) f (whole_legal objects t run) top there

pub commit_needs_secured : CommitNeedsSecured
commit_needs_secured objects t before later f run top same =
    commit_needs objects before f (legal_before objects later (Commit f ∷ before) (subst (Legal objects) same (whole_legal objects t run))) top
