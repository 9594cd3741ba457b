-- What nodes hold, and what a crash leaves, in runs in which nodes halt.
use Rattle.std.proofs.Common.{◌≡◌, ℕ, Bool, List, ◌∷◌, ◌++◌, sym, ◌∙◌}
use Rattle.std.proofs.lemmas.Bool.{false_from_ne_true}
use Rattle.cam_names.specs.declared.name.Name.{Name}
use Rattle.cam_type.specs.declared.ObjectDecl.{ObjectDecl}
use Rattle.cam_know.specs.Known.{knows_abort, knows_commit, is_abort_of, is_commit_of}
use Rattle.cam_know.proofs.OrphanBySet.{any_same}
use Rattle.cam_event.specs.declared.Event.{Event}
use Rattle.cam_event.specs.History.{is_commit, is_abort, committed, aborted}
use Rattle.cam_event.specs.Pasts.{plain_all}
use Rattle.cam_event.specs.ByPast.{own_past}
use Rattle.cam_event.specs.ByKnowledge.{held, of_node, carried_of}
use Rattle.cam_event.specs.Taken.{IsRunTaking}
use Rattle.cam_event.proofs.RunLaws.{taking_are_sent, taking_crash_alone}
use Rattle.cam_event.proofs.SameOutcomes.{held_and_brought}
use Rattle.cam_event.proofs.Decisions.{tells_aborts, tells_commits}
use Rattle.cam_plain.proofs.Deciding.{one_outcome}
use Rattle.cam_cut.proofs.Halts.{run_taking_holds}
use Rattle.cam_serial.proofs.Covering.{committed_covers}
use Rattle.cam_serial.proofs.Depended.{commit_secured}
use Rattle.cam_delta.proofs.Addressed.{halted_runs_are_addressed}
use Rattle.cam_delta.proofs.SameKnown.{nodes_know_the_same}
use Rattle.cam_delta.specs.Laws.{known_by}
use Rattle.cam_headline.specs.HaltedHeld.{HaltedHeldIsThePast, HaltedHeldWasDecided, HaltedNodesAgree, HaltedCommittedIsSecured, HaltedCrashKeepsSecured, HaltedCrashKeepsOthers, HaltedNoneIsAborted, HaltedSecuredStays, HaltedCommittedIsCovered}
use Rattle.cam_headline.proofs.Agreed.{own_in_whole}
use Rattle.cam_headline.proofs.HaltedRuns.{halted_legal}
use Rattle.cam_headline.proofs.Secure.{secured_in}
use Rattle.cam_headline.proofs.Recovered.{keeps_secured, keeps_others, informed_by, none_by}

-- where letters carry all, and so by what is not acknowledged
pub whole_aborts : (objects : List ObjectDecl) (taken : ℕ → Bool) (t : List Event) (s : ℕ) (a : Name) → IsRunTaking objects taken t → knows_abort (held objects (of_node (carried_of objects t) s)) a ≡ aborted (own_past t s) a
whole_aborts objects taken t s a run = (held_and_brought (is_abort a) (is_abort_of a) (tells_aborts a) objects t (taking_are_sent objects taken t run)).0 s

pub halted_aborts : (objects : List ObjectDecl) (taken : ℕ → Bool) (t : List Event) (s : ℕ) (a : Name) → IsRunTaking objects taken t → knows_abort (known_by objects t s) a ≡ aborted (own_past t s) a
halted_aborts objects taken t s a run =
    any_same (is_abort_of a) (known_by objects t s) (held objects (of_node (carried_of objects t) s)) (nodes_know_the_same objects t s (halted_runs_are_addressed objects taken t run))
    ∙ whole_aborts objects taken t s a run

pub whole_commits : (objects : List ObjectDecl) (taken : ℕ → Bool) (t : List Event) (s : ℕ) (a : Name) → IsRunTaking objects taken t → knows_commit (held objects (of_node (carried_of objects t) s)) a ≡ committed (own_past t s) a
whole_commits objects taken t s a run = (held_and_brought (is_commit a) (is_commit_of a) (tells_commits a) objects t (taking_are_sent objects taken t run)).0 s

pub halted_commits : (objects : List ObjectDecl) (taken : ℕ → Bool) (t : List Event) (s : ℕ) (a : Name) → IsRunTaking objects taken t → knows_commit (known_by objects t s) a ≡ committed (own_past t s) a
halted_commits objects taken t s a run =
    any_same (is_commit_of a) (known_by objects t s) (held objects (of_node (carried_of objects t) s)) (nodes_know_the_same objects t s (halted_runs_are_addressed objects taken t run))
    ∙ whole_commits objects taken t s a run

pub halted_held_is_the_past : HaltedHeldIsThePast
halted_held_is_the_past objects taken t s a run = (halted_commits objects taken t s a run, halted_aborts objects taken t s a run)

pub halted_held_was_decided : HaltedHeldWasDecided
halted_held_was_decided objects taken t s a run = (
  λ h. own_in_whole (is_commit a) t s (sym (halted_commits objects taken t s a run) ∙ h),
  λ h. own_in_whole (is_abort a) t s (sym (halted_aborts objects taken t s a run) ∙ h),
)

pub halted_nodes_agree : HaltedNodesAgree
halted_nodes_agree objects taken t s r a run commits =
    false_from_ne_true (knows_abort (known_by objects t r) a)
    (λ aborts. one_outcome objects (plain_all t) a (halted_legal objects taken t run) ((halted_held_was_decided objects taken t s a run).0 commits) ((halted_held_was_decided objects taken t r a run).1 aborts))

pub halted_committed_is_secured : HaltedCommittedIsSecured
halted_committed_is_secured objects taken t f run top there = commit_secured objects (plain_all t) f (halted_legal objects taken t run) top there

pub halted_crash_keeps_secured : HaltedCrashKeepsSecured
halted_crash_keeps_secured objects taken t e s run h = keeps_secured objects t e s (taking_crash_alone objects taken (e ∷ t) run).0 h

pub halted_crash_keeps_others : HaltedCrashKeepsOthers
halted_crash_keeps_others objects taken t e s m run h other = keeps_others objects t e s m (taking_crash_alone objects taken (e ∷ t) run).0 h other

pub halted_none_is_aborted : HaltedNoneIsAborted
halted_none_is_aborted objects taken t s run =
    none_by objects t s (λ u. informed_by objects t s u (run_taking_holds objects taken t run) (halted_aborts objects taken t s u run))

pub halted_secured_stays : HaltedSecuredStays
halted_secured_stays objects taken later t s a n answer run there secure none = secured_in objects later t s a n answer (halted_legal objects taken (later ++ t) run) there secure none

pub halted_committed_is_covered : HaltedCommittedIsCovered
halted_committed_is_covered objects taken t a run all = committed_covers objects (plain_all t) a (halted_legal objects taken t run) all
