-- What a node's log keeps of knowledge is what stands in the past of the node's last event.
use Rattle.std.proofs.Common.{◌≡◌, ℕ, ◌-◌, Bool, true, List, sym, ap, ◌∙◌}
use Rattle.std.specs.Prelude.{slice_index}
use Rattle.cam_know.proofs.OrphanBySet.{both_ways}
use Rattle.cam_names.specs.declared.name.Name.{Name}
use Rattle.cam_names.specs.Dependencies.{as_counts}
use Rattle.cam_know.specs.declared.Outcome.TheVariants.{Aborted, Committed}
use Rattle.cam_know.specs.Knowledge.{Knowledge}
use Rattle.cam_know.specs.Known.{knows, knows_commit}
use Rattle.cam_know.proofs.Outcomes.{abort_is_outcome}
use Rattle.cam_event.specs.History.{count, committed}
use Rattle.cam_event.specs.Gained.{deps}
use Rattle.cam_event.specs.Pasts.{last_of, holds, in_past, plain_all, IsClosed}
use Rattle.cam_event.specs.ByPast.{own_past}
use Rattle.cam_event.specs.ByKnowledge.{held, of_node, carried_of}
use Rattle.cam_event.proofs.ClosedPasts.{past_is_closed, closed_held}
use Rattle.cam_event.proofs.RunLaws.{taking_are_sent, taking_crash_alone}
use Rattle.cam_event.proofs.SameCounts.{held_and_brought_counts}
use Rattle.cam_event.proofs.CountedPasts.{only_own, own_count}
use Rattle.cam_event.proofs.Base.{eighth}
use Rattle.cam_plain.proofs.Deciding.{committed_asked}
use Rattle.cam_cut.proofs.Holds.{RunHolds}
use Rattle.cam_cut.proofs.Halts.{run_taking_holds}
use Rattle.cam_agree.proofs.DepsPairs.{counts_same}
use Rattle.cam_agree.proofs.DepsWhole.{asked_same}
use Rattle.cam_agree.proofs.DepsKnown.{held_tell}
use Rattle.cam_agree.proofs.DepsAgreed.{commit_known, known_commit, known_in, in_known}
use Rattle.cam_headline.specs.KeptLog.{LogsKeepKnowledge}
use Rattle.cam_headline.proofs.HaltedHeld.{whole_aborts, whole_commits}
use Rattle.cam_headline.proofs.KeptWhole.{kept_whole}

pub logs_keep_knowledge : LogsKeepKnowledge
logs_keep_knowledge objects taken t s logged run log = record {
  own_count = (kept_whole objects taken t s logged run log).count ∙ own_count objects t s (only_own t (taking_crash_alone objects taken t run) s);
  aborts = λ a. abort_is_outcome a logged.know.outcomes ∙ (kept_whole objects taken t s logged run log).outcomes (Aborted a) ∙ sym (abort_is_outcome a K.outcomes) ∙ whole_aborts objects taken t s a run;
  commits = commits;
  commit_counts = counts;
  other_counts = λ m low high off. (kept_whole objects taken t s logged run log).other_counts m low high off ∙ ap (λ cs. slice_index cs (m - 1)) ((held_and_brought_counts objects t (taking_are_sent objects taken t run) (taking_crash_alone objects taken t run)).0 s) ∙ eighth (count (own_past t s)) m low high;
}
  where
    K : Knowledge
    K = held objects (of_node (carried_of objects t) s)

    all : RunHolds objects t
    all = run_taking_holds objects taken t run

    S : ℕ → Bool
    S i = holds (in_past t i) (last_of t s)

    closed : IsClosed t S
    closed = closed_held t (last_of t s) (past_is_closed t all.ordered)

    commits : (a : Name) → knows_commit logged.know a ≡ committed (own_past t s) a
    commits a = both_ways (knows_commit logged.know a) (knows_commit K a) to back ∙ whole_commits objects taken t s a run
      where
        to : knows_commit logged.know a ≡ true → knows_commit K a ≡ true
        to h =
            let found = commit_known logged.know a h in
            known_commit K a found.0 (known_in K (Committed a found.0) (sym ((kept_whole objects taken t s logged run log).outcomes (Committed a found.0)) ∙ in_known logged.know (Committed a found.0) found.1))

        back : knows_commit K a ≡ true → knows_commit logged.know a ≡ true
        back h =
            let found = commit_known K a h in
            known_commit logged.know a found.0 (known_in logged.know (Committed a found.0) ((kept_whole objects taken t s logged run log).outcomes (Committed a found.0) ∙ in_known K (Committed a found.0) found.1))

    counts : (a : Name) (ds : List ℕ) → knows logged.know (Committed a ds) ≡ true → ds ≡ as_counts (deps objects (own_past t s) a)
    counts a ds h =
        let there : committed (own_past t s) a ≡ true = sym (commits a) ∙ known_commit logged.know a ds (known_in logged.know (Committed a ds) h) in
        let told = (held_tell objects t (taken, run)).0 s a ds (known_in K (Committed a ds) (sym ((kept_whole objects taken t s logged run log).outcomes (Committed a ds)) ∙ h)) in
        told.final
        ∙ sym (counts_same (deps objects (own_past t s) a) (deps objects (plain_all t) a) (asked_same objects t S a all closed (committed_asked objects (own_past t s) a (all.legal S closed) there)))
