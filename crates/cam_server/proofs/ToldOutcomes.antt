-- Which outcomes are told and not known: by the news that are joined, and by the first Informs.
use Rattle.std.proofs.Common.{◌≡◌, ℕ, Bool, true, false, not, ◌&&◌, ◌||◌, cond, List, [], ◌∷◌, filter, flat_map, sym, ap, ◌∙◌, refl, true≢false, inl, inr}
use Rattle.std.specs.List.{list_any}
use Rattle.std.proofs.lemmas.Bool.{and_parts, cases_Bool}
use Rattle.cam_names.specs.declared.name.Name.{Name}
use Rattle.cam_names.specs.Names.{name_eq}
use Rattle.cam_names.proofs.Names.{name_eq_same}
use Rattle.cam_names.proofs.Any.{any_weaker}
use Rattle.cam_know.specs.declared.Outcome.{Outcome}
use Rattle.cam_know.specs.declared.Outcome.TheVariants.{Aborted, Committed}
use Rattle.cam_know.specs.Knowledge.{Knowledge}
use Rattle.cam_know.specs.Known.{outcome_eq, counts_eq, knows, is_abort_of, is_commit_of, knows_abort, knows_commit, aborted_name, committed_name, new_aborts, new_commits, both, news}
use Rattle.cam_know.proofs.News.{unknown_both}
use Rattle.cam_know.proofs.Outcomes.{abort_is_outcome}
use Rattle.cam_locks.proofs.Bools.{and_no}
use Rattle.cam_event.specs.ByKnowledge.{new_informs}
use Rattle.cam_event.proofs.SameInforms.{among_aborted, among_committed}
use Rattle.cam_server.specs.Events.{informs_abort, informs_commit}
use Rattle.cam_server.proofs.QuietDeeds.{aborts_informed, commits_informed}

-- Where a filter keeps all that passes a test, or none of it, that is what is left of the test.
pub any_kept : {X : Type 0} (test keep : X → Bool) (c : Bool) (xs : List X)
    → ((x : X) → test x ≡ true → keep x ≡ c)
    → list_any test (filter keep xs) ≡ (list_any test xs && c)
any_kept test keep c [] all = refl
any_kept {X} test keep c (x ∷ xs) all =
    pushed (keep x) (filter keep xs) ∙ by (test x) (keep x) c (list_any test xs) (list_any test (filter keep xs)) (all x) (any_kept test keep c xs all)
  where
    pushed : (k : Bool) (ys : List X) → list_any test (cond k (x ∷ ys) ys) ≡ ((k && test x) || list_any test ys)
    pushed true ys = refl
    pushed false ys = refl

    by : (t k c a b : Bool) → (t ≡ true → k ≡ c) → b ≡ (a && c) → ((k && t) || b) ≡ ((t || a) && c)
    by true true true a b only is = refl
    by true false false a b only is = is ∙ and_no a
    by true true false a b only is = absurd (true≢false (only refl))
    by true false true a b only is = absurd (true≢false (sym (only refl)))
    by false true c a b only is = is
    by false false c a b only is = is

pub any_news : (test : Outcome → Bool) (known brought : Knowledge)
    → ((o : Outcome) → test o ≡ true → knows known o ≡ list_any test known.outcomes)
    → list_any test (news (both known brought) known).outcomes ≡ (list_any test brought.outcomes && not (list_any test known.outcomes))
any_news test known brought all =
    ap (list_any test) (unknown_both known brought)
    ∙ any_kept test (λ o. not (knows known o)) (not (list_any test known.outcomes)) brought.outcomes (λ o is. ap not (all o is))

pub abort_told : (known : Knowledge) (u : Name) (o : Outcome) → is_abort_of u o ≡ true
    → knows known o ≡ knows_abort known u
abort_told known u (Aborted b) is = sym (abort_is_outcome b known.outcomes) ∙ ap (knows_abort known) (sym (name_eq_same u b is))
abort_told known u (Committed b counts) is = cc

commit_known : (k : Knowledge) (b : Name) (counts : List ℕ) → knows k (Committed b counts) ≡ true
    → knows_commit k b ≡ true
commit_known k b counts is = any_weaker (outcome_eq (Committed b counts)) (is_commit_of b) k.outcomes each is
  where
    each : (o : Outcome) → outcome_eq (Committed b counts) o ≡ true → is_commit_of b o ≡ true
    each (Aborted c) h = cc
    each (Committed c others) h = (and_parts (name_eq b c) (counts_eq counts others) h).0

-- where the commit of an action is not known, none of its commits is
pub commit_untold : (known : Knowledge) (u : Name) (o : Outcome) → knows_commit known u ≡ false
    → is_commit_of u o ≡ true → knows known o ≡ knows_commit known u
commit_untold known u (Aborted b) none is = cc
commit_untold known u (Committed b counts) none is =
    elim (cases_Bool (knows known (Committed b counts))) [
      | inl there ↦
          let here : knows_commit known u ≡ true = ap (knows_commit known) (name_eq_same u b is) ∙ commit_known known b counts there in
          absurd (true≢false (sym here ∙ none))
      | inr absent ↦ absent ∙ sym none
    ]

-- the first Informs have the names that are told and not known
pub told_aborts : (s : ℕ) (known brought : Knowledge) (u : Name)
    → informs_abort s (new_informs s brought known) u ≡ (knows_abort brought u && not (knows_abort known u))
told_aborts s known brought u =
    aborts_informed s (new_aborts brought known) (new_commits brought known) u
    ∙ any_kept (name_eq u) (λ a. not (knows_abort known a)) (not (knows_abort known u)) (flat_map aborted_name brought.outcomes)
    (λ a is. ap (λ (b : Name). not (knows_abort known b)) (sym (name_eq_same u a is)))
    ∙ ap (λ b. b && not (knows_abort known u)) (among_aborted u brought.outcomes)

pub told_commits : (s : ℕ) (known brought : Knowledge) (u : Name)
    → informs_commit s (new_informs s brought known) u ≡ (knows_commit brought u && not (knows_commit known u))
told_commits s known brought u =
    commits_informed s (new_aborts brought known) (new_commits brought known) u
    ∙ any_kept (name_eq u) (λ a. not (knows_commit known a)) (not (knows_commit known u)) (flat_map committed_name brought.outcomes)
    (λ a is. ap (λ (b : Name). not (knows_commit known b)) (sym (name_eq_same u a is)))
    ∙ ap (λ b. b && not (knows_commit known u)) (among_committed u brought.outcomes)
