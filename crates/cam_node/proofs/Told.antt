-- What is told, from its end on: the names that are new.
use Rattle.std.proofs.Common.{◌≡◌, ℕ, true, false, not, ◌&&◌, List, ◌∷◌, ◌++◌, reverse, map, sym, ap, ◌∙◌}
use Rattle.std.specs.Prelude.{flat_map}
use Rattle.cam_names.specs.declared.name.Name.{Name}
use Rattle.cam_know.specs.declared.Outcome.{Outcome}
use Rattle.cam_know.specs.declared.Outcome.TheVariants.{Aborted, Committed}
use Rattle.cam_know.specs.Knowledge.{Knowledge}
use Rattle.cam_know.specs.Known.{knows_abort, knows_commit, aborted_name, committed_name, new_aborts, new_commits, is_abort_of, is_commit_of}
use Rattle.cam_know.specs.Order.{in_order, told_in_order}
use Rattle.cam_know.proofs.InOrder.{any_ordered}
use Rattle.cam_event.specs.declared.Deed.{Deed}
use Rattle.cam_event.specs.declared.Deed.TheVariants.{Inform}
use Rattle.cam_event.specs.Rules.{put_name, sorted_names}
use Rattle.cam_event.specs.ByKnowledge.{new_informs}
use Rattle.cam_node.specs.Informs.{aborts_from, commits_from}
use Rattle.cam_event.proofs.SortedNames.{sorted_same}
use Rattle.cam_event.proofs.SameInforms.{among_aborted, among_committed}
use Rattle.cam_delta.proofs.SameSteps.{among_kept}

-- one more in front: new, or known
pub new_abort : (k : Knowledge) (a : Name) (os : List Outcome) (old new : List Name) → knows_abort k a ≡ false → new ≡ put_name a old → old ≡ aborts_from k os → new ≡ aborts_from k (Aborted a ∷ os)
new_abort k a os old new none is so_far = rw none (is ∙ ap (put_name a) so_far)

pub known_abort : (k : Knowledge) (a : Name) (os : List Outcome) (old : List Name) → knows_abort k a ≡ true → old ≡ aborts_from k os → old ≡ aborts_from k (Aborted a ∷ os)
known_abort k a os old known so_far = rw known so_far

pub new_commit : (k : Knowledge) (a : Name) (counts : List ℕ) (os : List Outcome) (old new : List Name) → knows_commit k a ≡ false → new ≡ put_name a old → old ≡ commits_from k os → new ≡ commits_from k (Committed a counts ∷ os)
new_commit k a counts os old new none is so_far = rw none (is ∙ ap (put_name a) so_far)

pub known_commit : (k : Knowledge) (a : Name) (counts : List ℕ) (os : List Outcome) (old : List Name) → knows_commit k a ≡ true → old ≡ commits_from k os → old ≡ commits_from k (Committed a counts ∷ os)
known_commit k a counts os old known so_far = rw known so_far

-- In whatever order they are told, the first Informs are the same.
pub aborts_in_order : (k told : Knowledge) → aborts_from k told.outcomes ≡ sorted_names (new_aborts (told_in_order told) k)
aborts_in_order k told =
    sorted_same (new_aborts told k) (new_aborts (told_in_order told) k)
    (λ z. among_kept (λ a. not (knows_abort k a)) z (flat_map aborted_name told.outcomes)
    ∙ ap (λ b. b && not (knows_abort k z)) (among_aborted z told.outcomes ∙ sym (any_ordered (is_abort_of z) told.outcomes) ∙ sym (among_aborted z (in_order told.outcomes)))
    ∙ sym (among_kept (λ a. not (knows_abort k a)) z (flat_map aborted_name (in_order told.outcomes))))

pub commits_in_order : (k told : Knowledge) → commits_from k told.outcomes ≡ sorted_names (new_commits (told_in_order told) k)
commits_in_order k told =
    sorted_same (new_commits told k) (new_commits (told_in_order told) k)
    (λ z. among_kept (λ a. not (knows_commit k a)) z (flat_map committed_name told.outcomes)
    ∙ ap (λ b. b && not (knows_commit k z)) (among_committed z told.outcomes ∙ sym (any_ordered (is_commit_of z) told.outcomes) ∙ sym (among_committed z (in_order told.outcomes)))
    ∙ sym (among_kept (λ a. not (knows_commit k a)) z (flat_map committed_name (in_order told.outcomes))))

-- The Informs of both are the first ones.
pub first_are : (s : ℕ) (k told : Knowledge) (aborts commits : List Name) (one two : List Deed) → reverse aborts ≡ aborts_from k told.outcomes → reverse commits ≡ commits_from k told.outcomes
    → one ≡ map (λ a. Inform s a false) (reverse aborts) → two ≡ one ++ map (λ a. Inform s a true) (reverse commits) → two ≡ new_informs s (told_in_order told) k
first_are s k told aborts commits one two are them ones twos =
    twos ∙ (λ i. ones i ++ map (λ a. Inform s a true) (them i))
    ∙ (λ i. map (λ a. Inform s a false) ((are ∙ aborts_in_order k told) i) ++ map (λ a. Inform s a true) (commits_in_order k told i))
