-- What is told and not known is the news, and to join the news is to join all.
use Rattle.std.proofs.Common.{inl, inr, ◌≡◌, ℕ, true, not, List, [], ◌∷◌, ◌++◌, Result, Ok, Err, IfOk, refl, ap, ap₂, ◌∙◌, sym}
use Rattle.std.specs.List.{list_any}
use Rattle.std.proofs.lemmas.Bool.{cases_Bool, or_left, or_right}
use Rattle.std.proofs.lemmas.List.Elements.{filter-append}
use Rattle.cam_names.specs.Dependencies.{greater_counts}
use Rattle.cam_know.specs.declared.Outcome.{Outcome}
use Rattle.cam_know.specs.Knowledge.{Knowledge}
use Rattle.cam_know.specs.Known.{outcome_eq, knows, unknown, both, news, NewsBringAll}
use Rattle.cam_know.proofs.Outcomes.{outcome_eq_refl}
use Rattle.cam_know.proofs.JoinLaws.{greater_associates, greater_itself}

-- of what is known nothing is unknown
known_none : (k : Knowledge) (os : List Outcome) → ((o : Outcome) → list_any (outcome_eq o) os ≡ true → knows k o ≡ true) → unknown k os ≡ []
known_none k [] all = refl
known_none k (o ∷ os) all =
    rw (all o (or_left (outcome_eq o o) (list_any (outcome_eq o) os) (outcome_eq_refl o)))
    (known_none k os (λ p h. all p (or_right (outcome_eq p o) (list_any (outcome_eq p) os) h)))

unknown_again : (k : Knowledge) (os : List Outcome) → unknown k (unknown k os) ≡ unknown k os
unknown_again k [] = refl
unknown_again k (o ∷ os) =
    elim (cases_Bool (knows k o)) [
      | inl known ↦ rw known (unknown_again k os)
      | inr unheard ↦ rw (unheard, unheard) (ap (λ (xs : List Outcome). o ∷ xs) (unknown_again k os))
    ]

-- the news of both together is what was told and not known
pub unknown_both : (old told : Knowledge) → unknown old (both old told).outcomes ≡ unknown old told.outcomes
unknown_both old told =
    filter-append (λ o. not (knows old o)) old.outcomes (unknown old told.outcomes)
    ∙ ap₂ (λ (xs ys : List Outcome). xs ++ ys) (known_none old old.outcomes (λ o h. h)) (unknown_again old told.outcomes)

greater_again : (a b : List ℕ) → greater_counts a (greater_counts a b) ≡ greater_counts a b
greater_again a b = sym (greater_associates a a b) ∙ ap (λ (cs : List ℕ). greater_counts cs b) (greater_itself a)

pub news_bring_all : NewsBringAll
news_bring_all old told = λ i. record {
  outcomes = old.outcomes ++ (ap (unknown old) (unknown_both old told) ∙ unknown_again old told.outcomes) i;
  counts = greater_again old.counts told.counts i;
}

-- what is told and not known, with the greater counts
pub is_news : {E : Type 0} (r : Result Knowledge E) (old told : Knowledge) (fresh : List Outcome) (counts : List ℕ)
    → fresh ≡ unknown old told.outcomes → counts ≡ greater_counts old.counts told.counts
    → IfOk r (λ k. k ≡ record { outcomes = fresh; counts = counts }) → IfOk r (λ k. k ≡ news (both old told) old)
is_news (Ok k) old told fresh counts are is made =
    made ∙ (λ i. record { outcomes = (are ∙ sym (unknown_both old told)) i; counts = is i })
is_news (Err e) old told fresh counts are is made = tt
