-- To join is to join sets: the order and the number of times change nothing. Nothing that was known is lost.
use Rattle.std.proofs.Common.{◌≡◌, ℕ, zero, suc, ◌-◌, ◌≤◌, max, ◌||◌, List, [], ◌∷◌, get_or, set, arith, sym, ap, ap₂, subst, ◌∙◌, refl}
use Rattle.std.specs.List.{list_any}
use Rattle.std.proofs.lemmas.List.Folds.{list_any-append}
use Rattle.std.proofs.lemmas.Bool.{or_left, or_right}
use Rattle.cam_names.specs.Dependencies.{greater_counts}
use Rattle.cam_names.proofs.Dependencies.{greater_counts_at}
use Rattle.cam_know.specs.Known.{outcome_eq, knows, unknown, both}
use Rattle.cam_know.specs.Laws.{JoinCommutes, JoinAssociates, JoinAgainIsSame, JoinKnowsAtLeast, AddKnowsAtLeast, RaiseKnowsAtLeast}
use Rattle.cam_know.proofs.Or.{or_itself, or_commutes, or_associates}
use Rattle.cam_know.proofs.Union.{any_both}

greater_commutes : (a b : List ℕ) → greater_counts a b ≡ greater_counts b a
greater_commutes [] [] = refl
greater_commutes [] (d ∷ b) = refl
greater_commutes (c ∷ a) [] = refl
greater_commutes (c ∷ a) (d ∷ b) = ap₂ (λ (x : ℕ) (xs : List ℕ). x ∷ xs) (omega arith) (greater_commutes a b)

pub greater_associates : (a b c : List ℕ) → greater_counts (greater_counts a b) c ≡ greater_counts a (greater_counts b c)
greater_associates [] b c = refl
greater_associates (x ∷ a) [] c = refl
greater_associates (x ∷ a) (y ∷ b) [] = refl
greater_associates (x ∷ a) (y ∷ b) (z ∷ c) = ap₂ (λ (n : ℕ) (ns : List ℕ). n ∷ ns) (omega arith) (greater_associates a b c)

pub greater_itself : (a : List ℕ) → greater_counts a a ≡ a
greater_itself [] = refl
greater_itself (x ∷ a) = ap₂ (λ (n : ℕ) (ns : List ℕ). n ∷ ns) (omega arith) (greater_itself a)

pub join_commutes : JoinCommutes
join_commutes one other = record {
  outcomes = λ o. any_both (outcome_eq o) one other ∙ or_commutes (knows one o) (knows other o) ∙ sym (any_both (outcome_eq o) other one);
  counts = greater_commutes one.counts other.counts;
}

pub join_associates : JoinAssociates
join_associates one other third = record {
  outcomes = λ o. any_both (outcome_eq o) (both one other) third ∙ ap (λ t. t || knows third o) (any_both (outcome_eq o) one other)
      ∙ or_associates (knows one o) (knows other o) (knows third o)
      ∙ ap (λ t. knows one o || t) (sym (any_both (outcome_eq o) other third)) ∙ sym (any_both (outcome_eq o) one (both other third));
  counts = greater_associates one.counts other.counts third.counts;
}

pub join_again : JoinAgainIsSame
join_again k = record {
  outcomes = λ o. any_both (outcome_eq o) k k ∙ or_itself (knows k o);
  counts = greater_itself k.counts;
}

pub join_knows_at_least : JoinKnowsAtLeast
join_knows_at_least one other = (
  record {
    outcomes = λ o h. any_both (outcome_eq o) one other ∙ or_left (knows one o) (knows other o) h;
    counts = λ node. subst (λ (n : ℕ). get_or one.counts (node - 1) 0 ≤ n) (sym (greater_counts_at one.counts other.counts (node - 1))) (omega arith);
  },
  record {
    outcomes = λ o h. any_both (outcome_eq o) one other ∙ or_right (knows one o) (knows other o) h;
    counts = λ node. subst (λ (n : ℕ). get_or other.counts (node - 1) 0 ≤ n) (sym (greater_counts_at one.counts other.counts (node - 1))) (omega arith);
  },
)

pub add_knows_at_least : AddKnowsAtLeast
add_knows_at_least o k = record {
  outcomes = λ p h. list_any-append (outcome_eq p) k.outcomes (unknown k (o ∷ [])) ∙ or_left (knows k p) (list_any (outcome_eq p) (unknown k (o ∷ []))) h;
  counts = λ node. omega arith;
}

raised_at : (cs : List ℕ) (i count j : ℕ) → get_or cs j 0 ≤ get_or (set cs i (max (get_or cs i 0) count)) j 0
raised_at [] i count j = omega arith
raised_at (c ∷ cs) zero count zero = omega arith
raised_at (c ∷ cs) zero count (suc j) = omega arith
raised_at (c ∷ cs) (suc i) count zero = omega arith
raised_at (c ∷ cs) (suc i) count (suc j) = raised_at cs i count j

pub raise_knows_at_least : RaiseKnowsAtLeast
raise_knows_at_least node count k = record {
  outcomes = λ o h. h;
  counts = λ other. raised_at k.counts (node - 1) count (other - 1);
}
