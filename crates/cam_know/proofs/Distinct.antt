-- No outcome comes twice where only what is not known is learnt.
use Rattle.std.proofs.Common.{inl, inr, ◌≡◌, ℕ, ◌≤◌, max, Bool, true, false, true≢false, not, ◌&&◌, ◌||◌, List, [], ◌∷◌, ◌++◌, get_or, arith, sym, ap, subst, ◌∙◌, refl}
use Rattle.std.specs.List.{list_any}
use Rattle.std.proofs.lemmas.List.Folds.{list_any-append}
use Rattle.std.proofs.lemmas.Bool.{cases_Bool, and_left, or_left, or_right}
use Rattle.cam_names.specs.Dependencies.{AreCounts, greater_counts}
use Rattle.cam_names.proofs.Dependencies.{greater_counts_at, greater_counts_length}
use Rattle.cam_know.specs.declared.Outcome.{Outcome}
use Rattle.cam_know.specs.declared.commits.Commit.{Commit}
use Rattle.cam_know.specs.declared.commits.Commits.{Commits}
use Rattle.cam_know.specs.declared.index.Index.{Index}
use Rattle.cam_know.specs.Knowledge.{Knowledge}
use Rattle.cam_know.specs.Known.{outcome_eq, knows, unknown}
use Rattle.cam_know.specs.Commits.{has_commit, is_commit, HasSame}
use Rattle.cam_know.specs.Index.{SaysSame, IsIndexOf}
use Rattle.cam_know.specs.Invariant.{NoTwice, IsKnown}
use Rattle.cam_know.proofs.Union.{knows_unknown}
use Rattle.cam_know.proofs.Outcomes.{outcome_eq_refl, outcome_eq_same}
use Rattle.cam_know.proofs.Noting.{index_same}

pub distinct_unknown : (k : Knowledge) (ys : List Outcome) → NoTwice ys → NoTwice (unknown k ys)
distinct_unknown k [] h = tt
distinct_unknown k (y ∷ ys) h =
    elim (cases_Bool (knows k y)) [
      | inl known ↦ rw known (distinct_unknown k ys h.1)
      | inr unheard ↦ rw unheard (knows_unknown k y ys ∙ and_left (list_any (outcome_eq y) ys) (not (knows k y)) h.0, distinct_unknown k ys h.1)
    ]

distinct_append : (xs ys : List Outcome) → NoTwice xs → NoTwice ys → ((o : Outcome) → list_any (outcome_eq o) xs ≡ true → list_any (outcome_eq o) ys ≡ false) → NoTwice (xs ++ ys)
distinct_append [] ys one other apart = other
distinct_append (x ∷ xs) ys one other apart = (
  list_any-append (outcome_eq x) xs ys ∙ neither (list_any (outcome_eq x) xs) (list_any (outcome_eq x) ys) one.0 (apart x (or_left (outcome_eq x x) (list_any (outcome_eq x) xs) (outcome_eq_refl x))),
  distinct_append xs ys one.1 other (λ o known. apart o (or_right (outcome_eq o x) (list_any (outcome_eq o) xs) known)),
)
  where
    neither : (a b : Bool) → a ≡ false → b ≡ false → (a || b) ≡ false
    neither a b h k = ap (λ t. t || b) h ∙ k

pub distinct_both : (k : Knowledge) (ys : List Outcome) → NoTwice k.outcomes → NoTwice ys → NoTwice (k.outcomes ++ unknown k ys)
distinct_both k ys one other =
    distinct_append k.outcomes (unknown k ys) one (distinct_unknown k ys other)
    (λ o known. knows_unknown k o ys ∙ none (list_any (outcome_eq o) ys) (knows k o) known)
  where
    none : (a b : Bool) → b ≡ true → (a && not b) ≡ false
    none true b h = ap not h
    none false b h = refl

pub distinct_behind : (xs ys : List Outcome) → NoTwice (xs ++ ys) → NoTwice ys
distinct_behind [] ys h = h
distinct_behind (x ∷ xs) ys h = distinct_behind xs ys h.1

-- one outcome more, which is not known
pub distinct_more : (os : List Outcome) (o : Outcome) → list_any (outcome_eq o) os ≡ false → NoTwice os → NoTwice (os ++ o ∷ [])
distinct_more os o none h = distinct_append os (o ∷ []) h (refl, tt) (λ p known. other p known (outcome_eq p o) refl)
  where
    other : (p : Outcome) → list_any (outcome_eq p) os ≡ true → (t : Bool) → outcome_eq p o ≡ t → (outcome_eq p o || false) ≡ false
    other p known true e = absurd (true≢false (sym known ∙ ap (λ (q : Outcome). list_any (outcome_eq q) os) (outcome_eq_same p o e) ∙ none))
    other p known false e = ap (λ t. t || false) e

pub distinct_learnt : (j k : Knowledge) (o : Outcome) (t : Bool) → j ≡ k → NoTwice j.outcomes → t ≡ knows k o → t ≡ false → NoTwice (k.outcomes ++ o ∷ [])
distinct_learnt j k o t is h known none = distinct_more k.outcomes o (sym known ∙ none) (subst (λ (l : Knowledge). NoTwice l.outcomes) is h)

-- where nothing was noted
pub known_same : (os ps : List Outcome) (m n : Index) (r s : Commits) (cs : List ℕ) → ps ≡ os → SaysSame m n → HasSame r s → IsKnown os m r cs → IsKnown ps n s cs
known_same os ps m n r s cs is says has h =
    subst (λ (xs : List Outcome). IsKnown xs n s cs) (sym is)
    (record { distinct = h.distinct; indexed = index_same os m n says h.indexed; committed = λ c. has c ∙ h.committed c; counted = h.counted })

-- where all that is fresh was noted, after room was made for it
pub known_more : (os fresh ps : List Outcome) (l m n : Index) (q r s : Commits) (cs : List ℕ) → ps ≡ os ++ fresh
    → SaysSame l m → ((xs : List Outcome) → IsIndexOf xs m → IsIndexOf (xs ++ fresh) n)
    → HasSame q r → ((c : Commit) → has_commit s c ≡ (has_commit r c || list_any (is_commit c) fresh))
    → NoTwice (os ++ fresh) → IsKnown os l q cs → IsKnown ps n s cs
known_more os fresh ps l m n q r s cs is says noted alike has distinct h =
    subst (λ (xs : List Outcome). IsKnown xs n s cs) (sym is)
    (record {
      distinct = distinct;
      indexed = noted os (index_same os l m says h.indexed);
      committed = λ c. has c ∙ ap (λ t. t || list_any (is_commit c) fresh) (alike c ∙ h.committed c) ∙ sym (list_any-append (is_commit c) os fresh);
      counted = h.counted;
    })

pub greater_counted : (a b : List ℕ) → AreCounts 1 a → AreCounts 1 b → AreCounts 1 (greater_counts a b)
greater_counted a b one other = record {
  eight = greater_counts_length a b (omega (arith, one.eight, other.eight)) ∙ one.eight;
  from = λ k below. subst (λ (n : ℕ). 1 ≤ n) (sym (greater_counts_at a b k)) (low (get_or a k 0) (get_or b k 0) (one.from k below));
  to = λ k below. subst (λ (n : ℕ). n ≤ 1000000000) (sym (greater_counts_at a b k)) (high (get_or a k 0) (get_or b k 0) (one.to k below) (other.to k below));
}
  where
    low : (x y : ℕ) → 1 ≤ x → 1 ≤ max x y
    low x y h = omega arith

    high : (x y : ℕ) → x ≤ 1000000000 → y ≤ 1000000000 → max x y ≤ 1000000000
    high x y h k = omega arith

pub known_greater : (os : List Outcome) (m : Index) (r : Commits) (cs ds es : List ℕ) → es ≡ greater_counts cs ds → AreCounts 1 ds → IsKnown os m r cs → IsKnown os m r es
known_greater os m r cs ds es is other h =
    subst (λ (ns : List ℕ). IsKnown os m r ns) (sym is)
    (record { distinct = h.distinct; indexed = h.indexed; committed = h.committed; counted = greater_counted cs ds h.counted other })
