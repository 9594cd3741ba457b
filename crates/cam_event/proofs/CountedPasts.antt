-- Of closed sets with a node's crashes, the counts together are the greater ones.
use Rattle.std.proofs.Common.{◌≡◌, inl, inr, ℕ, ◌≤◌, eqb, Bool, true, false, ◌||◌, List, [], ◌∷◌, length, refl, sym, ap, ◌∙◌, subst}
use Rattle.std.specs.Prelude.{max}
use Rattle.std.specs.List.{list_any}
use Rattle.std.proofs.Math.Nat.{max-eq_left, max-eq_right}
use Rattle.std.proofs.lemmas.Bool.{eqb-true, cases_Bool, true≢false, or_left, or_right}
use Rattle.std.proofs.lemmas.Bool.Decides.{eqb_tells}
use Rattle.cam_type.specs.declared.ObjectDecl.{ObjectDecl}
use Rattle.cam_event.specs.declared.Event.{Event}
use Rattle.cam_event.specs.History.{count, is_crash}
use Rattle.cam_event.specs.Pasts.{plain, plain_all, HasNode, IsClosed}
use Rattle.cam_event.specs.ByKnowledge.{of_node, carried_of}
use Rattle.cam_event.specs.Carried.{deeds_of}
use Rattle.cam_event.specs.Agreement.{CrashesAlone, CrashAlone}
use Rattle.cam_event.proofs.ClosedPasts.{HasNode_more}
use Rattle.cam_event.proofs.Agree.{OnlyAt, same_count, count_grows, count_after_other, count_after_same}

drop_false : (b : Bool) → (b || false) ≡ true → b ≡ true
drop_false true h = refl
drop_false false h = h

-- crashes of a node stand in its own events
pub only_own : (t : List Event) → CrashAlone t → (m : ℕ) → OnlyAt (is_crash m) t m
only_own [] alone m = tt
only_own (e ∷ t) alone m = (own alone.0, only_own t alone.1 m)
  where
    own : CrashesAlone e → list_any (is_crash m) e.deeds ≡ true → e.node ≡ m
    own (inl none) h = absurd (true≢false (sym h ∙ none m))
    own (inr one) h =
        let first : (eqb m e.node || false) ≡ true = sym (ap (λ ds. list_any (is_crash m) ds) one.0) ∙ h in
        sym (eqb-true m e.node (drop_false (eqb m e.node) first))

-- deeds without a crash of the node leave its count
head_none : (e : Event) (t : List Event) (S : ℕ → Bool) (m : ℕ) → list_any (is_crash m) e.deeds ≡ false → count (plain (e ∷ t) S) m ≡ count (plain t S) m
head_none e t S m none = elim (cases_Bool (S (length t))) [
  | inl there ↦ rw there (count_after_other e.deeds (plain t S) m none)
  | inr absent ↦ rw absent refl
]

-- of two closed sets the one or the other has each crash of a node that the other has: together they have the greater count
pub count_or : (t : List Event) (S R : ℕ → Bool) (m : ℕ) → OnlyAt (is_crash m) t m → IsClosed t S → IsClosed t R
    → count (plain t (λ i. S i || R i)) m ≡ max (count (plain t S) m) (count (plain t R) m)
count_or [] S R m only one other = refl
count_or (e ∷ t) S R m only one other =
    elim (cases_Bool (list_any (is_crash m) e.deeds)) [
      | inr none ↦ head_none e t (λ i. S i || R i) m none ∙ count_or t S R m only.1 one.1 other.1
          ∙ λ i. max (sym (head_none e t S m none) i) (sym (head_none e t R m none) i)
      | inl some ↦ elim (cases_Bool (S (length t))) [
        | inl in_one ↦
            let mine : HasNode (e ∷ t) S m = ((λ _. in_one), subst (λ n. HasNode t S n) (only.0 some) (one.0 in_one).0) in
            let whole : HasNode (e ∷ t) (λ i. S i || R i) m = HasNode_more (e ∷ t) S (λ i. S i || R i) m (λ k h. or_left (S k) (R k) h) mine in
            let all = same_count (e ∷ t) S m only mine in
            same_count (e ∷ t) (λ i. S i || R i) m only whole ∙ sym all
            ∙ sym (max-eq_left (subst (λ c. count (plain (e ∷ t) R) m ≤ c) (sym all) (count_grows (e ∷ t) R m)))
        | inr not_one ↦ elim (cases_Bool (R (length t))) [
          | inl in_other ↦
              let mine : HasNode (e ∷ t) R m = ((λ _. in_other), subst (λ n. HasNode t R n) (only.0 some) (other.0 in_other).0) in
              let whole : HasNode (e ∷ t) (λ i. S i || R i) m = HasNode_more (e ∷ t) R (λ i. S i || R i) m (λ k h. or_right (S k) (R k) h) mine in
              let all = same_count (e ∷ t) R m only mine in
              same_count (e ∷ t) (λ i. S i || R i) m only whole ∙ sym all
              ∙ sym (max-eq_right (subst (λ c. count (plain (e ∷ t) S) m ≤ c) (sym all) (count_grows (e ∷ t) S m)))
          | inr not_other ↦ rw (not_one, not_other) (count_or t S R m only.1 one.1 other.1)
        ]
      ]
    ]

-- a node's own deeds have its count
pub own_count : (objects : List ObjectDecl) (t : List Event) (s : ℕ) → OnlyAt (is_crash s) t s → count (deeds_of (of_node (carried_of objects t) s)) s ≡ count (plain_all t) s
own_count objects [] s only = refl
own_count objects (e ∷ t) s only =
    elim (eqb_tells e.node s) [
      | inl y ↦ rw y.0 (count_after_same e.deeds (deeds_of (of_node (carried_of objects t) s)) (plain_all t) s (own_count objects t s only.1))
      | inr n ↦ rw n.0 (own_count objects t s only.1 ∙ sym (count_after_other e.deeds (plain_all t) s (elsewhere (list_any (is_crash s) e.deeds) only.0 n.1)))
    ]
  where
    elsewhere : (b : Bool) → (b ≡ true → e.node ≡ s) → (e.node ≡ s → ⊥) → b ≡ false
    elsewhere true h f = absurd (f (h refl))
    elsewhere false h f = refl
