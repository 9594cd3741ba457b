-- Whether the live operations of a family at a site have been handed up, and whether all pairs are secured.
use Rattle.std.proofs.Common.{◌≡◌, inl, inr, ℕ, ◌+◌, ◌<◌, eqb, Bool, true, false, ◌&&◌, ◌||◌, List, [], ◌∷◌, length, drop, get_or, zero, suc, refl, sym, ap, ◌∙◌, arith}
use Rattle.std.specs.List.{list_all}
use Rattle.std.proofs.lemmas.Bool.{cases_Bool, and_parts, and_from, true≢false, or_cases}
use borrow.Author.Tests.{eqb-true}
use Rattle.std.proofs.lemmas.Bool.Decides.{Decides-eqb}
use Rattle.cam_names.specs.Dependencies.{has_pair}

-- What holds of all pairs holds of each, and the other way round, so it goes by membership alone.
pub all_each : (q : ℕ → ℕ → Bool) (ps : List (ℕ × ℕ)) → list_all (λ p. q p.0 p.1) ps ≡ true → (s c : ℕ) → has_pair ps s c ≡ true → q s c ≡ true
all_each q [] h s c is = cc
all_each q (p ∷ ps) h s c is =
    let parts = and_parts (q p.0 p.1) (list_all (λ p. q p.0 p.1) ps) h in
    elim (or_cases (eqb p.0 s && eqb p.1 c) (has_pair ps s c) is) [
      | inl same ↦
          let both = and_parts (eqb p.0 s) (eqb p.1 c) same in
          (λ i. q (sym (eqb-true p.0 s both.0) i) (sym (eqb-true p.1 c both.1) i)) ∙ parts.0
      | inr rest ↦ all_each q ps parts.1 s c rest
    ]

pub each_all : (q : ℕ → ℕ → Bool) (ps : List (ℕ × ℕ)) → ((s c : ℕ) → has_pair ps s c ≡ true → q s c ≡ true) → list_all (λ p. q p.0 p.1) ps ≡ true
each_all q [] h = refl
each_all q (p ∷ ps) h =
    and_from (q p.0 p.1) (list_all (λ p. q p.0 p.1) ps)
    (h p.0 p.1 (ap (λ (b : Bool). b || has_pair ps p.0 p.1) (and_from (eqb p.0 p.0) (eqb p.1 p.1) ((Decides-eqb p.0 p.0).1 refl) ((Decides-eqb p.1 p.1).1 refl))))
    (each_all q ps (λ s c is. h s c (any_more (eqb p.0 s && eqb p.1 c) (has_pair ps s c) is)))
  where
    any_more : (x y : Bool) → y ≡ true → (x || y) ≡ true
    any_more true y h = refl
    any_more false y h = h

pub same_pairs : (q : ℕ → ℕ → Bool) (ps rs : List (ℕ × ℕ)) → ((s c : ℕ) → has_pair ps s c ≡ has_pair rs s c) → list_all (λ p. q p.0 p.1) ps ≡ list_all (λ p. q p.0 p.1) rs
same_pairs q ps rs same =
    elim (cases_Bool (list_all (λ p. q p.0 p.1) ps)) [
      | inl all ↦ all ∙ sym (each_all q rs (λ s c is. all_each q ps all s c (same s c ∙ is)))
      | inr not_all ↦ elim (cases_Bool (list_all (λ p. q p.0 p.1) rs)) [
        | inl others ↦ absurd (true≢false (sym (each_all q ps (λ s c is. all_each q rs others s c (sym (same s c) ∙ is))) ∙ not_all))
        | inr none ↦ not_all ∙ sym none
      ]
    ]

pair_at : (ps : List (ℕ × ℕ)) (i : ℕ) (d : ℕ × ℕ) → i < length ps → drop i ps ≡ get_or ps i d ∷ drop (suc i) ps
pair_at [] i d h = absurd (omega (arith, h))
pair_at (p ∷ ps) zero d h = refl
pair_at (p ∷ ps) (suc i) d h = pair_at ps i d (omega (arith, h))

-- a pair that fails makes the answer, and one that passes makes none
pub pair_failed : (q : ℕ → ℕ → Bool) (ps : List (ℕ × ℕ)) (i : ℕ) (d : ℕ × ℕ) → i < length ps
    → list_all (λ p. q p.0 p.1) (drop i ps) ≡ list_all (λ p. q p.0 p.1) ps → q (get_or ps i d).0 (get_or ps i d).1 ≡ false
    → false ≡ list_all (λ p. q p.0 p.1) ps
pair_failed q ps i d h so_far fails =
    sym (sym so_far ∙ ap (list_all (λ p. q p.0 p.1)) (pair_at ps i d h) ∙ ap (λ (b : Bool). b && list_all (λ p. q p.0 p.1) (drop (suc i) ps)) fails)

pub pair_passed : (q : ℕ → ℕ → Bool) (ps : List (ℕ × ℕ)) (i : ℕ) (d : ℕ × ℕ) → i < length ps
    → list_all (λ p. q p.0 p.1) (drop i ps) ≡ list_all (λ p. q p.0 p.1) ps → q (get_or ps i d).0 (get_or ps i d).1 ≡ true
    → list_all (λ p. q p.0 p.1) (drop (i + 1) ps) ≡ list_all (λ p. q p.0 p.1) ps
pair_passed q ps i d h so_far passes =
    let next : i + 1 ≡ suc i = omega arith in
    ap (λ (k : ℕ). list_all (λ p. q p.0 p.1) (drop k ps)) next
    ∙ sym (ap (list_all (λ p. q p.0 p.1)) (pair_at ps i d h) ∙ ap (λ (b : Bool). b && list_all (λ p. q p.0 p.1) (drop (suc i) ps)) passes) ∙ so_far
