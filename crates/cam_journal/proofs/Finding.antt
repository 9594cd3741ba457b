-- An event is found by its number, since numbers rise.
use Rattle.std.proofs.Common.{◌≡◌, ◌≢◌, ℕ, ◌<◌, ◌≤◌, List, length, get_or, refl, sym, ap, ◌∙◌, subst, inl, inr, arith}
use Rattle.std.specs.Prelude.{All, Some, slice_get}
use Rattle.std.specs.declared.cmp.Ordering.TheVariants.{Less, Equal, Greater}
use Rattle.std.specs.Ordering.{nat_cmp, ordering_index}
use Rattle.std.specs.List.{HoldsAt}
use Rattle.std.specs.List.Sorted.{IsNonDecreasingBy, IsPartitionPoint}
use Rattle.std.proofs.lemmas.Bool.{cases_lt}
use Rattle.std.proofs.lemmas.Bool.Decides.{nat_tests}
use Rattle.std.proofs.lemmas.Cmp.{ranked}
use Rattle.std.proofs.lemmas.Option.{slice_get_read, slice_get-get_or}
use Rattle.cam_journal.specs.Seats.{AreRising}

rank_rises : (a b n : ℕ) → a ≤ b → ordering_index (nat_cmp a n) ≤ ordering_index (nat_cmp b n)
rank_rises a b n within = grind (arith, nat_tests)

module _ {E : Type 0} where
  -- the event that a search found
  pub found_at : (entries : List (ℕ × E)) (number at : ℕ) (entry : ℕ × E) → HoldsAt (λ y. nat_cmp y.0 number ≡ Equal) entries at → at < length entries → entry ≡ get_or entries at entry → slice_get entries at ≡ Some (number, entry.1)
  found_at entries number at entry equal within read =
      let there = slice_get_read entries (length entries) at entry refl within read in
      let compared : Equal ≡ nat_cmp entry.0 number = sym (equal entry) ∙ ap (λ (e : ℕ × E). nat_cmp e.0 number) (sym read) in
      let same : entry.0 ≡ number = ranked entry.0 number Equal compared in
      there ∙ ap (λ (n : ℕ). Some (n, entry.1)) same

  rises : (entries : List (ℕ × E)) (number : ℕ) → AreRising entries → IsNonDecreasingBy (λ y. ordering_index (nat_cmp y.0 number)) entries
  rises entries number rising i j d before within =
      elim (cases_lt i j) [
        | inl less ↦
            let above : (get_or entries i d).0 < (get_or entries j d).0 = rising i j (get_or entries i d) (get_or entries j d) less (slice_get-get_or entries i d (omega arith)) (slice_get-get_or entries j d within) in
            rank_rises (get_or entries i d).0 (get_or entries j d).0 number (omega arith)
        | inr not_less ↦
            let same : i ≡ j = omega arith in
            subst (λ (k : ℕ). ordering_index (nat_cmp (get_or entries i d).0 number) ≤ ordering_index (nat_cmp (get_or entries k d).0 number)) same (rank_rises (get_or entries i d).0 (get_or entries i d).0 number (omega arith))
      ]

  -- no event has the number where a search found none
  pub absent : (entries : List (ℕ × E)) (number place : ℕ) → AreRising entries → (IsNonDecreasingBy (λ y. ordering_index (nat_cmp y.0 number)) entries → IsPartitionPoint (λ y. nat_cmp y.0 number ≡ Less) (λ y. nat_cmp y.0 number ≡ Greater) entries place) → All (λ entry. entry.0 ≢ number) entries
  absent entries number place rising parts k d within same =
      let sides = parts (rises entries number rising) in
      let here : ℕ = (get_or entries k d).0 in
      elim (cases_lt k place) [
        | inl below ↦ let less = ranked here number Less (sym (sides.0 k d (omega arith) below)) in absurd (omega (arith, less, same))
        | inr above ↦ let more = ranked here number Greater (sym (sides.1 k d above within)) in absurd (omega (arith, more, same))
      ]
