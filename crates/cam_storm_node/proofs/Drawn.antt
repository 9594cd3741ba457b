-- Letters draw their copies one after another.
use Rattle.std.proofs.Common.{◌≡◌, ℕ, ◌+◌, List, [], ◌∷◌, ◌++◌, length, sym, ap, ◌∙◌, subst, append-nil, append_assoc, arith}
use Rattle.std.proofs.lemmas.List.{length-append}
use Rattle.cam_event.specs.declared.Letter.{Letter}
use Rattle.cam_gen.specs.declared.copies.Copies.{Copies}
use Rattle.cam_gen.specs.StormDraws.{AreAt}
use Rattle.cam_gen.specs.Storms.{Words, copies_of}
use Rattle.cam_storm.specs.Events.{Copied}
use Rattle.cam_storm_node.specs.Copying.{copied_from}

pub length_more : {X : Type 0} (xs : List X) (x : X) → length (xs ++ x ∷ []) ≡ length xs + 1
length_more xs x = length-append xs (x ∷ [])

plus_zero : (n : ℕ) → n + 0 ≡ n
plus_zero n = omega arith

plus_one : (n m : ℕ) → n + (m + 1) ≡ n + m + 1
plus_one n m = omega arith

module _ (words : Words) (s number : ℕ) where
  -- none has drawn yet
  pub drawn_none : (drawn : List Copied) (letters rest : List Letter) → drawn ≡ [] → rest ≡ letters
      → drawn ++ copied_from words s (number + length drawn) rest
      ≡ copied_from words s number letters
  drawn_none drawn letters rest none are =
      (λ i. none i ++ copied_from words s (number + length (none i)) (are i))
      ∙ ap (λ n. copied_from words s n letters) (plus_zero number)

  pub at_none : (drawn : List Copied) (copies : Copies) → drawn ≡ [] → AreAt words s number copies
      → AreAt words s (number + length drawn) copies
  at_none drawn copies none at =
      subst (λ (n : ℕ). AreAt words s n copies)
      (sym (plus_zero number) ∙ sym (ap (λ (cs : List Copied). number + length cs) none)) at

  pub at_more : (drawn : List Copied) (c : Copied) (copies : Copies)
      → AreAt words s (number + length drawn + 1) copies
      → AreAt words s (number + length (drawn ++ c ∷ [])) copies
  at_more drawn c copies at =
      subst (λ (n : ℕ). AreAt words s n copies)
      (sym (ap (λ n. number + n) (length_more drawn c) ∙ plus_one number (length drawn))) at

  -- one more has
  pub drawn_more : (drawn : List Copied) (letter : Letter) (rest : List Letter) (copies : ℕ)
      (all : List Copied) → copies ≡ copies_of words s (number + length drawn)
      → drawn ++ copied_from words s (number + length drawn) (letter ∷ rest) ≡ all
      → (drawn ++ record { letter = letter; copies = copies } ∷ [])
      ++ copied_from words s
      (number + length (drawn ++ record { letter = letter; copies = copies } ∷ [])) rest
      ≡ all
  drawn_more drawn letter rest copies all is before =
      let c : Copied = record { letter = letter; copies = copies } in
      append_assoc drawn (c ∷ []) (copied_from words s (number + length (drawn ++ c ∷ [])) rest)
      ∙ ap (λ n. drawn ++ c ∷ copied_from words s n rest)
      (ap (λ n. number + n) (length_more drawn c) ∙ plus_one number (length drawn))
      ∙ ap
      (λ n.
      drawn
      ++ record { letter = letter; copies = n }
      ∷ copied_from words s (number + length drawn + 1) rest) is
      ∙ before

  -- all have
  pub drawn_all : (drawn all : List Copied) (rest : List Letter) → rest ≡ []
      → drawn ++ copied_from words s (number + length drawn) rest ≡ all → drawn ≡ all
  drawn_all drawn all rest none before =
      sym (append-nil drawn)
      ∙ ap (λ r. drawn ++ copied_from words s (number + length drawn) r) (sym none) ∙ before
