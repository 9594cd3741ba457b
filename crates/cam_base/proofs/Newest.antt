-- A list with its newest element first, one element further.
use Rattle.std.proofs.Common.{◌≡◌, ℕ, ◌+◌, ◌<◌, List, [], ◌∷◌, ◌++◌, length, take, reverse, get_or, sym, ap, ◌∙◌}
use Rattle.std.proofs.lemmas.List.{take_more, reverse-append}

pub taken_back : {X : Type 0} (xs : List X) (i : ℕ) (x : X) → i < length xs → x ≡ get_or xs i x → reverse (take (i + 1) xs) ≡ x ∷ reverse (take i xs)
taken_back xs i x h e = ap reverse (take_more xs i x h ∙ ap (λ y. take i xs ++ y ∷ []) (sym e)) ∙ reverse-append (take i xs) (x ∷ [])
