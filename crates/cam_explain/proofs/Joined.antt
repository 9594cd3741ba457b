-- Texts that are appended one behind the other.
use Rattle.std.proofs.Common.{◌≡◌, ℕ, List, ◌++◌, ap, ◌∙◌, append_assoc}

pub two : (o a b x y : List ℕ) → x ≡ o ++ a → y ≡ x ++ b → y ≡ o ++ (a ++ b)
two o a b x y first second = second ∙ ap (λ (t : List ℕ). t ++ b) first ∙ append_assoc o a b

pub three : (o a b c x y z : List ℕ) → x ≡ o ++ a → y ≡ x ++ b → z ≡ y ++ c → z ≡ o ++ (a ++ (b ++ c))
three o a b c x y z first second third = two o a (b ++ c) x z first (two x b c y z second third)

pub four : (o a b c d x y z u : List ℕ) → x ≡ o ++ a → y ≡ x ++ b → z ≡ y ++ c → u ≡ z ++ d → u ≡ o ++ (a ++ (b ++ (c ++ d)))
four o a b c d x y z u first second third fourth = two o a (b ++ (c ++ d)) x u first (three x b c d y z u second third fourth)

pub five : (o a b c d e x y z u v : List ℕ) → x ≡ o ++ a → y ≡ x ++ b → z ≡ y ++ c → u ≡ z ++ d → v ≡ u ++ e
    → v ≡ o ++ (a ++ (b ++ (c ++ (d ++ e))))
five o a b c d e x y z u v first second third fourth fifth =
    two o a (b ++ (c ++ (d ++ e))) x v first (four x b c d e y z u v second third fourth fifth)
