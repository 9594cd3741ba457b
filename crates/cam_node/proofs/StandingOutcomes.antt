-- Which outcomes stand, while a step has learnt some.
use Rattle.std.proofs.Common.{◌≡◌, ℕ, Bool, true, false, not, ◌||◌, take, drop, List, [], ◌∷◌, ◌++◌, refl, sym, ap, ◌∙◌}
use Rattle.std.specs.List.{list_any}
use Rattle.std.proofs.lemmas.Bool.{or_parts}
use Rattle.std.proofs.lemmas.List.{take-append-drop}
use Rattle.std.proofs.lemmas.List.Folds.{list_any-append}
use Rattle.cam_names.specs.declared.name.Name.{Name}
use Rattle.cam_names.specs.Names.{name_eq}
use Rattle.cam_know.specs.declared.Outcome.{Outcome}
use Rattle.cam_know.specs.declared.Outcome.TheVariants.{Aborted, Committed}
use Rattle.cam_know.specs.Knowledge.{Knowledge}
use Rattle.cam_know.specs.Known.{is_abort_of, is_commit_of, knows_abort, knows_commit}
use Rattle.cam_commit.specs.Calls.{is_decided}
use Rattle.cam_node.specs.Knowing.{is_outcome_of}

-- an outcome is a commit or an abort
any_outcome : (a : Name) (os : List Outcome)
    → list_any (is_outcome_of a) os ≡ (list_any (is_commit_of a) os || list_any (is_abort_of a) os)
any_outcome a [] = refl
any_outcome a (Aborted b ∷ os) =
    ap (λ (x : Bool). name_eq a b || x) (any_outcome a os)
    ∙ turned (name_eq a b) (list_any (is_commit_of a) os) (list_any (is_abort_of a) os)
  where
    turned : (n c d : Bool) → (n || (c || d)) ≡ (c || (n || d))
    turned true true d = refl
    turned true false d = refl
    turned false c d = refl
any_outcome a (Committed b counts ∷ os) =
    ap (λ (x : Bool). name_eq a b || x) (any_outcome a os)
    ∙ joined (name_eq a b) (list_any (is_commit_of a) os) (list_any (is_abort_of a) os)
  where
    joined : (n c d : Bool) → (n || (c || d)) ≡ ((n || c) || d)
    joined true c d = refl
    joined false c d = refl

pub decided_is : (a : Name) (k : Knowledge) → list_any (is_outcome_of a) k.outcomes ≡ is_decided k a
decided_is a k = any_outcome a k.outcomes

-- what is known committed is known, and so is what is known aborted
pub committed_is : (a : Name) (k : Knowledge) (r : Bool) → r ≡ knows_commit k a → r ≡ true
    → r ≡ list_any (is_outcome_of a) k.outcomes
committed_is a k r is holds = by (knows_commit k a) (knows_abort k a) r is holds ∙ sym (decided_is a k)
  where
    by : (c d r : Bool) → r ≡ c → r ≡ true → r ≡ (c || d)
    by true d r is holds = is
    by false d true is holds = cc
    by false d false is holds = cc

pub aborted_is : (a : Name) (k : Knowledge) (r committed : Bool) → r ≡ knows_abort k a
    → committed ≡ knows_commit k a → committed ≡ false → r ≡ list_any (is_outcome_of a) k.outcomes
aborted_is a k r committed is was none =
    is ∙ (λ i. (sym none ∙ was) i || knows_abort k a) ∙ sym (decided_is a k)

-- what is not known does not stand
pub none_stands : (a : Name) (n : ℕ) (k : Knowledge) (counts : List ℕ) (r : Bool)
    → r ≡ list_any (is_outcome_of a) k.outcomes → r ≡ false
    → r ≡ is_decided (record { outcomes = take n k.outcomes; counts = counts }) a
none_stands a n k counts r is none =
    none
    ∙ sym
    (or_parts (list_any (is_outcome_of a) (take n k.outcomes)) (list_any (is_outcome_of a) (drop n k.outcomes))
    (sym (list_any-append (is_outcome_of a) (take n k.outcomes) (drop n k.outcomes))
    ∙ ap (list_any (is_outcome_of a)) (take-append-drop n k.outcomes) ∙ sym is ∙ none)).0
    ∙ decided_is a (record { outcomes = take n k.outcomes; counts = counts })

-- Where one of all is of an action, and none of those behind, one of the first is.
pub none_behind : (p : Outcome → Bool) (first rest os : List Outcome) (r : Bool) → first ++ rest ≡ os
    → list_any p os ≡ true → r ≡ list_any p rest → not r ≡ true → not r ≡ list_any p first
none_behind p first rest os r all is behind none =
    by (list_any p first) (list_any p rest) r (sym (list_any-append p first rest) ∙ ap (list_any p) all ∙ is) behind none
  where
    by : (f b r : Bool) → (f || b) ≡ true → r ≡ b → not r ≡ true → not r ≡ f
    by true b false h is none = refl
    by false true false h is none = cc
    by false false r h is none = cc
    by f b true h is none = cc
