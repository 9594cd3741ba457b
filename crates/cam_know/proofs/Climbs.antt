-- To climb from an action to its parent is to go through its ancestors from the last on.
use Rattle.std.proofs.Common.{◌≡◌, ◌≤◌, ◌<◌, Bool, true, false, not, if◌then◌else◌, List, [], ◌∷◌, ◌++◌, length, map, reverse, Some, None, arith, sym, ap, subst, ◌∙◌, refl}
use Rattle.std.specs.Prelude.{find}
use Rattle.std.specs.Option.{option_or}
use Rattle.std.proofs.lemmas.List.{map-append, reverse-append}
use Rattle.std.proofs.lemmas.List.Folds.{find-append}
use Rattle.cam_names.specs.Part.{PartFields}
use Rattle.cam_names.specs.Names.{ancestors, parent, before_last}
use Rattle.cam_know.specs.Known.{lift_by}

climb : (q r : PartFields) (b : List PartFields) → ancestors (q ∷ r ∷ b) ≡ ancestors (before_last (q ∷ r ∷ b)) ++ (q ∷ r ∷ b) ∷ []
climb q r [] = refl
climb q r (s ∷ b) = ap (λ us. (q ∷ []) ∷ map (λ u. q ∷ u) us) (climb r s b) ∙ ap (λ us. (q ∷ []) ∷ us) (map-append (λ u. q ∷ u) (ancestors (before_last (r ∷ s ∷ b))) ((r ∷ s ∷ b) ∷ []))

pub ancestors_parent : (a p : List PartFields) → Some p ≡ parent a → ancestors a ≡ ancestors p ++ a ∷ []
ancestors_parent [] p h = cc
ancestors_parent (q ∷ []) p h = cc
ancestors_parent (q ∷ r ∷ b) p h =
    let is : p ≡ before_last (q ∷ r ∷ b) = cc in
    climb q r b ∙ ap (λ u. ancestors u ++ (q ∷ r ∷ b) ∷ []) (sym is)

pub ancestors_top : (a : List PartFields) → length a ≡ 1 → ancestors a ≡ a ∷ []
ancestors_top [] h = absurd (omega arith)
ancestors_top (p ∷ []) h = refl
ancestors_top (p ∷ q ∷ a) h = absurd (omega arith)

-- the action itself is its last ancestor
pub last_ancestor : (a : List PartFields) → 1 ≤ length a → (us : List (List PartFields)) × (ancestors a ≡ us ++ a ∷ [])
last_ancestor [] h = absurd (omega arith)
last_ancestor (p ∷ []) h = ([], refl)
last_ancestor (p ∷ q ∷ a) h = (ancestors (before_last (p ∷ q ∷ a)), climb p q a)

pub parent_shorter : (a p : List PartFields) → Some p ≡ parent a → length p < length a
parent_shorter [] p h = cc
parent_shorter (q ∷ []) p h = cc
parent_shorter (q ∷ r ∷ b) p h = let is : p ≡ before_last (q ∷ r ∷ b) = cc in subst (λ (u : List PartFields). length u < length (q ∷ r ∷ b)) (sym is) (shorter q (r ∷ b))
  where
    shorter : (q : PartFields) (b : List PartFields) → length (before_last (q ∷ b)) < length (q ∷ b)
    shorter q [] = omega arith
    shorter q (r ∷ b) = let rest : length (before_last (r ∷ b)) < length (r ∷ b) = shorter r b in omega arith

pub find_top : (test : List PartFields → Bool) (a : List PartFields) → length a ≡ 1 → find test (ancestors a) ≡ (if test a then Some a else None)
find_top test a one = ap (find test) (ancestors_top a one)

pub find_above : (test : List PartFields → Bool) (a p u : List PartFields) → Some p ≡ parent a → Some u ≡ find test (ancestors p) → Some u ≡ find test (ancestors a)
find_above test a p u is found =
    sym (ap (find test) (ancestors_parent a p is) ∙ find-append test (ancestors p) (a ∷ []) ∙ ap (λ o. option_or o (find test (a ∷ []))) (sym found))

pub find_here : (test : List PartFields → Bool) (a p : List PartFields) → Some p ≡ parent a → None ≡ find test (ancestors p) → find test (ancestors a) ≡ (if test a then Some a else None)
find_here test a p is none =
    ap (find test) (ancestors_parent a p is) ∙ find-append test (ancestors p) (a ∷ []) ∙ ap (λ o. option_or o (find test (a ∷ []))) (sym none)

-- the last ancestor that is not committed
from_last : (committed : List PartFields → Bool) (us : List (List PartFields)) (a : List PartFields) →
    find (λ u. not (committed u)) (reverse (us ++ a ∷ [])) ≡ (if not (committed a) then Some a else find (λ u. not (committed u)) (reverse us))
from_last committed us a = ap (find (λ u. not (committed u))) (reverse-append us (a ∷ []))

pub lift_here : (committed : List PartFields → Bool) (a : List PartFields) → 1 ≤ length a → committed a ≡ false → Some a ≡ lift_by committed a
lift_here committed a some open_yet =
    let last = last_ancestor a some in
    sym (ap (λ us. find (λ u. not (committed u)) (reverse us)) last.1 ∙ from_last committed last.0 a
    ∙ ap (λ t. if not t then Some a else find (λ u. not (committed u)) (reverse last.0)) open_yet)

pub lift_above : (committed : List PartFields → Bool) (a p : List PartFields) → Some p ≡ parent a → committed a ≡ true → lift_by committed p ≡ lift_by committed a
lift_above committed a p is done =
    sym (ap (λ us. find (λ u. not (committed u)) (reverse us)) (ancestors_parent a p is) ∙ from_last committed (ancestors p) a
    ∙ ap (λ t. if not t then Some a else find (λ u. not (committed u)) (reverse (ancestors p))) done)

pub lift_top : (committed : List PartFields → Bool) (a : List PartFields) → length a ≡ 1 → committed a ≡ true → None ≡ lift_by committed a
lift_top committed a one done =
    sym (ap (λ us. find (λ u. not (committed u)) (reverse us)) (ancestors_top a one)
    ∙ ap (λ t. if not t then Some a else None) done)
