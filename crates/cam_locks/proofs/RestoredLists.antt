-- What one more held operation, and one more known outcome, adds to what is restored.
use Rattle.std.proofs.Common.{◌≡◌, ℕ, ◌+◌, ◌≤◌, ◌<◌, max, Bool, true, false, not, ◌||◌, cond, List, [], ◌∷◌, ◌++◌, length, take, get_or, zero, suc, refl, sym, ap, subst, ◌∙◌, arith}
use Rattle.std.specs.Prelude.{flat_map, filter}
use Rattle.std.proofs.lemmas.List.{take_more, append-nil}
use Rattle.std.proofs.lemmas.Grind.{flat_map-append}
use Rattle.std.proofs.lemmas.List.Elements.{filter-append}
use Rattle.cam_names.specs.declared.name.Name.{Name}
use Rattle.cam_names.specs.Names.{name_eq}
use Rattle.cam_names.proofs.Names.{name_eq_same, name_eq_sym}
use Rattle.cam_type.specs.declared.ObjectDecl.{ObjectDecl}
use Rattle.cam_type.specs.declared.Held.{Held}
use Rattle.cam_type.specs.declared.HeldOp.{HeldOp}
use Rattle.cam_know.specs.declared.Outcome.{Outcome}
use Rattle.cam_know.specs.Knowledge.{Knowledge}
use Rattle.cam_locks.specs.declared.LiveOp.{LiveOp}
use Rattle.cam_locks.specs.Names.{has_name, with_name, once}
use Rattle.cam_locks.specs.Restored.{ops_of, next_of, all_held, InRange, MayBeHeld}
use Rattle.cam_locks.proofs.Lists.{taken}

pub flat_further : {X A : Type 0} (f : X → List A) (xs : List X) (i : ℕ) (x : X) → i < length xs → x ≡ get_or xs i x
    → flat_map f (take (i + 1) xs) ≡ flat_map f (take i xs) ++ f x
flat_further {X} {A} f xs i x lt is =
    ap (flat_map f) (taken xs i x lt is) ∙ flat_map-append f (take i xs) (x ∷ []) ∙ ap (λ (ys : List A). flat_map f (take i xs) ++ ys) (append-nil (f x))

-- what is kept of one more held family
pub kept_further : (know : Knowledge) (held : List Held) (i : ℕ) (f : Held) (old new : List LiveOp) → i < length held → f ≡ get_or held i f
    → old ≡ flat_map (ops_of know) (take i held) → new ≡ old ++ ops_of know f → new ≡ flat_map (ops_of know) (take (i + 1) held)
kept_further know held i f old new lt is so_far step =
    step ∙ ap (λ (os : List LiveOp). os ++ ops_of know f) so_far ∙ sym (flat_further (ops_of know) held i f lt is)

-- one more name, each kept once
apart_has : (a b : Name) (names : List Name) → name_eq a b ≡ false → has_name (filter (λ c. not (name_eq b c)) names) a ≡ has_name names a
apart_has a b [] apart = refl
apart_has a b (c ∷ names) apart = by_test (name_eq b c) refl (apart_has a b names apart)
  where
    other : name_eq b c ≡ true → name_eq a c ≡ false
    other is = ap (name_eq a) (sym (name_eq_same b c is)) ∙ apart

    by_test : (t : Bool) → name_eq b c ≡ t → has_name (filter (λ c. not (name_eq b c)) names) a ≡ has_name names a
        → has_name (cond (not t) (c ∷ filter (λ c. not (name_eq b c)) names) (filter (λ c. not (name_eq b c)) names)) a ≡ (name_eq a c || has_name names a)
    by_test true is rest = rest ∙ sym (ap (λ (d : Bool). d || has_name names a) (other is))
    by_test false is rest = ap (λ (d : Bool). name_eq a c || d) rest

-- one more name, among names of which each stands once
pub once_more : (names : List Name) (a : Name) → with_name (once names) a ≡ once (names ++ a ∷ [])
once_more [] a = refl
once_more (b ∷ names) a =
    by_test (name_eq a b) refl ∙ ap (λ (ns : List Name). b ∷ filter (λ c. not (name_eq b c)) ns) (once_more names a)
  where
    rest : List Name
    rest = filter (λ c. not (name_eq b c)) (once names)

    others : (t : Bool) → filter (λ c. not (name_eq b c)) (cond t (once names) (once names ++ a ∷ [])) ≡ cond t rest (rest ++ cond (not (name_eq b a)) (a ∷ []) [])
    others true = refl
    others false = filter-append (λ c. not (name_eq b c)) (once names) (a ∷ [])

    by_test : (t : Bool) → name_eq a b ≡ t → with_name (b ∷ rest) a ≡ b ∷ filter (λ c. not (name_eq b c)) (with_name (once names) a)
    by_test true is =
        let back : name_eq b a ≡ true = name_eq_sym b a ∙ is in
        ap (λ (d : Bool). cond (d || has_name rest a) (b ∷ rest) (b ∷ (rest ++ a ∷ []))) is
        ∙ ap (λ (ns : List Name). b ∷ ns) (sym (others (has_name (once names) a) ∙ ap (λ (d : Bool). cond (has_name (once names) a) rest (rest ++ cond (not d) (a ∷ []) [])) back ∙ same (has_name (once names) a)))
      where
        same : (t : Bool) → cond t rest (rest ++ []) ≡ rest
        same true = refl
        same false = append-nil rest
    by_test false is =
        let back : name_eq b a ≡ false = name_eq_sym b a ∙ is in
        ap (λ (d : Bool). cond (d || has_name rest a) (b ∷ rest) (b ∷ (rest ++ a ∷ []))) is
        ∙ ap (λ (d : Bool). cond d (b ∷ rest) (b ∷ (rest ++ a ∷ []))) (apart_has a b (once names) is)
        ∙ push (has_name (once names) a)
        ∙ ap (λ (ns : List Name). b ∷ ns) (sym (others (has_name (once names) a) ∙ ap (λ (d : Bool). cond (has_name (once names) a) rest (rest ++ cond (not d) (a ∷ []) [])) back))
      where
        push : (t : Bool) → cond t (b ∷ rest) (b ∷ (rest ++ a ∷ [])) ≡ b ∷ cond t rest (rest ++ a ∷ [])
        push true = refl
        push false = refl

-- what one more outcome adds to the names that were picked
pub names_further : (pick : Outcome → List Name) (os : List Outcome) (i : ℕ) (o : Outcome) (old new : List Name) → i < length os → o ≡ get_or os i o
    → ((more : List Name) → old ≡ once more → new ≡ once (more ++ pick o)) → old ≡ once (flat_map pick (take i os)) → new ≡ once (flat_map pick (take (i + 1) os))
names_further pick os i o old new lt is step so_far =
    step (flat_map pick (take i os)) so_far ∙ ap once (sym (flat_further pick os i o lt is))

-- the next index
pub next_append : (hs gs : List HeldOp) → next_of (hs ++ gs) ≡ max (next_of hs) (next_of gs)
next_append [] gs = omega arith
next_append (h ∷ hs) gs = let rest : next_of (hs ++ gs) ≡ max (next_of hs) (next_of gs) = next_append hs gs in omega (arith, rest)

-- one more held operation, for the next index
pub next_further : (hs : List HeldOp) (first i next new : ℕ) (d : HeldOp) → i < length hs → next ≡ max first (next_of (take i hs)) → new ≡ max next ((get_or hs i d).index + 1)
    → new ≡ max first (next_of (take (i + 1) hs))
next_further hs first i next new d lt so_far step =
    let grown : next_of (take (i + 1) hs) ≡ max (next_of (take i hs)) (max ((get_or hs i d).index + 1) 0) = ap next_of (take_more hs i d lt) ∙ next_append (take i hs) (get_or hs i d ∷ []) in
    omega (arith, grown, so_far, step)

-- one more held family, for the next index
pub next_family : (held : List Held) (i : ℕ) (f : Held) → i < length held → f ≡ get_or held i f
    → next_of (all_held (take (i + 1) held)) ≡ max (next_of (all_held (take i held))) (next_of f.ops)
next_family held i f lt is =
    ap next_of (flat_further (λ (g : Held). g.ops) held i f lt is) ∙ next_append (all_held (take i held)) f.ops

-- each index of a list in range
pub in_range_at : (hs : List HeldOp) (i : ℕ) (d : HeldOp) → i < length hs → InRange hs → (get_or hs i d).index ≤ 999999999
in_range_at [] i d lt all = absurd (omega arith)
in_range_at (h ∷ hs) zero d lt all = all.0
in_range_at (h ∷ hs) (suc i) d lt all = in_range_at hs i d (omega arith) all.1

in_range_front : (hs gs : List HeldOp) → InRange (hs ++ gs) → InRange hs
in_range_front [] gs all = tt
in_range_front (h ∷ hs) gs all = (all.0, in_range_front hs gs all.1)

in_range_back : (hs gs : List HeldOp) → InRange (hs ++ gs) → InRange gs
in_range_back [] gs all = all
in_range_back (h ∷ hs) gs all = in_range_back hs gs all.1

-- the indices of a held family are in their range, where all are
pub in_range_of : (held : List Held) (i : ℕ) (f : Held) → i < length held → f ≡ get_or held i f → InRange (all_held held) → InRange f.ops
in_range_of [] i f lt is all = absurd (omega arith)
in_range_of (g ∷ held) zero f lt is all = subst (λ (k : Held). InRange k.ops) (sym is) (in_range_front g.ops (all_held held) all)
in_range_of (g ∷ held) (suc i) f lt is all = in_range_of held i f (omega arith) is (in_range_back g.ops (all_held held) all)

-- the indices of what may be held are in their range
pub in_range : (objects : List ObjectDecl) (node : ℕ) (hs : List HeldOp) → MayBeHeld objects node hs → InRange hs
in_range objects node [] may = tt
in_range objects node (h ∷ hs) may = (may.1, in_range objects node hs may.3)
