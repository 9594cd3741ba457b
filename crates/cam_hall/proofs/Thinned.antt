-- Lists from which some elements were left out, and values that were added once or twice.
use Rattle.std.proofs.Common.{◌≡◌, Bool, true, false, ◌||◌, List, [], ◌∷◌, ◌++◌, refl, sym, ap, ◌∙◌, subst, append_assoc}
use Rattle.std.proofs.lemmas.List.{append-nil}
use Rattle.cam_hall.specs.Notes.{IsThinned, none, kept, left_out, IsMade, IsPushed}

module _ {X : Type 0} where
  -- nothing is left out
  pub thinned_same : (xs : List X) → IsThinned xs xs
  thinned_same [] = none
  thinned_same (x ∷ xs) = kept (thinned_same xs)

  -- all is left out
  pub thinned_nothing : (xs : List X) → IsThinned [] xs
  thinned_nothing [] = none
  thinned_nothing (x ∷ xs) = left_out (thinned_nothing xs)

  pub thinned_append : {a b : List X} (c d : List X) → IsThinned a b → IsThinned c d
      → IsThinned (a ++ c) (b ++ d)
  thinned_append c d none two = two
  thinned_append c d (kept one) two = kept (thinned_append c d one two)
  thinned_append c d (left_out one) two = left_out (thinned_append c d one two)

  pub made_thinned : (short : Bool) (made whole : List X) → IsMade short made whole
      → IsThinned made whole
  made_thinned false made whole is =
      subst (λ m. IsThinned m whole) (sym is) (thinned_same whole)
  made_thinned true made whole is = is

  pub made_append : (s t : Bool) (a b c d : List X) → IsMade s a b → IsMade t c d
      → IsMade (s || t) (a ++ c) (b ++ d)
  made_append false false a b c d one two = cc
  made_append false true a b c d one two =
      thinned_append c d (made_thinned false a b one) two
  made_append true false a b c d one two =
      thinned_append c d one (made_thinned false c d two)
  made_append true true a b c d one two = thinned_append c d one two

-- a value was added once, or memory was short
pub pushed_once : {X : Type 0} (x : X) (old new : List X) → new ≡ old ++ x ∷ []
    → IsPushed 1 false x old new
pushed_once x old new is = record { made = x ∷ []; are = refl; more = is }

pub pushed_none : {X : Type 0} (x : X) (old new : List X) → new ≡ old → IsPushed 1 true x old new
pushed_none x old new is =
    record { made = []; are = thinned_nothing (x ∷ []); more = is ∙ sym (append-nil old) }

-- a value was added twice, one after the other
pushed_twice : {X : Type 0} (s t : Bool) (x y z : X) (old between new : List X) → y ≡ x → z ≡ x
    → IsPushed 1 s y old between → IsPushed 1 t z between new → IsPushed 2 (s || t) x old new
pushed_twice {X} s t x y z old between new first second one two =
    let here = subst (λ v. IsPushed 1 s v old between) first one in
    let there = subst (λ v. IsPushed 1 t v between new) second two in
    record {
      made = here.made ++ there.made;
      are = made_append s t here.made (x ∷ []) there.made (x ∷ []) here.are there.are;
      more =
          there.more
          ∙ ap (λ (l : List X). l ++ there.made) here.more
          ∙ append_assoc old here.made there.made;
    }

-- the first was left out
pub pushed_first : {X : Type 0} (s t : Bool) (x y z : X) (old between new : List X) → y ≡ x → z ≡ x
    → IsPushed 1 s y old between → IsPushed 1 t z between new → s ≡ true → IsPushed 2 s x old new
pushed_first s t x y z old between new first second one two is =
    subst (λ b. IsPushed 2 b x old new) (sym is)
    (subst (λ b. IsPushed 2 (b || t) x old new) is
    (pushed_twice s t x y z old between new first second one two))

-- the first was added
pub pushed_second : {X : Type 0} (s t : Bool) (x y z : X) (old between new : List X) → y ≡ x
    → z ≡ x → IsPushed 1 s y old between → IsPushed 1 t z between new → s ≡ false
    → IsPushed 2 t x old new
pushed_second s t x y z old between new first second one two is =
    subst (λ b. IsPushed 2 (b || t) x old new) is
    (pushed_twice s t x y z old between new first second one two)

-- it was added once at most in place of twice
pub pushed_short : {X : Type 0} (s : Bool) (x y : X) (old new : List X) → y ≡ x
    → IsPushed 1 s y old new → IsPushed 2 true x old new
pushed_short s x y old new same pushed =
    let one = subst (λ v. IsPushed 1 s v old new) same pushed in
    let most = made_thinned s one.made (x ∷ []) one.are in
    record {
      made = one.made;
      are =
          subst (λ m. IsThinned m (x ∷ x ∷ [])) (append-nil one.made)
          (thinned_append [] (x ∷ []) most (thinned_nothing (x ∷ [])));
      more = one.more;
    }
