-- The letters of an outbox that are still to be put.
use Rattle.std.proofs.Common.{◌≡◌, ℕ, zero, suc, ◌+◌, ◌-◌, ◌<◌, List, [], ◌∷◌, ◌++◌, map, take}
use Rattle.std.proofs.Common.{drop, length, Some, None, refl, sym, ap, ◌∙◌, subst, arith}
use Rattle.std.specs.Prelude.{slice_get}
use Rattle.std.specs.List.{AllByRecursion}
use Rattle.std.proofs.lemmas.Option.{same_Some}
use Rattle.cam_event.specs.declared.Letter.{Letter}
use Rattle.cam_wire.specs.Laws.{IsSpelled}
use Rattle.cam_wire.specs.OneSet.{HasOneSetEach}
use Rattle.cam_wire.specs.Spelling.{spelled}
use Rattle.cam_net.specs.Letters.{InFlightFields, put_as}
use Rattle.cam_net.specs.Outbox.{OutboxFields, HasPutSome}

-- the letter at a place is the first of those from there on
pub first_from : (letters : List Letter) (place : ℕ) (letter : Letter)
    → slice_get letters place ≡ Some letter
    → drop place letters ≡ letter ∷ drop (suc place) letters
first_from [] place letter at = cc
first_from (l ∷ letters) zero letter at = ap (λ x. x ∷ letters) (same_Some l letter at)
first_from (l ∷ letters) (suc place) letter at = first_from letters place letter at

pub within : (letters : List Letter) (place : ℕ) (letter : Letter)
    → slice_get letters place ≡ Some letter → place < length letters
within [] place letter at = cc
within (l ∷ letters) zero letter at = omega arith
within (l ∷ letters) (suc place) letter at =
    let rest = within letters place letter at in omega (arith, rest)

pub none_from : (letters : List Letter) (place : ℕ) → slice_get letters place ≡ None
    → length (drop place letters) ≡ 0
none_from [] zero at = refl
none_from [] (suc place) at = refl
none_from (l ∷ letters) zero at = cc
none_from (l ∷ letters) (suc place) at = none_from letters place at

-- how many are left
pub left_from : (letters : List Letter) (place : ℕ)
    → length (drop place letters) ≡ length letters - place
left_from letters zero = omega arith
left_from [] (suc place) = omega arith
left_from (l ∷ letters) (suc place) = let rest = left_from letters place in omega (arith, rest)

none_more : (net : List InFlightFields) → net ≡ net ++ []
none_more [] = refl
none_more (kept ∷ net) = ap (λ xs. kept ∷ xs) (none_more net)

-- nothing was put
pub put_none : (old : OutboxFields) → HasPutSome old old
put_none old = record {
  many = 0;
  net = none_more old.net;
  unput = refl;
  spells = λ sets. tt;
}

-- one was put
pub put_one : (old new : OutboxFields) (letter : Letter) (rest : List Letter)
    → old.unput ≡ letter ∷ rest → new.net ≡ old.net ++ put_as letter ∷ [] → new.unput ≡ rest
    → (HasOneSetEach letter → IsSpelled letter (spelled letter)) → HasPutSome old new
put_one old new letter rest is net unput spells = record {
  many = 1;
  net = net ∙ ap (λ ls. old.net ++ map put_as (take 1 ls)) (sym is);
  unput = unput ∙ ap (drop 1) (sym is);
  spells = λ sets.
      subst (λ ls. AllByRecursion (λ (l : Letter). IsSpelled l (spelled l)) (take 1 ls)) (sym is)
      (spells (subst (AllByRecursion HasOneSetEach) is sets).0, tt);
}

-- some were put, and then some
associates : (xs ys zs : List InFlightFields) → (xs ++ ys) ++ zs ≡ xs ++ (ys ++ zs)
associates [] ys zs = refl
associates (x ∷ xs) ys zs = ap (λ rest. x ∷ rest) (associates xs ys zs)

take_none : (k : ℕ) → (let no : List Letter = [] in no) ≡ take k []
take_none zero = refl
take_none (suc k) = refl

drop_none : (k : ℕ) → (let no : List Letter = [] in no) ≡ drop k []
drop_none zero = refl
drop_none (suc k) = refl

parts : (m n : ℕ) (letters : List Letter)
    → map put_as (take m letters) ++ map put_as (take n (drop m letters))
    ≡ map put_as (take (m + n) letters)
parts zero n letters = ap (λ k. map put_as (take k letters)) (omega arith)
parts (suc m) n [] = ap (map put_as) (sym (take_none n) ∙ take_none (suc m + n))
parts (suc m) n (l ∷ letters) =
    let one : suc (m + n) ≡ suc m + n = omega arith in
    ap (λ ls. put_as l ∷ ls) (parts m n letters) ∙ ap (λ k. map put_as (take k (l ∷ letters))) one

drops : (m n : ℕ) (letters : List Letter) → drop n (drop m letters) ≡ drop (m + n) letters
drops zero n letters = ap (λ k. drop k letters) (omega arith)
drops (suc m) n [] = sym (drop_none n) ∙ drop_none (suc m + n)
drops (suc m) n (l ∷ letters) =
    let one : suc (m + n) ≡ suc m + n = omega arith in
    drops m n letters ∙ ap (λ k. drop k (l ∷ letters)) one

all_later : (P : Letter → Type 0) (m : ℕ) (letters : List Letter) → AllByRecursion P letters
    → AllByRecursion P (drop m letters)
all_later P zero letters all = all
all_later P (suc m) [] all = all
all_later P (suc m) (l ∷ letters) all = all_later P m letters all.1

all_parts : (P : Letter → Type 0) (m n : ℕ) (letters : List Letter)
    → AllByRecursion P (take m letters) → AllByRecursion P (take n (drop m letters))
    → AllByRecursion P (take (m + n) letters)
all_parts P zero n letters one other =
    subst (λ (k : ℕ). AllByRecursion P (take k letters)) (omega arith) other
all_parts P (suc m) n [] one other = subst (AllByRecursion P) (take_none (suc m + n)) tt
all_parts P (suc m) n (l ∷ letters) one other =
    let more : suc (m + n) ≡ suc m + n = omega arith in
    subst (λ (k : ℕ). AllByRecursion P (take k (l ∷ letters))) more
    (one.0, all_parts P m n letters one.1 other)

pub put_then : (old between new : OutboxFields) → HasPutSome old between → HasPutSome between new
    → HasPutSome old new
put_then old between new first second = record {
  many = first.many + second.many;
  net =
      second.net
      ∙ (λ i. first.net i ++ map put_as (take second.many (first.unput i)))
      ∙ associates old.net (map put_as (take first.many old.unput))
      (map put_as (take second.many (drop first.many old.unput)))
      ∙ ap (λ xs. old.net ++ xs) (parts first.many second.many old.unput);
  unput =
      second.unput ∙ ap (drop second.many) first.unput
      ∙ drops first.many second.many old.unput;
  spells = λ sets.
      all_parts (λ (l : Letter). IsSpelled l (spelled l)) first.many second.many old.unput
      (first.spells sets)
      (subst (λ ls. AllByRecursion (λ (l : Letter). IsSpelled l (spelled l)) (take second.many ls))
      first.unput
      (second.spells
      (subst (AllByRecursion HasOneSetEach) (sym first.unput)
      (all_later HasOneSetEach first.many old.unput sets))));
}
