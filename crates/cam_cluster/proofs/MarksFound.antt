-- The mark of a node's last halt, found from the end.
use Rattle.std.proofs.Common.{◌≡◌, ℕ, zero, suc, ◌<◌, Bool, true, false, not, ◌||◌, ◌&&◌, List, []}
use Rattle.std.proofs.Common.{◌∷◌, if◌then◌else◌, drop, get_or, length, set, refl, sym, ap, ◌∙◌}
use Rattle.std.proofs.Common.{arith}
use Rattle.std.specs.List.{list_any}
use Rattle.std.proofs.lemmas.Bool.{true≢false}
use Rattle.cam_event.specs.declared.Mark.{Mark}
use Rattle.cam_histories.specs.Found.{as_taken, is_halt_of, with_mark_taken}

any_there : {T : Type 0} (p : T → Bool) (xs : List T) (k : ℕ) (d : T) → k < length xs
    → p (get_or xs k d) ≡ true → list_any p xs ≡ true
any_there p [] k d within holds = absurd (omega (arith, within))
any_there p (x ∷ xs) zero d within holds = ap (λ (b : Bool). b || list_any p xs) holds
any_there p (x ∷ xs) (suc k) d within holds =
    by (p x) (any_there p xs k d (omega (arith, within)) holds)
  where
    by : (b : Bool) → list_any p xs ≡ true → (b || list_any p xs) ≡ true
    by true rest = refl
    by false rest = rest

-- it is the last of the node's halts
pub last_taken : (s : ℕ) (ms : List Mark) (k : ℕ) (d : Mark) → k < length ms
    → is_halt_of s (get_or ms k d) ≡ true → list_any (is_halt_of s) (drop (suc k) ms) ≡ false
    → set ms k (as_taken (get_or ms k d)) ≡ with_mark_taken s ms
last_taken s [] k d within halt none = absurd (omega (arith, within))
last_taken s (m ∷ ms) zero d within halt none =
    sym (ap (λ (b : Bool). if b && not (list_any (is_halt_of s) ms) then as_taken m ∷ ms
    else m ∷ with_mark_taken s ms) halt
    ∙ ap (λ (b : Bool). if not b then as_taken m ∷ ms else m ∷ with_mark_taken s ms) none)
last_taken s (m ∷ ms) (suc k) d within halt none =
    ap (λ (xs : List Mark). m ∷ xs) (last_taken s ms k d (omega (arith, within)) halt none)
    ∙ sym (by (is_halt_of s m) (any_there (is_halt_of s) ms k d (omega (arith, within)) halt))
  where
    by : (b : Bool) → list_any (is_halt_of s) ms ≡ true
        → (if b && not (list_any (is_halt_of s) ms) then as_taken m ∷ ms
        else m ∷ with_mark_taken s ms) ≡ m ∷ with_mark_taken s ms
    by false there = refl
    by true there =
        ap (λ (c : Bool). if not c then as_taken m ∷ ms else m ∷ with_mark_taken s ms) there

-- the node has none
pub none_taken : (s : ℕ) (ms : List Mark) → list_any (is_halt_of s) ms ≡ false
    → ms ≡ with_mark_taken s ms
none_taken s [] none = refl
none_taken s (m ∷ ms) none = by (none_taken s ms) (is_halt_of s m) refl none
  where
    by : (list_any (is_halt_of s) ms ≡ false → ms ≡ with_mark_taken s ms)
        → (b : Bool) → is_halt_of s m ≡ b → (is_halt_of s m || list_any (is_halt_of s) ms) ≡ false
        → m ∷ ms ≡ with_mark_taken s (m ∷ ms)
    by rest true is some =
        absurd (true≢false (sym (ap (λ (c : Bool). c || list_any (is_halt_of s) ms) is) ∙ some))
    by rest false is some =
        ap (λ (xs : List Mark). m ∷ xs)
        (rest (sym (ap (λ (c : Bool). c || list_any (is_halt_of s) ms) is) ∙ some))
        ∙ sym (ap (λ (c : Bool). if c && not (list_any (is_halt_of s) ms) then as_taken m ∷ ms
        else m ∷ with_mark_taken s ms) is)
