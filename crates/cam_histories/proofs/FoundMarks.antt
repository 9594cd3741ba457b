-- Marks and numbers of taken events where an event is put in.
use Rattle.std.proofs.Common.{◌≡◌, inl, inr, ℕ, ◌+◌, ◌<◌, ◌≤◌, Bool, true, false}
use Rattle.std.proofs.Common.{not, ◌&&◌, ◌||◌, if◌then◌else◌, List, [], ◌∷◌, ◌++◌}
use Rattle.std.proofs.Common.{refl, ap, ◌∙◌, arith}
use Rattle.std.specs.List.{list_any}
use Rattle.std.proofs.lemmas.Bool.{eq-eqb}
use Rattle.cam_event.specs.declared.Mark.{Mark}
use Rattle.cam_event.specs.declared.Mark.TheVariants as marks
use Rattle.cam_runs.specs.Running.{has_number}
use Rattle.cam_histories.specs.Found.{with_number, is_halt_of, as_taken, with_mark_taken}
use Rattle.cam_histories.proofs.Numbers.{lt_cases}

-- a mark that is no halt of the node
any_end : (p : Mark → Bool) (ms : List Mark) (m : Mark) (b : Bool) → p m ≡ b
    → list_any p (ms ++ m ∷ []) ≡ (list_any p ms || b)
any_end p [] m b is = ap (λ x. x || false) is ∙ by b
  where
    by : (b : Bool) → (b || false) ≡ (false || b)
    by true = refl
    by false = refl
any_end p (x ∷ ms) m b is = ap (λ r. p x || r) (any_end p ms m b is) ∙ by (p x) (list_any p ms) b
  where
    by : (a r b : Bool) → (a || (r || b)) ≡ ((a || r) || b)
    by true r b = refl
    by false r b = refl

or_false : (b : Bool) → (b || false) ≡ b
or_false true = refl
or_false false = refl

or_true : (b : Bool) → (b || true) ≡ true
or_true true = refl
or_true false = refl

pub marks_more : (s : ℕ) (ms : List Mark) (m : Mark) → is_halt_of s m ≡ false
    → with_mark_taken s (ms ++ m ∷ []) ≡ with_mark_taken s ms ++ m ∷ []
marks_more s [] m off = ap (λ b. if b && not false then as_taken m ∷ [] else m ∷ []) off
marks_more s (x ∷ ms) m off =
    ap (λ b. if is_halt_of s x && not b then as_taken x ∷ ms ++ m ∷ []
    else x ∷ with_mark_taken s (ms ++ m ∷ []))
    (any_end (is_halt_of s) ms m false off ∙ or_false (list_any (is_halt_of s) ms))
    ∙ elim (is_halt_of s x && not (list_any (is_halt_of s) ms)) as (λ b.
    (if b then as_taken x ∷ ms ++ m ∷ [] else x ∷ with_mark_taken s (ms ++ m ∷ []))
    ≡ (if b then as_taken x ∷ ms else x ∷ with_mark_taken s ms) ++ m ∷ []) [
      | true ↦ refl
      | false ↦ ap (λ r. x ∷ r) (marks_more s ms m off)
    ]

-- the mark of the halt
pub marks_new : (s line : ℕ) (ms : List Mark)
    → with_mark_taken s (ms ++ marks.Halted line s false ∷ []) ≡ ms ++ marks.Halted line s true ∷ []
marks_new s line [] =
    ap (λ b. if b && not false then marks.Halted line s true ∷ [] else marks.Halted line s false
    ∷ [])
    (eq-eqb s s refl)
marks_new s line (x ∷ ms) =
    ap (λ b. if is_halt_of s x && not b then as_taken x ∷ ms ++ lost ∷ []
    else x ∷ with_mark_taken s (ms ++ lost ∷ []))
    (any_end (is_halt_of s) ms lost true (eq-eqb s s refl) ∙ or_true (list_any (is_halt_of s) ms))
    ∙ elim (is_halt_of s x) as (λ b.
    (if b && not true then as_taken x ∷ ms ++ lost ∷ []
    else x ∷ with_mark_taken s (ms ++ lost ∷ []))
    ≡ x ∷ ms ++ marks.Halted line s true ∷ []) [
      | true ↦ ap (λ r. x ∷ r) (marks_new s line ms)
      | false ↦ ap (λ r. x ∷ r) (marks_new s line ms)
    ]
  where
    lost : Mark
    lost = marks.Halted line s false

-- numbers of taken events
pub number_more : (p n : ℕ) (ks : List ℕ) → p ≤ n
    → with_number p (n ∷ ks) ≡ (n + 1) ∷ with_number p ks
number_more p n ks high = elim (lt_cases n p) [
  | inl y ↦ let low = y.1 in absurd (omega (arith, low, high))
  | inr h ↦ rw h.0 refl
]

pub number_new : (p : ℕ) (ks : List ℕ) → ((i : ℕ) → has_number ks i ≡ true → i < p)
    → with_number p ks ≡ p ∷ ks
number_new p [] below = refl
number_new p (k ∷ ks) below = elim (lt_cases k p) [
  | inl y ↦ rw y.0 refl
  | inr h ↦
      let low = below k (ap (λ b. b || has_number ks k) (eq-eqb k k refl)) in
      let high = h.1 in
      absurd (omega (arith, low, high))
]
