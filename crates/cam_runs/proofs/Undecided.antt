-- The undecided events keep their places while a trace grows, and a restart ends those of its node.
use Rattle.std.proofs.Common.{◌≡◌, inl, inr, ℕ, ◌≤◌, eqb, Bool, true, false, not, ◌||◌}
use Rattle.std.proofs.Common.{if◌then◌else◌, List, [], ◌∷◌, filter, Some, None}
use Rattle.std.proofs.Common.{refl, sym, ap, ◌∙◌, arith}
use Rattle.std.proofs.lemmas.Bool.{true≢false, ne_eqb}
use Rattle.std.proofs.lemmas.Bool.Decides.{eqb_tells}
use Rattle.cam_runs.specs.Running.{has_number}
use Rattle.cam_runs.specs.Standing.{Undecided, undecided_of}
use Rattle.cam_runs.specs.UnderHalts.{ArePlaced}

-- in a longer trace
pub placed_longer : (n m : ℕ) (us : List Undecided) → n ≤ m → ArePlaced n us → ArePlaced m us
placed_longer n m [] longer placed = tt
placed_longer n m (u ∷ us) longer placed =
    ((let within = placed.0 in omega (arith, within, longer)), placed.1)

-- without those of a node
abbrev pub without_node : ℕ → List Undecided → List Undecided
without_node s us = filter (λ (u : Undecided). not (eqb u.node s)) us

pub placed_without : (s n : ℕ) (us : List Undecided) → ArePlaced n us
    → ArePlaced n (without_node s us)
placed_without s n [] placed = tt
placed_without s n (u ∷ us) placed =
    by (eqb u.node s) (placed_without s u.before us placed.1)
  where
    by : (b : Bool) → ArePlaced u.before (without_node s us)
        → ArePlaced n (if not b then u ∷ without_node s us else without_node s us)
    by true rest = placed_longer u.before n (without_node s us) placed.0 rest
    by false rest = (placed.0, rest)

-- nothing is undecided of the node, and of the others the same
pub none_without : (s : ℕ) (us : List Undecided) → undecided_of s (without_node s us) ≡ None
none_without s [] = refl
none_without s (u ∷ us) = by (eqb u.node s) refl (none_without s us)
  where
    by : (b : Bool) → eqb u.node s ≡ b → undecided_of s (without_node s us) ≡ None
        → undecided_of s (if not b then u ∷ without_node s us else without_node s us) ≡ None
    by true is rest = rest
    by false is rest =
        ap (λ b. if b then Some u else undecided_of s (without_node s us)) is ∙ rest

pub others_without : (s m : ℕ) (us : List Undecided) → (s ≡ m → ⊥)
    → undecided_of m (without_node s us) ≡ undecided_of m us
others_without s m [] off = refl
others_without s m (u ∷ us) off = elim (eqb_tells u.node s) [
  | inl y ↦
      ap (λ b. undecided_of m (if not b then u ∷ without_node s us else without_node s us)) y.0
      ∙ others_without s m us off
      ∙ sym (ap (λ b. if b then Some u else undecided_of m us)
      (ne_eqb u.node m (λ e. off (sym y.1 ∙ e))))
  | inr n ↦
      ap (λ b. undecided_of m (if not b then u ∷ without_node s us else without_node s us)) n.0
      ∙ ap (λ o. if eqb u.node m then Some u else o) (others_without s m us off)
]

-- the halted nodes without one
numbers_without : (xs : List ℕ) (s m : ℕ) → (s ≡ m → ⊥)
    → has_number (filter (λ k. not (eqb k s)) xs) m ≡ false → has_number xs m ≡ false
numbers_without [] s m off none = none
numbers_without (x ∷ xs) s m off none = elim (eqb_tells x s) [
  | inl y ↦
      ap (λ b. b || has_number xs m) (ne_eqb x m (λ e. off (sym y.1 ∙ e)))
      ∙ numbers_without xs s m off
      (sym (ap (λ b. has_number (if not b then x ∷ rest else rest) m) y.0) ∙ none)
  | inr n ↦
      by (eqb x m) (numbers_without xs s m off)
      (sym (ap (λ b. has_number (if not b then x ∷ rest else rest) m) n.0) ∙ none)
]
  where
    rest : List ℕ
    rest = filter (λ k. not (eqb k s)) xs

    by : (b : Bool) → (has_number rest m ≡ false → has_number xs m ≡ false)
        → (b || has_number rest m) ≡ false → (b || has_number xs m) ≡ false
    by true further h = absurd (true≢false h)
    by false further h = further h

-- a restart
pub decided_without : (s : ℕ) (halted : List ℕ) (us : List Undecided)
    → ((m : ℕ) → has_number halted m ≡ false → undecided_of m us ≡ None)
    → (m : ℕ) → has_number (filter (λ k. not (eqb k s)) halted) m ≡ false
    → undecided_of m (without_node s us) ≡ None
decided_without s halted us decided m awake = elim (eqb_tells s m) [
  | inl y ↦ ap (λ n. undecided_of n (without_node s us)) (sym y.1) ∙ none_without s us
  | inr n ↦
      others_without s m us n.1 ∙ decided m (numbers_without halted s m n.1 awake)
]

-- a halt
pub decided_beside : (s : ℕ) (u : Undecided) (halted : List ℕ) (us : List Undecided) → u.node ≡ s
    → ((m : ℕ) → has_number halted m ≡ false → undecided_of m us ≡ None)
    → (m : ℕ) → (eqb s m || has_number halted m) ≡ false → undecided_of m (u ∷ us) ≡ None
decided_beside s u halted us is decided m awake =
    ap (λ n. if eqb n m then Some u else undecided_of m us) is ∙ by (eqb s m) awake
  where
    by : (b : Bool) → (b || has_number halted m) ≡ false
        → (if b then Some u else undecided_of m us) ≡ None
    by true h = absurd (true≢false h)
    by false h = decided m h

pub decided_taken : (s : ℕ) (halted : List ℕ) (us : List Undecided)
    → ((m : ℕ) → has_number halted m ≡ false → undecided_of m us ≡ None)
    → (m : ℕ) → (eqb s m || has_number halted m) ≡ false → undecided_of m us ≡ None
decided_taken s halted us decided m awake = by (eqb s m) awake
  where
    by : (b : Bool) → (b || has_number halted m) ≡ false → undecided_of m us ≡ None
    by true h = absurd (true≢false h)
    by false h = decided m h
