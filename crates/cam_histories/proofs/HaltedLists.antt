-- The lists of halted nodes, where one of them halts or goes on.
use Rattle.std.proofs.Common.{◌≡◌, ◌⊎◌, inl, inr, ℕ, zero, suc, ◌-◌, ◌≤◌, eqb, Bool, true}
use Rattle.std.proofs.Common.{false, not, ◌||◌, if◌then◌else◌, List, [], ◌∷◌, set, filter}
use Rattle.std.proofs.Common.{length, refl, sym, ap, ◌∙◌, arith}
use Rattle.std.specs.Prelude.{slice_get, unwrap_or}
use Rattle.std.proofs.lemmas.Bool.{ne_eqb, eq-eqb}
use Rattle.std.proofs.lemmas.Bool.Decides.{eqb_tells}
use Rattle.cam_event.specs.Runs.{IsNode}
use Rattle.cam_net.specs.Waiting.{is_halted}
use Rattle.cam_runs.specs.Running.{has_number}

-- the list of halted nodes with one of them changed
halted_at : (halted : List Bool) (place other : ℕ) (b : Bool) → place ≤ length halted - 1
    → 1 ≤ length halted
    → unwrap_or (slice_get (set halted place b) other) false
    ≡ (if eqb place other then b else unwrap_or (slice_get halted other) false)
halted_at [] place other b within some = absurd (omega (arith, some))
halted_at (x ∷ xs) zero zero b within some = refl
halted_at (x ∷ xs) zero (suc other) b within some =
    rw (ne_eqb 0 (suc other) (λ e. omega (arith, e))) refl
halted_at (x ∷ xs) (suc place) zero b within some =
    rw (ne_eqb (suc place) 0 (λ e. omega (arith, e))) refl
halted_at (x ∷ xs) (suc place) (suc other) b within some =
    halted_at xs place other b (omega (arith, within)) (omega (arith, within)) ∙ same
  where
    same : (if eqb place other then b else unwrap_or (slice_get xs other) false)
        ≡ (if eqb (suc place) (suc other) then b else unwrap_or (slice_get xs other) false)
    same = elim (eqb_tells place other) [
      | inl y ↦ rw (y.0, eq-eqb (suc place) (suc other) (ap (λ n. suc n) y.1)) refl
      | inr n ↦ rw (n.0, ne_eqb (suc place) (suc other) (λ e. n.1 (omega (arith, e)))) refl
    ]

pub halted_now : (halted : List Bool) (s node : ℕ) (b : Bool) → length halted ≡ 8 → IsNode s
    → 1 ≤ node
    → is_halted (set halted (s - 1) b) node ≡ (if eqb s node then b else is_halted halted node)
halted_now halted s node b eight is low =
    halted_at halted (s - 1) (node - 1) b (let high = is.1 in omega (arith, eight, high))
    (omega (arith, eight)) ∙ same
  where
    same : (if eqb (s - 1) (node - 1) then b else is_halted halted node)
        ≡ (if eqb s node then b else is_halted halted node)
    same = elim (eqb_tells s node) [
      | inl y ↦ rw (y.0, eq-eqb (s - 1) (node - 1) (ap (λ n. n - 1) y.1)) refl
      | inr n ↦ rw (
        n.0,
        ne_eqb (s - 1) (node - 1)
            (λ e. n.1 (let one = is.0 in omega (arith, e, one, low))),
      ) refl
    ]

-- the halted nodes without one
pub without : (xs : List ℕ) (s m : ℕ)
    → has_number (filter (λ k. not (eqb k s)) xs) m ≡ (if eqb s m then false else has_number xs m)
without [] s m = elim (eqb s m) as (λ b. false ≡ (if b then false else false))
    [ true ↦ refl | false ↦ refl ]
without (x ∷ xs) s m = by (without xs s m) (eqb_tells x s) (eqb_tells s m)
  where
    rest : List ℕ
    rest = filter (λ k. not (eqb k s)) xs

    old : Bool
    old = has_number xs m

    by : has_number rest m ≡ (if eqb s m then false else old)
        → ((eqb x s ≡ true) × (x ≡ s)) ⊎ ((eqb x s ≡ false) × (x ≡ s → ⊥))
        → ((eqb s m ≡ true) × (s ≡ m)) ⊎ ((eqb s m ≡ false) × (s ≡ m → ⊥))
        → has_number (if not (eqb x s) then x ∷ rest else rest) m
        ≡ (if eqb s m then false else eqb x m || old)
    by h (inl y) (inl z) =
        ap (λ b. has_number (if not b then x ∷ rest else rest) m) y.0
        ∙ h
        ∙ ap (λ b. if b then false else old) z.0
        ∙ sym (ap (λ b. if b then false else eqb x m || old) z.0)
    by h (inl y) (inr z) =
        ap (λ b. has_number (if not b then x ∷ rest else rest) m) y.0
        ∙ h
        ∙ ap (λ b. if eqb s m then false else b || old)
        (sym (ne_eqb x m (λ e. z.1 (sym y.1 ∙ e))))
    by h (inr n) (inl z) =
        ap (λ b. has_number (if not b then x ∷ rest else rest) m) n.0
        ∙ ap (λ b. b || has_number rest m) (ne_eqb x m (λ e. n.1 (e ∙ sym z.1)))
        ∙ h
        ∙ ap (λ b. if b then false else old) z.0
        ∙ sym (ap (λ b. if b then false else eqb x m || old) z.0)
    by h (inr n) (inr z) =
        ap (λ b. has_number (if not b then x ∷ rest else rest) m) n.0
        ∙ ap (λ b. eqb x m || b) h
        ∙ ap (λ b. eqb x m || (if b then false else old)) z.0
        ∙ sym (ap (λ b. if b then false else eqb x m || old) z.0)
