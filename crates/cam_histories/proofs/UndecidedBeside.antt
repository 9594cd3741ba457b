-- What is undecided in two runs whose halts differ at one input.
use Rattle.std.proofs.Common.{◌≡◌, ◌⊎◌, inl, inr, ℕ, Bool, true, false, eqb, not, if◌then◌else◌}
use Rattle.std.proofs.Common.{List, [], ◌∷◌, length, Option, Some, None, refl, sym, ap, ◌∙◌}
use Rattle.std.proofs.lemmas.Bool.{ne_eqb, eq-eqb}
use Rattle.std.proofs.lemmas.Bool.Decides.{eqb_tells}
use Rattle.cam_event.specs.declared.Event.{Event}
use Rattle.cam_event.specs.Taken.{taken_of}
use Rattle.cam_runs.specs.Standing.{Standing, Undecided, undecided_of, after_input}
use Rattle.cam_runs.proofs.Undecided.{without_node}
use Rattle.cam_histories.specs.Found.{moved_undecided, undecided_beside}

-- the halt itself, which is the newest of its node
pub beside_own : (s place : ℕ) (u : Undecided) (us : List Undecided) → u.node ≡ s
    → undecided_beside s place (u ∷ us) ≡ us
beside_own s place u us is =
    ap (λ b. if b then us else moved_undecided place u ∷ undecided_beside s place us)
    (eq-eqb u.node s is)

pub newest_own : (s : ℕ) (u : Undecided) (us : List Undecided) → u.node ≡ s
    → undecided_of s (u ∷ us) ≡ Some u
newest_own s u us is =
    ap (λ b. if b then Some u else undecided_of s us) (eq-eqb u.node s is)

-- the halt of another node after it
pub beside_other : (s place : ℕ) (u : Undecided) (us : List Undecided) → (u.node ≡ s → ⊥)
    → undecided_beside s place (u ∷ us)
    ≡ moved_undecided place u ∷ undecided_beside s place us
beside_other s place u us off =
    ap (λ b. if b then us else moved_undecided place u ∷ undecided_beside s place us)
    (ne_eqb u.node s off)

pub newest_other : (s : ℕ) (u : Undecided) (us : List Undecided) → (u.node ≡ s → ⊥)
    → undecided_of s (u ∷ us) ≡ undecided_of s us
newest_other s u us off =
    ap (λ b. if b then Some u else undecided_of s us) (ne_eqb u.node s off)

-- an input of another node
pub after_undecided : (line : ℕ) (again : Bool) (st : Standing) (n : ℕ) (ev : Event) (w : Bool)
    (o : Option Bool) (s : ℕ) → (n ≡ s → ⊥)
    → undecided_of s (after_input line again st n ev w o).undecided
    ≡ undecided_of s st.undecided
after_undecided line again st n ev w None s off = refl
after_undecided line again st n ev w (Some true) s off = refl
after_undecided line again st n ev w (Some false) s off =
    ap (λ b. if b then Some newest else undecided_of s st.undecided) (ne_eqb n s off)
  where
    newest : Undecided
    newest = record {
      node = n;
      before = length st.running.trace;
      event = taken_of ev;
    }

-- the restart of another node
pub beside_without : (s m place : ℕ) (us : List Undecided) → (m ≡ s → ⊥)
    → without_node m (undecided_beside s place us)
    ≡ undecided_beside s place (without_node m us)
beside_without s m place [] off = refl
beside_without s m place (u ∷ us) off =
    by (eqb_tells u.node s) (eqb_tells u.node m) (beside_without s m place us off)
  where
    rest : List Undecided
    rest = without_node m us

    kept : Bool → List Undecided
    kept b = if not b then u ∷ rest else rest

    by : ((eqb u.node s ≡ true) × (u.node ≡ s)) ⊎ ((eqb u.node s ≡ false) × (u.node ≡ s → ⊥))
        → ((eqb u.node m ≡ true) × (u.node ≡ m)) ⊎ ((eqb u.node m ≡ false) × (u.node ≡ m → ⊥))
        → without_node m (undecided_beside s place us) ≡ undecided_beside s place rest
        → without_node m (undecided_beside s place (u ∷ us))
        ≡ undecided_beside s place (kept (eqb u.node m))
    by (inl y) (inl z) later = absurd (off (sym z.1 ∙ y.1))
    by (inl y) (inr n) later =
        ap (without_node m) (beside_own s place u us y.1)
        ∙ sym (ap (λ b. undecided_beside s place (kept b)) n.0 ∙ beside_own s place u rest y.1)
    by (inr n) (inl z) later =
        ap (without_node m) (beside_other s place u us n.1)
        ∙ ap (λ b. if not b then moved_undecided place u
        ∷ without_node m (undecided_beside s place us)
        else without_node m (undecided_beside s place us)) z.0
        ∙ later
        ∙ sym (ap (λ b. undecided_beside s place (kept b)) z.0)
    by (inr n) (inr k) later =
        ap (without_node m) (beside_other s place u us n.1)
        ∙ ap (λ b. if not b then moved_undecided place u
        ∷ without_node m (undecided_beside s place us)
        else without_node m (undecided_beside s place us)) k.0
        ∙ ap (λ xs. moved_undecided place u ∷ xs) later
        ∙ sym (ap (λ b. undecided_beside s place (kept b)) k.0
        ∙ beside_other s place u rest n.1)
