-- Where undecided events stand: in one run, and in two whose halts differ at one input.
use Rattle.std.proofs.Common.{◌≡◌, ◌⊎◌, inl, inr, ℕ, ◌≤◌, eqb, Bool, true, false}
use Rattle.std.proofs.Common.{if◌then◌else◌, List, [], ◌∷◌, ◌++◌, length, Some}
use Rattle.std.proofs.Common.{refl, sym, ap, ◌∙◌, arith}
use Rattle.std.proofs.lemmas.Bool.Decides.{eqb_tells}
use Rattle.std.proofs.lemmas.List.{length-append}
use Rattle.std.proofs.lemmas.Option.{same_Some}
use Rattle.cam_event.specs.declared.Event.{Event}
use Rattle.cam_runs.specs.Standing.{Undecided, undecided_of}
use Rattle.cam_runs.specs.UnderHalts.{ArePlaced}
use Rattle.cam_histories.specs.Found.{moved_undecided, undecided_beside}
use Rattle.cam_histories.specs.Undecided.{events_before}
use Rattle.cam_histories.proofs.Numbers.{lt_cases}
use Rattle.cam_histories.proofs.UndecidedBeside.{beside_own, beside_other, newest_own}
use Rattle.cam_histories.proofs.UndecidedBeside.{newest_other}

-- the oldest events, where all are so, and where more came
pub before_all : (n : ℕ) (t : List Event) → length t ≤ n → events_before n t ≡ t
before_all n [] high = refl
before_all n (x ∷ t) high = elim (lt_cases (length t) n) [
  | inl y ↦ rw y.0 refl
  | inr k ↦ let low = k.1 in absurd (omega (arith, low, high))
]

pub before_more : (n : ℕ) (more t : List Event) → n ≤ length t
    → events_before n (more ++ t) ≡ events_before n t
before_more n [] t low = refl
before_more n (x ∷ more) t low = elim (lt_cases (length (more ++ t)) n) [
  | inl y ↦
      let long = length-append more t in
      let high = y.1 in
      absurd (omega (arith, long, high, low))
  | inr k ↦ rw k.0 (before_more n more t low)
]

-- an undecided event has its place in the trace
pub placed_within : (n m : ℕ) (us : List Undecided) (u : Undecided) → ArePlaced n us
    → undecided_of m us ≡ Some u → u.before ≤ n
placed_within n m [] u placed is = cc
placed_within n m (x ∷ us) u placed is =
    by (eqb x.node m) is (placed_within x.before m us u placed.1)
  where
    by : (b : Bool) → (if b then Some x else undecided_of m us) ≡ Some u
        → (undecided_of m us ≡ Some u → u.before ≤ x.before) → u.before ≤ n
    by true here rest =
        let same : x.before ≡ u.before = ap (λ (v : Undecided). v.before) (same_Some x u here) in
        let within = placed.0 in
        omega (arith, same, within)
    by false here rest =
        let low = rest here in
        let within = placed.0 in
        omega (arith, low, within)

pub undecided_node : (m : ℕ) (us : List Undecided) (u : Undecided)
    → undecided_of m us ≡ Some u → u.node ≡ m
undecided_node m [] u is = cc
undecided_node m (x ∷ us) u is =
    by (eqb_tells x.node m) (undecided_node m us u)
  where
    by : ((eqb x.node m ≡ true) × (x.node ≡ m)) ⊎ ((eqb x.node m ≡ false) × (x.node ≡ m → ⊥))
        → (undecided_of m us ≡ Some u → u.node ≡ m) → u.node ≡ m
    by (inl y) rest =
        ap (λ (v : Undecided). v.node)
        (sym (same_Some x u (sym (newest_own m x us y.1) ∙ is)))
        ∙ y.1
    by (inr k) rest = rest (sym (newest_other m x us k.1) ∙ is)

-- Those of another node stood before it, and stay, or after it, and move.
abbrev pub StaysOrMoves : ℕ → ℕ → ℕ → List Undecided → Undecided → Type 0
StaysOrMoves s m place us u =
    ((undecided_of m (undecided_beside s place us) ≡ Some u) × (u.before ≤ place))
    ⊎ ((undecided_of m (undecided_beside s place us) ≡ Some (moved_undecided place u))
    × (place ≤ u.before))

pub stays_or_moves : (s m place n : ℕ) (us : List Undecided) (w u : Undecided) → (s ≡ m → ⊥)
    → ArePlaced n us → undecided_of s us ≡ Some w → w.before ≡ place
    → undecided_of m us ≡ Some u → StaysOrMoves s m place us u
stays_or_moves s m place n [] w u off placed found at is = cc
stays_or_moves s m place n (x ∷ us) w u off placed found at is =
    by (eqb_tells x.node s) (eqb_tells x.node m)
    (stays_or_moves s m place x.before us w u off placed.1)
  where
    by : ((eqb x.node s ≡ true) × (x.node ≡ s)) ⊎ ((eqb x.node s ≡ false) × (x.node ≡ s → ⊥))
        → ((eqb x.node m ≡ true) × (x.node ≡ m)) ⊎ ((eqb x.node m ≡ false) × (x.node ≡ m → ⊥))
        → (undecided_of s us ≡ Some w → w.before ≡ place → undecided_of m us ≡ Some u
        → StaysOrMoves s m place us u)
        → StaysOrMoves s m place (x ∷ us) u
    by (inl y) (inl z) rest = absurd (off (sym y.1 ∙ z.1))
    by (inl y) (inr k) rest =
        let same : x.before ≡ w.before = ap (λ (v : Undecided). v.before)
        (same_Some x w (sym (newest_own s x us y.1) ∙ found)) in
        let older : undecided_of m us ≡ Some u = sym (newest_other m x us k.1) ∙ is in
        let low = placed_within x.before m us u placed.1 older in
        inl (
          ap (undecided_of m) (beside_own s place x us y.1) ∙ older,
          omega (arith, same, at, low),
        )
    by (inr k) (inl y) rest =
        let same : x ≡ u = same_Some x u (sym (newest_own m x us y.1) ∙ is) in
        let low = placed_within x.before s us w placed.1
        (sym (newest_other s x us k.1) ∙ found) in
        let high : x.before ≡ u.before = ap (λ (v : Undecided). v.before) same in
        inr (
          ap (undecided_of m) (beside_other s place x us k.1)
              ∙ newest_own m (moved_undecided place x) (undecided_beside s place us) y.1
              ∙ ap (λ v. Some (moved_undecided place v)) same,
          omega (arith, low, at, high),
        )
    by (inr k) (inr j) rest =
        more (rest (sym (newest_other s x us k.1) ∙ found) at
        (sym (newest_other m x us j.1) ∙ is))
      where
        beside : undecided_of m (undecided_beside s place (x ∷ us))
            ≡ undecided_of m (undecided_beside s place us)
        beside =
            ap (undecided_of m) (beside_other s place x us k.1)
            ∙ newest_other m (moved_undecided place x) (undecided_beside s place us) j.1

        more : StaysOrMoves s m place us u → StaysOrMoves s m place (x ∷ us) u
        more (inl a) = inl (beside ∙ a.0, a.1)
        more (inr b) = inr (beside ∙ b.0, b.1)
