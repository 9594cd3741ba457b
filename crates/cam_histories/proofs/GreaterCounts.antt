-- A record of a greater count is there just where a count is greater.
use Rattle.std.proofs.Common.{◌≡◌, inl, inr, ℕ, ◌+◌, ◌<◌, ◌≤◌, max, nat_lt, Bool, true, false, not}
use Rattle.std.proofs.Common.{◌||◌, if◌then◌else◌, List, [], ◌∷◌, refl, sym, ap, ◌∙◌, arith}
use Rattle.cam_names.specs.Dependencies.{greater_counts}
use Rattle.cam_event.specs.History.{is_empty}
use Rattle.cam_recman.specs.declared.Record.{Record}
use Rattle.cam_recman.specs.declared.Record.TheVariants as records
use Rattle.cam_node.specs.Entries.{greater_records}
use Rattle.cam_histories.proofs.Numbers.{lt_cases}

abbrev pub any_greater : List ℕ → List ℕ → Bool
any_greater [] cs = false
any_greater (k ∷ ks) [] = false
any_greater (k ∷ ks) (c ∷ cs) = nat_lt k c || any_greater ks cs

lt_itself : (k : ℕ) → nat_lt k k ≡ false
lt_itself k = elim (lt_cases k k) [
  | inl y ↦ let h = y.1 in absurd (omega (arith, h))
  | inr n ↦ n.0
]

none_greater : (n : ℕ) (ks : List ℕ) → is_empty (greater_records n ks ks) ≡ true
none_greater n [] = refl
none_greater n (k ∷ ks) = rw (lt_itself k) (none_greater (n + 1) ks)

lt_max : (k c : ℕ) → nat_lt k (max k c) ≡ nat_lt k c
lt_max k c = elim (lt_cases k c) [
  | inl y ↦ let h = y.1 in ap (nat_lt k) (greater k c h)
  | inr n ↦ let h = n.1 in ap (nat_lt k) (lesser k c h) ∙ lt_itself k ∙ sym n.0
]
  where
    greater : (k c : ℕ) → k < c → max k c ≡ c
    greater k c h = omega (arith, h)

    lesser : (k c : ℕ) → c ≤ k → max k c ≡ k
    lesser k c h = omega (arith, h)

pub greater_empty : (n : ℕ) (ks cs : List ℕ)
    → is_empty (greater_records n ks (greater_counts ks cs)) ≡ not (any_greater ks cs)
greater_empty n [] cs = refl
greater_empty n (k ∷ ks) [] = none_greater n (k ∷ ks)
greater_empty n (k ∷ ks) (c ∷ cs) =
    let rest = greater_empty (n + 1) ks cs in
    ap (λ b. is_empty (with_count b)) (lt_max k c) ∙ by (nat_lt k c) rest
  where
    more : List Record
    more = greater_records (n + 1) ks (greater_counts ks cs)

    with_count : Bool → List Record
    with_count b = if b then records.Seen n (max k c) ∷ more else more

    by : (b : Bool) → is_empty more ≡ not (any_greater ks cs)
        → is_empty (with_count b) ≡ not (b || any_greater ks cs)
    by true rest = refl
    by false rest = rest
