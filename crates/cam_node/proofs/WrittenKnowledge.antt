-- What is known stays knowledge with records in their ranges.
use Rattle.std.proofs.Common.{◌≡◌, inl, inr, ◌⊎◌, ℕ, ◌-◌, ◌≤◌, max, List, [], ◌∷◌, length, get_or, refl, sym, ap, ◌∙◌, arith, get_or-set_same, get_or-set_other, length-set}
use Rattle.std.specs.Prelude.{slice_index}
use Rattle.std.proofs.lemmas.Bool.Decides.{eqb_tells}
use Rattle.cam_names.specs.Dependencies.{AreCounts}
use Rattle.cam_know.specs.declared.Outcome.{Outcome}
use Rattle.cam_know.specs.declared.Outcome.TheVariants.{Aborted, Committed}
use Rattle.cam_know.specs.Knowledge.{Knowledge}
use Rattle.cam_know.specs.Known.{with_outcome, with_count, counts_raised}
use Rattle.cam_know.proofs.Distinct.{distinct_both}
use Rattle.cam_recman.specs.declared.Record.{Record}
use Rattle.cam_recman.specs.declared.Record.TheVariants as records
use Rattle.cam_recman.specs.declared.Recovered.{Recovered}
use Rattle.cam_recman.specs.Ranges.{AreRecords}
use Rattle.cam_recman.specs.Recovery.{with_record, with_records}
use Rattle.cam_node.specs.Opened.{IsKnowledge}

-- With records in their ranges knowledge stays so.
one_more : (o : Outcome) (k : Knowledge) → IsKnowledge k → IsKnowledge (with_outcome o k)
one_more o k is = record {
  distinct = distinct_both k (o ∷ []) is.distinct (refl, tt);
  counts =
      is.counts;
}

raised_at : (m c j : ℕ) (ks : List ℕ) → 1 ≤ m → m ≤ 8 → length ks ≡ 8
    → (get_or (counts_raised ks m c) j 0 ≡ max (get_or ks j 0) c) ⊎ (get_or (counts_raised ks m c)
    j 0 ≡ get_or ks j 0)
raised_at m c j ks low high eight = elim (eqb_tells j (m - 1)) [
  | inl y ↦ inl (
      ap (λ (i : ℕ). get_or (counts_raised ks m c) i 0) y.1
      ∙ get_or-set_same ks (m - 1) (max (slice_index ks (m - 1)) c) 0 (omega (
        arith,
        eight,
        low,
        high,
      ))
      ∙ ap (λ (i : ℕ). max (get_or ks i 0) c) (sym y.1))
  | inr n ↦ inr (get_or-set_other ks (m - 1) j (max (slice_index ks (m - 1)) c) 0 n.1)
]

pub counts_more : (m c : ℕ) (ks : List ℕ) → 1 ≤ m → m ≤ 8 → c ≤ 1000000000 → AreCounts 1 ks → AreCounts
    1 (counts_raised ks m c)
counts_more m c ks low high top are = record {
  eight = length-set ks (m - 1) (max (slice_index ks (m - 1)) c) ∙ are.eight;
  from = λ j less. at_least j (are.from j less) (raised_at m c j ks low high are.eight);
  to = λ j less. at_most j (are.to j less) (raised_at m c j ks low high are.eight);
}
  where
    at_least : (j : ℕ) → 1 ≤ get_or ks j 0
        → (get_or (counts_raised ks m c) j 0 ≡ max (get_or ks j 0) c) ⊎ (get_or (counts_raised ks m
        c) j 0 ≡ get_or ks j 0)
        → 1 ≤ get_or (counts_raised ks m c) j 0
    at_least j least (inl e) = omega (arith, e, least)
    at_least j least (inr e) = omega (arith, e, least)

    at_most : (j : ℕ) → get_or ks j 0 ≤ 1000000000
        → (get_or (counts_raised ks m c) j 0 ≡ max (get_or ks j 0) c) ⊎ (get_or (counts_raised ks m
        c) j 0 ≡ get_or ks j 0)
        → get_or (counts_raised ks m c) j 0 ≤ 1000000000
    at_most j most (inl e) = omega (arith, e, most, top)
    at_most j most (inr e) = omega (arith, e, most)

pub counted_more : (m c : ℕ) (k : Knowledge) → 1 ≤ m → m ≤ 8 → c ≤ 1000000000 → IsKnowledge k →
    IsKnowledge (with_count m c k)
counted_more m c k low high top is = record {
  distinct = is.distinct;
  counts = counts_more m c
      k.counts low high top is.counts;
}

pub written_knowledge : (rs : List Record) (r : Recovered) → AreRecords rs → IsKnowledge r.know →
    IsKnowledge (with_records r rs).know
written_knowledge [] r are is = is
written_knowledge (records.Count c ∷ rs) r are is = written_knowledge rs (with_record r
    (records.Count c)) are.1 is
written_knowledge (records.Abort a ∷ rs) r are is = written_knowledge rs (with_record r
    (records.Abort a)) are.1 (one_more (Aborted a) r.know is)
written_knowledge (records.Commit a d ∷ rs) r are is = written_knowledge rs (with_record r
    (records.Commit a d)) are.1 (one_more (Committed a d) r.know is)
written_knowledge (records.Seen m c ∷ rs) r are is =
    written_knowledge rs (with_record r (records.Seen m c)) are.1 (counted_more m c r.know
    are.0.0.0 are.0.0.1 are.0.1.1 is)
written_knowledge (records.Secure held ∷ rs) r are is = written_knowledge rs (with_record r
    (records.Secure held)) are.1 is
written_knowledge (records.Version ∷ rs) r are is = written_knowledge rs r are.1 is
