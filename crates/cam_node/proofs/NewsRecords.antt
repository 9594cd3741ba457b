-- What the records of a letter's news add: the new outcomes, and of each node the greater count.
use Rattle.std.proofs.Common.{◌≡◌, ℕ, zero, suc, ◌+◌, ◌-◌, ◌≤◌, ◌<◌, max, nat_lt, Bool, true, false, not, ◌||◌, if◌then◌else◌, List, [], ◌∷◌, ◌++◌, map, length, refl, sym, ap, ◌∙◌, arith}
use Rattle.std.specs.Prelude.{slice_index}
use Rattle.std.specs.List.{list_any}
use Rattle.std.proofs.lemmas.Bool.{eq-eqb, ne_eqb, ltb-true}
use Rattle.cam_names.proofs.Dependencies.{greater_counts_at}
use Rattle.cam_know.specs.declared.Outcome.{Outcome}
use Rattle.cam_know.specs.Knowledge.{Knowledge}
use Rattle.cam_know.specs.Known.{knows, unknown, both, news, known_count, outcome_eq}
use Rattle.cam_know.proofs.Outcomes.{outcome_eq_refl}
use Rattle.cam_recman.specs.declared.Record.{Record}
use Rattle.cam_recman.specs.declared.Record.TheVariants as records
use Rattle.cam_recman.specs.declared.Recovered.{Recovered}
use Rattle.cam_recman.specs.Recovery.{with_record, with_records}
use Rattle.cam_recman.specs.Ranges.{AreRecords}
use Rattle.cam_recman.specs.Snapshot.{outcome_record}
use Rattle.cam_recman.specs.Laws.{greatest_seen}
use Rattle.cam_recman.proofs.KeptAll.{has, outcomes_keep, Follows}
use Rattle.cam_recman.proofs.Counts.{counts_from}
use Rattle.cam_recman.proofs.Folding.{with_more}
use Rattle.cam_node.specs.Entries.{greater_records, learnt_records}
use Rattle.cam_node.specs.Opened.{IsKnowledge}

-- records of greater counts, each in its range
pub greater_are_records : (n : ℕ) (ks gs : List ℕ) → 1 ≤ n → n + length ks ≤ 9
    → ((j : ℕ) → j < length ks → 1 ≤ slice_index ks j) → ((j : ℕ) → j < length gs → slice_index gs j ≤ 1000000000)
    → AreRecords (greater_records n ks gs)
greater_are_records n [] gs low high from to = tt
greater_are_records n (k ∷ ks) [] low high from to = tt
greater_are_records n (k ∷ ks) (g ∷ gs) low high from to =
    let rest : AreRecords (greater_records (n + 1) ks gs) =
    greater_are_records (n + 1) ks gs (omega (arith, low)) (omega (arith, high)) (λ j less. from (suc j) (omega (arith, less))) (λ j less. to (suc j) (omega (arith, less))) in
    by (nat_lt k g) refl rest
  where
    by : (b : Bool) → nat_lt k g ≡ b → AreRecords (greater_records (n + 1) ks gs)
        → AreRecords (if b then records.Seen n g ∷ greater_records (n + 1) ks gs else greater_records (n + 1) ks gs)
    by true above rest =
        (((low, omega (arith, high)), (omega (arith, ltb-true k g above, from 0 (omega arith)), to 0 (omega arith))), rest)
    by false same rest = rest

-- of a node below them none is seen
none_seen : (m n : ℕ) (ks gs : List ℕ) → m < n → greatest_seen m (greater_records n ks gs) ≡ 0
none_seen m n [] gs less = refl
none_seen m n (k ∷ ks) [] less = refl
none_seen m n (k ∷ ks) (g ∷ gs) less = by (nat_lt k g) (none_seen m (n + 1) ks gs (omega (arith, less)))
  where
    by : (b : Bool) → greatest_seen m (greater_records (n + 1) ks gs) ≡ 0
        → greatest_seen m (if b then records.Seen n g ∷ greater_records (n + 1) ks gs else greater_records (n + 1) ks gs) ≡ 0
    by true rest = (λ i. max (if ne_eqb n m (λ (e : n ≡ m). omega (arith, less, e)) i then g else 0) (rest i)) ∙ omega arith
    by false rest = rest

-- of each node the greater count is seen, where it is greater
seen_at : (j n : ℕ) (ks gs : List ℕ) → j < length ks → length gs ≡ length ks
    → greatest_seen (n + j) (greater_records n ks gs) ≡ (if nat_lt (slice_index ks j) (slice_index gs j) then slice_index gs j else 0)
seen_at j n [] gs less long = absurd (omega (arith, less))
seen_at j n (k ∷ ks) [] less long = absurd (omega (arith, long))
seen_at zero n (k ∷ ks) (g ∷ gs) less long = by (nat_lt k g)
  where
    by : (b : Bool) → greatest_seen (n + 0) (if b then records.Seen n g ∷ greater_records (n + 1) ks gs else greater_records (n + 1) ks gs) ≡ (if b then g else 0)
    by true =
        (λ i. max (if eq-eqb n (n + 0) (omega arith) i then g else 0) (none_seen (n + 0) (n + 1) ks gs (omega arith) i)) ∙ omega arith
    by false = none_seen (n + 0) (n + 1) ks gs (omega arith)
seen_at (suc j) n (k ∷ ks) (g ∷ gs) less long =
    let next : n + suc j ≡ n + 1 + j = omega arith in
    by (nat_lt k g) (ap (λ (m : ℕ). greatest_seen m (greater_records (n + 1) ks gs)) next ∙ seen_at j (n + 1) ks gs (omega (arith, less)) (omega (arith, long)))
  where
    found : ℕ
    found = if nat_lt (slice_index ks j) (slice_index gs j) then slice_index gs j else 0

    at_least : (c : ℕ) → max 0 c ≡ c
    at_least c = omega arith

    by : (b : Bool) → greatest_seen (n + suc j) (greater_records (n + 1) ks gs) ≡ found
        → greatest_seen (n + suc j) (if b then records.Seen n g ∷ greater_records (n + 1) ks gs else greater_records (n + 1) ks gs) ≡ found
    by true rest = (λ i. max (if ne_eqb n (n + suc j) (λ (e : n ≡ n + suc j). omega (arith, e)) i then g else 0) (rest i)) ∙ at_least found
    by false rest = rest

-- they add nothing but counts
pub record OnlyCounts (old new : Recovered) : Type 0 where
  pub count : new.count ≡ old.count
  pub outcomes : new.know.outcomes ≡ old.know.outcomes
  pub held : new.held ≡ old.held

greater_only : (n : ℕ) (ks gs : List ℕ) (r : Recovered) → OnlyCounts r (with_records r (greater_records n ks gs))
greater_only n [] gs r = record { count = refl; outcomes = refl; held = refl }
greater_only n (k ∷ ks) [] r = record { count = refl; outcomes = refl; held = refl }
greater_only n (k ∷ ks) (g ∷ gs) r = by (nat_lt k g) (greater_only (n + 1) ks gs)
  where
    by : (b : Bool) → ((q : Recovered) → OnlyCounts q (with_records q (greater_records (n + 1) ks gs)))
        → OnlyCounts r (with_records r (if b then records.Seen n g ∷ greater_records (n + 1) ks gs else greater_records (n + 1) ks gs))
    by true rest = let more = rest (with_record r (records.Seen n g)) in record { count = more.count; outcomes = more.outcomes; held = more.held }
    by false rest = rest r

-- they may stand where the format has version 2
pub greater_follow : (n : ℕ) (ks gs : List ℕ) → Follows (greater_records n ks gs)
greater_follow n [] gs = (tt, refl)
greater_follow n (k ∷ ks) [] = (tt, refl)
greater_follow n (k ∷ ks) (g ∷ gs) = by (nat_lt k g) (greater_follow (n + 1) ks gs)
  where
    by : (b : Bool) → Follows (greater_records (n + 1) ks gs) → Follows (if b then records.Seen n g ∷ greater_records (n + 1) ks gs else greater_records (n + 1) ks gs)
    by true rest = ((tt, rest.0), rest.1)
    by false rest = rest

-- what the letter brought is all that is new
known_itself : (os known : List Outcome) (counts : List ℕ) → ((o : Outcome) → list_any (outcome_eq o) os ≡ true → list_any (outcome_eq o) known ≡ true)
    → unknown (record { outcomes = known; counts = counts }) os ≡ []
known_itself [] known counts all = refl
known_itself (o ∷ os) known counts all =
    let here : list_any (outcome_eq o) known ≡ true = all o (ap (λ (b : Bool). b || list_any (outcome_eq o) os) (outcome_eq_refl o)) in
    ap (λ (b : Bool). if not b then o ∷ unknown (record { outcomes = known; counts = counts }) os else unknown (record { outcomes = known; counts = counts }) os) here
    ∙ known_itself os known counts (λ p h. all p (or_after (outcome_eq p o) (list_any (outcome_eq p) os) h))
  where
    or_after : (a b : Bool) → b ≡ true → (a || b) ≡ true
    or_after true b h = refl
    or_after false b h = h

unknown_append : (k : Knowledge) (xs ys : List Outcome) → unknown k (xs ++ ys) ≡ unknown k xs ++ unknown k ys
unknown_append k [] ys = refl
unknown_append k (x ∷ xs) ys = by (knows k x) (unknown_append k xs ys)
  where
    by : (b : Bool) → unknown k (xs ++ ys) ≡ unknown k xs ++ unknown k ys
        → (if not b then x ∷ unknown k (xs ++ ys) else unknown k (xs ++ ys)) ≡ (if not b then x ∷ unknown k xs else unknown k xs) ++ unknown k ys
    by true rest = rest
    by false rest = ap (λ (os : List Outcome). x ∷ os) rest

again : (k : Knowledge) (xs : List Outcome) → unknown k (unknown k xs) ≡ unknown k xs
again k [] = refl
again k (x ∷ xs) = by (knows k x) refl (again k xs)
  where
    by : (b : Bool) → knows k x ≡ b → unknown k (unknown k xs) ≡ unknown k xs
        → unknown k (if not b then x ∷ unknown k xs else unknown k xs) ≡ (if not b then x ∷ unknown k xs else unknown k xs)
    by true is rest = rest
    by false is rest =
        ap (λ (b : Bool). if not b then x ∷ unknown k (unknown k xs) else unknown k (unknown k xs)) is ∙ ap (λ (os : List Outcome). x ∷ os) rest

pub fresh_is : (k b : Knowledge) → (news (both k b) k).outcomes ≡ unknown k b.outcomes
fresh_is k b =
    unknown_append k k.outcomes (unknown k b.outcomes)
    ∙ (λ i. known_itself k.outcomes k.outcomes k.counts (λ o h. h) i ++ again k b.outcomes i)

-- What a log recovers with the records of a letter's news.
pub record LearntKeeps (k now : Knowledge) (old new : Recovered) : Type 0 where
  pub count : new.count ≡ old.count
  pub held : new.held ≡ old.held
  pub outcomes : new.know.outcomes ≡ now.outcomes
  pub known_counts :
      (m : ℕ) → 1 ≤ m → m ≤ 8
      → known_count new.know m ≡ max (known_count old.know m) (if nat_lt (known_count k m) (known_count now m) then known_count now m else 0)

pub learnt_keeps : (k b : Knowledge) (r : Recovered) → IsKnowledge k → IsKnowledge (both k b) → length r.know.counts ≡ 8 → r.know.outcomes ≡ k.outcomes
    → LearntKeeps k (both k b) r (with_records r (learnt_records k b))
learnt_keeps k b r before after eight same =
    let now : Knowledge = both k b in
    let outs : List Record = map outcome_record (news now k).outcomes in
    let greater : List Record = greater_records 1 k.counts now.counts in
    let start : r ≡ has r.count k.outcomes r.know.counts r.held = ap (λ (os : List Outcome). has r.count os r.know.counts r.held) same in
    let first : with_records r outs ≡ has r.count now.outcomes r.know.counts r.held =
    (λ i. with_records (start i) (map outcome_record (fresh_is k b i)))
    ∙ outcomes_keep r.count r.know.counts r.held k.outcomes (unknown k b.outcomes) after.distinct in
    let whole : with_records r (outs ++ greater) ≡ with_records (has r.count now.outcomes r.know.counts r.held) greater =
    with_more r outs greater ∙ ap (λ (q : Recovered). with_records q greater) first in
    let only : OnlyCounts (has r.count now.outcomes r.know.counts r.held) (with_records (has r.count now.outcomes r.know.counts r.held) greater) =
    greater_only 1 k.counts now.counts (has r.count now.outcomes r.know.counts r.held) in
    let are : AreRecords greater =
    greater_are_records 1 k.counts now.counts (omega arith) (omega (arith, before.counts.eight)) (λ j less. before.counts.from j (omega (arith, less, before.counts.eight)))
    (λ j less. after.counts.to j (omega (arith, less, after.counts.eight))) in
    record {
      count = ap (λ (q : Recovered). q.count) whole ∙ only.count;
      held = ap (λ (q : Recovered). q.held) whole ∙ only.held;
      outcomes = ap (λ (q : Recovered). q.know.outcomes) whole ∙ only.outcomes;
      known_counts = λ m low high.
          let place : 1 + (m - 1) ≡ m = omega (arith, low) in
          ap (λ (q : Recovered). known_count q.know m) whole
          ∙ counts_from greater (has r.count now.outcomes r.know.counts r.held) m are eight (low, high)
          ∙ ap (λ (c : ℕ). max (known_count r.know m) c)
          (ap (λ (n : ℕ). greatest_seen n greater) (sym place) ∙ seen_at (m - 1) 1 k.counts now.counts (omega (arith, high, low, before.counts.eight)) (after.counts.eight ∙ sym before.counts.eight));
    }

-- no count falls
pub no_less : (k b : Knowledge) (m : ℕ) → known_count k m ≤ known_count (both k b) m
no_less k b m =
    let at : known_count (both k b) m ≡ max (known_count k m) (known_count b m) = greater_counts_at k.counts b.counts (m - 1) in
    omega (arith, at)
