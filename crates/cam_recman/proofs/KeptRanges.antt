-- The records of a snapshot are in their ranges, so that they can be written.
use Rattle.std.proofs.Common.{◌≡◌, ℕ, zero, suc, ◌≤◌, ◌<◌, Bool, true, false, nat_lt, if◌then◌else◌, List, [], ◌∷◌, ◌++◌, length, slice_index, map, All, refl, arith}
use Rattle.std.specs.List.{AllByRecursion}
use Rattle.std.proofs.lemmas.Bool.{ltb-true}
use Rattle.std.proofs.lemmas.List.Elements.{All-from_recursion}
use Rattle.cam_names.specs.Dependencies.{AreCounts}
use Rattle.cam_type.specs.declared.Held.{Held}
use Rattle.cam_know.specs.declared.Outcome.{Outcome}
use Rattle.cam_know.specs.declared.Outcome.TheVariants.{Aborted, Committed}
use Rattle.cam_recman.specs.declared.Record.{Record}
use Rattle.cam_recman.specs.declared.Record.TheVariants.{Count, Secure}
use Rattle.cam_recman.specs.declared.Recovered.{Recovered}
use Rattle.cam_recman.specs.Ranges.{IsHeld}
use Rattle.cam_recman.specs.Writable.{IsWritable}
use Rattle.cam_recman.specs.Snapshot.{own_record, outcome_record, seen_records, snapshot}
use Rattle.cam_recman.proofs.InRange.{writable}

-- counts in their range, one by one
each_below : (counts : List ℕ) → ((k : ℕ) → k < length counts → slice_index counts k ≤ 1000000000) → AllByRecursion (λ count. count ≤ 1000000000) counts
each_below [] to = tt
each_below (c ∷ counts) to = (to zero (omega arith), each_below counts (λ k below. to (suc k) (omega (arith, below))))

pub counts_below : (counts : List ℕ) → AreCounts 1 counts → AllByRecursion (λ count. count ≤ 1000000000) counts
counts_below counts are = each_below counts (λ k below. are.to k (omega (arith, below, are.eight)))

abbrev pub AreWritable : List Record → Type 0
AreWritable records = AllByRecursion IsWritable records

pub both : (one more : List Record) → AreWritable one → AreWritable more → AreWritable (one ++ more)
both [] more are rest = rest
both (x ∷ one) more are rest = (are.0, both one more are.1 rest)

own_writable : (c : ℕ) → c ≤ 1000000000 → AreWritable (own_record c)
own_writable c h = by (nat_lt 1 c) refl
  where
    by : (b : Bool) → nat_lt 1 c ≡ b → AreWritable (if b then Count c ∷ [] else [])
    by true above = ((omega (arith, ltb-true 1 c above), h), tt)
    by false first = tt

pub outcomes_writable : (os : List Outcome) → AreWritable (map outcome_record os)
outcomes_writable [] = tt
outcomes_writable (Aborted a ∷ os) = (tt, outcomes_writable os)
outcomes_writable (Committed a d ∷ os) = (tt, outcomes_writable os)

held_writable : (hs : List Held) → AllByRecursion IsHeld hs → AreWritable (map (λ held. Secure held) hs)
held_writable [] are = tt
held_writable (h ∷ hs) are = (writable (Secure h) are.0, held_writable hs are.1)

-- all together, where the counts that were seen are in their ranges
pub snapshot_writable : (r : Recovered) → r.count ≤ 1000000000 → AreWritable (seen_records 1 r.know.counts) → AllByRecursion IsHeld r.held → All IsWritable (snapshot r)
snapshot_writable r count seen held =
    let outs : List Record = map outcome_record r.know.outcomes in
    let own : List Record = own_record r.count in
    let counts : List Record = seen_records 1 r.know.counts in
    let secs : List Record = map (λ h. Secure h) r.held in
    let all : AreWritable (own ++ outs ++ counts ++ secs) =
    both (own ++ outs ++ counts) secs (both (own ++ outs) counts (both own outs (own_writable r.count count) (outcomes_writable r.know.outcomes)) seen) (held_writable r.held held) in
    All-from_recursion IsWritable (snapshot r) (tt, all)
