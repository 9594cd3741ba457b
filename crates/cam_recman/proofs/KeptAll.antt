-- One entry keeps all that a node has.
use Rattle.std.proofs.Common.{◌≡◌, inl, inr, ℕ, suc, ◌+◌, ◌-◌, ◌≤◌, ◌<◌, max, Bool, true, false, not, nat_lt, if◌then◌else◌, List, [], ◌∷◌, ◌++◌, length, map, Ok, refl, sym, ap, ◌∙◌, subst, arith, append_assoc, append-nil, length-append}
use Rattle.std.specs.Prelude.{replicate, slice_index, slice_set}
use Rattle.std.specs.List.{list_any, AllByRecursion}
use Rattle.std.proofs.lemmas.Bool.{cases_lt, lt-ltb, le-ltb, or_left, or_right, true≢false, false_from_ne_true}
use Rattle.std.proofs.lemmas.List.Folds.{list_any-append}
use Rattle.cam_type.specs.declared.Held.{Held}
use Rattle.cam_type.specs.declared.HeldOp.{HeldOp}
use Rattle.cam_type.specs.declared.Op.{Op}
use Rattle.cam_type.specs.declared.Op.TheVariants as ops
use Rattle.cam_know.specs.declared.Outcome.{Outcome}
use Rattle.cam_know.specs.declared.Outcome.TheVariants.{Aborted, Committed}
use Rattle.cam_know.specs.Known.{outcome_eq, counts_raised}
use Rattle.cam_know.specs.Invariant.{NoTwice}
use Rattle.cam_know.proofs.Outcomes.{outcome_eq_refl, outcome_eq_same}
use Rattle.cam_recman.specs.declared.Record.{Record}
use Rattle.cam_recman.specs.declared.Record.TheVariants.{Count, Seen, Secure}
use Rattle.cam_recman.specs.declared.Recovered.{Recovered}
use Rattle.cam_recman.specs.Recovery.{fresh, with_record, with_records}
use Rattle.cam_recman.specs.Snapshot.{own_record, outcome_record, seen_records, snapshot, CanBeKept, SnapshotKeepsAll}
use Rattle.cam_recman.specs.Versions.{version_behind, IsOpOf, AreOf}
use Rattle.cam_recman.proofs.Versioning.{behind_more, are_of_both}
use Rattle.cam_recman.proofs.Folding.{with_more, recovery_is_of_the_records}

abbrev pub has : ℕ → List Outcome → List ℕ → List Held → Recovered
has c outcomes counts held = record { count = c; know = record { outcomes = outcomes; counts = counts }; held = held }

-- the own count
own_keeps : (c : ℕ) → 1 ≤ c → with_records fresh (own_record c) ≡ has c [] (replicate 8 1) []
own_keeps c h = elim (cases_lt 1 c) [
  | inl above ↦ ap (λ (b : Bool). with_records fresh (if b then Count c ∷ [] else [])) (lt-ltb 1 c above)
  | inr first ↦
      let one : c ≡ 1 = omega (arith, h, first) in
      ap (λ (b : Bool). with_records fresh (if b then Count c ∷ [] else [])) (le-ltb 1 c first) ∙ ap (λ (n : ℕ). has n [] (replicate 8 1) []) (sym one)
]

-- an outcome is none of those before it
fresh_behind : (xs : List Outcome) (o : Outcome) (os : List Outcome) → NoTwice (xs ++ o ∷ os) → list_any (outcome_eq o) xs ≡ false
fresh_behind [] o os h = refl
fresh_behind (x ∷ xs) o os h =
    let rest : list_any (outcome_eq o) xs ≡ false = fresh_behind xs o os h.1 in
    let here : outcome_eq o x ≡ false = false_from_ne_true (outcome_eq o x) (λ same.
    let there : outcome_eq x o ≡ true = subst (λ z. outcome_eq x z ≡ true) (sym (outcome_eq_same o x same)) (outcome_eq_refl x) in
    let found : list_any (outcome_eq x) (xs ++ o ∷ os) ≡ true =
    list_any-append (outcome_eq x) xs (o ∷ os) ∙ or_right (list_any (outcome_eq x) xs) (list_any (outcome_eq x) (o ∷ os)) (or_left (outcome_eq x o) (list_any (outcome_eq x) os) there) in
    true≢false (sym found ∙ h.0)) in
    rw here rest

-- the outcomes
learnt : (c : ℕ) (counts : List ℕ) (held : List Held) (xs : List Outcome) (o : Outcome) → list_any (outcome_eq o) xs ≡ false → with_record (has c xs counts held) (outcome_record o) ≡ has c (xs ++ o ∷ []) counts held
learnt c counts held xs (Aborted a) none = ap (λ (b : Bool). has c (xs ++ (if not b then Aborted a ∷ [] else [])) counts held) none
learnt c counts held xs (Committed a d) none = ap (λ (b : Bool). has c (xs ++ (if not b then Committed a d ∷ [] else [])) counts held) none

pub outcomes_keep : (c : ℕ) (counts : List ℕ) (held : List Held) (xs os : List Outcome) → NoTwice (xs ++ os) → with_records (has c xs counts held) (map outcome_record os) ≡ has c (xs ++ os) counts held
outcomes_keep c counts held xs [] h = ap (λ (ys : List Outcome). has c ys counts held) (sym (append-nil xs))
outcomes_keep c counts held xs (o ∷ os) h =
    let same : (xs ++ o ∷ []) ++ os ≡ xs ++ o ∷ os = append_assoc xs (o ∷ []) os in
    ap (λ (r : Recovered). with_records r (map outcome_record os)) (learnt c counts held xs o (fresh_behind xs o os h))
    ∙ outcomes_keep c counts held (xs ++ o ∷ []) os (subst NoTwice (sym same) h) ∙ ap (λ (ys : List Outcome). has c ys counts held) same

-- the counts of the nodes
index_behind : (fs gs : List ℕ) (x : ℕ) → slice_index (fs ++ x ∷ gs) (length fs) ≡ x
index_behind [] gs x = refl
index_behind (f ∷ fs) gs x = index_behind fs gs x

set_behind : (fs gs : List ℕ) (x y : ℕ) → slice_set (fs ++ x ∷ gs) (length fs) y ≡ fs ++ y ∷ gs
set_behind [] gs x y = refl
set_behind (f ∷ fs) gs x y = ap (λ (zs : List ℕ). f ∷ zs) (set_behind fs gs x y)

raised_behind : (fs gs : List ℕ) (c : ℕ) → 1 ≤ c → counts_raised (fs ++ 1 ∷ gs) (length fs + 1) c ≡ fs ++ c ∷ gs
raised_behind fs gs c h =
    let place : length fs + 1 - 1 ≡ length fs = omega arith in
    (λ i. slice_set (fs ++ 1 ∷ gs) (place i) (max (slice_index (fs ++ 1 ∷ gs) (place i)) c))
    ∙ ap (λ (n : ℕ). slice_set (fs ++ 1 ∷ gs) (length fs) (max n c)) (index_behind fs gs 1)
    ∙ set_behind fs gs 1 (max 1 c) ∙ ap (λ (n : ℕ). fs ++ n ∷ gs) (omega (arith, h))

abbrev AllFromOne : List ℕ → Type 0
AllFromOne [] = Unit {0}
AllFromOne (c ∷ cs) = (1 ≤ c) × AllFromOne cs

counts_keep : (c : ℕ) (outcomes : List Outcome) (held : List Held) (fs cs : List ℕ) → AllFromOne cs → with_records (has c outcomes (fs ++ replicate (length cs) 1) held) (seen_records (length fs + 1) cs) ≡ has c outcomes (fs ++ cs) held
counts_keep c outcomes held fs [] h = refl
counts_keep c outcomes held fs (n ∷ cs) h =
    let ones : List ℕ = replicate (length cs) 1 in
    let next : length fs + 1 + 1 ≡ length (fs ++ n ∷ []) + 1 = omega (arith, length-append fs (n ∷ [])) in
    let split : fs ++ n ∷ ones ≡ (fs ++ n ∷ []) ++ ones = sym (append_assoc fs (n ∷ []) ones) in
    let rest : with_records (has c outcomes (fs ++ n ∷ ones) held) (seen_records (length fs + 1 + 1) cs) ≡ has c outcomes (fs ++ n ∷ cs) held =
    (λ i. with_records (has c outcomes (split i) held) (seen_records (next i) cs)) ∙ counts_keep c outcomes held (fs ++ n ∷ []) cs h.1
    ∙ ap (λ (zs : List ℕ). has c outcomes zs held) (append_assoc fs (n ∷ []) cs) in
    elim (cases_lt 1 n) [
      | inl above ↦
          ap (λ (b : Bool). with_records (has c outcomes (fs ++ 1 ∷ ones) held) (if b then Seen (length fs + 1) n ∷ seen_records (length fs + 1 + 1) cs else seen_records (length fs + 1 + 1) cs)) (lt-ltb 1 n above)
          ∙ ap (λ (zs : List ℕ). with_records (has c outcomes zs held) (seen_records (length fs + 1 + 1) cs)) (raised_behind fs ones n h.0) ∙ rest
      | inr first ↦
          let one : 1 ≡ n = omega (arith, h.0, first) in
          ap (λ (b : Bool). with_records (has c outcomes (fs ++ 1 ∷ ones) held) (if b then Seen (length fs + 1) n ∷ seen_records (length fs + 1 + 1) cs else seen_records (length fs + 1 + 1) cs)) (le-ltb 1 n first)
          ∙ ap (λ (m : ℕ). with_records (has c outcomes (fs ++ m ∷ ones) held) (seen_records (length fs + 1 + 1) cs)) one ∙ rest
    ]

from_one : (cs : List ℕ) → ((k : ℕ) → k < length cs → 1 ≤ slice_index cs k) → AllFromOne cs
from_one [] h = tt
from_one (c ∷ cs) h = (h 0 (omega arith), from_one cs (λ k less. h (suc k) (omega (arith, less))))

-- what the families hold
pub held_keep : (c : ℕ) (outcomes : List Outcome) (counts : List ℕ) (xs hs : List Held) → with_records (has c outcomes counts xs) (map (λ held. Secure held) hs) ≡ has c outcomes counts (xs ++ hs)
held_keep c outcomes counts xs [] = ap (λ (ys : List Held). has c outcomes counts ys) (sym (append-nil xs))
held_keep c outcomes counts xs (h ∷ hs) = held_keep c outcomes counts (xs ++ h ∷ []) hs ∙ ap (λ (ys : List Held). has c outcomes counts ys) (append_assoc xs (h ∷ []) hs)

-- all together
pub snapshot_is : (r : Recovered) → CanBeKept r → with_records fresh (snapshot r) ≡ r
snapshot_is r h =
    let outs : List Record = map outcome_record r.know.outcomes in
    let seen : List Record = seen_records 1 r.know.counts in
    let secs : List Record = map (λ held. Secure held) r.held in
    let above : AllFromOne r.know.counts = from_one r.know.counts (λ k less. h.counts.from k (omega (arith, less, h.counts.eight))) in
    let eight : replicate 8 1 ≡ replicate (length r.know.counts) 1 = ap (λ (n : ℕ). replicate n 1) (sym h.counts.eight) in
    let own : List Record = own_record r.count in
    let one : with_records fresh (own ++ outs) ≡ has r.count r.know.outcomes (replicate 8 1) [] =
    with_more fresh own outs ∙ ap (λ (q : Recovered). with_records q outs) (own_keeps r.count h.count) ∙ outcomes_keep r.count (replicate 8 1) [] [] r.know.outcomes h.distinct in
    let two : with_records fresh (own ++ outs ++ seen) ≡ has r.count r.know.outcomes r.know.counts [] =
    with_more fresh (own ++ outs) seen ∙ ap (λ (q : Recovered). with_records q seen) (one ∙ ap (λ (zs : List ℕ). has r.count r.know.outcomes zs []) eight)
    ∙ counts_keep r.count r.know.outcomes [] [] r.know.counts above in
    with_more fresh (own ++ outs ++ seen) secs ∙ ap (λ (q : Recovered). with_records q secs) two ∙ held_keep r.count r.know.outcomes r.know.counts [] r.held

-- version 2 has each operation, so what is no Version may stand behind one
abbrev pub Follows : List Record → Type 0
Follows records = AreOf 2 records × (version_behind 2 records ≡ 2)

pub both_follow : (one more : List Record) → Follows one → Follows more → Follows (one ++ more)
both_follow one more first rest = (
  are_of_both 2 one more first.0 (subst (λ (v : ℕ). AreOf v more) (sym first.1) rest.0),
  behind_more 2 one more ∙ ap (λ (v : ℕ). version_behind v more) first.1 ∙ rest.1,
)

own_follows : (c : ℕ) → Follows (own_record c)
own_follows c = elim (nat_lt 1 c) as (λ (b : Bool). Follows (if b then Count c ∷ [] else [])) [ true ↦ ((tt, tt), refl) | false ↦ (tt, refl) ]

pub outcomes_follow : (os : List Outcome) → Follows (map outcome_record os)
outcomes_follow [] = (tt, refl)
outcomes_follow (Aborted a ∷ os) = let rest = outcomes_follow os in ((tt, rest.0), rest.1)
outcomes_follow (Committed a d ∷ os) = let rest = outcomes_follow os in ((tt, rest.0), rest.1)

seen_follow : (node : ℕ) (counts : List ℕ) → Follows (seen_records node counts)
seen_follow node [] = (tt, refl)
seen_follow node (c ∷ counts) =
    let rest = seen_follow (node + 1) counts in
    elim (nat_lt 1 c) as (λ (b : Bool). Follows (if b then Seen node c ∷ seen_records (node + 1) counts else seen_records (node + 1) counts)) [ true ↦ ((tt, rest.0), rest.1) | false ↦ rest ]

second_has : (op : Op) → IsOpOf 2 op
second_has ops.Read = tt
second_has (ops.Write w) = tt
second_has (ops.Swap w) = tt
second_has ops.Size = tt
second_has (ops.Put w) = tt
second_has ops.Take = tt
second_has (ops.Add w) = λ (e : 2 ≡ 1). absurd (omega (arith, e))

pub all_second : (hs : List HeldOp) → AllByRecursion (λ (o : HeldOp). IsOpOf 2 o.op) hs
all_second [] = tt
all_second (o ∷ hs) = (second_has o.op, all_second hs)

held_follow : (hs : List Held) → Follows (map (λ held. Secure held) hs)
held_follow [] = (tt, refl)
held_follow (h ∷ hs) = let rest = held_follow hs in ((all_second h.ops, rest.0), rest.1)

pub snapshot_of : (r : Recovered) → AreOf 1 (snapshot r)
snapshot_of r =
    let outs : List Record = map outcome_record r.know.outcomes in
    let seen : List Record = seen_records 1 r.know.counts in
    let secs : List Record = map (λ held. Secure held) r.held in
    let own : List Record = own_record r.count in
    let all : Follows (own ++ outs ++ seen ++ secs) =
    both_follow (own ++ outs ++ seen) secs (both_follow (own ++ outs) seen (both_follow own outs (own_follows r.count) (outcomes_follow r.know.outcomes)) (seen_follow 1 r.know.counts)) (held_follow r.held) in
    (refl, all.0)

pub snapshot_keeps_all : SnapshotKeepsAll
snapshot_keeps_all r h =
    recovery_is_of_the_records (snapshot r ∷ []) (h.range, tt) (subst (AreOf 1) (sym (append-nil (snapshot r))) (snapshot_of r))
    ∙ ap (λ (rs : List Record). Ok (with_records fresh rs)) (append-nil (snapshot r))
    ∙ ap (λ (q : Recovered). Ok q) (snapshot_is r h)
