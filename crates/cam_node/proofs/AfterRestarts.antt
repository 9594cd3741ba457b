-- What is known, counted and secured after restarts of which each follows the other.
use Rattle.std.proofs.Common.{◌≡◌, ◌≢◌, inl, inr, ℕ, zero, suc, ◌+◌, ◌-◌, ◌≤◌, max, Bool, if◌then◌else◌, List, map, length, get_or, refl, sym, ap, ◌∙◌, subst, arith, get_or-set_same, get_or-set_other, length-set}
use Rattle.std.specs.Prelude.{slice_index}
use Rattle.std.proofs.lemmas.Bool.{lt-ltb, le-ltb}
use Rattle.std.proofs.lemmas.Bool.Decides.{eqb_tells}
use Rattle.cam_names.specs.Dependencies.{AreCounts}
use Rattle.cam_type.specs.declared.ObjectDecl.{ObjectDecl}
use Rattle.cam_know.specs.Knowledge.{Knowledge}
use Rattle.cam_know.specs.Known.{counts_raised, with_count}
use Rattle.cam_event.specs.History.{count}
use Rattle.cam_event.specs.HeldSites.{site}
use Rattle.cam_event.specs.Carried.{deeds_of}
use Rattle.cam_event.specs.ByDeltas.{Received, as_carried, known}
use Rattle.cam_node.specs.Found.{after_restarts, counts_at}
use Rattle.cam_node.specs.Log.{Logged, KeepsLog, secure_counts}
use Rattle.cam_node.specs.Represents.{Node}
use Rattle.cam_node.proofs.Restarting.{count_then, eight_same, known_then, raised_counts}
use Rattle.cam_node.proofs.WrittenKnowledge.{counts_more}

-- Each restart raises the count by one,
pub count_after : (objects : List ObjectDecl) (s : ℕ) (history : List Received) (n : ℕ)
    → count (deeds_of (map as_carried (after_restarts objects s n history))) s
    ≡ count (deeds_of (map as_carried history)) s + n
count_after objects s history zero = omega arith
count_after objects s history (suc n) =
    let one : count (deeds_of (map as_carried (after_restarts objects s (suc n) history))) s
    ≡ count (deeds_of (map as_carried (after_restarts objects s n history))) s + 1 =
    count_then objects s (after_restarts objects s n history) in
    let rest = count_after objects s history n in omega (arith, one, rest)

-- and secures nothing.
pub secured_after : (objects : List ObjectDecl) (s : ℕ) (history : List Received) (n : ℕ)
    → (site (map as_carried (after_restarts objects s n history))).secured
    ≡ (site (map as_carried history)).secured
secured_after objects s history zero = refl
secured_after objects s history (suc n) = secured_after objects s history n

pub secures_after : (objects : List ObjectDecl) (s : ℕ) (history : List Received) (n : ℕ)
    → secure_counts s (deeds_of (map as_carried (after_restarts objects s n history)))
    ≡ secure_counts s (deeds_of (map as_carried history))
secures_after objects s history zero = refl
secures_after objects s history (suc n) = secures_after objects s history n

-- A count that is raised twice.
max_twice : (x y a b : ℕ) → y ≡ max x a → a ≤ b → max y b ≡ max x b
max_twice x y a b is less = omega (arith, is, less)

raised_twice : (s a b : ℕ) (ks : List ℕ) → 1 ≤ s → s ≤ 8 → length ks ≡ 8 → a ≤ b
    → counts_raised (counts_raised ks s a) s b ≡ counts_raised ks s b
raised_twice s a b ks low high eight less =
    let x : ℕ = slice_index ks (s - 1) in
    raised_counts s b b (counts_raised ks s a) ks low high
    (length-set ks (s - 1) (max x a) ∙ eight) eight refl
    (λ m first last off. get_or-set_other ks (s - 1) (m - 1) (max x a) 0
    (λ (e : m - 1 ≡ s - 1). off (omega (arith, e, first, low))))
    (max_twice x (slice_index (counts_raised ks s a) (s - 1)) a b
    (get_or-set_same ks (s - 1) (max x a) 0 (omega (arith, eight, low, high))) less)

-- What is known after so many.
abbrev pub known_from : ℕ → ℕ → ℕ → Knowledge → Knowledge
known_from s own zero k = k
known_from s own (suc n) k = with_count s (own + suc n) k

from_counts : (s own n : ℕ) (k : Knowledge) → 1 ≤ s → s ≤ 8 → own + n ≤ 1000000000
    → AreCounts 1 k.counts → AreCounts 1 (known_from s own n k).counts
from_counts s own zero k low high top are = are
from_counts s own (suc n) k low high top are = counts_more s (own + suc n) k.counts low high top are

from_next : (s own n c : ℕ) (k : Knowledge) → 1 ≤ s → s ≤ 8 → length k.counts ≡ 8 → c ≡ own + suc n
    → with_count s c (known_from s own n k) ≡ known_from s own (suc n) k
from_next s own zero c k low high eight is = ap (λ (m : ℕ). with_count s m k) is
from_next s own (suc n) c k low high eight is =
    ap (λ (m : ℕ). with_count s m (known_from s own (suc n) k)) is
    ∙ (λ i. record {
      outcomes = k.outcomes;
      counts = raised_twice s (own + suc n) (own + suc (suc n)) k.counts low high eight
          (omega arith) i;
    })

pub known_after : (objects : List ObjectDecl) (s : ℕ) (history : List Received) (n : ℕ) → 1 ≤ s
    → s ≤ 8 → AreCounts 1 (known objects history).counts
    → count (deeds_of (map as_carried history)) s + n ≤ 1000000000
    → known objects (after_restarts objects s n history)
    ≡ known_from s (count (deeds_of (map as_carried history)) s) n (known objects history)
known_after objects s history zero low high are top = refl
known_after objects s history (suc n) low high are top =
    let own : ℕ = count (deeds_of (map as_carried history)) s in
    let before : List Received = after_restarts objects s n history in
    let k : Knowledge = known objects history in
    let is : known objects before ≡ known_from s own n k =
    known_after objects s history n low high are (omega (arith, top)) in
    let counted = count_after objects s history n in
    known_then objects s before
    (subst (λ (j : Knowledge). AreCounts 1 j.counts) (sym is)
    (from_counts s own n k low high (omega (arith, top)) are))
    ∙ ap (λ (j : Knowledge). with_count s (count (deeds_of (map as_carried before)) s + 1) j) is
    ∙ from_next s own n (count (deeds_of (map as_carried before)) s + 1) k low high are.eight
    (omega (arith, counted))

-- What a log tells of counts, with its own, is what is known.
pub log_counts : (objects : List ObjectDecl) (s : ℕ) (history : List Received) (logged : Logged)
    → 1 ≤ s → s ≤ 8 → length logged.know.counts ≡ 8 → length (known objects history).counts ≡ 8
    → KeepsLog objects s history logged
    → counts_raised logged.know.counts s logged.count ≡ (known objects history).counts
log_counts objects s history logged low high eight eight' log =
    let ls : List ℕ = logged.know.counts in
    let ks : List ℕ = (known objects history).counts in
    let top : ℕ = max (slice_index ls (s - 1)) logged.count in
    eight_same (counts_raised ls s logged.count) ks (length-set ls (s - 1) top ∙ eight) eight'
    (λ j less. elim (eqb_tells j (s - 1)) [
      | inl y ↦
          ap (λ (i : ℕ). get_or (counts_raised ls s logged.count) i 0) y.1
          ∙ get_or-set_same ls (s - 1) top 0 (omega (arith, eight, low, high))
          ∙ log.own_known low high ∙ ap (λ (i : ℕ). get_or ks i 0) (sym y.1)
      | inr n ↦
          get_or-set_other ls (s - 1) j top 0 n.1
          ∙ other_place j ls ks (log.other_counts (j + 1) (omega arith) (omega (arith, less))
          (λ (e : j + 1 ≡ s). n.1 (omega (arith, e))))
    ])
  where
    other_place : (j : ℕ) (ls ks : List ℕ)
        → slice_index ls (j + 1 - 1) ≡ slice_index ks (j + 1 - 1) → get_or ls j 0 ≡ get_or ks j 0
    other_place j ls ks same =
        let place : j + 1 - 1 ≡ j = omega arith in
        ap (λ (i : ℕ). get_or ls i 0) (sym place) ∙ same ∙ ap (λ (i : ℕ). get_or ks i 0) place

-- And where it is, the log tells them.
pub others_told : (s c m : ℕ) (ls ks : List ℕ) → 1 ≤ s → 1 ≤ m → m ≢ s
    → counts_raised ls s c ≡ ks → slice_index ls (m - 1) ≡ slice_index ks (m - 1)
others_told s c m ls ks low first off is =
    sym (get_or-set_other ls (s - 1) (m - 1) (max (slice_index ls (s - 1)) c) 0
    (λ (e : m - 1 ≡ s - 1). off (omega (arith, e, first, low))))
    ∙ ap (λ (cs : List ℕ). slice_index cs (m - 1)) is

pub own_told : (s c : ℕ) (ls ks : List ℕ) → 1 ≤ s → s ≤ 8 → length ls ≡ 8
    → counts_raised ls s c ≡ ks → max (slice_index ls (s - 1)) c ≡ slice_index ks (s - 1)
own_told s c ls ks low high eight is =
    sym (get_or-set_same ls (s - 1) (max (slice_index ls (s - 1)) c) 0
    (omega (arith, eight, low, high)))
    ∙ ap (λ (cs : List ℕ). slice_index cs (s - 1)) is

-- the counts that a node takes for those after so many restarts
pub counts_then : (node : Node) (n c : ℕ) → c ≡ node.count + n
    → counts_at c node ≡ (known_from node.number node.count n node.know).counts
counts_then node zero c is =
    ap (λ (b : Bool). if b then counts_raised node.know.counts node.number c
    else node.know.counts) (le-ltb node.count c (omega (arith, is)))
counts_then node (suc n) c is =
    ap (λ (b : Bool). if b then counts_raised node.know.counts node.number c
    else node.know.counts) (lt-ltb node.count c (omega (arith, is)))
    ∙ ap (counts_raised node.know.counts node.number) is
