-- After a restart the log keeps the history with it, and what it recovers is what the node knows.
use Rattle.std.proofs.Common.{◌≡◌, ◌≢◌, inl, inr, ℕ, ◌+◌, ◌-◌, ◌≤◌, ◌<◌, max, Bool, if◌then◌else◌, List, ◌∷◌, map, length, get_or, refl, sym, ap, ◌∙◌, arith, append-nil, eq-eqb, get_or-set_same, get_or-set_other, length-set}
use Rattle.std.specs.Prelude.{slice_index, replicate}
use Rattle.std.proofs.lemmas.Bool.Decides.{eqb_tells}
use Rattle.std.proofs.lemmas.List.{get_or-replicate}
use Rattle.cam_names.specs.Dependencies.{AreCounts, greater_counts}
use Rattle.cam_names.proofs.Dependencies.{greater_counts_is}
use Rattle.cam_type.specs.declared.ObjectDecl.{ObjectDecl}
use Rattle.cam_know.specs.Knowledge.{Knowledge}
use Rattle.cam_know.specs.Known.{nothing, both, known_count, counts_raised, with_count}
use Rattle.cam_event.specs.History.{count}
use Rattle.cam_event.specs.Carried.{deeds_of}
use Rattle.cam_event.specs.ByDeltas.{Received, as_carried, known}
use Rattle.cam_node.specs.Halting.{restarted}
use Rattle.cam_node.specs.LogLaws.{RestartKeeps, RestartKnows}

-- nothing adds nothing
abbrev ones : List ℕ
ones = replicate 8 1

ones_at : (j : ℕ) → j < 8 → get_or ones j 0 ≡ 1
ones_at j less = get_or-replicate 8 j 1 0 less

at_least_of : (c d : ℕ) → 1 ≤ c → d ≡ 1 → c ≡ max c d
at_least_of c d low one = omega (arith, low, one)

nothing_adds : (k : Knowledge) → AreCounts 1 k.counts → both k nothing ≡ k
nothing_adds k counts =
    let same : k.counts ≡ greater_counts k.counts ones =
    greater_counts_is k.counts ones k.counts counts.eight refl counts.eight
    (λ j less. at_least_of (get_or k.counts j 0) (get_or ones j 0) (counts.from j less) (ones_at j less)) in
    (λ i. record { outcomes = append-nil k.outcomes i; counts = sym same i })

-- lists of eight are the same where they are so at each place
pub eight_same : (one other : List ℕ) → length one ≡ 8 → length other ≡ 8 → ((j : ℕ) → j < 8 → get_or one j 0 ≡ get_or other j 0) → one ≡ other
eight_same one other long long' each =
    greater_counts_is other other one long' long' long (λ j less. omega (arith, each j less))
    ∙ sym (greater_counts_is other other other long' long' long' (λ j less. omega arith))

other_at : (j : ℕ) (ls ks : List ℕ) → slice_index ls (j + 1 - 1) ≡ slice_index ks (j + 1 - 1) → get_or ls j 0 ≡ get_or ks j 0
other_at j ls ks same =
    let place : j + 1 - 1 ≡ j = omega arith in
    ap (λ (i : ℕ). get_or ls i 0) (sym place) ∙ same ∙ ap (λ (i : ℕ). get_or ks i 0) place

-- the raised counts
pub raised_counts : (s c d : ℕ) (ls ks : List ℕ) → 1 ≤ s → s ≤ 8 → length ls ≡ 8 → length ks ≡ 8 → c ≡ d
    → ((m : ℕ) → 1 ≤ m → m ≤ 8 → m ≢ s → slice_index ls (m - 1) ≡ slice_index ks (m - 1))
    → max (slice_index ls (s - 1)) c ≡ max (slice_index ks (s - 1)) d → counts_raised ls s c ≡ counts_raised ks s d
raised_counts s c d ls ks low high long long' same others own =
    eight_same (counts_raised ls s c) (counts_raised ks s d) (length-set ls (s - 1) (max (slice_index ls (s - 1)) c) ∙ long) (length-set ks (s - 1) (max (slice_index ks (s - 1)) d) ∙ long')
    (λ j less. elim (eqb_tells j (s - 1)) [
      | inl y ↦
          ap (λ (i : ℕ). get_or (counts_raised ls s c) i 0) y.1
          ∙ get_or-set_same ls (s - 1) (max (slice_index ls (s - 1)) c) 0 (omega (arith, long, low, high)) ∙ own
          ∙ sym (get_or-set_same ks (s - 1) (max (slice_index ks (s - 1)) d) 0 (omega (arith, long', low, high)))
          ∙ ap (λ (i : ℕ). get_or (counts_raised ks s d) i 0) (sym y.1)
      | inr n ↦
          get_or-set_other ls (s - 1) j (max (slice_index ls (s - 1)) c) 0 n.1
          ∙ other_at j ls ks (others (j + 1) (omega arith) (omega (arith, less)) (λ (e : j + 1 ≡ s). n.1 (omega (arith, e))))
          ∙ sym (get_or-set_other ks (s - 1) j (max (slice_index ks (s - 1)) d) 0 n.1)
    ])

-- what is known after a restart
pub known_then : (objects : List ObjectDecl) (s : ℕ) (history : List Received) → AreCounts 1 (known objects history).counts
    → known objects (restarted objects s history ∷ history) ≡ with_count s (count (deeds_of (map as_carried history)) s + 1) (known objects history)
known_then objects s history counts =
    ap (λ (k : Knowledge). with_count s (count (deeds_of (map as_carried history)) s + 1) k) (nothing_adds (known objects history) counts)

pub restart_knows : RestartKnows
restart_knows objects s history r low high mine whole log =
    let k : Knowledge = known objects history in
    let c : ℕ = count (deeds_of (map as_carried history)) s in
    let own : max (slice_index r.know.counts (s - 1)) r.count ≡ slice_index k.counts (s - 1) = log.own_known low high in
    let count_is : r.count ≡ c = log.count in
    (λ i. record {
      outcomes = log.outcomes i;
      counts = raised_counts s (r.count + 1) (c + 1) r.know.counts k.counts low high mine.counts.eight whole.counts.eight (omega (arith, count_is)) log.other_counts (omega (arith, own, count_is)) i;
    })
    ∙ sym (known_then objects s history whole.counts)

-- the count after a restart
pub count_then : (objects : List ObjectDecl) (s : ℕ) (history : List Received)
    → count (deeds_of (map as_carried (restarted objects s history ∷ history))) s ≡ count (deeds_of (map as_carried history)) s + 1
count_then objects s history =
    let c : ℕ = count (deeds_of (map as_carried history)) s in
    ap (λ (b : Bool). if b then c + 1 else c) (eq-eqb s s refl)

pub restart_keeps : RestartKeeps
restart_keeps objects s history r low high mine whole log =
    let knows = restart_knows objects s history r low high mine whole log in
    let then_count = count_then objects s history in
    let own : known_count (with_count s (r.count + 1) r.know) s ≡ max (known_count r.know s) (r.count + 1) =
    get_or-set_same r.know.counts (s - 1) (max (known_count r.know s) (r.count + 1)) 0 (omega (arith, mine.counts.eight, low, high)) in
    let count_is : r.count ≡ count (deeds_of (map as_carried history)) s = log.count in
    let there : known_count (with_count s (r.count + 1) r.know) s ≡ known_count (known objects (restarted objects s history ∷ history)) s =
    ap (λ (k : Knowledge). known_count k s) knows in
    let counted : r.count + 1 ≡ count (deeds_of (map as_carried (restarted objects s history ∷ history))) s = omega (arith, count_is, then_count) in
    let now : ℕ = known_count (known objects (restarted objects s history ∷ history)) s in
    let raised_own : max (known_count (with_count s (r.count + 1) r.know) s) (r.count + 1) ≡ now = omega (arith, own, there) in
    let plain_own : max (known_count r.know s) (r.count + 1) ≡ now = omega (arith, own, there) in (
      record {
        count = counted;
        outcomes = ap (λ (k : Knowledge). k.outcomes) knows;
        other_counts = λ m first last off. ap (λ (k : Knowledge). known_count k m) knows;
        own_known = λ first last. raised_own;
        secured = log.secured;
        counts = log.counts;
        order = log.order;
      },
      record {
        count = counted;
        outcomes = ap (λ (k : Knowledge). k.outcomes) knows;
        other_counts = λ m first last off.
            sym (get_or-set_other r.know.counts (s - 1) (m - 1) (max (known_count r.know s) (r.count + 1)) 0 (λ (e : m - 1 ≡ s - 1). off (omega (arith, e, first, low))))
            ∙ ap (λ (k : Knowledge). known_count k m) knows;
        own_known = λ first last. plain_own;
        secured = log.secured;
        counts = log.counts;
        order = log.order;
      },
    )
