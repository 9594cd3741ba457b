-- Counts that were written as pairs are read again.
use Rattle.std.proofs.Common.{◌≡◌, inl, inr, ℕ, suc, ◌+◌, ◌-◌, ◌≤◌, true, false, cond, List, [], ◌∷◌, ◌++◌, length, drop, replicate, flat_map, Ok, refl, sym, ap, ◌∙◌, arith, leb, lt-ltb, append_assoc, slice_set}
use Rattle.std.specs.List.{AllByRecursion}
use Rattle.std.proofs.lemmas.List.{length-append}
use Rattle.std.proofs.lemmas.Bool.Decides.{leb_tells}
use Rattle.cam_bytes.specs.Fields.{number, pair, pairs_above, counts_above, deps}
use Rattle.cam_names.specs.Dependencies.{AreCounts}
use Rattle.cam_bytes.specs.Ranges.{IsFrom, IsDeps}
use Rattle.cam_bytes.specs.Reading.{pairs_from, pairs_in}
use Rattle.cam_bytes.proofs.Counts.{each_count}
use Rattle.cam_bytes.proofs.Again.{Reads, reads_then, reads_byte_in, reads_number_in}

-- a count put in at its node
pub put_in : (done cs : List ℕ) (b c : ℕ) → slice_set (done ++ b ∷ cs) (length done) c ≡ (done ++ c ∷ []) ++ cs
put_in [] cs b c = refl
put_in (d ∷ done) cs b c = ap (λ (xs : List ℕ). d ∷ xs) (put_in done cs b c)

few : (base node : ℕ) (cs : List ℕ) → length (pairs_above base node cs) ≤ length cs
few base node [] = omega arith
few base node (c ∷ cs) =
    elim (leb c base) as (λ t. length (cond t (pairs_above base (node + 1) cs) ((node, c) ∷ pairs_above base (node + 1) cs)) ≤ suc (length cs)) [
      | true ↦ omega (arith, few base (node + 1) cs)
      | false ↦ omega (arith, few base (node + 1) cs)
    ]

reads_pairs : (bytes cs done found out : List ℕ) (base before node at : ℕ) (rest : List ℕ) → node ≡ length done + 1 → found ≡ done ++ replicate (length cs) base → out ≡ done ++ cs → before ≤ length done → length done + length cs ≤ 8 → AllByRecursion (IsFrom base 1000000000) cs → drop at bytes ≡ flat_map pair (pairs_above base node cs) ++ rest → Reads bytes (pairs_from (length (pairs_above base node cs)) (base + 1) before found at bytes) out rest
unfolding pairs_from
reads_pairs bytes [] done found out base before node at rest n f o low room are stands =
    (at, ap (λ (xs : List ℕ). Ok (xs, at)) (f ∙ sym o), stands)
reads_pairs bytes (c ∷ cs) done found out base before node at rest n f o low room are stands =
    elim (leb_tells c base) [
      | inl y ↦
          let same : c ≡ base = omega (arith, y.1, are.0.0) in
          rw y.0 (reads_pairs bytes cs (done ++ base ∷ []) found out base before (node + 1) at rest
          (omega (arith, n, length-append done (base ∷ [])))
          (f ∙ sym (append_assoc done (base ∷ []) (replicate (length cs) base)))
          (o ∙ ap (λ (k : ℕ). done ++ k ∷ cs) same ∙ sym (append_assoc done (base ∷ []) cs))
          (omega (arith, low, length-append done (base ∷ [])))
          (omega (arith, room, length-append done (base ∷ [])))
          are.1 (rw y.0 at stands))
      | inr y ↦
          let others = flat_map pair (pairs_above base (node + 1) cs) in
          let first : drop at bytes ≡ node ∷ number c ++ others ++ rest = rw y.0 at stands in
          let place : node - 1 ≡ length done = omega (arith, n) in
          let set_in : slice_set found (node - 1) c ≡ (done ++ c ∷ []) ++ replicate (length cs) base = rw (place, f) (put_in done (replicate (length cs) base) base c) in
          rw y.0 (reads_then bytes _ _ _ _ out rest (reads_byte_in bytes 1 8 at node (number c ++ others ++ rest) (omega (arith, n), omega (arith, n, room)) first) (λ behind stands.
          rw (lt-ltb before node (omega (arith, n, low)))
          (reads_then bytes _ _ _ _ out rest (reads_number_in bytes (base + 1) 1000000000 behind c (others ++ rest) (omega (arith, y.1), are.0.1) (omega arith) stands) (λ behind stands.
          reads_pairs bytes cs (done ++ c ∷ []) (slice_set found (node - 1) c) out base node (node + 1) behind rest
          (omega (arith, n, length-append done (c ∷ [])))
          set_in
          (o ∙ sym (append_assoc done (c ∷ []) cs))
          (omega (arith, n, length-append done (c ∷ [])))
          (omega (arith, room, length-append done (c ∷ [])))
          are.1 stands))))
    ]

pub reads_counts : (bytes cs : List ℕ) (base at : ℕ) (rest : List ℕ) → AreCounts base cs → drop at bytes ≡ counts_above base cs ++ rest → Reads bytes (pairs_in (base + 1) (replicate 8 base) at bytes) cs rest
unfolding pairs_in
reads_counts bytes cs base at rest are stands =
    reads_then bytes _ _ _ _ cs rest (reads_byte_in bytes 0 8 at (length (pairs_above base 1 cs)) (flat_map pair (pairs_above base 1 cs) ++ rest) (omega arith, omega (arith, few base 1 cs, are.eight)) stands) (λ behind stands.
    reads_pairs bytes cs [] (replicate 8 base) cs base 0 1 behind rest refl (ap (λ (n : ℕ). replicate n base) (sym are.eight)) refl (omega arith) (omega (arith, are.eight)) (each_count base cs are) stands)

pub reads_deps : (bytes cs : List ℕ) (at : ℕ) (rest : List ℕ) → IsDeps cs → drop at bytes ≡ deps cs ++ rest → Reads bytes (pairs_in 1 (replicate 8 0) at bytes) cs rest
reads_deps bytes cs at rest is stands = reads_counts bytes cs 0 at rest is stands
