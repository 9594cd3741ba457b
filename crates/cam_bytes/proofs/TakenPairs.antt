-- Counts that are read were written as pairs.
use Rattle.std.proofs.Common.{◌≡◌, ℕ, zero, suc, ◌+◌, ◌-◌, ◌<◌, ◌≤◌, List, [], ◌∷◌, ◌++◌, length, drop, replicate, flat_map, Ok, refl, sym, ap, ◌∙◌, arith, subst, le-leb, ltb-true, nat_lt, append_assoc, append-nil, slice_set}
use Rattle.std.specs.List.{AllByRecursion}
use Rattle.std.proofs.lemmas.Bool.{lt-leb}
use Rattle.std.proofs.lemmas.List.{length-append}
use Rattle.cam_bytes.specs.declared.WireFault.TheVariants.{Order}
use Rattle.cam_bytes.specs.Fields.{number, pair, pairs_above, counts_above, deps}
use Rattle.cam_names.specs.Dependencies.{AreCounts}
use Rattle.cam_bytes.specs.Ranges.{IsBytes, IsFrom, IsDeps}
use Rattle.cam_bytes.specs.Reading.{byte_in, number_in, pairs_from, pairs_in}
use Rattle.cam_bytes.proofs.Counts.{are_counts}
use Rattle.cam_bytes.proofs.AgainPairs.{put_in}
use Rattle.cam_bytes.proofs.Taken.{Stands, stands_then, bind_in, ok_is, test_ok, took_byte_in, took_number_in}

split_room : (base gap room n : ℕ) → n ≡ gap + suc room → replicate n base ≡ replicate gap base ++ base ∷ replicate room base
split_room base zero room n is =
    let more : n ≡ suc room = omega (arith, is) in
    ap (λ (k : ℕ). replicate k base) more
split_room base (suc gap) room n is =
    let more : n ≡ suc (gap + suc room) = omega (arith, is) in
    ap (λ (k : ℕ). replicate k base) more ∙ ap (λ (xs : List ℕ). base ∷ xs) (split_room base gap room (gap + suc room) refl)

long : (base n : ℕ) → length (replicate n base) ≡ n
long base zero = refl
long base (suc n) = omega (arith, long base n)

-- counts at the base are not written
skip : (base gap node : ℕ) (cs : List ℕ) → pairs_above base node (replicate gap base ++ cs) ≡ pairs_above base (node + gap) cs
skip base zero node cs = ap (λ (n : ℕ). pairs_above base n cs) (omega arith)
skip base (suc gap) node cs = rw (le-leb base base (omega arith)) (skip base gap (node + 1) cs ∙ ap (λ (n : ℕ). pairs_above base n cs) (omega arith))

none : (base n node : ℕ) → pairs_above base node (replicate n base) ≡ []
none base zero node = refl
none base (suc n) node = rw (le-leb base base (omega arith)) (none base n (node + 1))

all_base : (base n : ℕ) (cs : List ℕ) → base ≤ 1 → AllByRecursion (IsFrom base 1000000000) cs → AllByRecursion (IsFrom base 1000000000) (replicate n base ++ cs)
all_base base zero cs low are = are
all_base base (suc n) cs low are = ((omega arith, omega (arith, low)), all_base base n cs low are)

-- a count above the base is written with its node
first_written : (base gap node m c after : ℕ) (cs : List ℕ) → node + gap ≡ m → base < c → after ≡ m + 1 → pairs_above base node (replicate gap base ++ c ∷ cs) ≡ (m, c) ∷ pairs_above base after cs
first_written base gap node m c after cs place above next =
    skip base gap node (c ∷ cs) ∙ ap (λ (n : ℕ). pairs_above base n (c ∷ cs)) place ∙ rw (lt-leb c base above, next) refl

put_at : (found passed rest : List ℕ) (place base c : ℕ) → length passed ≡ place → found ≡ passed ++ base ∷ rest → slice_set found place c ≡ (passed ++ c ∷ []) ++ rest
put_at found passed rest place base c long opened =
    subst (λ (k : ℕ). slice_set found k c ≡ (passed ++ c ∷ []) ++ rest) long (rw opened (put_in passed rest base c))

pub record TookPairs (bytes : List ℕ) (at left base : ℕ) (before : List ℕ) (room : ℕ) (x : List ℕ × ℕ) : Type 0 where
  pub counts : List ℕ
  pub is : x.0 ≡ before ++ counts
  pub many : length counts ≡ room
  pub each : AllByRecursion (IsFrom base 1000000000) counts
  pub number : length (pairs_above base (length before + 1) counts) ≡ left
  pub stands : Stands bytes at (flat_map pair (pairs_above base (length before + 1) counts)) x.1

took_pairs : (bytes : List ℕ) (left base node room : ℕ) (before found : List ℕ) (at : ℕ) (x : List ℕ × ℕ) → base ≤ 1 → IsBytes bytes → length before ≡ node → node + room ≡ 8 → found ≡ before ++ replicate room base → pairs_from left (base + 1) node found at bytes ≡ Ok x → TookPairs bytes at left base before room x
unfolding pairs_from
took_pairs bytes zero base node room before found at x low are place eight f e =
    let nothing = none base room (length before + 1) in
    subst (λ (p : List ℕ × ℕ). TookPairs bytes at 0 base before room p) (ok_is (found, at) x e) (record {
      counts = replicate room base;
      is = f;
      many = long base room;
      each = subst (λ (xs : List ℕ). AllByRecursion (IsFrom base 1000000000) xs) (append-nil (replicate room base)) (all_base base room [] low tt);
      number = ap (λ (ps : List (ℕ × ℕ)). length ps) nothing;
      stands = sym (ap (λ (ps : List (ℕ × ℕ)). flat_map pair ps ++ drop at bytes) nothing);
    })
took_pairs bytes (suc left) base node room before found at x low are place eight f e =
    bind_in (byte_in 1 8 at bytes) _ x e (λ m found1 e1.
    let a = took_byte_in bytes 1 8 at m found1 in
    let t = test_ok (nat_lt node m.0) _ (Order at) x e1 in
    let above : node < m.0 = ltb-true _ _ t.0 in
    bind_in (number_in (base + 1) 1000000000 m.1 bytes) _ x t.1 (λ c found2 e2.
    let b = took_number_in bytes (base + 1) 1000000000 m.1 c are found2 in
    let gap = m.0 - 1 - node in
    let rest = 8 - m.0 in
    let passed = before ++ replicate gap base in
    let passed_long : length passed ≡ m.0 - 1 = omega (arith, length-append before (replicate gap base), long base gap, place, above) in
    let opened : found ≡ passed ++ base ∷ replicate rest base =
    f ∙ ap (λ (xs : List ℕ). before ++ xs) (split_room base gap rest room (omega (arith, eight, above, a.1.1))) ∙ sym (append_assoc before (replicate gap base) (base ∷ replicate rest base)) in
    let put : slice_set found (m.0 - 1) c.0 ≡ (passed ++ c.0 ∷ []) ++ replicate rest base =
    put_at found passed (replicate rest base) (m.0 - 1) base c.0 passed_long opened in
    let r = took_pairs bytes left base m.0 rest (passed ++ c.0 ∷ []) (slice_set found (m.0 - 1) c.0) c.1 x low are (omega (arith, length-append passed (c.0 ∷ []), passed_long, above)) (omega (arith, a.1.1)) put e2 in
    let next : length (passed ++ c.0 ∷ []) + 1 ≡ m.0 + 1 = omega (arith, length-append passed (c.0 ∷ []), passed_long, above) in
    let first : pairs_above base (length before + 1) (replicate gap base ++ c.0 ∷ r.counts) ≡ (m.0, c.0) ∷ pairs_above base (length (passed ++ c.0 ∷ []) + 1) r.counts =
    first_written base gap (length before + 1) m.0 c.0 (length (passed ++ c.0 ∷ []) + 1) r.counts (omega (arith, place, above)) (omega (arith, b.1.0)) next in
    record {
      counts = replicate gap base ++ c.0 ∷ r.counts;
      is = r.is ∙ append_assoc passed (c.0 ∷ []) r.counts ∙ append_assoc before (replicate gap base) (c.0 ∷ r.counts);
      many = omega (arith, length-append (replicate gap base) (c.0 ∷ r.counts), long base gap, r.many, eight, above, a.1.1);
      each = all_base base gap (c.0 ∷ r.counts) low ((omega (arith, b.1.0), b.1.1), r.each);
      number = ap (λ (ps : List (ℕ × ℕ)). length ps) first ∙ omega (arith, r.number);
      stands = subst (λ (ps : List (ℕ × ℕ)). Stands bytes at (flat_map pair ps) x.1) (sym first)
          (stands_then bytes at (pair (m.0, c.0)) c.1 (flat_map pair (pairs_above base (length (passed ++ c.0 ∷ []) + 1) r.counts)) x.1 (stands_then bytes at (m.0 ∷ []) m.1 (number c.0) c.1 a.0 b.0) r.stands);
    }))

pub took_counts : (bytes : List ℕ) (base at : ℕ) (x : List ℕ × ℕ) → base ≤ 1 → IsBytes bytes → pairs_in (base + 1) (replicate 8 base) at bytes ≡ Ok x → Stands bytes at (counts_above base x.0) x.1 × AreCounts base x.0
unfolding pairs_in
took_counts bytes base at x low are e =
    bind_in (byte_in 0 8 at bytes) _ x e (λ n found e1.
    let a = took_byte_in bytes 0 8 at n found in
    let r = took_pairs bytes n.0 base 0 8 [] (replicate 8 base) n.1 x low are refl refl refl e1 in
    subst (λ (cs : List ℕ). Stands bytes at (counts_above base cs) x.1 × AreCounts base cs) (sym r.is) (
      stands_then bytes at (length (pairs_above base 1 r.counts) ∷ []) n.1 (flat_map pair (pairs_above base 1 r.counts)) x.1 (subst (λ (k : ℕ). Stands bytes at (k ∷ []) n.1) (sym r.number) a.0) r.stands,
      are_counts base r.counts r.many r.each,
    ))

pub took_deps : (bytes : List ℕ) (at : ℕ) (x : List ℕ × ℕ) → IsBytes bytes → pairs_in 1 (replicate 8 0) at bytes ≡ Ok x → Stands bytes at (deps x.0) x.1 × IsDeps x.0
took_deps bytes at x are e = took_counts bytes 0 at x (omega arith) are e
