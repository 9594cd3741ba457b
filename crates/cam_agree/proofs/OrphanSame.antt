-- The orphan test by what is known answers what the definition answers, where both test the same pairs.
use Rattle.std.proofs.Common.{◌≡◌, inl, inr, cond, ℕ, ◌≤◌, ltb, Bool, true, false, List, [], ◌∷◌, ◌++◌, filter, find, Option, Some, None, refl, sym, ap, ◌∙◌, subst}
use Rattle.std.specs.Prelude.{flat_map}
use Rattle.std.proofs.lemmas.Option.{same_Some}
use Rattle.cam_names.specs.declared.name.Name.{Name}
use Rattle.cam_names.specs.Names.{is_ancestor, ancestors}
use Rattle.cam_names.specs.Dependencies.{has_pair}
use Rattle.cam_type.specs.declared.ObjectDecl.{ObjectDecl}
use Rattle.cam_know.specs.declared.Reason.TheVariants.{Crash}
use Rattle.cam_know.specs.Knowledge.{Knowledge}
use Rattle.cam_know.specs.Known.{knows_abort, known_count}
use Rattle.cam_know.specs.Orphans.{least_from, least, is_stale, reason_of, children_pairs, known_orphan}
use Rattle.cam_know.proofs.OrphanBySet.{both_ways, first_same, least_in, least_same}
use Rattle.cam_event.specs.declared.Deed.{Deed}
use Rattle.cam_event.specs.History.{count, aborted}
use Rattle.cam_event.specs.Gained.{deps}
use Rattle.cam_event.specs.Orphans.{orphan}
use Rattle.cam_event.proofs.Members.{In}
use Rattle.cam_names.proofs.Any.{none_found}
use Rattle.cam_cut.proofs.DepsFacts.{InRange}
use Rattle.cam_cut.proofs.Clear.{ancestors_in}
use Rattle.cam_cut.proofs.Lists.{every_in, in_filter}
use Rattle.cam_cut.proofs.Pairs.{has_pair_in, in_has_pair}
use Rattle.cam_agree.proofs.DepsPairs.{SamePairs}

-- the least goes by the pairs alone,
least_alike : (ps qs : List (ℕ × ℕ)) → SamePairs ps qs → least ps ≡ least qs
least_alike ps qs h = least_same ps qs (λ n c.
    both_ways (has_pair ps n c) (has_pair qs n c)
    (λ i. in_has_pair qs n c (h.there (n, c) (has_pair_in ps n c i))) (λ i. in_has_pair ps n c (h.back (n, c) (has_pair_in qs n c i))))

-- and is one of them
least_among : (ps : List (ℕ × ℕ)) (p : ℕ × ℕ) → least ps ≡ Some p → In p ps
least_among [] p h = cc
least_among (q ∷ ps) p h =
    let one : ℕ × ℕ = least_from q ps in
    subst (λ x. In x (q ∷ ps)) (same_Some one p h) (has_pair_in (q ∷ ps) one.0 one.1 (least_in q ps))

-- what passes a test is kept by it
pub filter_in : {X : Type 0} (t : X → Bool) (xs : List X) (x : X) → In x xs → t x ≡ true → In x (filter t xs)
filter_in t [] x h g = absurd h
filter_in {X} t (y ∷ xs) x h g = by (t y) refl h (filter_in t xs x)
  where
    by : (b : Bool) → t y ≡ b → In x (y ∷ xs) → (In x xs → t x ≡ true → In x (filter t xs)) → In x (cond b (y ∷ filter t xs) (filter t xs))
    by true e (inl s) rest = inl s
    by true e (inr r) rest = inr (rest r g)
    by false e (inl s) rest = cc
    by false e (inr r) rest = rest r g

-- the pairs that are tested by what is known, and those of the definition
abbrev pub tested : Knowledge → Name → List (ℕ × ℕ) → List (ℕ × ℕ)
tested k a visited = visited ++ flat_map (children_pairs k) (ancestors a)

abbrev pub defined : List ObjectDecl → List Deed → Name → List (ℕ × ℕ)
defined objects B a = flat_map (deps objects B) (ancestors a)

-- The same aborts and counts are known, and where no ancestor is aborted the same pairs are tested.
pub record SameTest (objects : List ObjectDecl) (k : Knowledge) (B : List Deed) (a : Name) (visited : List (ℕ × ℕ)) : Type 0 where
  pub aborts : (u : Name) → knows_abort k u ≡ aborted B u
  pub counts : (m : ℕ) → 1 ≤ m → m ≤ 8 → known_count k m ≡ count B m
  pub ranged : (p : ℕ × ℕ) → In p (defined objects B a) → InRange p.0 p.1
  pub pairs : ((u : Name) → is_ancestor u a ≡ true → aborted B u ≡ false) → SamePairs (tested k a visited) (defined objects B a)

pub test_same : (objects : List ObjectDecl) (k : Knowledge) (B : List Deed) (a : Name) (visited : List (ℕ × ℕ)) → SameTest objects k B a visited → known_orphan k a visited ≡ orphan objects B a
test_same objects k B a visited h =
    ap (λ o. reason_of (known_count k) o (least (filter (is_stale (known_count k)) (tested k a visited)))) (first_same (knows_abort k) (aborted B) (ancestors a) h.aborts)
    ∙ by (find (aborted B) (ancestors a)) refl
  where
    one : List (ℕ × ℕ)
    one = filter (is_stale (known_count k)) (tested k a visited)

    other : List (ℕ × ℕ)
    other = filter (is_stale (count B)) (defined objects B a)

    alike : (p : ℕ × ℕ) → In p (defined objects B a) → known_count k p.0 ≡ count B p.0
    alike p i = let r = h.ranged p i in h.counts p.0 r.0.0 r.0.1

    stale : SamePairs (tested k a visited) (defined objects B a) → SamePairs one other
    stale same = record {
      there = λ p i.
          let parts = in_filter (is_stale (known_count k)) (tested k a visited) p i in
          let mine : In p (defined objects B a) = same.there p parts.0 in
          filter_in (is_stale (count B)) (defined objects B a) p mine (ap (λ c. ltb p.1 c) (sym (alike p mine)) ∙ parts.1);
      back = λ p i.
          let parts = in_filter (is_stale (count B)) (defined objects B a) p i in
          filter_in (is_stale (known_count k)) (tested k a visited) p (same.back p parts.0) (ap (λ c. ltb p.1 c) (alike p parts.0) ∙ parts.1);
    }

    reasons : (o : Option (ℕ × ℕ)) → least other ≡ o → reason_of (known_count k) None o ≡ reason_of (count B) None o
    reasons None e = refl
    reasons (Some p) e = ap (λ c. Some (Crash p.0 p.1 c)) (alike p (in_filter (is_stale (count B)) (defined objects B a) p (least_among other p e)).0)

    by : (o : Option Name) → find (aborted B) (ancestors a) ≡ o → reason_of (known_count k) o (least one) ≡ reason_of (count B) o (least other)
    by (Some u) e = refl
    by None e =
        let alive : (u : Name) → is_ancestor u a ≡ true → aborted B u ≡ false =
        λ u above. every_in (λ x. aborted B x ≡ false) (ancestors a) u (none_found (aborted B) (ancestors a) e) (ancestors_in a u above) in
        ap (λ o. reason_of (known_count k) None o) (least_alike one other (stale (h.pairs alive))) ∙ reasons (least other) refl
