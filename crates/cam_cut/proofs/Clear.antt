-- Actions that are no orphans, and deeds that leave them so.
use Rattle.std.proofs.Common.{◌≡◌, inl, inr, if◌then◌else◌, ℕ, ◌+◌, ◌≤◌, eqb, Bool, true, false, ◌&&◌, List, [], ◌∷◌, ◌++◌, filter, find, length, Option, Some, None, refl, sym, ap, ◌∙◌, subst, arith}
use Rattle.std.specs.Prelude.{flat_map}
use Rattle.std.proofs.lemmas.Bool.{and_parts, or_from, true≢false, eqb-true, false_from_ne_true, ltb-false, le-ltb}
use Rattle.cam_names.specs.declared.name.Name.{Name}
use Rattle.cam_names.specs.Part.{part_eq}
use Rattle.cam_names.specs.Names.{name_eq, is_prefix, is_ancestor, ancestors, is_child, is_top}
use Rattle.cam_names.proofs.Names.{name_eq_same, ancestors_any}
use Rattle.cam_event.proofs.Members.{In, in_append, any_in}
use Rattle.cam_names.proofs.Any.{none_found}
use Rattle.cam_type.specs.declared.ObjectDecl.{ObjectDecl}
use Rattle.cam_know.specs.Orphans.{is_stale, least, reason_of}
use Rattle.cam_event.specs.declared.Seen.{Seen}
use Rattle.cam_event.specs.declared.Seen.TheVariants.{Done, Busy, Gone}
use Rattle.cam_event.specs.declared.Deed.{Deed}
use Rattle.cam_event.specs.declared.Deed.TheVariants.{Create, Ask, Got, Commit, Abort}
use Rattle.cam_event.specs.History.{count, aborted, Addressed, call_of}
use Rattle.cam_event.specs.Live.{site_of}
use Rattle.cam_event.specs.Gained.{deps, visited, home}
use Rattle.cam_event.specs.Orphans.{orphan}
use Rattle.cam_cut.proofs.DepsFacts.{in_visited}
use Rattle.cam_cut.proofs.Lists.{every_in, none_passes, filter_none, none_filter, in_flat, flat_in}
use Rattle.cam_cut.proofs.SecureLines.{in_ancestors}

-- no ancestor is aborted, and none depends on a node at an older count
pub record NoOrphan (objects : List ObjectDecl) (L : List Deed) (a : Name) : Type 0 where
  pub unaborted : (u : Name) → is_ancestor u a ≡ true → aborted L u ≡ false
  pub current : (u : Name) → is_ancestor u a ≡ true → (p : ℕ × ℕ) → In p (deps objects L u) → count L p.0 ≤ p.1

-- an ancestor is a member of the ancestors
pub ancestors_in : (a u : Name) → is_ancestor u a ≡ true → In u (ancestors a)
ancestors_in a u above =
    let found = any_in (name_eq u) (ancestors a) (ancestors_any u a ∙ above) in
    subst (λ x. In x (ancestors a)) (sym (name_eq_same u found.0 found.2)) found.1

-- there is no reason where no ancestor is aborted and no pair is stale
reason_none : (counts : ℕ → ℕ) (x : Option Name) (y : Option (ℕ × ℕ)) → reason_of counts x y ≡ None → (x ≡ None) × (y ≡ None)
reason_none counts (Some u) y h = cc
reason_none counts None (Some p) h = cc
reason_none counts None None h = (refl, refl)

-- no pairs have no least one
least_none : (ps : List (ℕ × ℕ)) → least ps ≡ None → ps ≡ []
least_none [] h = refl
least_none (p ∷ ps) h = cc

-- so says the test of the definition,
pub no_orphan : (objects : List ObjectDecl) (L : List Deed) (a : Name) → orphan objects L a ≡ None → NoOrphan objects L a
no_orphan objects L a h =
    let parts = reason_none (count L) (find (aborted L) (ancestors a)) (least (filter (is_stale (count L)) (flat_map (deps objects L) (ancestors a)))) h in
    record {
      unaborted = λ u above. every_in (λ x. aborted L x ≡ false) (ancestors a) u (none_found (aborted L) (ancestors a) parts.0) (ancestors_in a u above);
      current = λ u above p i. ltb-false p.1 (count L p.0) (filter_none (is_stale (count L)) (flat_map (deps objects L) (ancestors a)) p
          (least_none (filter (is_stale (count L)) (flat_map (deps objects L) (ancestors a))) parts.1)
          (in_flat (deps objects L) (ancestors a) u p (ancestors_in a u above) i));
    }

-- and back
pub orphan_none : (objects : List ObjectDecl) (L : List Deed) (a : Name) → NoOrphan objects L a → orphan objects L a ≡ None
orphan_none objects L a h =
    let first : find (aborted L) (ancestors a) ≡ None = none_passes (aborted L) (ancestors a) (λ u i. h.unaborted u (in_ancestors a u i)) in
    let second : filter (is_stale (count L)) (flat_map (deps objects L) (ancestors a)) ≡ [] =
    none_filter (is_stale (count L)) (flat_map (deps objects L) (ancestors a)) (λ p i.
    let found = flat_in (deps objects L) (ancestors a) p i in
    le-ltb p.1 (count L p.0) (h.current found.0 (in_ancestors a found.0 found.1) p found.2)) in
    λ i. reason_of (count L) (first i) (least (second i))

-- nothing is wrong with the empty name
pub clear_empty : (objects : List ObjectDecl) (L : List Deed) → NoOrphan objects L []
clear_empty objects L = record { unaborted = λ u above. absurd (true≢false (sym above ∙ nothing u)); current = λ u above. absurd (true≢false (sym above ∙ nothing u)) }
  where
    nothing : (u : Name) → is_ancestor u [] ≡ false
    nothing [] = refl
    nothing (p ∷ u) = refl

-- a child is no ancestor of its parent
pub child_not_above : (p b u : Name) → is_child p b ≡ true → is_ancestor u p ≡ true → name_eq u b ≡ false
child_not_above p b u child above = false_from_ne_true (name_eq u b) (λ e.
    let longer : length b ≡ length p + 1 = eqb-true (length b) (length p + 1) (and_parts (is_prefix p b) (eqb (length b) (length p + 1)) child).1 in
    let same : length u ≡ length b = ap length (name_eq_same u b e) in
    omega (arith, longer, same, shorter u p above))
  where
    prefix-length : (u p : Name) → is_prefix u p ≡ true → length u ≤ length p
    prefix-length [] p h = omega arith
    prefix-length (x ∷ u) [] h = cc
    prefix-length (x ∷ u) (y ∷ p) h = omega (arith, prefix-length u p (and_parts (part_eq x y) (is_prefix u p) h).1)

    shorter : (u p : Name) → is_ancestor u p ≡ true → length u ≤ length p
    shorter [] p h = cc
    shorter (x ∷ u) p h = prefix-length (x ∷ u) p h

-- asking for a child leaves the asking action's dependencies
pub clear_ask : (objects : List ObjectDecl) (B : List Deed) (a b : Name) → is_child a b ≡ true → NoOrphan objects B a → NoOrphan objects (Ask a b ∷ B) a
clear_ask objects B a b child h = record {
  unaborted = h.unaborted;
  current = λ u above p i. h.current u above p (subst (λ (t : Bool). In p (if t then home b ∷ deps objects B a ++ deps objects B u else deps objects B u)) (child_not_above a b u child above) i);
}

-- an answer adds the pair of its call, which is not older than the node's count
pub clear_got : (objects : List ObjectDecl) (B : List Deed) (a : Name) (n : ℕ) (seen : Seen) → ((call : Addressed) → call_of B a n ≡ Some call → count B (site_of objects call.object) ≤ call.count) → NoOrphan objects B a → NoOrphan objects (Got a n seen ∷ B) a
clear_got objects B a n (Done answer) young h = record {
  unaborted = h.unaborted;
  current = λ u above p i. by u above p (name_eq u a) i;
}
  where
    by : (u : Name) → is_ancestor u a ≡ true → (p : ℕ × ℕ) → (t : Bool) → In p (if t then visited objects (call_of B a n) ++ deps objects B u else deps objects B u) → count B p.0 ≤ p.1
    by u above p true i = elim (in_append (visited objects (call_of B a n)) (deps objects B u) p i) [
      | inl l ↦ let v = in_visited objects (call_of B a n) p l in subst (λ (q : ℕ × ℕ). count B q.0 ≤ q.1) (sym v.2) (young v.0 v.1)
      | inr r ↦ h.current u above p r
    ]
    by u above p false i = h.current u above p i
clear_got objects B a n (Busy u) young h = record { unaborted = h.unaborted; current = h.current }
clear_got objects B a n Gone young h = record { unaborted = h.unaborted; current = h.current }

-- a child that is created is no orphan where it was none before
pub clear_create : (objects : List ObjectDecl) (B : List Deed) (b : Name) → is_top b ≡ false → NoOrphan objects B b → NoOrphan objects (Create b ∷ B) b
clear_create objects B b child h = record {
  unaborted = h.unaborted;
  current = λ u above p i. h.current u above p (subst (λ (t : Bool). In p (if t then home b ∷ deps objects B u else deps objects B u)) (ap (λ t. name_eq u b && t) child ∙ nothing (name_eq u b)) i);
}
  where
    nothing : (t : Bool) → (t && false) ≡ false
    nothing true = refl
    nothing false = refl

-- a parent that commits a child takes its pairs, which are not older where the child is no orphan
pub clear_commit : (objects : List ObjectDecl) (B : List Deed) (a b : Name) → is_ancestor b b ≡ true → NoOrphan objects B a → NoOrphan objects B b → NoOrphan objects (Commit b ∷ B) a
clear_commit objects B a b named one other = record { unaborted = one.unaborted; current = λ u above p i. by u above p (is_child u b) i }
  where
    by : (u : Name) → is_ancestor u a ≡ true → (p : ℕ × ℕ) → (t : Bool) → In p (if t then deps objects B b ++ deps objects B u else deps objects B u) → count B p.0 ≤ p.1
    by u above p true i = elim (in_append (deps objects B b) (deps objects B u) p i) [ inl l ↦ other.current b named p l | inr r ↦ one.current u above p r ]
    by u above p false i = one.current u above p i

-- an abort of a child leaves its parent
pub clear_abort : (objects : List ObjectDecl) (B : List Deed) (a b : Name) → is_child a b ≡ true → NoOrphan objects B a → NoOrphan objects (Abort b ∷ B) a
clear_abort objects B a b child h = record { unaborted = λ u above. or_from (name_eq u b) (aborted B u) (child_not_above a b u child above) (h.unaborted u above); current = h.current }
