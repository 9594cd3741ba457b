-- What a node holds covers what it goes by, after one more event.
use Rattle.std.proofs.Common.{◌≡◌, inl, inr, ℕ, ◌≤◌, Bool, true, false, if◌then◌else◌, List, [], ◌∷◌, length, sym, ap, ◌∙◌, subst, arith}
use Rattle.std.specs.Prelude.{flat_map}
use Rattle.cam_names.specs.declared.name.Name.{Name}
use Rattle.cam_names.specs.Names.{name_eq, is_top, is_child, home_count}
use Rattle.cam_names.specs.Dependencies.{as_counts, pairs_of}
use Rattle.cam_type.specs.declared.ObjectDecl.{ObjectDecl}
use Rattle.cam_type.specs.declared.Op.{Op}
use Rattle.cam_know.specs.declared.Outcome.TheVariants.{Committed}
use Rattle.cam_know.specs.Knowledge.{Knowledge}
use Rattle.cam_know.specs.Known.{known_count, both}
use Rattle.cam_know.specs.Order.{told_in_order}
use Rattle.cam_know.proofs.JoinLaws.{join_knows_at_least}
use Rattle.cam_event.specs.declared.Seen.TheVariants as seens
use Rattle.cam_event.specs.declared.Deed.{Deed}
use Rattle.cam_event.specs.declared.Deed.TheVariants.{Create, Ask, Call, Perform, Bounce, Got, AskCommit, AskAbort, Commit, Abort, Secure, Inform, Crash}
use Rattle.cam_event.specs.History.{after, count, call_of}
use Rattle.cam_event.specs.Gained.{home, visited}
use Rattle.cam_event.specs.Live.{site_of}
use Rattle.cam_event.specs.Sights.{Sight, present}
use Rattle.cam_event.specs.ByKnowledge.{start_counts, finish_counts, gained_by, own_pairs, commit_counts, learned_by, held}
use Rattle.cam_event.specs.Carried.{Carried, deeds_of}
use Rattle.cam_event.specs.Loads.{Load}
use Rattle.cam_event.proofs.Members.{In, in_append, in_after}
use Rattle.cam_cut.proofs.DepsFacts.{in_visited}
use Rattle.cam_cut.proofs.LegalFacts.{call_in}
use Rattle.cam_cut.proofs.Lists.{flat_in}
use Rattle.cam_cut.proofs.Pairs.{pairs_in}
use Rattle.cam_agree.proofs.DepsLearned.{in_both_known, learned}
use Rattle.cam_node.proofs.KnownDeeds.{IsKnownDeed}
use Rattle.cam_node.proofs.Covered.{Covers, IsCovered, Brings, learned_grow, learned_long, greater_long, start_known, finish_known, outcome_known}

-- One more event, of these deeds, for which this letter came. The rule goes by g.
pub covers_more : (objects : List ObjectDecl) (s : ℕ) (own : List Carried) (c : Carried)
    (load : Load) (g : Sight) → g.node ≡ s → present g ≡ count (deeds_of own) s
    → ((n : ℕ) → g.known_count n
    ≡ known_count (both (held objects own) (told_in_order load.know)) n)
    → c.brought ≡ told_in_order load.know → Brings objects s c.mail load
    → ((d : Deed) → In d c.event.deeds → IsKnownDeed objects g d)
    → count (after (deeds_of own) c.event.deeds) s
    ≤ known_count (held objects (c ∷ own)) s → IsCovered objects s own
    → IsCovered objects s (c ∷ own)
covers_more objects s own c load g here now known_is brought_is comes deed_is counted was =
    record { long = long; present = counted; calls = calls; pairs = pairs; outcomes = outcomes }
  where
    brought : Knowledge
    brought = c.brought

    ds : List Deed
    ds = c.event.deeds

    held_before : Knowledge
    held_before = held objects own

    with_brought : Knowledge
    with_brought = both held_before brought

    held_after : Knowledge
    held_after = learned_by objects own c.mail with_brought ds

    from_old : (p : ℕ × ℕ) → Covers held_before p → Covers held_after p
    from_old p h =
        let one = (join_knows_at_least held_before brought).0.counts p.0 in
        let more = learned_grow objects own c.mail with_brought ds p.0 in
        omega (arith, h, one, more)

    from_letter : (p : ℕ × ℕ) → Covers load.know p → Covers held_after p
    from_letter p h =
        let one = (join_knows_at_least held_before brought).1.counts p.0 in
        let more = learned_grow objects own c.mail with_brought ds p.0 in
        let same : known_count brought p.0 ≡ known_count load.know p.0 =
        ap (λ (k : Knowledge). known_count k p.0) brought_is in
        omega (arith, h, one, more, same)

    long : 8 ≤ length held_after.counts
    long =
        learned_long objects own c.mail with_brought ds
        (greater_long held_before.counts brought.counts was.long)

    created : (b : Name) → IsKnownDeed objects g (Create b) → Covers held_after (home b)
    created b is =
        let count_is : home_count b ≡ count (deeds_of own) s = is.1 ∙ now in
        let known = was.present in
        subst (λ (m : ℕ). home_count b ≤ known_count held_after m) (sym (is.0 ∙ here))
        (from_old (s, home_count b) (omega (arith, count_is, known)))

    gained : (a : Name) (p : ℕ × ℕ) (d : Deed) → IsKnownDeed objects g d
        → In p (gained_by objects (deeds_of own) c.mail a d) → Covers held_after p
    gained a p (Create b) is i = by_name (name_eq a b) i
      where
        by_name : (t : Bool)
            → In p (if t then home b ∷ pairs_of (start_counts c.mail) else [])
            → Covers held_after p
        by_name true (inl same) = subst (Covers held_after) (sym same) (created b is)
        by_name true (inr j) = from_letter p (start_known objects s c.mail load p comes j)
        by_name false j = absurd j
    gained a p (Got b k (seens.Done answer)) is i = by_name (name_eq a b) i
      where
        by_name : (t : Bool)
            → In p (if t then visited objects (call_of (deeds_of own) b k) else [])
            → Covers held_after p
        by_name true j =
            let seen = in_visited objects (call_of (deeds_of own) b k) p j in
            let call = call_in (deeds_of own) b k seen.0 seen.1 in
            subst (Covers held_after) (sym seen.2)
            (from_old (site_of objects seen.0.object, seen.0.count)
            (was.calls b k seen.0.object seen.0.op seen.0.count call))
        by_name false j = absurd j
    gained a p (Commit b) is i = by_child (is_child a b) i
      where
        by_child : (t : Bool) → In p (if t then pairs_of (finish_counts c.mail) else [])
            → Covers held_after p
        by_child true j = from_letter p (finish_known objects s c.mail load p comes j)
        by_child false j = absurd j
    gained a p (Got b k (seens.Busy u)) is i = absurd i
    gained a p (Got b k seens.Gone) is i = absurd i
    gained a p (Ask q b) is i = absurd i
    gained a p (Call b k x op n) is i = absurd i
    gained a p (Perform b k answer) is i = absurd i
    gained a p (Bounce b k u) is i = absurd i
    gained a p (AskCommit b v) is i = absurd i
    gained a p (AskAbort b) is i = absurd i
    gained a p (Abort b) is i = absurd i
    gained a p (Secure f m n) is i = absurd i
    gained a p (Inform m b o) is i = absurd i
    gained a p (Crash m) is i = absurd i

    pairs : (a : Name) (p : ℕ × ℕ) → In p (own_pairs objects (c ∷ own) a) → Covers held_after p
    pairs a p i =
        elim (in_append (flat_map (gained_by objects (deeds_of own) c.mail a) ds)
        (own_pairs objects own a) p i) [
          | inl new ↦
              let found = flat_in (gained_by objects (deeds_of own) c.mail a) ds p new in
              gained a p found.0 (deed_is found.0 found.1) found.2
          | inr old ↦ from_old p (was.pairs a p old)
        ]

    committed : (a : Name) (p : ℕ × ℕ)
        → In p (pairs_of (commit_counts objects own c.mail a)) → Covers held_after p
    committed a p i = by (is_top a) i
      where
        by : (t : Bool)
            → In p
            (pairs_of (if t then as_counts (own_pairs objects own a) else finish_counts c.mail))
            → Covers held_after p
        by true j = from_old p (was.pairs a p (pairs_in (own_pairs objects own a) p j))
        by false j = from_letter p (finish_known objects s c.mail load p comes j)

    outcomes : (a : Name) (counts : List ℕ) (p : ℕ × ℕ)
        → In (Committed a counts) held_after.outcomes → In p (pairs_of counts)
        → Covers held_after p
    outcomes a counts p there i =
        elim (learned objects own c.mail with_brought ds a counts there) [
          | inl before ↦
              elim (in_both_known held_before brought (Committed a counts) before) [
                | inl old ↦ from_old p (was.outcomes a counts p old i)
                | inr new ↦
                    from_letter p
                    (outcome_known objects s c.mail load a counts p comes
                    (subst (λ (k : Knowledge). In (Committed a counts) k.outcomes) brought_is new) i)
              ]
          | inr own_one ↦
              committed a p (subst (λ (cs : List ℕ). In p (pairs_of cs)) own_one.1 i)
        ]

    calls : (a : Name) (k x : ℕ) (op : Op) (n : ℕ)
        → In (Call a k x op n) (after (deeds_of own) ds)
        → n ≤ known_count held_after (site_of objects x)
    calls a k x op n i =
        elim (in_after ds (deeds_of own) (Call a k x op n) i) [
          | inl new ↦
              let is = deed_is (Call a k x op n) new in
              let known : g.known_count (site_of objects x)
              ≡ known_count with_brought (site_of objects x) =
              known_is (site_of objects x)
              ∙ ap (λ (l : Knowledge). known_count (both held_before l) (site_of objects x))
              (sym brought_is) in
              let more = learned_grow objects own c.mail with_brought ds (site_of objects x) in
              omega (arith, is, known, more)
          | inr old ↦ from_old (site_of objects x, n) (was.calls a k x op n old)
        ]
