-- The serial lists of a legal history replay.
use Rattle.std.proofs.Common.{◌≡◌, inl, inr, eqb, Bool, true, false, ◌&&◌, List, [], ◌∷◌, refl, sym, ◌∙◌, subst, ◌++◌, filter, if◌then◌else◌, ◌||◌}
use Rattle.std.proofs.lemmas.Bool.{and_parts, and_from, cases_Bool, true≢false, eq-eqb, or_cases, or_left, or_right, eqb-true}
use Rattle.std.proofs.lemmas.List.{append-nil}
use Rattle.std.proofs.lemmas.List.Concat.{flat_map-append}
use Rattle.std.specs.List.{flat_map}
use Rattle.cam_names.proofs.Names.{name_eq_same}
use Rattle.cam_names.specs.Names.{name_eq, is_ancestor, family}
use Rattle.cam_names.specs.declared.name.Name.{Name}
use Rattle.cam_type.specs.Table.{mode_of, compatible}
use Rattle.cam_type.specs.declared.ObjectDecl.{ObjectDecl}
use Rattle.cam_event.proofs.Snoc.{filter_filter, filter_same}
use Rattle.cam_event.specs.History.{committed}
use Rattle.cam_event.specs.Live.{site_of, live, start_of}
use Rattle.cam_event.specs.declared.Deed.{Deed}
use Rattle.cam_event.specs.declared.Operation.{Operation}
use Rattle.cam_plain.specs.Legal.{Legal}
use Rattle.cam_names.proofs.Ancestry.{family_is_ancestor, all_ancestors, every_ancestor}
use Rattle.cam_plain.proofs.Conflicts.{NotInTheWay, Apart}
use Rattle.cam_plain.proofs.Deciding.{informed_committed}
use Rattle.cam_names.proofs.Every.{Pairs, every_any, every_weaker, pairs_weaker, every_both, pairs_filter, pairs_both, pairs_first, pairs_second}
use Rattle.cam_plain.proofs.Performed.{Performed, performed, performed_named}
use Rattle.cam_serial.proofs.CommitOrder.{Ordered, ordered, swaps_free, first_free, same_free}
use Rattle.cam_event.proofs.LiveLaws.{and_comm}
use Rattle.cam_serial.proofs.OwnGroups.{flat_map_same, not_stands_every, committed_group_test, own_group_test}
use Rattle.cam_serial.proofs.Sequences.{ReplaysFrom, replays_after}
use Rattle.cam_serial.proofs.Sorting.{FreeOrder, in_family, compatible_swaps, sorted}
use Rattle.cam_serial.proofs.Tops.{tops_have, family_top, comes_first, comes_first_append, comes_first_new, stands_in, tops_distinct, tops_and, not_committed_not_in, different}
use Rattle.cam_serial.proofs.Visible.{every_ancestor_committed, Chosen, IsVisible, Fits, fits, visible_replays}
use Rattle.cam_serial.specs.Serial.{committed_tops, all_committed, group, serial_committed, committed_up_to, seen_by, serial_for, Replays}

-- Chosen operations are in free order in a list of families, where those that clash and are of two families have theirs in order there.
free_pairs :
    (objects : List ObjectDecl) (L : List Deed) (hs : List Name) (choice : Operation → Bool) → Legal objects L
    → ((o p : Operation) → Performed objects L o → choice o ≡ true → choice p ≡ true → o.object ≡ p.object → compatible (mode_of o.op) (mode_of p.op) ≡ false → name_eq (family o.action) (family p.action) ≡ false → NotInTheWay objects L o p → Ordered objects L o p → comes_first (family o.action) (family p.action) hs ≡ true)
    → Pairs (FreeOrder objects hs) (filter choice (live objects L))
free_pairs objects L hs choice legal first =
    pairs_filter choice (FreeOrder objects hs) (live objects L)
    (pairs_weaker (λ o p. (((Fits objects o × Performed objects L o) × Fits objects p)) × (Apart objects L o p × Ordered objects L o p)) (λ o p. choice o ≡ true → choice p ≡ true → FreeOrder objects hs o p) (live objects L) free
    (pairs_both (λ o p. (Fits objects o × Performed objects L o) × Fits objects p) (λ o p. Apart objects L o p × Ordered objects L o p) (live objects L)
    (pairs_both (λ o p. Fits objects o × Performed objects L o) (λ o p. Fits objects p) (live objects L)
    (pairs_first (λ o. Fits objects o × Performed objects L o) (live objects L) (every_both (Fits objects) (Performed objects L) (live objects L) (fits objects L legal) (performed objects L legal)))
    (pairs_second (Fits objects) (live objects L) (fits objects L legal)))
    (ordered objects L legal)))
  where
    free : (o p : Operation) → ((Fits objects o × Performed objects L o) × Fits objects p) × (Apart objects L o p × Ordered objects L o p) → choice o ≡ true → choice p ≡ true → FreeOrder objects hs o p
    free o p h one two =
        elim (cases_Bool (eqb o.object p.object)) [
          | inr away ↦ swaps_free objects hs o p (λ same. absurd (true≢false (sym (eq-eqb o.object p.object same) ∙ away)))
          | inl here ↦
              let same : o.object ≡ p.object = eqb-true o.object p.object here in
              elim (cases_Bool (compatible (mode_of o.op) (mode_of p.op))) [
                | inl y ↦ swaps_free objects hs o p (compatible_swaps objects o p h.0.0.0 h.0.1 y)
                | inr clash ↦ elim (cases_Bool (name_eq (family o.action) (family p.action))) [
                  | inl kin ↦ same_free objects hs o p (name_eq_same (family o.action) (family p.action) kin)
                  | inr other ↦ first_free objects hs o p (first o p h.0.0.1 one two same clash other (h.1.0 same clash) h.1.1)
                ]
              ]
        ]

-- the operations whose ancestors have all committed have all that they saw
committed_visible : (objects : List ObjectDecl) (L : List Deed) → Legal objects L → IsVisible objects L (λ o. all_committed L o.action)
committed_visible objects L legal = every_any (Chosen objects L (λ o. all_committed L o.action)) (live objects L) chosen
  where
    chosen : (o : Operation) → Chosen objects L (λ o. all_committed L o.action) o
    chosen o p all same free = all_ancestors (committed L) o.action (λ u above. elim (cases_Bool (is_ancestor u p.action)) [
      | inl y ↦ every_ancestor (committed L) p.action all u y
      | inr n ↦ informed_committed objects L (site_of objects o.object) u legal (free u above n)
    ])

-- the groups of the committed families, one after another, replay
committed_from : (objects : List ObjectDecl) (L : List Deed) → Legal objects L → ReplaysFrom (start_of objects) (serial_committed objects L)
committed_from objects L legal =
    subst (ReplaysFrom (start_of objects)) groups
    (sorted objects (committed_tops L) (filter (λ o. all_committed L o.action) (live objects L)) (start_of objects) (λ x. refl) (tops_distinct objects L legal)
    (free_pairs objects L (committed_tops L) (λ o. all_committed L o.action) legal (λ o p facts one two same clash other free order. order same clash other (every_ancestor (committed L) p.action two)))
    (visible_replays objects L (λ o. all_committed L o.action) legal (committed_visible objects L legal)))
  where
    groups : flat_map (λ f. filter (in_family f) (filter (λ o. all_committed L o.action) (live objects L))) (committed_tops L) ≡ serial_committed objects L
    groups = flat_map_same (λ f. filter (in_family f) (filter (λ o. all_committed L o.action) (live objects L))) (group objects L) (committed_tops L)
        (every_any (λ f. filter (in_family f) (filter (λ o. all_committed L o.action) (live objects L)) ≡ group objects L f) (committed_tops L)
        (λ f. filter_filter (in_family f) (λ o. all_committed L o.action) (live objects L)
        ∙ filter_same (λ o. all_committed L o.action && in_family f o) (λ o. in_family f o && all_committed L o.action) (live objects L) (λ o. and_comm (all_committed L o.action) (in_family f o))))

-- Committed top actions replay, one after another in order of their Commits.
pub committed_replays : (objects : List ObjectDecl) (L : List Deed) → Legal objects L → Replays objects (serial_committed objects L)
committed_replays objects L legal = replays_after objects (serial_committed objects L) [] (committed_from objects L legal)

-- what an action may see: what has committed up to the top, and of its own family what has committed up to an ancestor of it
abbrev pub may_see : List Deed → Name → Operation → Bool
may_see L a o = all_committed L o.action || (in_family (family a) o && committed_up_to L a o.action)

-- it has all that its operations saw
seen_visible : (objects : List ObjectDecl) (L : List Deed) (a : Name) → Legal objects L → IsVisible objects L (may_see L a)
seen_visible objects L a legal = every_any (Chosen objects L (may_see L a)) (live objects L) chosen
  where
    of_committed : (o p : Operation) → NotInTheWay objects L o p → all_committed L p.action ≡ true → all_committed L o.action ≡ true
    of_committed o p free all = all_ancestors (committed L) o.action (λ u above. elim (cases_Bool (is_ancestor u p.action)) [
      | inl y ↦ every_ancestor (committed L) p.action all u y
      | inr n ↦ informed_committed objects L (site_of objects o.object) u legal (free u above n)
    ])

    of_own : (o p : Operation) → NotInTheWay objects L o p → in_family (family a) p ≡ true → committed_up_to L a p.action ≡ true → may_see L a o ≡ true
    of_own o p free own up = elim (cases_Bool (in_family (family a) o)) [
      | inl y ↦ or_right (all_committed L o.action) (in_family (family a) o && committed_up_to L a o.action) (and_from (in_family (family a) o) (committed_up_to L a o.action) y
          (all_ancestors (λ u. is_ancestor u a || committed L u) o.action (λ u above. elim (cases_Bool (is_ancestor u p.action)) [
            | inl t ↦ every_ancestor (λ u. is_ancestor u a || committed L u) p.action up u t
            | inr n ↦ or_right (is_ancestor u a) (committed L u) (informed_committed objects L (site_of objects o.object) u legal (free u above n))
          ])))
      | inr n ↦ or_left (all_committed L o.action) (in_family (family a) o && committed_up_to L a o.action) (all_ancestors (committed L) o.action (every_ancestor_committed objects L o p legal free
          (λ e. true≢false (sym (subst (λ f. name_eq (family a) f ≡ true) (sym e) own) ∙ n))))
    ]

    chosen : (o : Operation) → Chosen objects L (may_see L a) o
    chosen o p shown same free = elim (or_cases (all_committed L p.action) (in_family (family a) p && committed_up_to L a p.action) shown) [
      | inl all ↦ or_left (all_committed L o.action) (in_family (family a) o && committed_up_to L a o.action) (of_committed o p free all)
      | inr own ↦ let parts = and_parts (in_family (family a) p) (committed_up_to L a p.action) own in of_own o p free parts.0 parts.1
    ]

-- after the committed families an action's own, as far as it may see it
seen_from : (objects : List ObjectDecl) (L : List Deed) (a : Name) → Legal objects L → committed L (family a) ≡ false → ReplaysFrom (start_of objects) (serial_committed objects L ++ seen_by objects L a)
seen_from objects L a legal open_one =
    subst (ReplaysFrom (start_of objects)) groups
    (sorted objects (committed_tops L ++ family a ∷ []) (filter (may_see L a) (live objects L)) (start_of objects) (λ x. refl) (tops_and objects L (family a) legal open_one)
    (free_pairs objects L (committed_tops L ++ family a ∷ []) (may_see L a) legal (λ o p facts one two same clash other free order. comes_first_append (family o.action) (family p.action) (committed_tops L) (family a ∷ []) (first o p facts two same clash other free order)))
    (visible_replays objects L (may_see L a) legal (seen_visible objects L a legal)))
  where
    first : (o p : Operation) → Performed objects L o → may_see L a p ≡ true → o.object ≡ p.object → compatible (mode_of o.op) (mode_of p.op) ≡ false → name_eq (family o.action) (family p.action) ≡ false → NotInTheWay objects L o p → Ordered objects L o p → comes_first (family o.action) (family p.action) (committed_tops L) ≡ true
    first o p facts shown same clash other free order = elim (or_cases (all_committed L p.action) (in_family (family a) p && committed_up_to L a p.action) shown) [
      | inl all ↦ order same clash other (every_ancestor (committed L) p.action all)
      | inr own ↦
          let kin : family a ≡ family p.action = name_eq_same (family a) (family p.action) (and_parts (in_family (family a) p) (committed_up_to L a p.action) own).0 in
          let named : is_ancestor o.action o.action ≡ true = performed_named objects L o legal facts in
          comes_first_new (family o.action) (family p.action) (committed_tops L)
          (tops_have L (family o.action) (family_top o.action o.action named) (every_ancestor_committed objects L o p legal free (different (family o.action) (family p.action) other) (family o.action) (family_is_ancestor o.action o.action named)))
          (subst (λ f. stands_in f (committed_tops L) ≡ false) kin (not_committed_not_in L (family a) open_one))
    ]

    groups : flat_map (λ f. filter (in_family f) (filter (may_see L a) (live objects L))) (committed_tops L ++ family a ∷ []) ≡ serial_committed objects L ++ seen_by objects L a
    groups =
        flat_map-append (λ f. filter (in_family f) (filter (may_see L a) (live objects L))) (committed_tops L) (family a ∷ [])
        ∙ (λ i. flat_map_same (λ f. filter (in_family f) (filter (may_see L a) (live objects L))) (group objects L) (committed_tops L)
        (every_weaker (λ h. name_eq h (family a) ≡ false) (λ h. filter (in_family h) (filter (may_see L a) (live objects L)) ≡ group objects L h) (committed_tops L) one_group (not_stands_every (family a) (committed_tops L) (not_committed_not_in L (family a) open_one))) i
        ++ (append-nil (filter (in_family (family a)) (filter (may_see L a) (live objects L))) ∙ own_group) i)
      where
        one_group : (h : Name) → name_eq h (family a) ≡ false → filter (in_family h) (filter (may_see L a) (live objects L)) ≡ group objects L h
        one_group h n =
            filter_filter (in_family h) (may_see L a) (live objects L)
            ∙ filter_same (λ o. may_see L a o && in_family h o) (λ o. in_family h o && all_committed L o.action) (live objects L)
            (λ o. committed_group_test (all_committed L o.action) (in_family (family a) o) (committed_up_to L a o.action) (in_family h o)
            (λ there. elim (cases_Bool (in_family (family a) o)) [
              | inr no_kin ↦ no_kin
              | inl kin ↦ absurd (true≢false (sym (subst (λ x. name_eq h x ≡ true) (sym (name_eq_same (family a) (family o.action) kin)) there) ∙ n))
            ]))

        own_group : filter (in_family (family a)) (filter (may_see L a) (live objects L)) ≡ seen_by objects L a
        own_group =
            filter_filter (in_family (family a)) (may_see L a) (live objects L)
            ∙ filter_same (λ o. may_see L a o && in_family (family a) o) (λ o. in_family (family a) o && committed_up_to L a o.action) (live objects L)
            (λ o. own_group_test (all_committed L o.action) (in_family (family a) o) (committed_up_to L a o.action)
            (λ all. all_ancestors (λ u. is_ancestor u a || committed L u) o.action (λ u above. or_right (is_ancestor u a) (committed L u) (every_ancestor (committed L) o.action all u above))))

-- The list for any action replays, orphan or not.
pub serial_for_replays : (objects : List ObjectDecl) (L : List Deed) (a : Name) → Legal objects L → Replays objects (serial_for objects L a)
serial_for_replays objects L a legal =
    by (committed L (family a)) refl
  where
    by : (b : Bool) → committed L (family a) ≡ b → Replays objects (if b then serial_committed objects L else serial_committed objects L ++ seen_by objects L a)
    by true e = replays_after objects (serial_committed objects L) [] (committed_from objects L legal)
    by false e = replays_after objects (serial_committed objects L ++ seen_by objects L a) [] (seen_from objects L a legal e)
