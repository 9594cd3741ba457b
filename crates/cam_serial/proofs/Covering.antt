-- The serial list for an action that is no orphan covers it, and that for no action each that has committed with all its ancestors.
use Rattle.std.proofs.Common.{◌≡◌, inl, inr, eqb, Bool, true, false, ◌&&◌, List, [], ◌∷◌, Some, None, refl, sym, ap, ◌∙◌, subst, arith, ℕ, ◌++◌, filter, if◌then◌else◌, ◌||◌, Option, find}
use Rattle.std.proofs.lemmas.Bool.{and_parts, and_from, true≢false, eq-eqb, or_left, or_right, eqb-true, lt-ltb}
use Rattle.std.proofs.lemmas.Option.{same_Some}
use Rattle.std.specs.List.{list_any, flat_map}
use Rattle.cam_names.proofs.Names.{name_eq_same, name_eq_refl, ancestors_any}
use Rattle.cam_names.specs.Names.{name_eq, is_ancestor, ancestors, family}
use Rattle.cam_names.specs.declared.name.Name.{Name}
use Rattle.cam_type.specs.Table.{answer_eq}
use Rattle.cam_type.specs.declared.Answer.{Answer}
use Rattle.cam_type.specs.declared.ObjectDecl.{ObjectDecl}
use Rattle.cam_know.specs.Orphans.{is_stale, least, reason_of}
use Rattle.cam_event.specs.Gained.{deps}
use Rattle.cam_event.specs.History.{count, aborted, Addressed, call_of, created, committed}
use Rattle.cam_event.specs.Live.{site_of, live}
use Rattle.cam_event.specs.Orphans.{orphan}
use Rattle.cam_event.specs.declared.Deed.{Deed}
use Rattle.cam_event.specs.declared.Deed.TheVariants.{Got}
use Rattle.cam_event.specs.declared.Operation.{Operation}
use Rattle.cam_event.specs.declared.Seen.TheVariants.{Done, Busy, Gone}
use Rattle.cam_plain.specs.Legal.{Legal}
use Rattle.cam_names.proofs.Ancestry.{all_ancestors, every_ancestor, family_is_ancestor}
use Rattle.cam_plain.proofs.Answered.{is_got, visits, got_done}
use Rattle.cam_names.proofs.Any.{any_right, any_weaker, none_found, any_every, any_filter, any_flat, filter_none}
use Rattle.cam_plain.proofs.Decided.{ancestors_committed}
use Rattle.cam_plain.proofs.Fates.{is_answer, Fate, performed_fate}
use Rattle.cam_plain.proofs.Performed.{created_named, called_created}
use Rattle.cam_type.proofs.SameAnswers.{answer_eq_refl}
use Rattle.cam_serial.proofs.Stays.{answer_stays}
use Rattle.cam_serial.proofs.Tops.{tops_have, family_top}
use Rattle.cam_serial.specs.Serial.{committed_tops, all_committed, group, serial_committed, committed_up_to, seen_by, serial_for, Covers}

-- no reason: no aborted ancestor, and no stale pair
no_reason : (counts : ℕ → ℕ) (o : Option Name) (p : Option (ℕ × ℕ)) → reason_of counts o p ≡ None → (o ≡ None) × (p ≡ None)
no_reason counts (Some u) p h = cc
no_reason counts None (Some p) h = cc
no_reason counts None None h = (refl, refl)

-- no least pair: no pair
least_none : (pairs : List (ℕ × ℕ)) → least pairs ≡ None → pairs ≡ []
least_none [] h = refl
least_none (p ∷ pairs) h = cc

-- no ancestor of an action that is no orphan was aborted
pub unaborted : (objects : List ObjectDecl) (L : List Deed) (a : Name) → orphan objects L a ≡ None → (u : Name) → is_ancestor u a ≡ true → aborted L u ≡ false
unaborted objects L a none u above =
    let parts = no_reason (count L) (find (aborted L) (ancestors a)) (least (filter (is_stale (count L)) (flat_map (deps objects L) (ancestors a)))) none in
    any_every (ancestors a) (λ v. aborted L v ≡ false) u (none_found (aborted L) (ancestors a) parts.0) (ancestors_any u a ∙ above)

-- and none depends on a node at an older count
pub unstale : (objects : List ObjectDecl) (L : List Deed) (a : Name) → orphan objects L a ≡ None → (u : Name) → is_ancestor u a ≡ true → list_any (is_stale (count L)) (deps objects L u) ≡ true → ⊥
unstale objects L a none u above some =
    let parts = no_reason (count L) (find (aborted L) (ancestors a)) (least (filter (is_stale (count L)) (flat_map (deps objects L) (ancestors a)))) none in
    let empty : list_any (is_stale (count L)) (flat_map (deps objects L) (ancestors a)) ≡ false = filter_none (is_stale (count L)) (flat_map (deps objects L) (ancestors a)) (least_none (filter (is_stale (count L)) (flat_map (deps objects L) (ancestors a))) parts.1) in
    true≢false (sym (any_flat (is_stale (count L)) (deps objects L) (name_eq u) (ancestors a) (λ x e. subst (λ y. list_any (is_stale (count L)) (deps objects L y) ≡ true) (name_eq_same u x e) some) (ancestors_any u a ∙ above)) ∙ empty)

-- the operation of an answer that an action got is live, where the action is no orphan
pub answer_live : (objects : List ObjectDecl) (L : List Deed) (a : Name) (n : ℕ) (answer : Answer) → Legal objects L → created L a ≡ true → orphan objects L a ≡ None → list_any (is_got a n answer) L ≡ true → list_any (is_answer a n answer) (live objects L) ≡ true
answer_live objects L a n answer legal there none h =
    let got = got_done objects L a n answer legal h in
    let found = performed_fate objects L a n answer legal got.0 in
    by got.1.0 found.0 (same got.1.1 found.1) got.1.2 found.2
  where
    same : {c k : Addressed} → call_of L a n ≡ Some c → call_of L a n ≡ Some k → c ≡ k
    same {c} {k} one other = same_Some c k (sym one ∙ other)

    by : (c k : Addressed) → c ≡ k → list_any (visits objects c) (deps objects L a) ≡ true → Fate objects L a n answer k → list_any (is_answer a n answer) (live objects L) ≡ true
    by c k e dep (inl y) = y
    by c k e dep (inr (inl u)) = absurd (true≢false (sym u.2 ∙ unaborted objects L a none u.0 u.1))
    by c k e dep (inr (inr late)) =
        absurd (unstale objects L a none a (created_named objects L a legal there)
        (any_weaker (visits objects k) (is_stale (count L)) (deps objects L a) stale (subst (λ x. list_any (visits objects x) (deps objects L a) ≡ true) e dep)))
      where
        stale : (p : ℕ × ℕ) → visits objects k p ≡ true → is_stale (count L) p ≡ true
        stale p v =
            let parts = and_parts (eqb p.0 (site_of objects k.object)) (eqb p.1 k.count) v in
            let site : count L p.0 ≡ count L (site_of objects k.object) = ap (count L) (eqb-true p.0 (site_of objects k.object) parts.0) in
            lt-ltb p.1 (count L p.0) (omega (arith, late, site, eqb-true p.1 k.count parts.1))

-- the operation of an answer is of the action
answer_action : (a : Name) (n : ℕ) (answer : Answer) (o : Operation) → is_answer a n answer o ≡ true → a ≡ o.action
answer_action a n answer o is = name_eq_same a o.action (and_parts (name_eq a o.action) (eqb n o.number) (and_parts (name_eq a o.action && eqb n o.number) (answer_eq answer o.answer) is).0).0

-- the operation of an answer is in the list of the committed families, where its action has committed with all its ancestors
pub answer_committed : (objects : List ObjectDecl) (L : List Deed) (a : Name) (n : ℕ) (answer : Answer) → is_ancestor a a ≡ true → all_committed L a ≡ true → list_any (is_answer a n answer) (live objects L) ≡ true → list_any (is_answer a n answer) (serial_committed objects L) ≡ true
answer_committed objects L a n answer named all h =
    any_flat (is_answer a n answer) (group objects L) (λ g. name_eq g (family a)) (committed_tops L)
    (λ g is. subst (λ f. list_any (is_answer a n answer) (group objects L f) ≡ true) (sym (name_eq_same g (family a) is)) (any_filter (is_answer a n answer) (λ o. name_eq (family a) (family o.action) && all_committed L o.action) (live objects L) of_group h))
    (tops_have L (family a) (family_top a a named) (every_ancestor (committed L) a all (family a) (family_is_ancestor a a named)))
  where
    of_group : (o : Operation) → is_answer a n answer o ≡ true → (name_eq (family a) (family o.action) && all_committed L o.action) ≡ true
    of_group o is =
        subst (λ x. (name_eq (family a) (family x) && all_committed L x) ≡ true) (answer_action a n answer o is)
        (and_from (name_eq (family a) (family a)) (all_committed L a) (name_eq_refl (family a)) all)

-- so it is in the serial list for the action
pub answer_serial : (objects : List ObjectDecl) (L : List Deed) (a : Name) (n : ℕ) (answer : Answer) → Legal objects L → created L a ≡ true → orphan objects L a ≡ None → list_any (is_answer a n answer) (live objects L) ≡ true → list_any (is_answer a n answer) (serial_for objects L a) ≡ true
answer_serial objects L a n answer legal there none h = by (committed L (family a)) refl
  where
    own : (o : Operation) → is_answer a n answer o ≡ true → (name_eq (family a) (family o.action) && committed_up_to L a o.action) ≡ true
    own o is =
        subst (λ x. (name_eq (family a) (family x) && committed_up_to L a x) ≡ true) (answer_action a n answer o is)
        (and_from (name_eq (family a) (family a)) (committed_up_to L a a) (name_eq_refl (family a)) (all_ancestors (λ u. is_ancestor u a || committed L u) a (λ u above. or_left (is_ancestor u a) (committed L u) above)))

    by : (b : Bool) → committed L (family a) ≡ b → list_any (is_answer a n answer) (if b then serial_committed objects L else serial_committed objects L ++ seen_by objects L a) ≡ true
    by true e =
        answer_committed objects L a n answer (created_named objects L a legal there)
        (all_ancestors (committed L) a (ancestors_committed objects L a legal there e (unaborted objects L a none))) h
    by false e = any_right (is_answer a n answer) (serial_committed objects L) (seen_by objects L a) (any_filter (is_answer a n answer) (λ o. name_eq (family a) (family o.action) && committed_up_to L a o.action) (live objects L) own h)

-- a list covers where it has the operation of each answer that was got
pub covers_each : (os : List Operation) (L : List Deed) (a : Name) → ((n : ℕ) (answer : Answer) → list_any (is_got a n answer) L ≡ true → list_any (is_answer a n answer) os ≡ true) → Covers os L a
covers_each os [] a each = tt
covers_each os (Got b m (Done answer) ∷ L) a each = (
  λ e. each m answer (or_left ((name_eq a b && eqb m m) && answer_eq answer answer) (list_any (is_got a m answer) L) (and_from (name_eq a b && eqb m m) (answer_eq answer answer) (and_from (name_eq a b) (eqb m m) e (eq-eqb m m refl)) (answer_eq_refl answer))),
  covers_each os L a (λ n other h. each n other (or_right (is_got a n other (Got b m (Done answer))) (list_any (is_got a n other) L) h)),
)
covers_each os (Got b m (Busy u) ∷ L) a each = covers_each os L a (λ n other h. each n other (or_right (is_got a n other (Got b m (Busy u))) (list_any (is_got a n other) L) h))
covers_each os (Got b m Gone ∷ L) a each = covers_each os L a (λ n other h. each n other (or_right (is_got a n other (Got b m Gone)) (list_any (is_got a n other) L) h))
covers_each os (_ ∷ L) a each = covers_each os L a each

-- The list for an action that was created and is no orphan covers it.
pub serial_for_covers : (objects : List ObjectDecl) (L : List Deed) (a : Name) → Legal objects L → created L a ≡ true → orphan objects L a ≡ None → Covers (serial_for objects L a) L a
serial_for_covers objects L a legal there none =
    covers_each (serial_for objects L a) L a (λ n answer h. answer_serial objects L a n answer legal there none (answer_live objects L a n answer legal there none h))

-- The list for no action covers each action that has committed with all its ancestors.
pub committed_covers : (objects : List ObjectDecl) (L : List Deed) (a : Name) → Legal objects L → all_committed L a ≡ true → Covers (serial_committed objects L) L a
committed_covers objects L a legal all = covers_each (serial_committed objects L) L a each
  where
    each : (n : ℕ) (answer : Answer) → list_any (is_got a n answer) L ≡ true → list_any (is_answer a n answer) (serial_committed objects L) ≡ true
    each n answer h =
        let got = got_done objects L a n answer legal h in
        let named : is_ancestor a a ≡ true = created_named objects L a legal (called_created objects L a n got.1.0 legal got.1.1) in
        answer_committed objects L a n answer named all (answer_stays objects L a n answer legal h (every_ancestor (committed L) a all))
