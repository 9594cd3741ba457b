-- What is of an action or below it, one after another in the order of names.
use Rattle.std.proofs.Common.{◌≡◌, ◌⊎◌, ℕ, ◌<◌, eqb, Bool, true, false, not, ◌||◌, List, [], ◌∷◌, ◌++◌, length, Option, Some, None, refl, sym, ap, subst, ◌∙◌}
use Rattle.std.proofs.Math.Logic.{inl, inr}
use Rattle.std.specs.Prelude.{filter, IfSome, IfNone}
use Rattle.std.specs.BTreeSet.{BTreeSet, contains}
use Rattle.cam_names.specs.declared.name.Name.{Name}
use Rattle.cam_names.specs.Names.{is_ancestor}
use Rattle.cam_locks.specs.declared.LiveOp.{LiveOp}
use Rattle.cam_locks.specs.declared.placed.Placed.{Placed}
use Rattle.cam_locks.specs.Members.{In}
use Rattle.cam_locks.specs.Site.{IndicesRise}
use Rattle.cam_locks.specs.Calls.{is_below}
use Rattle.cam_locks.specs.Holding.{has_op}
use Rattle.cam_locks.specs.Restored.{in_order, EachOnce}
use Rattle.cam_locks.specs.Placed.{placed_cmp, placed_of, behind, has_placed, is_before, IsFirstFrom, IsNextBelow}
use Rattle.cam_locks.proofs.Bools.{or_parts, or_false, eqb_sym}
use Rattle.cam_locks.proofs.Indices.{rise_filter}
use Rattle.cam_locks.proofs.Members.{in_left, in_right, in_either, in_last, in_filter, in_filtered, same_op, has_member, member_at, below}
use Rattle.cam_locks.proofs.SortedOperations.{in_order_rises, rise_same, in_ordered, ordered_in}
use Rattle.cam_locks.proofs.FewerOperations.{one_shorter}
use Rattle.cam_locks.proofs.NamedOperations.{placed_in, in_placed}
use Rattle.cam_locks.proofs.PlacedOrder.{before_trans, not_before_itself, neither_before, not_behind, before_next, first_below, between}

-- What is next below an action, by the first of the set that is not before a place.
abbrev Named : BTreeSet Placed → List LiveOp → Type 0
Named set os = (p : Placed) → contains placed_cmp set p ≡ has_placed os p

-- where no place is left, none is of the action or below it
pub none_next : (set : BTreeSet Placed) (os : List LiveOp) (n : Name) (start : Placed) → Named set os → IsFirstFrom set start None → IsNextBelow os n start None
none_next set os n start named first = λ o h under. first (placed_of o) (named (placed_of o) ∙ placed_in os o h)

-- nor where the first place that is left is beyond the action
pub beyond_next : (set : BTreeSet Placed) (os : List LiveOp) (n : Name) (start p : Placed) → Named set os → is_before start (record { name = n; index = 0 }) ≡ false
    → IsFirstFrom set start (Some p) → is_ancestor n p.name ≡ false → IsNextBelow os n start None
beyond_next set os n start p named from first over = λ o h under. by_test o h under (is_before (placed_of o) start) refl
  where
    by_test : (o : LiveOp) → In o os → is_below n o ≡ true → (b : Bool) → is_before (placed_of o) start ≡ b → b ≡ true
    by_test o h under true e = refl
    by_test o h under false e =
        let least = first.2 (placed_of o) (named (placed_of o) ∙ placed_in os o h) e in
        let no : true ≡ false = sym (between n p (placed_of o) under (not_behind (record { name = n; index = 0 }) start p from first.1) least) ∙ over in cc

-- and else the operation at that place is the next one
pub some_next : (set : BTreeSet Placed) (os : List LiveOp) (next : ℕ) (n : Name) (start p : Placed) (r : Option LiveOp) → Named set os → IndicesRise 0 os next
    → IsFirstFrom set start (Some p) → is_ancestor n p.name ≡ true → IfSome r (λ o. In o os × (o.index ≡ p.index)) → IfNone r (has_op os p.index ≡ false) → IsNextBelow os n start r
some_next set os next n start p r named rise first under = by_found r
  where
    at : (o : LiveOp) × In o os × (p ≡ placed_of o)
    at = in_placed os p (sym (named p) ∙ first.0)

    by_found : (r : Option LiveOp) → IfSome r (λ o. In o os × (o.index ≡ p.index)) → IfNone r (has_op os p.index ≡ false) → IsNextBelow os n start r
    by_found None some none = let no : true ≡ false = sym (has_member os at.0 at.1) ∙ ap (has_op os) (ap (λ (q : Placed). q.index) (sym at.2)) ∙ none in cc
    by_found (Some o) some none =
        let one : at.0 ≡ o = same_op 0 os next at.0 o rise at.1 some.0 (ap (λ (q : Placed). q.index) (sym at.2) ∙ sym some.1) in
        let place : p ≡ placed_of o = at.2 ∙ ap placed_of one in (
          some.0,
          ap (λ (q : Placed). is_ancestor n q.name) (sym place) ∙ under,
          ap (λ (q : Placed). is_before q start) (sym place) ∙ first.1,
          λ x h down late. ap (is_before (placed_of x)) (sym place) ∙ first.2 (placed_of x) (named (placed_of x) ∙ placed_in os x h) late,
        )

-- where nothing is next from the action's own place on, nothing is below it
pub nothing_below : (os : List LiveOp) (n : Name) (r : Option LiveOp) → IsNextBelow os n (record { name = n; index = 0 }) r → IfNone r ((o : LiveOp) → In o os → is_below n o ≡ false)
nothing_below os n (Some p) next = tt
nothing_below os n None next = λ o h. by_test o h (is_below n o) refl
  where
    by_test : (o : LiveOp) → In o os → (b : Bool) → is_below n o ≡ b → b ≡ false
    by_test o h false e = refl
    by_test o h true e = sym (next o h e) ∙ first_below n (placed_of o) e

-- What is found below an action up to a place.
pub record IsFoundBelow (os : List LiveOp) (n : Name) (start : Placed) (found : List LiveOp) : Type 0 where
  pub from : is_before start (record { name = n; index = 0 }) ≡ false
  pub once : EachOnce found
  pub members : (o : LiveOp) → In o found → In o os × (is_below n o ≡ true) × (is_before (placed_of o) start ≡ true)
  pub all : (o : LiveOp) → In o os → is_below n o ≡ true → is_before (placed_of o) start ≡ true → In o found

-- nothing is found before the first place
pub found_none : (os : List LiveOp) (n : Name) → IsFoundBelow os n (record { name = n; index = 0 }) []
found_none os n = record {
  from = not_before_itself (record { name = n; index = 0 });
  once = tt;
  members = λ o h. absurd h;
  all = λ o h under early. let no : true ≡ false = sym early ∙ first_below n (placed_of o) under in cc;
}

has_more : (os : List LiveOp) (p : LiveOp) (i : ℕ) → has_op os i ≡ false → eqb p.index i ≡ false → has_op (os ++ p ∷ []) i ≡ false
has_more [] p i h k = ap (λ (b : Bool). b || false) k
has_more (q ∷ os) p i h k = let parts = or_parts (eqb q.index i) (has_op os i) h in or_false (eqb q.index i) (has_op (os ++ p ∷ []) i) parts.0 (has_more os p i parts.1 k)

once_more : (os : List LiveOp) (p : LiveOp) → EachOnce os → has_op os p.index ≡ false → EachOnce (os ++ p ∷ [])
once_more [] p once absent = (refl, tt)
once_more (o ∷ os) p once absent =
    let parts = or_parts (eqb o.index p.index) (has_op os p.index) absent in
    (has_more os p o.index once.0 (eqb_sym p.index o.index ∙ parts.0), once_more os p once.1 parts.1)

-- one more is found
pub found_more : (os : List LiveOp) (next : ℕ) (n : Name) (start : Placed) (found : List LiveOp) (p : LiveOp) → IndicesRise 0 os next → IsFoundBelow os n start found
    → IsNextBelow os n start (Some p) → IsFoundBelow os n (behind p) (found ++ p ∷ [])
found_more os next n start found p rise is step = record {
  from = first_below n (behind p) step.1;
  once = once_more found p is.once (absent (has_op found p.index) refl);
  members = λ o h. by_either o (in_either o found (p ∷ []) h);
  all = λ o h under early. by_test o h under early (is_before (placed_of o) start) refl;
}
  where
    absent : (b : Bool) → has_op found p.index ≡ b → b ≡ false
    absent false e = refl
    absent true e =
        let at = member_at found p.index e in
        let m = is.members at.0 at.1 in
        let one : at.0 ≡ p = same_op 0 os next at.0 p rise m.0 step.0 at.2 in
        sym m.2 ∙ ap (λ (o : LiveOp). is_before (placed_of o) start) one ∙ step.2

    not_after : (o : LiveOp) → is_before (placed_of o) start ≡ true → (b : Bool) → is_before (placed_of p) (placed_of o) ≡ b → b ≡ false
    not_after o early false e = refl
    not_after o early true e = sym (before_trans (placed_of p) (placed_of o) start e early) ∙ step.2

    by_either : (o : LiveOp) → In o found ⊎ In o (p ∷ []) → In o os × (is_below n o ≡ true) × (is_before (placed_of o) (behind p) ≡ true)
    by_either o (inl h) =
        let m = is.members o h in
        (m.0, m.1, before_next (placed_of p) (placed_of o) ∙ ap not (not_after o m.2 (is_before (placed_of p) (placed_of o)) refl))
    by_either o (inr h) =
        let one : o ≡ p = in_last o p h in (
          subst (λ (q : LiveOp). In q os) (sym one) step.0,
          ap (is_below n) one ∙ step.1,
          before_next (placed_of p) (placed_of o) ∙ ap not (ap (λ (q : LiveOp). is_before (placed_of p) (placed_of q)) one ∙ not_before_itself (placed_of p)),
        )

    no_later : (b : Bool) → not b ≡ true → b ≡ false
    no_later false h = refl
    no_later true h = cc

    by_test : (o : LiveOp) → In o os → is_below n o ≡ true → is_before (placed_of o) (behind p) ≡ true → (b : Bool) → is_before (placed_of o) start ≡ b → In o (found ++ p ∷ [])
    by_test o h under early true e = in_left o found (p ∷ []) (is.all o h under e)
    by_test o h under early false e =
        let after : is_before (placed_of p) (placed_of o) ≡ false = no_later (is_before (placed_of p) (placed_of o)) (sym (before_next (placed_of p) (placed_of o)) ∙ early) in
        let place : placed_of o ≡ placed_of p = neither_before (placed_of o) (placed_of p) (step.3 o h under e) after in
        in_right o found (p ∷ []) (inl (same_op 0 os next o p rise h step.0 (ap (λ (q : Placed). q.index) place)))

-- where no more is left, what was found is in order all that is of the action or below it
pub found_all : (os : List LiveOp) (next : ℕ) (n : Name) (start : Placed) (found : List LiveOp) → IndicesRise 0 os next → IsFoundBelow os n start found
    → IsNextBelow os n start None → in_order found ≡ filter (is_below n) os
found_all os next n start found rise is none =
    rise_same 0 0 (in_order found) (filter (is_below n) os) next next
    (in_order_rises found next is.once (λ o h. below 0 os next o rise (is.members o h).0))
    (rise_filter (is_below n) 0 os next rise)
    (λ o h. let m = is.members o (in_ordered found o h) in in_filtered (is_below n) o os m.0 m.1)
    (λ o h. let m = in_filter (is_below n) o os h in ordered_in found o (is.all o m.0 m.1 (none o m.0 m.1)))

-- what is left to be found gets less
abbrev pub late : Placed → LiveOp → Bool
late start o = not (is_before (placed_of o) start)

-- fewer are left behind one that was found
pub fewer_late : (os : List LiveOp) (n : Name) (start : Placed) (p : LiveOp) → IsNextBelow os n start (Some p) → length (filter (late (behind p)) os) < length (filter (late start) os)
fewer_late os n start p step =
    one_shorter (late start) (late (behind p)) os p weaker step.0 (ap not step.2)
    (ap not (before_next (placed_of p) (placed_of p) ∙ ap not (not_before_itself (placed_of p))))
  where
    not_after : (x : LiveOp) → is_before (placed_of x) start ≡ true → (b : Bool) → is_before (placed_of p) (placed_of x) ≡ b → not b ≡ true
    not_after x early false e = refl
    not_after x early true e = let no : true ≡ false = sym (before_trans (placed_of p) (placed_of x) start e early) ∙ step.2 in cc

    by_test : (x : LiveOp) → late (behind p) x ≡ true → (b : Bool) → is_before (placed_of x) start ≡ b → not b ≡ true
    by_test x h false e = refl
    by_test x h true e =
        let no : true ≡ false = sym h ∙ ap not (before_next (placed_of p) (placed_of x) ∙ not_after x e (is_before (placed_of p) (placed_of x)) refl) in cc

    weaker : (x : LiveOp) → late (behind p) x ≡ true → late start x ≡ true
    weaker x h = by_test x h (is_before (placed_of x) start) refl
