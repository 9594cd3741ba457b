-- An action against whose request nothing stands may go, where it was not stopped.
use Rattle.std.proofs.Common.{◌≡◌, inl, inr, ℕ, suc, ◌≤◌, eqb, Bool, true, false, not, ◌&&◌, ◌||◌}
use Rattle.std.proofs.Common.{List, [], ◌∷◌, map, Option, Some, None, refl, sym, ap, ◌∙◌}
use Rattle.std.proofs.Common.{arith, eq-eqb}
use Rattle.std.specs.Prelude.{nat_lt}
use Rattle.std.specs.List.{list_any}
use Rattle.std.proofs.lemmas.Bool.{ltb-false, true≢false, or_parts, cases_Bool}
use Rattle.std.proofs.lemmas.Bool.Decides.{leb_tells}
use Rattle.cam_names.specs.declared.name.Name.{Name}
use Rattle.cam_names.specs.Names.{name_eq, home_node, home_count}
use Rattle.cam_names.proofs.Names.{name_eq_same}
use Rattle.cam_event.specs.declared.Deed.{Deed}
use Rattle.cam_event.specs.declared.Deed.TheVariants.{Create}
use Rattle.cam_event.specs.declared.LineRefusal.{LineRefusal}
use Rattle.cam_event.specs.declared.Want.{Want}
use Rattle.cam_event.specs.declared.Want.TheVariants as wants
use Rattle.cam_event.specs.History.{count, created, ended, is_open_child}
use Rattle.cam_event.specs.Refusals.{first_of_two, where_so, refusal}
use Rattle.cam_event.specs.Carried.{deeds_of}
use Rattle.cam_event.specs.ByDeltas.{Received, as_carried}
use Rattle.cam_tranman.specs.Actions.{MayRunHere}
use Rattle.cam_tranman.specs.Orderly.{is_of_later}
use Rattle.cam_node.specs.Halting.{IsThrough}
use Rattle.cam_node.proofs.Orderly.{through_orderly}
use Rattle.cam_runs.specs.Playing.{may_go, is_stop_of}
use Rattle.cam_runs.specs.Running.{start}
use Rattle.cam_gen.specs.Storms.{Words, objects_of}
use Rattle.cam_storm.specs.Own.{event_in, sight_at}

-- the tests of a refusal that does not stand
where_none : (b : Bool) (r : LineRefusal) → where_so b r ≡ None → b ≡ false
where_none true r e = cc
where_none false r e = refl

first_none : (o p : Option LineRefusal) → first_of_two o p ≡ None → (o ≡ None) × (p ≡ None)
first_none (Some r) p e = cc
first_none None p e = (refl, e)

not_false : (b : Bool) → not b ≡ false → b ≡ true
not_false true e = refl
not_false false e = cc

-- an action against whose request nothing stands runs at its home
pub record RunsAt (L : List Deed) (s : ℕ) (a : Name) : Type 0 where
  pub is_created : created L a ≡ true
  pub not_ended : (ended L a || nat_lt (home_count a) (count L s)) ≡ false

module _ (words : Words) (s : ℕ) (own : List Received) where
  abbrev L : List Deed
  L = deeds_of (map as_carried own)

  pub free_runs : (a : Name) (want : Want) → refusal (sight_at words s own) a want ≡ None
      → RunsAt L s a
  free_runs a (wants.Ask m) e =
      let one = first_none _ _ e in let two = first_none _ _ one.1 in
      let three = first_none _ _ two.1 in record {
        is_created = not_false (created L a) (where_none _ _ three.0);
        not_ended = where_none _ _ one.0;
      }
  free_runs a (wants.Call x op) e =
      let one = first_none _ _ e in let two = first_none _ _ one.1 in
      let three = first_none _ _ two.1 in record {
        is_created = not_false (created L a) (where_none _ _ three.1);
        not_ended = where_none _ _ one.0;
      }
  free_runs a (wants.Commit v) e =
      let one = first_none _ _ e in let two = first_none _ _ one.1 in
      let three = first_none _ _ two.1 in record {
        is_created = not_false (created L a) (where_none _ _ three.1);
        not_ended = where_none _ _ one.0;
      }
  free_runs a wants.Abort e =
      let one = first_none _ _ e in record {
        is_created = not_false (created L a) (where_none _ _ one.1);
        not_ended = where_none _ _ one.0;
      }
  free_runs a (wants.GiveUp b) e =
      let one = first_none _ _ e in
      let parts = or_parts (not (created L a)) (not (is_open_child L a b)) (where_none _ _ one.1) in
      record {
        is_created = not_false (created L a) parts.0;
        not_ended = where_none _ _ one.0;
      }

-- what was created at a node is of no later count than the present one
first_and : (b c : Bool) → b ≡ true → (b && c) ≡ false → c ≡ false
first_and b c holds fails = sym (ap (λ x. x && c) holds) ∙ fails

pub created_early : (s c : ℕ) (a : Name) (L : List Deed) → list_any (is_of_later s c) L ≡ false
    → created L a ≡ true → home_node a ≡ s → nat_lt c (home_count a) ≡ false
created_early s c a [] none is home = absurd (true≢false (sym is))
created_early s c a (Create b ∷ L) none is home =
    let parts = or_parts (is_of_later s c (Create b)) (list_any (is_of_later s c) L) none in
    elim (cases_Bool (name_eq a b)) [
      | inl same ↦
          let is_b = name_eq_same a b same in
          let here : eqb (home_node b) s ≡ true =
          eq-eqb (home_node b) s (sym (ap home_node is_b) ∙ home) in
          ap (λ x. nat_lt c (home_count x)) is_b
          ∙ first_and (eqb (home_node b) s) (nat_lt c (home_count b)) here parts.0
      | inr other ↦
          created_early s c a L parts.1 (sym (ap (λ x. x || created L a) other) ∙ is) home
    ]
created_early s c a (d ∷ L) none is home =
    created_early s c a L (or_parts (is_of_later s c d) (list_any (is_of_later s c) L) none).1 is
    home

and_four : (b c d e : Bool) → b ≡ true → c ≡ true → d ≡ true → e ≡ true
    → (b && c && d && e) ≡ true
and_four b c d e p q r t = λ i. p i && q i && r i && t i

-- so an action that runs at its home, and was not stopped there, may go
pub may_of : (words : Words) (s : ℕ) (own : List Received) (a : Name)
    → IsThrough (objects_of words) s own → home_node a ≡ s
    → RunsAt (deeds_of (map as_carried own)) s a
    → list_any (is_stop_of a) (map event_in own) ≡ false
    → may_go (sight_at words s own) (record start { trace = map event_in own }) a ≡ true
may_of words s own a through home runs free =
    and_four (created L a) (not (ended L a)) (eqb (home_count a) (count L s))
    (not (list_any (is_stop_of a) (map event_in own))) runs.is_created (ap not parts.0) present
    (ap not free)
  where
    L : List Deed
    L = deeds_of (map as_carried own)

    parts : (ended L a ≡ false) × (nat_lt (home_count a) (count L s) ≡ false)
    parts = or_parts (ended L a) (nat_lt (home_count a) (count L s)) runs.not_ended

    early : nat_lt (count L s) (home_count a) ≡ false
    early =
        created_early s (count L s) a L (through_orderly (objects_of words) s own through).reached
        runs.is_created home

    no_less : (m n : ℕ) → nat_lt m n ≡ false → n ≤ m
    no_less m n h = elim (leb_tells (suc m) n) [
      | inl l ↦ absurd (true≢false (sym l.0 ∙ h))
      | inr r ↦ let more = r.1 in omega (arith, more)
    ]

    present : eqb (home_count a) (count L s) ≡ true
    present =
        let low = no_less (home_count a) (count L s) parts.1 in
        let high = no_less (count L s) (home_count a) early in
        eq-eqb (home_count a) (count L s) (omega (arith, low, high))

-- it may run at its home
pub may_run : (words : Words) (s : ℕ) (own : List Received) (a : Name) (want : Want)
    → home_node a ≡ s → refusal (sight_at words s own) a want ≡ None
    → MayRunHere (deeds_of (map as_carried own)) s a
may_run words s own a want home allowed = (
  home,
  ltb-false (home_count a) (count (deeds_of (map as_carried own)) s)
      (or_parts _ _ (free_runs words s own a want allowed).not_ended).1,
)
