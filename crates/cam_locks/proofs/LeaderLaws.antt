-- What is kept of the holders of one mode on an object, through each call.
use Rattle.std.proofs.Common.{◌≡◌, ℕ, ◌+◌, ◌-◌, ◌≤◌, ◌<◌, eqb, Bool, true, false, ◌&&◌, ◌||◌, cond, List, [], ◌∷◌, ◌++◌, length, Option, Some, None, refl, sym, ap, ◌∙◌, arith}
use Rattle.std.proofs.Math.Logic.{inl, inr}
use Rattle.std.specs.Prelude.{find, option_and_then}
use Rattle.std.specs.Option.{option_map_or}
use Rattle.std.proofs.lemmas.Bool.{and_parts, and_from}
use Rattle.cam_names.specs.declared.name.Name.{Name}
use Rattle.cam_type.specs.declared.Mode.{Mode}
use Rattle.cam_locks.specs.declared.LiveOp.{LiveOp}
use Rattle.cam_locks.specs.Members.{In}
use Rattle.cam_locks.specs.Site.{IndicesRise}
use Rattle.cam_locks.specs.Moss.{lift_in}
use Rattle.cam_type.specs.Moss.{is_in_the_way}
use Rattle.cam_locks.specs.Holding.{has_op, is_lock, IsLeader, KeepsLeaders}
use Rattle.cam_locks.specs.Changes.{lift_eq, leads, last_of, with_leader}
use Rattle.cam_locks.proofs.Indices.{rise_push, rise_later}
use Rattle.cam_locks.proofs.Members.{in_left, in_right, in_either, in_last, find_no, find_none_all, below, found_first, first_found, has_member, in_got}
use Rattle.cam_locks.proofs.Lifts.{lift_eq_same}
use Rattle.cam_locks.proofs.ClimbingLifts.{AtLeast, lift_climbs}

-- whether the lift of an operation stands in the way of an action
abbrev pub way : Name → List Name → LiveOp → Bool
way a ns o = is_in_the_way a (lift_in ns o.action)

in_the_way_some : (a : Name) (r : Option Name) → is_in_the_way a r ≡ true → (u : Name) × (r ≡ Some u)
in_the_way_some a None h = cc
in_the_way_some a (Some u) h = (u, refl)

-- the first lock of a mode that stands in the way is found among the leaders
pub first_of_mode : (x : ℕ) (m : Mode) (ns : List Name) (os : List LiveOp) (next : ℕ) (ts : List LiveOp) (a : Name)
    → IndicesRise 0 os next → KeepsLeaders x m ns os next ts
    → find (λ o. is_lock x m o && way a ns o) os ≡ find (λ t. has_op os t.index && way a ns t) ts
first_of_mode x m ns os next ts a rise keeps = by_found (find (λ t. has_op os t.index && way a ns t) ts) refl
  where
    stands : (p : LiveOp) → In p os → (is_lock x m p && way a ns p) ≡ true → (t : LiveOp) × (In t ts) × ((has_op os t.index && way a ns t) ≡ true) × (t.index ≤ p.index)
    stands p member passes =
        let parts = and_parts (is_lock x m p) (way a ns p) passes in
        let some = in_the_way_some a (lift_in ns p.action) parts.1 in
        let lead = keeps.covers p some.0 member parts.0 some.1 in
        let same : way a ns lead.0 ≡ true = ap (is_in_the_way a) (lead.1.same_lift ∙ sym some.1) ∙ parts.1 in
        (lead.0, lead.1.leads, and_from (has_op os lead.0.index) (way a ns lead.0) (has_member os lead.0 lead.1.is_live) same, lead.1.is_first)

    false_or_stands : (p : LiveOp) → In p os → ((t : LiveOp) → In t ts → (has_op os t.index && way a ns t) ≡ false) → (b : Bool) → (is_lock x m p && way a ns p) ≡ b → b ≡ false
    false_or_stands p member none false is = refl
    false_or_stands p member none true is = let s = stands p member is in let no : true ≡ false = sym s.2 ∙ none s.0 s.1 in cc

    by_found : (r : Option LiveOp) → find (λ t. has_op os t.index && way a ns t) ts ≡ r → find (λ o. is_lock x m o && way a ns o) os ≡ r
    by_found None none =
        find_no (λ o. is_lock x m o && way a ns o) os
        (λ p member. false_or_stands p member (find_none_all (λ t. has_op os t.index && way a ns t) ts none) (is_lock x m p && way a ns p) refl)
    by_found (Some t) found =
        let f = found_first (λ s. has_op os s.index && way a ns s) 0 ts next t keeps.rising found in
        let parts = and_parts (has_op os t.index) (way a ns t) f.passes in
        first_found (λ o. is_lock x m o && way a ns o) 0 os next t rise
        (record {
          member = keeps.sound t f.member parts.0;
          passes = and_from (is_lock x m t) (way a ns t) (keeps.locks t f.member) parts.1;
          first = λ p member passes. let s = stands p member passes in let le : t.index ≤ s.0.index = f.first s.0 s.1 s.2 in let lf : s.0.index ≤ p.index = s.3 in omega arith;
        })

-- an index that is live after a push was live before, or is the new one
pub has_push : (os : List LiveOp) (n : LiveOp) (i : ℕ) → i < n.index → has_op (os ++ n ∷ []) i ≡ true → has_op os i ≡ true
has_push [] n i lt h = let no : eqb n.index i ≡ false = grind arith in let off : (eqb n.index i || false) ≡ false = ap (λ (b : Bool). b || false) no in cc
has_push (o ∷ os) n i lt h = by_test (eqb o.index i) h (has_push os n i lt)
  where
    by_test : (b : Bool) → (b || has_op (os ++ n ∷ []) i) ≡ true → (has_op (os ++ n ∷ []) i ≡ true → has_op os i ≡ true) → (b || has_op os i) ≡ true
    by_test true k rest = refl
    by_test false k rest = rest k

leader_push : (ns : List Name) (os ts more : List LiveOp) (n o : LiveOp) (u : Name) → (t : LiveOp) × IsLeader ns os ts o u t → (t : LiveOp) × IsLeader ns (os ++ n ∷ []) (ts ++ more) o u t
leader_push ns os ts more n o u lead =
    (lead.0, record { leads = in_left lead.0 ts more lead.1.leads; is_live = in_left lead.0 os (n ∷ []) lead.1.is_live; is_first = lead.1.is_first; same_lift = lead.1.same_lift })

-- a new operation that takes no lock of the mode
pub push_other : (x : ℕ) (m : Mode) (ns : List Name) (os : List LiveOp) (next : ℕ) (ts : List LiveOp) (n : LiveOp)
    → n.index ≡ next → is_lock x m n ≡ false → KeepsLeaders x m ns os next ts → KeepsLeaders x m ns (os ++ n ∷ []) (next + 1) ts
push_other x m ns os next ts n at other keeps = record {
  rising = rise_later 0 ts next (next + 1) (omega arith) keeps.rising;
  locks = keeps.locks;
  sound = λ t h live. let lt : t.index < next = below 0 ts next t keeps.rising h in in_left t os (n ∷ []) (keeps.sound t h (has_push os n t.index (omega arith) live));
  covers = λ o u h lock is. elim (in_either o os (n ∷ []) h) [
    | inl k ↦ same_leaders o u (keeps.covers o u k lock is)
    | inr k ↦ let wrong : true ≡ false = sym lock ∙ ap (is_lock x m) (in_last o n k) ∙ other in cc
  ];
}
  where
    same_leaders : (o : LiveOp) (u : Name) → (t : LiveOp) × IsLeader ns os ts o u t → (t : LiveOp) × IsLeader ns (os ++ n ∷ []) ts o u t
    same_leaders o u lead = (lead.0, record { leads = lead.1.leads; is_live = in_left lead.0 os (n ∷ []) lead.1.is_live; is_first = lead.1.is_first; same_lift = lead.1.same_lift })

-- a new operation that takes a lock of the mode leads for itself
push_lock : (x : ℕ) (m : Mode) (ns : List Name) (os : List LiveOp) (next : ℕ) (ts : List LiveOp) (n : LiveOp)
    → n.index ≡ next → is_lock x m n ≡ true → KeepsLeaders x m ns os next ts → KeepsLeaders x m ns (os ++ n ∷ []) (next + 1) (ts ++ n ∷ [])
push_lock x m ns os next ts n at lock keeps = record {
  rising = rise_push 0 ts next n keeps.rising at;
  locks = λ t h. elim (in_either t ts (n ∷ []) h) [ inl k ↦ keeps.locks t k | inr k ↦ ap (is_lock x m) (in_last t n k) ∙ lock ];
  sound = λ t h live. elim (in_either t ts (n ∷ []) h) [
    | inl k ↦ let lt : t.index < next = below 0 ts next t keeps.rising k in in_left t os (n ∷ []) (keeps.sound t k (has_push os n t.index (omega arith) live))
    | inr k ↦ in_right t os (n ∷ []) k
  ];
  covers = λ o u h is_locked is. elim (in_either o os (n ∷ []) h) [
    | inl k ↦ leader_push ns os ts (n ∷ []) n o u (keeps.covers o u k is_locked is)
    | inr k ↦ (o, record { leads = in_right o ts (n ∷ []) k; is_live = in_right o os (n ∷ []) k; is_first = omega arith; same_lift = is })
  ];
}

-- a new operation that takes a lock of the mode, led by an operation before it
push_led : (x : ℕ) (m : Mode) (ns : List Name) (os : List LiveOp) (next : ℕ) (ts : List LiveOp) (n s : LiveOp)
    → n.index ≡ next → In s ts → leads ns os (lift_in ns n.action) s ≡ true → KeepsLeaders x m ns os next ts → KeepsLeaders x m ns (os ++ n ∷ []) (next + 1) ts
push_led x m ns os next ts n s at among led keeps = record {
  rising = rise_later 0 ts next (next + 1) (omega arith) keeps.rising;
  locks = keeps.locks;
  sound = λ t h live. let lt : t.index < next = below 0 ts next t keeps.rising h in in_left t os (n ∷ []) (keeps.sound t h (has_push os n t.index (omega arith) live));
  covers = λ o u h lock is. elim (in_either o os (n ∷ []) h) [
    | inl k ↦ same_leaders o u (keeps.covers o u k lock is)
    | inr k ↦ itself o u is (in_last o n k)
  ];
}
  where
    same_leaders : (o : LiveOp) (u : Name) → (t : LiveOp) × IsLeader ns os ts o u t → (t : LiveOp) × IsLeader ns (os ++ n ∷ []) ts o u t
    same_leaders o u lead = (lead.0, record { leads = lead.1.leads; is_live = in_left lead.0 os (n ∷ []) lead.1.is_live; is_first = lead.1.is_first; same_lift = lead.1.same_lift })

    itself : (o : LiveOp) (u : Name) → lift_in ns o.action ≡ Some u → o ≡ n → (t : LiveOp) × IsLeader ns (os ++ n ∷ []) ts o u t
    itself o u is e =
        let parts = and_parts (lift_eq (lift_in ns s.action) (lift_in ns n.action)) (has_op os s.index) led in
        let lt : s.index < next = below 0 ts next s keeps.rising among in
        let same : o.index ≡ n.index = ap (λ (p : LiveOp). p.index) e in (
          s,
          record {
            leads = among;
            is_live = in_left s os (n ∷ []) (keeps.sound s among parts.1);
            is_first = omega (arith, lt, same, at);
            same_lift = lift_eq_same (lift_in ns s.action) (lift_in ns n.action) parts.0 ∙ ap (λ (p : LiveOp). lift_in ns p.action) (sym e) ∙ is;
          },
        )

-- so it leads for itself, or the last leader leads it
pub push_leader : (x : ℕ) (m : Mode) (ns : List Name) (os : List LiveOp) (next : ℕ) (ts : List LiveOp) (n : LiveOp)
    → n.index ≡ next → is_lock x m n ≡ true → KeepsLeaders x m ns os next ts → KeepsLeaders x m ns (os ++ n ∷ []) (next + 1) (with_leader ns os ts n)
push_leader x m ns os next ts n at lock keeps = by_last (last_of ts) refl
  where
    by_led : (s : LiveOp) → last_of ts ≡ Some s → (b : Bool) → leads ns os (lift_in ns n.action) s ≡ b → KeepsLeaders x m ns (os ++ n ∷ []) (next + 1) (cond b ts (ts ++ n ∷ []))
    by_led s is true led = push_led x m ns os next ts n s at (in_got ts (length ts - 1) s is) led keeps
    by_led s is false led = push_lock x m ns os next ts n at lock keeps

    by_last : (r : Option LiveOp) → last_of ts ≡ r → KeepsLeaders x m ns (os ++ n ∷ []) (next + 1) (cond (option_map_or (leads ns os (lift_in ns n.action)) r false) ts (ts ++ n ∷ []))
    by_last None is = push_lock x m ns os next ts n at lock keeps
    by_last (Some s) is = by_led s is (leads ns os (lift_in ns n.action) s) refl

-- a commit lets lifts climb on, of a leader and of those that it leads alike
pub leaders_commit : (x : ℕ) (m : Mode) (less more : List Name) (os : List LiveOp) (next : ℕ) (ts : List LiveOp)
    → AtLeast more less → KeepsLeaders x m less os next ts → KeepsLeaders x m more os next ts
leaders_commit x m less more os next ts at_least keeps = record {
  rising = keeps.rising;
  locks = keeps.locks;
  sound = keeps.sound;
  covers = λ o u h lock is. climbs o u h lock is (lift_in less o.action) refl;
}
  where
    climbs : (o : LiveOp) (u : Name) → In o os → is_lock x m o ≡ true → lift_in more o.action ≡ Some u → (r : Option Name) → lift_in less o.action ≡ r
        → (t : LiveOp) × IsLeader more os ts o u t
    climbs o u h lock is None none = let no : Some u ≡ None = sym is ∙ lift_climbs less more o.action at_least ∙ ap (option_and_then (lift_in more)) none in cc
    climbs o u h lock is (Some v) some =
        let lead = keeps.covers o v h lock some in
        let same : lift_in more lead.0.action ≡ lift_in more o.action =
        lift_climbs less more lead.0.action at_least ∙ ap (option_and_then (lift_in more)) (lead.1.same_lift ∙ sym some) ∙ sym (lift_climbs less more o.action at_least) in
        (lead.0, record { leads = lead.1.leads; is_live = lead.1.is_live; is_first = lead.1.is_first; same_lift = same ∙ is })
