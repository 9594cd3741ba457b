-- What is kept of versions, with one more operation and with one more commit.
use Rattle.std.proofs.Common.{◌≡◌, ◌⊎◌, ℕ, ◌+◌, ◌-◌, ◌<◌, Bool, true, false, not, ◌&&◌, cond, List, [], ◌∷◌, ◌++◌, length, set, map, Option, refl, sym, ap, subst, ◌∙◌, arith}
use Rattle.std.proofs.Math.Logic.{inl, inr}
use Rattle.std.specs.Prelude.{filter, option_and_then, nat_le}
use Rattle.std.specs.Option.{option_map_or}
use Rattle.std.proofs.lemmas.List.{map-append, append-nil}
use Rattle.std.proofs.lemmas.List.Elements.{filter-append}
use Rattle.std.proofs.lemmas.Bool.{and_from, or_right}
use Rattle.cam_names.specs.declared.name.Name.{Name}
use Rattle.cam_type.specs.declared.State.{State}
use Rattle.cam_type.specs.Table.{state_after}
use Rattle.cam_locks.specs.declared.LiveOp.{LiveOp}
use Rattle.cam_locks.specs.declared.versions.Version.{Version}
use Rattle.cam_locks.specs.Members.{In}
use Rattle.cam_locks.specs.Site.{IndicesRise}
use Rattle.cam_locks.specs.Moss.{replay, lift_in}
use Rattle.cam_locks.specs.Holding.{has_op, is_write, is_written, IsVersionOf, KeepsVersions}
use Rattle.cam_locks.specs.Changes.{lift_eq, last_state, LastIsLive, written, with_write, has_holder}
use Rattle.cam_locks.proofs.Bools.{and_no, le_yes, le_no}
use Rattle.cam_locks.proofs.LastElements.{split_last, last_snoc, set_snoc}
use Rattle.cam_locks.proofs.Indices.{rise_push, rise_later}
use Rattle.cam_locks.proofs.Members.{in_left, in_right, in_either, in_last, filter_agree, below, has_member}
use Rattle.cam_locks.proofs.ClimbingLifts.{AtLeast, lift_climbs}
use Rattle.cam_locks.proofs.LeaderLaws.{has_push}
use Rattle.cam_locks.proofs.Replays.{replay_append}
use Rattle.cam_locks.proofs.LastVersions.{in_ops}
use Rattle.cam_locks.proofs.WrittenStates.{value_last}
use Rattle.cam_locks.proofs.TidiedLocks.{versions_drop_before}

-- an operation that is not counted adds nothing
filter_more : (test : LiveOp → Bool) (os : List LiveOp) (n : LiveOp) → test n ≡ false → filter test (os ++ n ∷ []) ≡ filter test os
filter_more test os n fails =
    filter-append test os (n ∷ []) ∙ ap (λ (b : Bool). filter test os ++ cond b (n ∷ []) []) fails ∙ append-nil (filter test os)

cover_more : (ns : List Name) (os : List LiveOp) (vs more : List Version) (n o : LiveOp) → (v : Version) × IsVersionOf ns os vs o v → (v : Version) × IsVersionOf ns (os ++ n ∷ []) (vs ++ more) o v
cover_more ns os vs more n o c =
    (c.0, record { kept = in_left c.0 vs more c.1.kept; is_live = in_left c.0.last os (n ∷ []) c.1.is_live; is_last = c.1.is_last; same_lift = c.1.same_lift })

version_below : (vs : List Version) (next : ℕ) (v : Version) → IndicesRise 0 (map (λ v. v.last) vs) next → In v vs → v.last.index < next
version_below vs next v rise h = below 0 (map (λ v. v.last) vs) next v.last rise (in_ops v vs h)

-- a new operation that does not write the object
pub versions_other : (x : ℕ) (start : State) (ns : List Name) (os : List LiveOp) (next : ℕ) (vs : List Version) (n : LiveOp)
    → n.index ≡ next → is_write x n ≡ false → KeepsVersions x start ns os next vs → KeepsVersions x start ns (os ++ n ∷ []) (next + 1) vs
versions_other x start ns os next vs n at other keeps = record {
  rising = rise_later 0 (map (λ v. v.last) vs) next (next + 1) (omega arith) keeps.rising;
  locks = keeps.locks;
  sound = λ v h live.
      let lt : v.last.index < next = version_below vs next v keeps.rising h in
      let own = keeps.sound v h (has_push os n v.last.index (omega arith) live) in (
        in_left v.last os (n ∷ []) own.0,
        own.1 ∙ ap (replay start) (sym (filter_more (is_written x v.last.index) os n (ap (λ (b : Bool). b && nat_le n.index v.last.index) other))),
      );
  covers = λ o h lock. elim (in_either o os (n ∷ []) h) [
    | inl k ↦ same_versions o (keeps.covers o k lock)
    | inr k ↦ let wrong : true ≡ false = sym lock ∙ ap (is_write x) (in_last o n k) ∙ other in cc
  ];
}
  where
    same_versions : (o : LiveOp) → (v : Version) × IsVersionOf ns os vs o v → (v : Version) × IsVersionOf ns (os ++ n ∷ []) vs o v
    same_versions o c = (c.0, record { kept = c.1.kept; is_live = in_left c.0.last os (n ∷ []) c.1.is_live; is_last = c.1.is_last; same_lift = c.1.same_lift })

-- a new write brings its version
versions_write : (x : ℕ) (start : State) (ns : List Name) (os : List LiveOp) (next : ℕ) (vs : List Version) (n : LiveOp) (state : State)
    → n.index ≡ next → is_write x n ≡ true → IndicesRise 0 os next → state ≡ state_after (replay start (filter (is_write x) os)) n.op
    → KeepsVersions x start ns os next vs → KeepsVersions x start ns (os ++ n ∷ []) (next + 1) (vs ++ record { last = n; state = state } ∷ [])
versions_write x start ns os next vs n state at lock rise is keeps = record {
  rising = subst (λ (ps : List LiveOp). IndicesRise 0 ps (next + 1)) (sym (map-append (λ v. v.last) vs (new ∷ []))) (rise_push 0 (map (λ v. v.last) vs) next n keeps.rising at);
  locks = λ v h. elim (in_either v vs (new ∷ []) h) [ inl k ↦ keeps.locks v k | inr k ↦ ap (λ (w : Version). is_write x w.last) (in_last v new k) ∙ lock ];
  sound = λ v h live. elim (in_either v vs (new ∷ []) h) [
    | inl k ↦ old_sound v k live
    | inr k ↦ subst (λ (w : Version). In w.last (os ++ n ∷ []) × (w.state ≡ replay start (filter (is_written x w.last.index) (os ++ n ∷ [])))) (sym (in_last v new k)) new_sound
  ];
  covers = λ o h is_locked. elim (in_either o os (n ∷ []) h) [
    | inl k ↦ cover_more ns os vs (new ∷ []) n o (keeps.covers o k is_locked)
    | inr k ↦ new_cover o (in_last o n k)
  ];
}
  where
    new : Version
    new = record { last = n; state = state }

    old_sound : (v : Version) → In v vs → has_op (os ++ n ∷ []) v.last.index ≡ true → In v.last (os ++ n ∷ []) × (v.state ≡ replay start (filter (is_written x v.last.index) (os ++ n ∷ [])))
    old_sound v k live =
        let lt : v.last.index < next = version_below vs next v keeps.rising k in
        let own = keeps.sound v k (has_push os n v.last.index (omega arith) live) in
        let later : nat_le n.index v.last.index ≡ false = le_no n.index v.last.index (omega arith) in (
          in_left v.last os (n ∷ []) own.0,
          own.1 ∙ ap (replay start) (sym (filter_more (is_written x v.last.index) os n (ap (λ (b : Bool). is_write x n && b) later ∙ and_no (is_write x n)))),
        )

    all_before : (o : LiveOp) → In o os → is_written x n.index o ≡ is_write x o
    all_before o h =
        let lt : o.index < next = below 0 os next o rise h in
        ap (λ (b : Bool). is_write x o && b) (le_yes o.index n.index (omega arith)) ∙ and_yes (is_write x o)
      where
        and_yes : (b : Bool) → (b && true) ≡ b
        and_yes true = refl
        and_yes false = refl

    new_sound : In n (os ++ n ∷ []) × (state ≡ replay start (filter (is_written x n.index) (os ++ n ∷ [])))
    new_sound = (
      in_right n os (n ∷ []) (inl refl),
      is ∙ ap (λ (s : State). state_after s n.op) (ap (replay start) (sym (filter_agree (is_written x n.index) (is_write x) os all_before)))
          ∙ sym (replay_append start (filter (is_written x n.index) os) (n ∷ []))
          ∙ ap (replay start) (sym (filter-append (is_written x n.index) os (n ∷ [])
          ∙ ap (λ (b : Bool). filter (is_written x n.index) os ++ cond b (n ∷ []) []) (and_from (is_write x n) (nat_le n.index n.index) lock (le_yes n.index n.index (omega arith))))),
    )

    new_cover : (o : LiveOp) → o ≡ n → (v : Version) × IsVersionOf ns (os ++ n ∷ []) (vs ++ new ∷ []) o v
    new_cover o e =
        let same : o.index ≡ n.index = ap (λ (p : LiveOp). p.index) e in (
          new,
          record {
            kept = in_right new vs (new ∷ []) (inl refl);
            is_live = in_right n os (n ∷ []) (inl refl);
            is_last = omega arith;
            same_lift = ap (λ (p : LiveOp). lift_in ns p.action) (sym e);
          },
        )

-- or goes into that of its holder
pub versions_written : (x : ℕ) (start : State) (ns : List Name) (os : List LiveOp) (next : ℕ) (vs : List Version) (n : LiveOp)
    → n.index ≡ next → is_write x n ≡ true → IndicesRise 0 os next → LastIsLive os vs → KeepsVersions x start ns os next vs
    → KeepsVersions x start ns (os ++ n ∷ []) (next + 1) (with_write ns start vs n)
versions_written x start ns os next vs n at lock rise live keeps = by_split (split_last vs)
  where
    new : Version
    new = written start vs n

    added : KeepsVersions x start ns (os ++ n ∷ []) (next + 1) (vs ++ new ∷ [])
    added = versions_write x start ns os next vs n (state_after (last_state start vs) n.op) at lock rise (ap (λ (s : State). state_after s n.op) (value_last x start ns os next vs keeps live)) keeps

    in_place : (us : List Version) (v : Version) → vs ≡ us ++ v ∷ [] → (b : Bool) → lift_eq (lift_in ns v.last.action) (lift_in ns n.action) ≡ b
        → KeepsVersions x start ns (os ++ n ∷ []) (next + 1) (cond b (us ++ new ∷ []) (vs ++ new ∷ []))
    in_place us v e false other = added
    in_place us v e true same =
        versions_drop_before x start ns (os ++ n ∷ []) (next + 1) us v new (has_member (os ++ n ∷ []) n (in_right n os (n ∷ []) (inl refl)))
        (or_right (not (has_op (os ++ n ∷ []) v.last.index)) (lift_eq (lift_in ns v.last.action) (lift_in ns n.action)) same)
        (subst (λ (ws : List Version). KeepsVersions x start ns (os ++ n ∷ []) (next + 1) (ws ++ new ∷ [])) e added)

    by_split : (vs ≡ []) ⊎ ((us : List Version) × (v : Version) × (vs ≡ us ++ v ∷ [])) → KeepsVersions x start ns (os ++ n ∷ []) (next + 1) (with_write ns start vs n)
    by_split (inl e) =
        let none : has_holder ns vs n ≡ false = ap (λ (ws : List Version). has_holder ns ws n) e in
        subst (λ (b : Bool). KeepsVersions x start ns (os ++ n ∷ []) (next + 1) (cond b (set vs (length vs - 1) new) (vs ++ new ∷ []))) (sym none) added
    by_split (inr r) =
        let holder : has_holder ns vs n ≡ lift_eq (lift_in ns r.1.last.action) (lift_in ns n.action) =
        ap (λ (ws : List Version). has_holder ns ws n) r.2 ∙ ap (λ (o : Option Version). option_map_or (λ (v : Version). lift_eq (lift_in ns v.last.action) (lift_in ns n.action)) o false) (last_snoc r.0 r.1) in
        let placed : set vs (length vs - 1) new ≡ r.0 ++ new ∷ [] = ap (λ (ws : List Version). set ws (length ws - 1) new) r.2 ∙ set_snoc r.0 r.1 new in
        subst (λ (b : Bool). KeepsVersions x start ns (os ++ n ∷ []) (next + 1) (cond b (set vs (length vs - 1) new) (vs ++ new ∷ []))) (sym holder)
        (subst (λ (ws : List Version). KeepsVersions x start ns (os ++ n ∷ []) (next + 1) (cond (lift_eq (lift_in ns r.1.last.action) (lift_in ns n.action)) ws (vs ++ new ∷ []))) (sym placed)
        (in_place r.0 r.1 r.2 (lift_eq (lift_in ns r.1.last.action) (lift_in ns n.action)) refl))

-- what is kept of versions stays right where more is known committed
pub versions_commit : (x : ℕ) (start : State) (less more : List Name) (os : List LiveOp) (next : ℕ) (vs : List Version)
    → AtLeast more less → KeepsVersions x start less os next vs → KeepsVersions x start more os next vs
versions_commit x start less more os next vs at_least keeps = record {
  rising = keeps.rising;
  locks = keeps.locks;
  sound = keeps.sound;
  covers = λ o h lock.
      let c = keeps.covers o h lock in (
        c.0,
        record {
          kept = c.1.kept;
          is_live = c.1.is_live;
          is_last = c.1.is_last;
          same_lift = lift_climbs less more c.0.last.action at_least ∙ ap (option_and_then (lift_in more)) c.1.same_lift ∙ sym (lift_climbs less more o.action at_least);
        },
      );
}
