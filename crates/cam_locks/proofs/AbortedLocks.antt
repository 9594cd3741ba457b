-- What is kept, through an abort.
use Rattle.std.proofs.Common.{◌≡◌, ℕ, ◌≤◌, ◌<◌, Bool, true, false, not, ◌&&◌, List, Some, refl, sym, ap, subst, ◌∙◌, arith}
use Rattle.std.specs.Prelude.{filter, nat_le}
use Rattle.std.proofs.lemmas.Bool.{and_parts}
use Rattle.cam_names.specs.declared.name.Name.{Name}
use Rattle.cam_names.specs.Names.{is_ancestor}
use Rattle.cam_type.specs.declared.State.{State}
use Rattle.cam_type.specs.declared.Mode.{Mode}
use Rattle.cam_type.specs.Table.{mode_of, compatible}
use Rattle.cam_locks.specs.declared.LiveOp.{LiveOp}
use Rattle.cam_locks.specs.declared.versions.Version.{Version}
use Rattle.cam_locks.specs.Members.{In}
use Rattle.cam_locks.specs.Names.{has_name}
use Rattle.cam_locks.specs.Site.{IndicesRise}
use Rattle.cam_locks.specs.Moss.{is_on, replay, lift_in}
use Rattle.cam_type.specs.Moss.{is_in_the_way}
use Rattle.cam_locks.specs.Calls.{is_below}
use Rattle.cam_locks.specs.Holding.{has_op, writes, is_write, is_written, IsNested, KeepsLeaders, KeepsVersions, LocksView, leaders_of, KeepsLocks}
use Rattle.cam_locks.proofs.Bools.{not_true, not_false, le_from, lt_from}
use Rattle.cam_locks.proofs.Lists.{filter_twice}
use Rattle.cam_locks.proofs.Modes.{writes_apart}
use Rattle.cam_locks.proofs.Members.{in_filter, in_filtered, filter_agree, same_op, has_member, member_at}
use Rattle.cam_locks.proofs.Lifts.{lift_ancestor, lift_below, ancestor_through}
use Rattle.cam_locks.proofs.NestedLocks.{nested_filter}

stays_with : (ns : List Name) (n : Name) (o t : LiveOp) (u : Name) → has_name ns n ≡ false → lift_in ns o.action ≡ Some u → lift_in ns t.action ≡ Some u
    → is_below n o ≡ false → is_below n t ≡ false
stays_with ns n o t u open_yet is same not_below = by_test (is_below n t) refl
  where
    by_test : (b : Bool) → is_below n t ≡ b → is_below n t ≡ false
    by_test false e = e
    by_test true e =
        let b = lift_below ns n t.action open_yet e in
        let one : Some b.0 ≡ Some u = sym b.1 ∙ same in
        let equal : b.0 ≡ u = cc in
        let over : is_ancestor n u ≡ true = subst (λ (v : Name). is_ancestor n v ≡ true) equal b.2 in
        let wrong : true ≡ false = sym (ancestor_through n u o.action over (lift_ancestor ns o.action u is)) ∙ not_below in cc

leaders_abort : (x : ℕ) (m : Mode) (ns : List Name) (os : List LiveOp) (next : ℕ) (ts : List LiveOp) (n : Name)
    → has_name ns n ≡ false → IndicesRise 0 os next → KeepsLeaders x m ns os next ts → KeepsLeaders x m ns (filter (λ o. not (is_below n o)) os) next ts
leaders_abort x m ns os next ts n open_yet rise keeps = record {
  rising = keeps.rising;
  locks = keeps.locks;
  sound = λ t h live.
      let p = member_at (filter (λ o. not (is_below n o)) os) t.index live in
      let q = in_filter (λ o. not (is_below n o)) p.0 os p.1 in
      let was : has_op os t.index ≡ true = subst (λ (i : ℕ). has_op os i ≡ true) p.2 (has_member os p.0 q.0) in
      subst (λ (o : LiveOp). In o (filter (λ o. not (is_below n o)) os)) (same_op 0 os next p.0 t rise q.0 (keeps.sound t h was) p.2) p.1;
  covers = λ o u h lock is.
      let k = in_filter (λ o. not (is_below n o)) o os h in
      let lead = keeps.covers o u k.0 lock is in
      let over : is_below n lead.0 ≡ false = stays_with ns n o lead.0 u open_yet is lead.1.same_lift (not_true (is_below n o) k.1) in (
        lead.0,
        record {
          leads = lead.1.leads;
          is_live = in_filtered (λ o. not (is_below n o)) lead.0 os lead.1.is_live (ap not over);
          is_first = lead.1.is_first;
          same_lift = lead.1.same_lift;
        },
      );
}

-- An abort of an action that is not committed leaves each version that it does not drop: what it drops are reads, or writes behind it.
versions_abort : (x : ℕ) (start : State) (ns : List Name) (os : List LiveOp) (next : ℕ) (vs : List Version) (n : Name)
    → has_name ns n ≡ false → IndicesRise 0 os next → IsNested x ns os → KeepsVersions x start ns os next vs
    → KeepsVersions x start ns (filter (λ o. not (is_below n o)) os) next vs
versions_abort x start ns os next vs n open_yet rise nested keeps = record {
  rising = keeps.rising;
  locks = keeps.locks;
  sound = λ v h live.
      let p = member_at left v.last.index live in
      let q = in_filter (λ o. not (is_below n o)) p.0 os p.1 in
      let was : has_op os v.last.index ≡ true = subst (λ (i : ℕ). has_op os i ≡ true) p.2 (has_member os p.0 q.0) in
      let own = keeps.sound v h was in
      let still : In v.last left = subst (λ (o : LiveOp). In o left) (same_op 0 os next p.0 v.last rise q.0 own.0 p.2) p.1 in
      (still, own.1 ∙ ap (replay start) (same_writes v h own.0 (in_filter (λ o. not (is_below n o)) v.last os still).1));
  covers = λ o h lock.
      let k = in_filter (λ o. not (is_below n o)) o os h in
      let c = keeps.covers o k.0 lock in (
        c.0,
        record {
          kept = c.1.kept;
          is_live = in_filtered (λ o. not (is_below n o)) c.0.last os c.1.is_live (ap not (stays_along o c.0.last k.1 c.1.same_lift));
          is_last = c.1.is_last;
          same_lift = c.1.same_lift;
        },
      );
}
  where
    left : List LiveOp
    left = filter (λ o. not (is_below n o)) os

    stays_along : (o t : LiveOp) → not (is_below n o) ≡ true → lift_in ns t.action ≡ lift_in ns o.action → is_below n t ≡ false
    stays_along o t over same = by_test (is_below n t) refl
      where
        by_test : (b : Bool) → is_below n t ≡ b → b ≡ false
        by_test false e = refl
        by_test true e =
            let b = lift_below ns n t.action open_yet e in
            let f : is_below n o ≡ true = ancestor_through n b.0 o.action b.2 (lift_over o b.0 (sym same ∙ b.1)) in
            let wrong : true ≡ false = sym f ∙ not_true (is_below n o) over in cc
          where
            lift_over : (o : LiveOp) (u : Name) → lift_in ns o.action ≡ Some u → is_ancestor u o.action ≡ true
            lift_over o u is = lift_ancestor ns o.action u is

    same_writes : (v : Version) → In v vs → In v.last os → not (is_below n v.last) ≡ true → filter (is_written x v.last.index) os ≡ filter (is_written x v.last.index) left
    same_writes v h member over =
        filter_agree (is_written x v.last.index) (λ o. not (is_below n o) && is_written x v.last.index o) os agree
        ∙ sym (filter_twice (is_written x v.last.index) (λ o. not (is_below n o)) os)
      where
        its : (is_on x v.last ≡ true) × (writes v.last ≡ true)
        its = and_parts (is_on x v.last) (writes v.last) (keeps.locks v h)

        dropped_behind : (o : LiveOp) → In o os → is_write x o ≡ true → o.index < v.last.index → is_below n o ≡ true → is_below n v.last ≡ true
        dropped_behind o k lock lt under =
            let mine = and_parts (is_on x o) (writes o) lock in
            let apart : compatible (mode_of o.op) (mode_of v.last.op) ≡ false = writes_apart (mode_of o.op) (mode_of v.last.op) mine.1 its.1 in
            let b = lift_below ns n o.action open_yet under in
            let clear = nested o v.last k member lt mine.0 its.0 apart in
            ancestor_through n b.0 v.last.action b.2 (not_false (is_ancestor b.0 v.last.action) (ap (is_in_the_way v.last.action) (sym b.1) ∙ clear))

        agree : (o : LiveOp) → In o os → is_written x v.last.index o ≡ (not (is_below n o) && is_written x v.last.index o)
        agree o k = by_test (is_written x v.last.index o) (is_below n o) refl refl
          where
            by_test : (w d : Bool) → is_written x v.last.index o ≡ w → is_below n o ≡ d → w ≡ (not d && w)
            by_test true false written under = refl
            by_test false false written under = refl
            by_test false true written under = refl
            by_test true true written under =
                let parts = and_parts (is_write x o) (nat_le o.index v.last.index) written in
                let at : o.index ≤ v.last.index = le_from o.index v.last.index parts.1 in
                by_order (nat_le v.last.index o.index) refl parts.0 at
              where
                by_order : (g : Bool) → nat_le v.last.index o.index ≡ g → is_write x o ≡ true → o.index ≤ v.last.index → true ≡ false
                by_order true ge lock at =
                    let from : v.last.index ≤ o.index = le_from v.last.index o.index ge in
                    let same : o ≡ v.last = same_op 0 os next o v.last rise k member (omega arith) in
                    sym under ∙ ap (is_below n) same ∙ not_true (is_below n v.last) over
                by_order false ge lock at = sym (dropped_behind o k lock (lt_from v.last.index o.index ge) under) ∙ not_true (is_below n v.last) over

-- What is kept of an object stays right where an action aborts that is not known committed.
pub keeps_abort : (x : ℕ) (start : State) (ns : List Name) (os : List LiveOp) (next : ℕ) (l : LocksView) (n : Name) → has_name ns n ≡ false → IndicesRise 0 os next
    → KeepsLocks x start ns os next l → KeepsLocks x start ns (filter (λ o. not (is_below n o)) os) next l
keeps_abort x start ns os next l n open_yet rise keeps = record {
  start_is = keeps.start_is;
  leaders = λ m. leaders_abort x m ns os next (leaders_of l m) n open_yet rise (keeps.leaders m);
  versions = versions_abort x start ns os next l.versions n open_yet rise keeps.nested keeps.versions;
  nested = nested_filter x ns (λ o. not (is_below n o)) os keeps.nested;
}
