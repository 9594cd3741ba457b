-- What is kept where operations on other objects are left out.
use Rattle.std.proofs.Common.{◌≡◌, ℕ, Bool, true, false, ◌&&◌, List, refl, sym, ap, subst, ◌∙◌}
use Rattle.std.specs.Prelude.{filter, nat_le}
use Rattle.std.proofs.lemmas.Bool.{and_parts}
use Rattle.cam_names.specs.declared.name.Name.{Name}
use Rattle.cam_type.specs.declared.State.{State}
use Rattle.cam_type.specs.declared.Mode.{Mode}
use Rattle.cam_type.specs.Table.{mode_of}
use Rattle.cam_locks.specs.declared.LiveOp.{LiveOp}
use Rattle.cam_locks.specs.declared.versions.Version.{Version}
use Rattle.cam_locks.specs.Members.{In}
use Rattle.cam_locks.specs.Moss.{is_on, replay}
use Rattle.cam_locks.specs.Holding.{has_op, mode_eq, writes, is_written, KeepsLeaders, KeepsVersions, LocksView, leaders_of, KeepsLocks}
use Rattle.cam_locks.proofs.Lists.{filter_twice}
use Rattle.cam_locks.proofs.Members.{in_filter, in_filtered, filter_agree, has_member, member_at}
use Rattle.cam_locks.proofs.NestedLocks.{nested_filter}

-- where no operation on the object is among those that are left out, all stays
untouched_leaders : (x : ℕ) (m : Mode) (ns : List Name) (os : List LiveOp) (next : ℕ) (ts : List LiveOp) (test : LiveOp → Bool)
    → ((o : LiveOp) → In o os → is_on x o ≡ true → test o ≡ true) → KeepsLeaders x m ns os next ts → KeepsLeaders x m ns (filter test os) next ts
untouched_leaders x m ns os next ts test stay keeps = record {
  rising = keeps.rising;
  locks = keeps.locks;
  sound = λ t h live.
      let p = member_at (filter test os) t.index live in
      let q = in_filter test p.0 os p.1 in
      let own = keeps.sound t h (subst (λ (i : ℕ). has_op os i ≡ true) p.2 (has_member os p.0 q.0)) in
      in_filtered test t os own (stay t own (and_parts (is_on x t) (mode_eq (mode_of t.op) m) (keeps.locks t h)).0);
  covers = λ o u h lock is. let lead = keeps.covers o u (in_filter test o os h).0 lock is in (
    lead.0,
    record {
      leads = lead.1.leads;
      is_live = in_filtered test lead.0 os lead.1.is_live (stay lead.0 lead.1.is_live (and_parts (is_on x lead.0) (mode_eq (mode_of lead.0.op) m) (keeps.locks lead.0 lead.1.leads)).0);
      is_first = lead.1.is_first;
      same_lift = lead.1.same_lift;
    },
  );
}

untouched_versions : (x : ℕ) (start : State) (ns : List Name) (os : List LiveOp) (next : ℕ) (vs : List Version) (test : LiveOp → Bool)
    → ((o : LiveOp) → In o os → is_on x o ≡ true → test o ≡ true) → KeepsVersions x start ns os next vs → KeepsVersions x start ns (filter test os) next vs
untouched_versions x start ns os next vs test stay keeps = record {
  rising = keeps.rising;
  locks = keeps.locks;
  sound = λ v h live.
      let p = member_at (filter test os) v.last.index live in
      let q = in_filter test p.0 os p.1 in
      let own = keeps.sound v h (subst (λ (i : ℕ). has_op os i ≡ true) p.2 (has_member os p.0 q.0)) in
      (in_filtered test v.last os own.0 (stay v.last own.0 (and_parts (is_on x v.last) (writes v.last) (keeps.locks v h)).0), own.1 ∙ ap (replay start) (same_writes v.last.index));
  covers = λ o h lock. let c = keeps.covers o (in_filter test o os h).0 lock in (
    c.0,
    record {
      kept = c.1.kept;
      is_live = in_filtered test c.0.last os c.1.is_live (stay c.0.last c.1.is_live (and_parts (is_on x c.0.last) (writes c.0.last) (keeps.locks c.0 c.1.kept)).0);
      is_last = c.1.is_last;
      same_lift = c.1.same_lift;
    },
  );
}
  where
    same_writes : (i : ℕ) → filter (is_written x i) os ≡ filter (is_written x i) (filter test os)
    same_writes i = filter_agree (is_written x i) (λ o. test o && is_written x i o) os agree ∙ sym (filter_twice (is_written x i) test os)
      where
        agree : (o : LiveOp) → In o os → is_written x i o ≡ (test o && is_written x i o)
        agree o h = by_on (is_on x o) refl (test o) refl
          where
            by_on : (b : Bool) → is_on x o ≡ b → (c : Bool) → test o ≡ c → ((b && writes o) && nat_le o.index i) ≡ (c && ((b && writes o) && nat_le o.index i))
            by_on b is true passes = refl
            by_on false is false passes = refl
            by_on true is false passes = let wrong : true ≡ false = sym (stay o h is) ∙ passes in cc

-- What is kept of an object stays right where no operation on it is left out.
pub keeps_untouched : (x : ℕ) (start : State) (ns : List Name) (os : List LiveOp) (next : ℕ) (l : LocksView) (test : LiveOp → Bool)
    → ((o : LiveOp) → In o os → is_on x o ≡ true → test o ≡ true) → KeepsLocks x start ns os next l → KeepsLocks x start ns (filter test os) next l
keeps_untouched x start ns os next l test stay keeps = record {
  start_is = keeps.start_is;
  leaders = λ m. untouched_leaders x m ns os next (leaders_of l m) test stay (keeps.leaders m);
  versions = untouched_versions x start ns os next l.versions test stay keeps.versions;
  nested = nested_filter x ns test os keeps.nested;
}
