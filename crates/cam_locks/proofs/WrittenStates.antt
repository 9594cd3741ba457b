-- What was written, by what is kept of versions.
use Rattle.std.proofs.Common.{◌≡◌, ℕ, ◌≤◌, Bool, true, false, ◌&&◌, cond, List, [], ◌∷◌, Option, Some, None, refl, sym, ap, ◌∙◌, arith}
use Rattle.std.specs.Prelude.{IfSome, filter, nat_le}
use Rattle.std.proofs.lemmas.Bool.{and_parts, and_from}
use Rattle.cam_names.specs.declared.name.Name.{Name}
use Rattle.cam_type.specs.declared.State.{State}
use Rattle.cam_type.specs.Table.{state_after}
use Rattle.cam_locks.specs.declared.LiveOp.{LiveOp}
use Rattle.cam_locks.specs.declared.versions.Version.{Version}
use Rattle.cam_locks.specs.Members.{In}
use Rattle.cam_locks.specs.Moss.{replay}
use Rattle.cam_locks.specs.Holding.{has_op, writes, is_write, is_written, KeepsVersions}
use Rattle.cam_locks.specs.Changes.{is_current, last_current, last_of, state_of, last_state, LastIsLive}
use Rattle.cam_locks.proofs.Bools.{le_yes}
use Rattle.cam_locks.specs.Sums.{is_counter}
use Rattle.cam_locks.proofs.Modes.{no_write, no_counter}
use Rattle.cam_locks.proofs.Members.{filter_agree, has_member}
use Rattle.cam_locks.proofs.LastVersions.{IsLast, no_current, current_last, current_last_of, current_none_of}

-- of what is no counter only the writes count
pub writes_count : (test : LiveOp → Bool) (state : State) (os : List LiveOp) → is_counter state ≡ false
    → replay state (filter test os) ≡ replay state (filter (λ o. test o && writes o) os)
writes_count test state [] kind = refl
writes_count test state (o ∷ os) kind = by_test (test o) (writes o) refl (writes_count test state os kind) (writes_count test (state_after state o.op) os (no_counter state o.op kind))
  where
    kept : List LiveOp
    kept = filter (λ p. test p && writes p) os

    by_test : (b w : Bool) → writes o ≡ w → replay state (filter test os) ≡ replay state kept → replay (state_after state o.op) (filter test os) ≡ replay (state_after state o.op) kept
        → replay state (cond b (o ∷ filter test os) (filter test os)) ≡ replay state (cond (b && w) (o ∷ kept) kept)
    by_test true true is same further = further
    by_test true false is same further = ap (λ (s : State). replay s (filter test os)) (no_write state o.op kind is) ∙ same
    by_test false true is same further = same
    by_test false false is same further = same

-- what was written, by the last live version
pub value_current : (x : ℕ) (start : State) (ns : List Name) (os : List LiveOp) (next : ℕ) (vs : List Version) (v : Version)
    → KeepsVersions x start ns os next vs → last_current (is_current ns os false) vs ≡ Some v → v.state ≡ replay start (filter (is_write x) os)
value_current x start ns os next vs v keeps found =
    (keeps.sound v l.member live).1
    ∙ ap (replay start) (filter_agree (is_written x v.last.index) (is_write x) os agree)
  where
    l : IsLast (is_current ns os false) vs v
    l = current_last (is_current ns os false) 0 vs next v keeps.rising found

    live : has_op os v.last.index ≡ true
    live = (and_parts (has_op os v.last.index) true l.passes).0

    agree : (o : LiveOp) → In o os → is_written x v.last.index o ≡ is_write x o
    agree o member = by_lock (is_write x o) refl
      where
        by_lock : (b : Bool) → is_write x o ≡ b → (b && nat_le o.index v.last.index) ≡ b
        by_lock false is = refl
        by_lock true is =
            let c = keeps.covers o member is in
            let le : c.0.last.index ≤ v.last.index = l.last c.0 c.1.kept (and_from (has_op os c.0.last.index) true (has_member os c.0.last c.1.is_live) refl) in
            let on : o.index ≤ c.0.last.index = c.1.is_last in le_yes o.index v.last.index (omega arith)

pub value_none : (x : ℕ) (start : State) (ns : List Name) (os : List LiveOp) (next : ℕ) (vs : List Version)
    → KeepsVersions x start ns os next vs → last_current (is_current ns os false) vs ≡ None → start ≡ replay start (filter (is_write x) os)
value_none x start ns os next vs keeps none =
    sym (ap (replay start) (filter_agree (is_write x) (λ o. false) os agree ∙ nothing os))
  where
    nothing : (ps : List LiveOp) → filter (λ o. false) ps ≡ []
    nothing [] = refl
    nothing (p ∷ ps) = nothing ps

    agree : (o : LiveOp) → In o os → is_write x o ≡ false
    agree o member = by_lock (is_write x o) refl
      where
        by_lock : (b : Bool) → is_write x o ≡ b → b ≡ false
        by_lock false is = refl
        by_lock true is =
            let c = keeps.covers o member is in
            let passes : is_current ns os false c.0 ≡ true = and_from (has_op os c.0.last.index) true (has_member os c.0.last c.1.is_live) refl in
            let wrong : true ≡ false = sym passes ∙ no_current (is_current ns os false) vs none c.0 c.1.kept in cc

-- and by the last one, where it is live
pub value_last : (x : ℕ) (start : State) (ns : List Name) (os : List LiveOp) (next : ℕ) (vs : List Version) → KeepsVersions x start ns os next vs → LastIsLive os vs
    → last_state start vs ≡ replay start (filter (is_write x) os)
value_last x start ns os next vs keeps live = by_last (last_of vs) refl live
  where
    by_last : (r : Option Version) → last_of vs ≡ r → IfSome r (λ v. has_op os v.last.index ≡ true) → state_of start r ≡ replay start (filter (is_write x) os)
    by_last None is l = value_none x start ns os next vs keeps (current_none_of (is_current ns os false) vs is)
    by_last (Some v) is l =
        value_current x start ns os next vs v keeps (current_last_of (is_current ns os false) vs v is (and_from (has_op os v.last.index) true l refl))
