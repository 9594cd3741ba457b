-- What is kept of an object: what it answers, and how it stays.
use Rattle.std.proofs.Common.{◌≡◌, ℕ, ◌+◌, ◌≤◌, Bool, true, false, not, ◌&&◌, if◌then◌else◌, cond, List, [], ◌∷◌, ◌++◌, Option, Some, None, refl, sym, ap, subst, ◌∙◌}
use Rattle.std.specs.Prelude.{filter, find, option_and_then, is_none}
use Rattle.std.proofs.lemmas.Bool.{and_parts, and_from}
use Rattle.cam_names.specs.declared.name.Name.{Name}
use Rattle.cam_type.specs.declared.State.{State}
use Rattle.cam_type.specs.declared.Op.{Op}
use Rattle.cam_type.specs.declared.Answer.{Answer}
use Rattle.cam_type.specs.declared.Mode.{Mode}
use Rattle.cam_type.specs.Table.{kind_of, fits, answer_of, mode_of, compatible}
use Rattle.cam_locks.specs.declared.LiveOp.{LiveOp}
use Rattle.cam_locks.specs.declared.versions.Version.{Version}
use Rattle.cam_locks.specs.Members.{In}
use Rattle.cam_locks.specs.Site.{IndicesRise}
use Rattle.cam_locks.specs.Moss.{is_on, replay, conflicts_on, lift_in}
use Rattle.cam_type.specs.Moss.{is_in_the_way}
use Rattle.cam_locks.specs.Holding.{mode_eq, writes, is_lock, KeepsLeaders, KeepsVersions, LocksView, leaders_of, KeepsLocks}
use Rattle.cam_locks.specs.Changes.{is_current, last_current, state_of, met, LastIsLive, standing, blocking, first_over, with_leader, with_write, added, IsDone}
use Rattle.cam_locks.proofs.Modes.{added_start, added_leaders, added_versions}
use Rattle.cam_locks.proofs.Indices.{rise_later}
use Rattle.cam_locks.proofs.Members.{find_none_all, found_in}
use Rattle.cam_locks.proofs.ClimbingLifts.{AtLeast}
use Rattle.cam_locks.proofs.LeaderLaws.{way, first_of_mode, push_other, push_leader, leaders_commit}
use Rattle.cam_locks.specs.Sums.{is_counter, sum_on, IsStart}
use Rattle.cam_locks.proofs.MetStates.{met_is}
use Rattle.cam_locks.proofs.SettledVersions.{settled_current, settled_none}
use Rattle.cam_locks.proofs.VersionLaws.{versions_other, versions_written, versions_commit}
use Rattle.cam_locks.proofs.NestedLocks.{nested_push, nested_commit}
use Rattle.cam_locks.proofs.FirstConflicts.{conflict_by_mode}

-- the first conflict is found by what is kept
pub conflict_kept : (x : ℕ) (start : State) (ns : List Name) (os : List LiveOp) (next : ℕ) (l : LocksView) (a : Name) (op : Op)
    → IndicesRise 0 os next → KeepsLocks x start ns os next l
    → first_over (λ m. standing ns os a op m (leaders_of l m)) ≡ find (conflicts_on ns a x op) os
conflict_kept x start ns os next l a op rise keeps = over by_mode ∙ sym (conflict_by_mode x ns os next a op rise)
  where
    by_mode : (m : Mode) → standing ns os a op m (leaders_of l m) ≡ blocking ns a x op m os
    by_mode m = ap (λ (r : Option LiveOp). cond (compatible m (mode_of op)) None r) (sym (first_of_mode x m ns os next (leaders_of l m) a rise (keeps.leaders m)))

    over : ((m : Mode) → standing ns os a op m (leaders_of l m) ≡ blocking ns a x op m os)
        → first_over (λ m. standing ns os a op m (leaders_of l m)) ≡ first_over (λ m. blocking ns a x op m os)
    over same = λ i. first_over (λ m. same m i)

-- The value past the top is the state of the last version that is past it, of what is no counter.
pub settled_kept : (x : ℕ) (start : State) (ns : List Name) (os : List LiveOp) (next : ℕ) (l : LocksView) → is_counter start ≡ false → IndicesRise 0 os next → KeepsLocks x start ns os next l
    → state_of start (last_current (is_current ns os true) l.versions) ≡ replay start (filter (λ o. is_on x o && is_none (lift_in ns o.action)) os)
settled_kept x start ns os next l kind rise keeps = by_last (last_current (is_current ns os true) l.versions) refl
  where
    by_last : (r : Option Version) → last_current (is_current ns os true) l.versions ≡ r → state_of start r ≡ replay start (filter (λ o. is_on x o && is_none (lift_in ns o.action)) os)
    by_last None none = settled_none x start ns os next l.versions kind keeps.versions none
    by_last (Some v) found = settled_current x start ns os next l.versions v kind rise keeps.nested keeps.versions found

-- a later next index
leaders_later : (x : ℕ) (m : Mode) (ns : List Name) (os : List LiveOp) (next later : ℕ) (ts : List LiveOp) → next ≤ later
    → KeepsLeaders x m ns os next ts → KeepsLeaders x m ns os later ts
leaders_later x m ns os next later ts le keeps = record { rising = rise_later 0 ts next later le keeps.rising; locks = keeps.locks; sound = keeps.sound; covers = keeps.covers }

versions_later : (x : ℕ) (start : State) (ns : List Name) (os : List LiveOp) (next later : ℕ) (vs : List Version) → next ≤ later
    → KeepsVersions x start ns os next vs → KeepsVersions x start ns os later vs
versions_later x start ns os next later vs le keeps =
    record { rising = rise_later 0 (Rattle.std.proofs.Common.map (λ v. v.last) vs) next later le keeps.rising; locks = keeps.locks; sound = keeps.sound; covers = keeps.covers }

-- what is kept of an object stays right below a later next index
pub keeps_later : (x : ℕ) (start : State) (ns : List Name) (os : List LiveOp) (next later : ℕ) (l : LocksView) → next ≤ later
    → KeepsLocks x start ns os next l → KeepsLocks x start ns os later l
keeps_later x start ns os next later l le keeps = record {
  start_is = keeps.start_is;
  leaders = λ m. leaders_later x m ns os next later (leaders_of l m) le (keeps.leaders m);
  versions = versions_later x start ns os next later l.versions le keeps.versions;
  nested = keeps.nested;
}

-- and where more is known committed
pub keeps_commit : (x : ℕ) (start : State) (less more : List Name) (os : List LiveOp) (next : ℕ) (l : LocksView) → AtLeast more less
    → KeepsLocks x start less os next l → KeepsLocks x start more os next l
keeps_commit x start less more os next l at_least keeps = record {
  start_is = keeps.start_is;
  leaders = λ m. leaders_commit x m less more os next (leaders_of l m) at_least (keeps.leaders m);
  versions = versions_commit x start less more os next l.versions at_least keeps.versions;
  nested = nested_commit x less more os at_least keeps.nested;
}

-- one more operation, elsewhere
pub keeps_other : (x : ℕ) (start : State) (ns : List Name) (os : List LiveOp) (l : LocksView) (n : LiveOp) → IndicesRise 0 os n.index → is_on x n ≡ false
    → KeepsLocks x start ns os n.index l → KeepsLocks x start ns (os ++ n ∷ []) (n.index + 1) l
keeps_other x start ns os l n rise off keeps = record {
  start_is = keeps.start_is;
  leaders = λ m. push_other x m ns os n.index (leaders_of l m) n refl (ap (λ (b : Bool). b && mode_eq (mode_of n.op) m) off) (keeps.leaders m);
  versions = versions_other x start ns os n.index l.versions n refl (ap (λ (b : Bool). b && writes n) off) keeps.versions;
  nested = nested_push x ns os n.index n refl rise (λ o h on also. let wrong : true ≡ false = sym also ∙ off in cc) keeps.nested;
}

-- no one stands in the way of an operation
abbrev pub IsClear : ℕ → List Name → List LiveOp → LiveOp → Type 0
IsClear x ns os n =
    (o : LiveOp) → In o os → is_on x o ≡ true → is_on x n ≡ true → compatible (mode_of o.op) (mode_of n.op) ≡ false → is_in_the_way n.action (lift_in ns o.action) ≡ false

-- one more such operation here
keeps_added : (x : ℕ) (start : State) (ns : List Name) (os : List LiveOp) (l : LocksView) (n : LiveOp) → IndicesRise 0 os n.index → is_on x n ≡ true
    → IsClear x ns os n → LastIsLive os l.versions
    → KeepsLocks x start ns os n.index l → KeepsLocks x start ns (os ++ n ∷ []) (n.index + 1) (added ns os l n)
keeps_added x start ns os l n rise on clear live keeps = record {
  start_is = added_start (mode_of n.op) ns os l n ∙ keeps.start_is;
  leaders = λ m.
      subst (λ (ts : List LiveOp). KeepsLeaders x m ns (os ++ n ∷ []) (n.index + 1) ts) (sym (added_leaders (mode_of n.op) m ns os l n))
      (with_mode m (mode_eq (mode_of n.op) m) refl);
  versions =
      subst (λ (vs : List Version). KeepsVersions x start ns (os ++ n ∷ []) (n.index + 1) vs) (sym (added_versions (mode_of n.op) ns os l n))
      (with_version (writes n) refl);
  nested = nested_push x ns os n.index n refl rise clear keeps.nested;
}
  where
    lock_of : (m : Mode) (b : Bool) → mode_eq (mode_of n.op) m ≡ b → is_lock x m n ≡ b
    lock_of m b e = ap (λ (c : Bool). c && mode_eq (mode_of n.op) m) on ∙ e

    with_mode : (m : Mode) (b : Bool) → mode_eq (mode_of n.op) m ≡ b
        → KeepsLeaders x m ns (os ++ n ∷ []) (n.index + 1) (cond b (with_leader ns os (leaders_of l m) n) (leaders_of l m))
    with_mode m true e = push_leader x m ns os n.index (leaders_of l m) n refl (lock_of m true e) (keeps.leaders m)
    with_mode m false e = push_other x m ns os n.index (leaders_of l m) n refl (lock_of m false e) (keeps.leaders m)

    with_version : (b : Bool) → writes n ≡ b
        → KeepsVersions x start ns (os ++ n ∷ []) (n.index + 1) (cond b (with_write ns l.start l.versions n) l.versions)
    with_version true e =
        subst (λ (s : State). KeepsVersions x start ns (os ++ n ∷ []) (n.index + 1) (with_write ns s l.versions n)) (sym keeps.start_is)
        (versions_written x start ns os n.index l.versions n refl (ap (λ (c : Bool). c && writes n) on ∙ e) rise live keeps.versions)
    with_version false e = versions_other x start ns os n.index l.versions n refl (ap (λ (c : Bool). c && writes n) on ∙ e) keeps.versions

-- an operation was done
pub keeps_done : (x : ℕ) (start : State) (ns : List Name) (os : List LiveOp) (l k : LocksView) (n : LiveOp) (answer : Answer) → IndicesRise 0 os n.index → is_on x n ≡ true
    → IsClear x ns os n → IsDone ns os n answer l k → KeepsLocks x start ns os n.index l → KeepsLocks x start ns (os ++ n ∷ []) (n.index + 1) k
keeps_done x start ns os l k n answer rise on clear done keeps =
    subst (λ (j : LocksView). KeepsLocks x start ns (os ++ n ∷ []) (n.index + 1) j) (sym done.new_is)
    (keeps_added x start ns os done.before n rise on clear done.last (done.tidied.kept x start n.index keeps))

-- The answer of an operation that was done is that at the value which a replay gives.
pub answer_done : (start : State) (ns : List Name) (os : List LiveOp) (next : ℕ) (l k : LocksView) (n : LiveOp) (answer : Answer) → fits (kind_of start) n.op ≡ true
    → IsDone ns os n answer l k → KeepsLocks n.object start ns os next l → answer ≡ answer_of (replay start (filter (is_on n.object) os)) n.op
answer_done start ns os next l k n answer fit done keeps =
    done.answer_is (ap (λ (s : State). fits (kind_of s) n.op) tidied.start_is ∙ fit)
    ∙ ap (λ (s : State). answer_of (met s done.before.versions (sum_on n.object os)) n.op) tidied.start_is
    ∙ ap (λ (s : State). answer_of s n.op) (met_is n.object start ns os next done.before.versions (subst IsStart tidied.start_is done.range) tidied.versions done.last)
  where
    tidied : KeepsLocks n.object start ns os next done.before
    tidied = done.tidied.kept n.object start next keeps

-- where no holder stands in the way no operation conflicts
pub no_conflict : (ns : List Name) (os : List LiveOp) (a : Name) (x : ℕ) (op : Op) → option_and_then (λ o. lift_in ns o.action) (find (conflicts_on ns a x op) os) ≡ None
    → (o : LiveOp) → In o os → is_on x o ≡ true → compatible (mode_of o.op) (mode_of op) ≡ false → is_in_the_way a (lift_in ns o.action) ≡ false
no_conflict ns os a x op none o h on apart = by_found (find (conflicts_on ns a x op) os) refl none
  where
    open_way : (r : Option Name) → is_in_the_way a r ≡ true → r ≡ None → true ≡ false
    open_way None w e = cc
    open_way (Some u) w e = cc

    clear : conflicts_on ns a x op o ≡ false → (b : Bool) → way a ns o ≡ b → b ≡ false
    clear fails false e = refl
    clear fails true e =
        let all : conflicts_on ns a x op o ≡ true = and_from (is_on x o) (way a ns o && not (compatible (mode_of o.op) (mode_of op))) on (and_from (way a ns o) (not (compatible (mode_of o.op) (mode_of op))) e (ap not apart)) in
        sym all ∙ fails

    by_found : (r : Option LiveOp) → find (conflicts_on ns a x op) os ≡ r → option_and_then (λ o. lift_in ns o.action) r ≡ None → is_in_the_way a (lift_in ns o.action) ≡ false
    by_found None is e = clear (find_none_all (conflicts_on ns a x op) os is o h) (way a ns o) refl
    by_found (Some p) is e =
        let f = (found_in (conflicts_on ns a x op) os p is).1 in
        let one = and_parts (is_on x p) (way a ns p && not (compatible (mode_of p.op) (mode_of op))) f in
        let two = and_parts (way a ns p) (not (compatible (mode_of p.op) (mode_of op))) one.1 in
        let wrong : true ≡ false = open_way (lift_in ns p.action) two.0 e in cc
