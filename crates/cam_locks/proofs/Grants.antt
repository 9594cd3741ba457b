-- A grant, by what is kept: who stands in the way, what is answered, and what is kept behind it.
use Rattle.std.proofs.Common.{◌≡◌, ℕ, ◌+◌, ◌≤◌, ◌<◌, true, false, List, [], ◌∷◌, ◌++◌, length, get_or, Option, None, sym, ap, subst, ◌∙◌, arith}
use Rattle.std.specs.Prelude.{option_and_then}
use Rattle.cam_names.specs.declared.name.Name.{Name}
use Rattle.cam_type.specs.declared.ObjectDecl.{ObjectDecl}
use Rattle.cam_type.specs.declared.Op.{Op}
use Rattle.cam_type.specs.declared.Answer.{Answer}
use Rattle.cam_type.specs.Table.{kind_of, fits, answer_of}
use Rattle.cam_locks.specs.declared.LiveOp.{LiveOp}
use Rattle.cam_locks.specs.declared.kept.Kept.{Kept}
use Rattle.cam_locks.specs.Granted.{IsKept}
use Rattle.cam_locks.specs.Site.{IndicesRise}
use Rattle.cam_type.specs.Objects.{start_of}
use Rattle.cam_locks.specs.Holding.{LocksView, leaders_of, AllLocks, fresh}
use Rattle.cam_locks.specs.Changes.{EachTo, TidiedTo, DoneTo, SpoiledAt, standing, first_over}
use Rattle.cam_locks.specs.Moss.{holder_of, value_of, lift_in}
use Rattle.cam_locks.proofs.FirstConflicts.{holder_first}
use Rattle.cam_locks.proofs.LockLaws.{conflict_kept}
use Rattle.cam_locks.proofs.AllLocks.{all_tidied, all_done, all_undone, answer_all}

-- what is not stale is not stale once it is tidied
pub fresh_tidied : (ns : List Name) (os : List LiveOp) (old new : List LocksView) (x : ℕ) → x < length old → ((l : LocksView) → (get_or old x l).stale ≡ false)
    → EachTo (TidiedTo ns os) old new → (l : LocksView) → (get_or new x l).stale ≡ false
fresh_tidied ns os old new x within not_stale tidy l = (tidy.each x l within).stale ∙ not_stale l

-- and its start state stays
pub start_kept : (objects : List ObjectDecl) (ns : List Name) (os : List LiveOp) (next : ℕ) (old new : List LocksView) (x : ℕ) → x < length old
    → ((l : LocksView) → (get_or old x l).stale ≡ false) → EachTo (TidiedTo ns os) old new → AllLocks objects ns os next old
    → (l : LocksView) → (get_or new x l).start ≡ start_of objects x
start_kept objects ns os next old new x within not_stale tidy all l =
    (all_tidied objects ns os next old new tidy all x l (subst (λ (n : ℕ). x < n) (sym tidy.len) within) (fresh_tidied ns os old new x within not_stale tidy l)).start_is

-- the lift of what leads a holder in the way is the holder
pub holder_kept : (objects : List ObjectDecl) (ns : List Name) (os : List LiveOp) (next : ℕ) (old new : List LocksView) (a : Name) (x : ℕ) (op : Op) (r : Option LiveOp)
    → IndicesRise 0 os next → x < length old → ((l : LocksView) → (get_or old x l).stale ≡ false) → EachTo (TidiedTo ns os) old new → AllLocks objects ns os next old
    → ((l : LocksView) → r ≡ first_over (λ m. standing ns os a op m (leaders_of (get_or new x l) m)))
    → option_and_then (λ o. lift_in ns o.action) r ≡ holder_of ns os a x op
holder_kept objects ns os next old new a x op r rise within not_stale tidy all found =
    ap (option_and_then (λ (o : LiveOp). lift_in ns o.action))
    (found any ∙ conflict_kept x (start_of objects x) ns os next (get_or new x any) a op rise (all_tidied objects ns os next old new tidy all x any still (fresh_tidied ns os old new x within not_stale tidy any)))
    ∙ sym (holder_first ns os a x op)
  where
    any : LocksView
    any = fresh (start_of objects x)

    still : x < length new
    still = subst (λ (n : ℕ). x < n) (sym tidy.len) within

-- What a table goes by is right where that is said of what it is equal to.
pub kept_at : (objects : List ObjectDecl) (ns : List Name) (os : List LiveOp) (next : ℕ) (new : Kept)
    → new.objects ≡ objects → new.committed.names ≡ ns → new.live.ops ≡ os → new.live.next ≡ next
    → IndicesRise 0 os next → next ≤ 1000000000 → AllLocks objects ns os next new.locks.items → IsKept new
kept_at objects ns os next new objects_is names_is ops_is next_is rise range all = record {
  rising = subst (λ (ps : List LiveOp). IndicesRise 0 ps new.live.next) (sym ops_is) (subst (λ (n : ℕ). IndicesRise 0 os n) (sym next_is) rise);
  range = subst (λ (n : ℕ). n ≤ 1000000000) (sym next_is) range;
  locks =
      subst (λ (ds : List ObjectDecl). AllLocks ds new.committed.names new.live.ops new.live.next new.locks.items) (sym objects_is)
      (subst (λ (ms : List Name). AllLocks objects ms new.live.ops new.live.next new.locks.items) (sym names_is)
      (subst (λ (ps : List LiveOp). AllLocks objects ns ps new.live.next new.locks.items) (sym ops_is)
      (subst (λ (n : ℕ). AllLocks objects ns os n new.locks.items) (sym next_is) all)));
}

-- With one more operation at the end, under an index in its range, the next index is in its own.
pub next_in_range : (index : ℕ) → index ≤ 999999999 → index + 1 ≤ 1000000000
next_in_range index le = omega (arith, le)

-- What is kept is right after an operation that was done.
pub kept_done : (objects : List ObjectDecl) (ns : List Name) (os : List LiveOp) (next : ℕ) (old mid new : List LocksView) (n : LiveOp) (answer : Answer)
    → IndicesRise 0 os next → next ≤ n.index → holder_of ns os n.action n.object n.op ≡ None
    → EachTo (TidiedTo ns os) old mid → EachTo (DoneTo ns os n answer) mid new → AllLocks objects ns os next old
    → AllLocks objects ns (os ++ n ∷ []) (n.index + 1) new
kept_done objects ns os next old mid new n answer rise le none tidy done all =
    all_done objects ns os next mid new n answer rise le (sym (holder_first ns os n.action n.object n.op) ∙ none) done (all_tidied objects ns os next old mid tidy all)

-- And after one that was done but not added, where nothing is kept of its object from now on.
pub kept_undone : (objects : List ObjectDecl) (ns : List Name) (os : List LiveOp) (next : ℕ) (old mid done_to new : List LocksView) (n : LiveOp) (answer : Answer)
    → EachTo (TidiedTo ns os) old mid → EachTo (DoneTo ns os n answer) mid done_to → EachTo (SpoiledAt n.object) done_to new → AllLocks objects ns os next old
    → AllLocks objects ns os next new
kept_undone objects ns os next old mid done_to new n answer tidy done spoiled all =
    all_undone objects ns os next mid done_to new n answer done spoiled (all_tidied objects ns os next old mid tidy all)

-- The answer is that at the value which the operation meets.
pub answer_kept : (objects : List ObjectDecl) (ns : List Name) (os : List LiveOp) (next : ℕ) (old mid new : List LocksView) (n : LiveOp) (answer : Answer)
    → fits (kind_of (start_of objects n.object)) n.op ≡ true → n.object < length old → ((l : LocksView) → (get_or old n.object l).stale ≡ false)
    → EachTo (TidiedTo ns os) old mid → EachTo (DoneTo ns os n answer) mid new → AllLocks objects ns os next old
    → answer ≡ answer_of (value_of objects os n.object) n.op
answer_kept objects ns os next old mid new n answer fit within not_stale tidy done all =
    answer_all objects ns os next mid new n answer any fit (subst (λ (k : ℕ). n.object < k) (sym tidy.len) within) (fresh_tidied ns os old mid n.object within not_stale tidy any)
    done (all_tidied objects ns os next old mid tidy all)
  where
    any : LocksView
    any = fresh (start_of objects n.object)
