-- What a server holds behind an operation, by what is kept.
use Rattle.std.proofs.Common.{◌≡◌, ℕ, ◌<◌, false, List, length, get_or, Result, Ok, Err, sym, ap, subst, ◌∙◌}
use Rattle.std.specs.Prelude.{OnOk}
use Rattle.cam_names.specs.declared.name.Name.{Name}
use Rattle.cam_type.specs.declared.ObjectDecl.{ObjectDecl}
use Rattle.cam_type.specs.declared.State.{State}
use Rattle.cam_type.specs.Table.{state_after}
use Rattle.cam_locks.specs.declared.LiveOp.{LiveOp}
use Rattle.cam_locks.specs.declared.versions.Version.{Version}
use Rattle.cam_type.specs.Objects.{start_of}
use Rattle.cam_locks.specs.Moss.{value_of}
use Rattle.cam_locks.specs.Holding.{LocksView, KeepsLocks, AllLocks}
use Rattle.cam_locks.specs.Sums.{sum_on, IsStart}
use Rattle.cam_locks.specs.Changes.{met, LastIsLive, VersionsStay, EachTo, TidiedTo}
use Rattle.cam_locks.specs.Served.{IsServed}
use Rattle.cam_locks.proofs.MetStates.{met_is}
use Rattle.cam_locks.proofs.AddedLocks.{tidied, same}
use Rattle.cam_locks.proofs.AllLocks.{all_tidied}
use Rattle.cam_locks.proofs.Grants.{fresh_tidied}

-- the state is that behind the live operations on the object
pub state_kept : (objects : List ObjectDecl) (ns : List Name) (os : List LiveOp) (next : ℕ) (old mid : List LocksView) (n : LiveOp) (state : State) (l : LocksView)
    → n.object < length old → ((k : LocksView) → (get_or old n.object k).stale ≡ false)
    → EachTo (TidiedTo ns os) old mid → IsServed ns os n state (get_or mid n.object l) → AllLocks objects ns os next old
    → state ≡ state_after (value_of objects os n.object) n.op
state_kept objects ns os next old mid n state l within not_stale tidy done all =
    done.state_is
    ∙ ap (λ (s : State). state_after (met s done.before.versions (sum_on n.object os)) n.op) kept.start_is
    ∙ ap (λ (s : State). state_after s n.op)
    (met_is n.object (start_of objects n.object) ns os next done.before.versions (subst IsStart kept.start_is done.range) kept.versions done.last)
  where
    kept : KeepsLocks n.object (start_of objects n.object) ns os next done.before
    kept =
        done.tidied.kept n.object (start_of objects n.object) next
        (all_tidied objects ns os next old mid tidy all n.object l (subst (λ (k : ℕ). n.object < k) (sym tidy.len) within) (fresh_tidied ns os old mid n.object within not_stale tidy l))

-- a server that was asked behind what was tidied
pub is_served : (ns : List Name) (os : List LiveOp) (o : LiveOp) (state : State) (l : LocksView) (tidy : List Version)
    → IsStart l.start → VersionsStay ns os l.versions tidy → LastIsLive os tidy → state ≡ state_after (met l.start tidy (sum_on o.object os)) o.op → IsServed ns os o state l
is_served ns os o state l tidy range stay last state_is = record {
  before = record l { versions = tidy };
  tidied = tidied ns os l l.readers l.writers l.adders tidy (same ns os l.readers) (same ns os l.writers) (same ns os l.adders) stay;
  last = last;
  range = range;
  state_is = state_is;
}

-- a fact at the answer of a call
pub on_ok : {T E : Type 0} (r : Result T E) (P Q : Type 0) → (P → Q) → OnOk r P → OnOk r Q
on_ok (Ok x) P Q f h = f h
on_ok (Err e) P Q f h = h
