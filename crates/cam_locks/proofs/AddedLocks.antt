-- What an operation of each mode makes of what is kept of an object.
use Rattle.std.proofs.Common.{◌≡◌, ℕ, List, refl, sym, ap, subst, ◌∙◌}
use Rattle.cam_names.specs.declared.name.Name.{Name}
use Rattle.cam_type.specs.declared.Answer.{Answer}
use Rattle.cam_type.specs.declared.Mode.{Mode}
use Rattle.cam_type.specs.declared.Mode.TheVariants.{Read, Write, Add}
use Rattle.cam_type.specs.Table.{mode_of, answer_of}
use Rattle.cam_locks.specs.declared.LiveOp.{LiveOp}
use Rattle.cam_locks.specs.declared.versions.Version.{Version}
use Rattle.cam_locks.specs.Holding.{LocksView, leaders_of, KeepsLeaders}
use Rattle.cam_locks.specs.Changes.{with_leader, with_write, added_by, met, LastIsLive, LeadersStay, VersionsStay, Tidied, IsDone}
use Rattle.cam_locks.specs.Sums.{sum_on, IsStart}

-- Lists of leaders and versions that stay right make what is kept of the object tidied.
pub tidied : (ns : List Name) (os : List LiveOp) (l : LocksView) (readers writers adders : List LiveOp) (versions : List Version)
    → LeadersStay ns os l.readers readers → LeadersStay ns os l.writers writers → LeadersStay ns os l.adders adders → VersionsStay ns os l.versions versions
    → Tidied ns os l (record l { readers = readers; writers = writers; adders = adders; versions = versions })
tidied ns os l readers writers adders versions read write add version = record {
  stale = refl;
  kept = λ x start next h. record {
    start_is = h.start_is;
    leaders = λ m. by_mode x next m (h.leaders m);
    versions = version x start next h.versions;
    nested = h.nested;
  };
}
  where
    new : LocksView
    new = record l { readers = readers; writers = writers; adders = adders; versions = versions }

    by_mode : (x next : ℕ) (m : Mode) → KeepsLeaders x m ns os next (leaders_of l m) → KeepsLeaders x m ns os next (leaders_of new m)
    by_mode x next Read h = read x Read next h
    by_mode x next Write h = write x Write next h
    by_mode x next Add h = add x Add next h

-- Leaders that are as they were stay right.
pub same : (ns : List Name) (os ts : List LiveOp) → LeadersStay ns os ts ts
same ns os ts = λ x m next h. h

-- an operation was not done
pub not_done : (ns : List Name) (os : List LiveOp) (l : LocksView) (readers writers adders : List LiveOp) (tidy versions : List Version) → VersionsStay ns os l.versions tidy
    → LeadersStay ns os l.readers readers → LeadersStay ns os l.writers writers → LeadersStay ns os l.adders adders → versions ≡ tidy
    → Tidied ns os l (record l { readers = readers; writers = writers; adders = adders; versions = versions })
not_done ns os l readers writers adders tidy versions stay read write add same_versions =
    subst (λ (vs : List Version). Tidied ns os l (record l { readers = readers; writers = writers; adders = adders; versions = vs })) (sym same_versions)
    (tidied ns os l readers writers adders tidy read write add stay)

-- A read was done: what leads the readers has one more.
pub done_read : (ns : List Name) (os : List LiveOp) (o : LiveOp) (answer : Answer) (l : LocksView) (room readers : List LiveOp) (tidy : List Version)
    → mode_of o.op ≡ Read → IsStart l.start → LeadersStay ns os l.readers room → VersionsStay ns os l.versions tidy → LastIsLive os tidy
    → answer ≡ answer_of (met l.start tidy (sum_on o.object os)) o.op → readers ≡ with_leader ns os room o
    → IsDone ns os o answer l (record l { readers = readers; versions = tidy })
done_read ns os o answer l room readers tidy mode range read stay last answered led = record {
  before = record l { readers = room; versions = tidy };
  tidied = tidied ns os l room l.writers l.adders tidy read (same ns os l.writers) (same ns os l.adders) stay;
  last = last;
  range = range;
  answer_is = λ fit. answered;
  new_is =
      (λ i. record l { readers = led i; versions = tidy })
      ∙ sym (ap (λ (m : Mode). added_by m ns os (record l { readers = room; versions = tidy }) o) mode);
}

-- A write was done: what leads the writers has one more, and the versions have its state.
pub done_write : (ns : List Name) (os : List LiveOp) (o : LiveOp) (answer : Answer) (l : LocksView) (room writers : List LiveOp) (tidy versions : List Version)
    → mode_of o.op ≡ Write → IsStart l.start → LeadersStay ns os l.writers room → VersionsStay ns os l.versions tidy → LastIsLive os tidy
    → answer ≡ answer_of (met l.start tidy (sum_on o.object os)) o.op → versions ≡ with_write ns l.start tidy o → writers ≡ with_leader ns os room o
    → IsDone ns os o answer l (record l { writers = writers; versions = versions })
done_write ns os o answer l room writers tidy versions mode range write stay last answered wrote led = record {
  before = record l { writers = room; versions = tidy };
  tidied = tidied ns os l l.readers room l.adders tidy (same ns os l.readers) write (same ns os l.adders) stay;
  last = last;
  range = range;
  answer_is = λ fit. answered;
  new_is =
      (λ i. record l { writers = led i; versions = wrote i })
      ∙ sym (ap (λ (m : Mode). added_by m ns os (record l { writers = room; versions = tidy }) o) mode);
}

-- An add was done: what leads the adders has one more.
pub done_add : (ns : List Name) (os : List LiveOp) (o : LiveOp) (answer : Answer) (l : LocksView) (room adders : List LiveOp) (tidy : List Version)
    → mode_of o.op ≡ Add → IsStart l.start → LeadersStay ns os l.adders room → VersionsStay ns os l.versions tidy → LastIsLive os tidy
    → answer ≡ answer_of (met l.start tidy (sum_on o.object os)) o.op → adders ≡ with_leader ns os room o
    → IsDone ns os o answer l (record l { adders = adders; versions = tidy })
done_add ns os o answer l room adders tidy mode range add stay last answered led = record {
  before = record l { adders = room; versions = tidy };
  tidied = tidied ns os l l.readers l.writers room tidy (same ns os l.readers) (same ns os l.writers) add stay;
  last = last;
  range = range;
  answer_is = λ fit. answered;
  new_is =
      (λ i. record l { adders = led i; versions = tidy })
      ∙ sym (ap (λ (m : Mode). added_by m ns os (record l { adders = room; versions = tidy }) o) mode);
}
