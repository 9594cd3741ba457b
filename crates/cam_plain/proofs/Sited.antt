-- What one more deed does to what is kept of its site.
use Rattle.std.proofs.Common.{◌≡◌, ℕ, eqb, Bool, true, false, ◌&&◌, List, [], filter, refl, sym, ap, ◌∙◌, subst}
use Rattle.std.specs.List.{list_all}
use Rattle.std.proofs.lemmas.Bool.{eqb-true, eq-eqb}
use Rattle.cam_names.specs.declared.name.Name.{Name}
use Rattle.cam_names.specs.Names.{is_top}
use Rattle.cam_type.specs.declared.ObjectDecl.{ObjectDecl}
use Rattle.cam_type.specs.declared.Op.{Op}
use Rattle.cam_type.specs.Moss as moss
use Rattle.cam_know.specs.Known.{lift_by}
use Rattle.cam_locks.specs.declared.LiveOp.{LiveOp}
use Rattle.cam_locks.specs.Names.{has_name}
use Rattle.cam_locks.specs.Moss as held
use Rattle.cam_locks.specs.Calls.{new_site}
use Rattle.cam_event.specs.declared.Operation.{Operation}
use Rattle.cam_event.specs.declared.Deed.{Deed}
use Rattle.cam_event.specs.Live.{site_of, start_of, live, live_at, live_on, lift, lift_of, op_of, replay, holder, value}
use Rattle.cam_event.proofs.Snoc.{filter_filter, filter_same}
use Rattle.cam_plain.specs.declared.site.Site.{Site}
use Rattle.cam_plain.specs.Sites.{IsLiveOp, AreLiveOps, is_noted, KeepsSite, IsUntouched}
use Rattle.cam_plain.proofs.Alike.{holder_alike, replay_alike}

-- the live operations on an object are among those of its site
on_at : (objects : List ObjectDecl) (L : List Deed) (x s : ℕ) → site_of objects x ≡ s → filter (λ o. eqb o.object x) (live_at objects L s) ≡ live_on objects L x
on_at objects L x s at =
    filter_filter (λ o. eqb o.object x) (λ o. eqb (site_of objects o.object) s) (live objects L)
    ∙ filter_same (λ o. eqb (site_of objects o.object) s && eqb o.object x) (λ o. eqb o.object x) (live objects L) (λ o. by o (eqb o.object x) refl)
  where
    none : (b : Bool) → (b && false) ≡ false
    none true = refl
    none false = refl

    by : (o : Operation) (b : Bool) → eqb o.object x ≡ b → (eqb (site_of objects o.object) s && b) ≡ b
    by o true on = ap (λ t. t && true) (eq-eqb (site_of objects o.object) s (ap (site_of objects) (eqb-true o.object x on) ∙ at))
    by o false off = none (eqb (site_of objects o.object) s)

-- Who stands in the way is the same by the lock table as by the deeds, and so is the value that is met.
pub holder_kept : (objects : List ObjectDecl) (L : List Deed) (s : ℕ) (site : Site) (a : Name) (x : ℕ) (op : Op) → KeepsSite objects L s site → site_of objects x ≡ s
    → held.holder site.locks.site a x op ≡ holder objects L a x op
holder_kept objects L s site a x op keeps at =
    holder_alike site.locks.site.committed (lift_of objects L) a x op site.locks.site.live (live_at objects L s) lifts keeps.operations
    ∙ ap (moss.holder (lift_of objects L) op_of a op) (on_at objects L x s at)
  where
    lifts : (k : LiveOp) (o : Operation) → IsLiveOp k o → eqb o.object x ≡ true → held.lift_in site.locks.site.committed k.action ≡ lift_of objects L o
    lifts k o same on =
        (λ i. lift_by (λ u. keeps.commits u i) (same.action i))
        ∙ ap (λ t. lift L t o.action) (sym at ∙ ap (site_of objects) (sym (eqb-true o.object x on)))

pub value_kept : (objects : List ObjectDecl) (L : List Deed) (s : ℕ) (site : Site) (x : ℕ) → KeepsSite objects L s site → site_of objects x ≡ s
    → held.value site.locks.site x ≡ value objects L x
value_kept objects L s site x keeps at =
    ap (λ os. held.value_of os site.locks.site.live x) keeps.objects_are
    ∙ replay_alike (start_of objects x) x site.locks.site.live (live_at objects L s) keeps.operations
    ∙ ap (replay (start_of objects x)) (on_at objects L x s at)

-- a site is kept as long as its table and its families are the same
pub keeps_same : (objects : List ObjectDecl) (L : List Deed) (s : ℕ) (old new : Site) → new.locks.site ≡ old.locks.site → new.families ≡ old.families → KeepsSite objects L s old → KeepsSite objects L s new
keeps_same objects L s old new table fams keeps =
    record {
      objects_are = ap (λ t. t.objects) table ∙ keeps.objects_are;
      node = ap (λ t. t.node) table ∙ keeps.node;
      operations = subst (λ ks. AreLiveOps ks (live_at objects L s)) (sym (ap (λ t. t.live) table)) keeps.operations;
      commits = λ u. ap (λ t. has_name t.committed u) table ∙ keeps.commits u;
      tops = ap (list_all is_top) fams ∙ keeps.tops;
      families = ap (λ fs. list_all (is_noted L s fs) (live_at objects L s)) fams ∙ keeps.families;
    }

-- a site of which nothing was kept
pub new_kept : (objects : List ObjectDecl) (L : List Deed) (s : ℕ) (site : Site) → site.locks.site ≡ new_site objects s → site.families ≡ [] → IsUntouched objects L s → KeepsSite objects L s site
new_kept objects L s site table fams before =
    record {
      objects_are = ap (λ t. t.objects) table;
      node = ap (λ t. t.node) table;
      operations = subst (λ ks. AreLiveOps ks (live_at objects L s)) (sym (ap (λ t. t.live) table)) (subst (AreLiveOps []) (sym before.none) tt);
      commits = λ u. ap (λ t. has_name t.committed u) table ∙ before.commits u;
      tops = ap (list_all is_top) fams;
      families = ap (λ fs. list_all (is_noted L s fs) (live_at objects L s)) fams ∙ ap (list_all (is_noted L s [])) before.none;
    }
