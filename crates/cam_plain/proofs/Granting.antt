-- What a grant says of a call that comes to its site, and what is kept then.
use Rattle.std.proofs.Common.{◌≡◌, ℕ, ◌≤◌, eqb, true, false, ◌&&◌, List, [], ◌∷◌, ◌++◌, length, Option, Some, None, sym, ap, ◌∙◌, subst, eq-eqb}
use Rattle.std.specs.Prelude.{find, is_none, slice_get}
use Rattle.std.specs.Option.{option_map_or}
use Rattle.std.specs.HashMap.{HashMap}
use Rattle.cam_names.specs.declared.name.Name.{Name}
use Rattle.cam_names.specs.Names.{ancestors, family}
use Rattle.cam_type.specs.declared.ObjectDecl.{ObjectDecl}
use Rattle.cam_type.specs.declared.Op.{Op}
use Rattle.cam_type.specs.declared.Answer.{Answer}
use Rattle.cam_type.specs.Table.{kind_of, fits, answer_of, answer_eq}
use Rattle.cam_type.specs.Objects.{is_fit, site_of}
use Rattle.cam_locks.specs.declared.Grant.{Grant}
use Rattle.cam_locks.specs.declared.Grant.TheVariants.{Done, Conflict}
use Rattle.cam_locks.specs.Site as locks
use Rattle.cam_locks.specs.Site.{fits_here}
use Rattle.cam_locks.specs.Moss as held
use Rattle.cam_locks.specs.Calls.{grant, grant_by, site_by, after_grant, with_operation}
use Rattle.cam_event.specs.declared.Deed.{Deed}
use Rattle.cam_event.specs.declared.Deed.TheVariants.{Perform}
use Rattle.cam_event.specs.History.{informed, Addressed, call_of}
use Rattle.cam_event.specs.Live.{live_on, lift_of, op_of, holder, value}
use Rattle.cam_plain.specs.Tests.{is_performed}
use Rattle.cam_plain.specs.declared.site.Site.{Site}
use Rattle.cam_plain.specs.Sites.{KeepsSite, AfterAttempt, Attempted, KeepsSites, with_abort_of}
use Rattle.cam_plain.proofs.Alike.{none_same}
use Rattle.cam_plain.proofs.Sited.{holder_kept, value_kept, keeps_same}
use Rattle.cam_plain.proofs.Performing.{performed_kept}

-- an op that fits its object fits at the object's site
pub fits_at : (objects : List ObjectDecl) (s x : ℕ) (op : Op) → s ≡ site_of objects x → is_fit objects x op ≡ true → fits_here objects s x op ≡ true
fits_at objects s x op at fit = by (slice_get objects x) at fit
  where
    by : (o : Option ObjectDecl) → s ≡ option_map_or (λ d. d.node) o 0 → option_map_or (λ d. fits (kind_of d.start) op) o false ≡ true
        → (option_map_or (λ d. eqb d.node s) o false && option_map_or (λ d. fits (kind_of d.start) op) o false) ≡ true
    by None e f = cc
    by (Some d) e f = ap (λ b. b && fits (kind_of d.start) op) (eq-eqb d.node s (sym e)) ∙ f

-- a site that is kept takes it
pub fits_kept : (objects : List ObjectDecl) (L : List Deed) (s x : ℕ) (op : Op) (site : Site) → KeepsSite objects L s site → s ≡ site_of objects x → is_fit objects x op ≡ true
    → fits_here site.locks.site.objects site.locks.site.node x op ≡ true
fits_kept objects L s x op site keeps at fit = (λ i. fits_here (keeps.objects_are i) (keeps.node i) x op) ∙ fits_at objects s x op at fit

-- the grant is told by the deeds
pub grant_kept : (objects : List ObjectDecl) (L : List Deed) (s : ℕ) (site : Site) (a : Name) (x : ℕ) (op : Op) (granted : Grant) → granted ≡ grant site.locks.site a x op
    → KeepsSite objects L s site → site_of objects x ≡ s → granted ≡ grant_by (holder objects L a x op) (answer_of (value objects L x) op)
grant_kept objects L s site a x op granted is keeps at =
    is ∙ (λ i. grant_by (holder_kept objects L s site a x op keeps at i) (answer_of (value_kept objects L s site x keeps at i) op))

-- an operation that was done, and one that conflicts
pub done_kept : (objects : List ObjectDecl) (L : List Deed) (s : ℕ) (a : Name) (n : ℕ) (answer given : Answer) (call : Addressed) (old new : Site) (middle : locks.Site) → 1 ≤ length a
    → Done given ≡ grant old.locks.site a call.object call.op → middle ≡ after_grant old.locks.site a call.object call.op
    → new.locks.site ≡ with_abort_of (find (λ u. informed L s u false) (ancestors a)) middle → new.families ≡ old.families ++ family a ∷ []
    → KeepsSite objects L s old → site_of objects call.object ≡ s → call_of L a n ≡ Some call
    → AfterAttempt objects L s a n answer (holder objects L a call.object call.op) new
done_kept objects L s a n answer given call old new middle named granted is table fams keeps at called =
    subst (λ h. AfterAttempt objects L s a n answer h new) (holder_kept objects L s old a call.object call.op keeps at)
    (by (held.holder old.locks.site a call.object call.op) granted is)
  where
    by : (h : Option Name) → Done given ≡ grant_by h (answer_of (held.value old.locks.site call.object) call.op)
        → middle ≡ site_by h old.locks.site (with_operation old.locks.site a call.object call.op) → AfterAttempt objects L s a n answer h new
    by None g m =
        performed_kept objects L s a n answer call old new named called at (table ∙ ap (with_abort_of (find (λ u. informed L s u false) (ancestors a))) m) fams keeps
    by (Some u) g m = cc

pub conflict_kept : (objects : List ObjectDecl) (L : List Deed) (s : ℕ) (a : Name) (n : ℕ) (answer : Answer) (u : Name) (call : Addressed) (old new : Site)
    → Conflict u ≡ grant old.locks.site a call.object call.op → new.locks.site ≡ after_grant old.locks.site a call.object call.op → new.families ≡ old.families
    → KeepsSite objects L s old → site_of objects call.object ≡ s → AfterAttempt objects L s a n answer (holder objects L a call.object call.op) new
conflict_kept objects L s a n answer u call old new granted table fams keeps at =
    subst (λ h. AfterAttempt objects L s a n answer h new) (holder_kept objects L s old a call.object call.op keeps at)
    (by (held.holder old.locks.site a call.object call.op) granted table)
  where
    by : (h : Option Name) → Conflict u ≡ grant_by h (answer_of (held.value old.locks.site call.object) call.op)
        → new.locks.site ≡ site_by h old.locks.site (with_operation old.locks.site a call.object call.op) → AfterAttempt objects L s a n answer h new
    by None g m = cc
    by (Some v) g m = keeps_same objects L s old new m fams keeps

-- what a call answers by its grant
pub perform_done : (objects : List ObjectDecl) (L : List Deed) (a : Name) (answer given : Answer) (call : Addressed)
    → Done given ≡ grant_by (holder objects L a call.object call.op) (answer_of (value objects L call.object) call.op) → answer_eq answer given ≡ is_performed objects L a answer call
perform_done objects L a answer given call granted =
    by (holder objects L a call.object call.op) granted
    ∙ ap (λ b. b && answer_eq answer (answer_of (value objects L call.object) call.op)) (sym (none_same (lift_of objects L) op_of a call.op (live_on objects L call.object)))
  where
    by : (h : Option Name) → Done given ≡ grant_by h (answer_of (value objects L call.object) call.op)
        → answer_eq answer given ≡ (is_none h && answer_eq answer (answer_of (value objects L call.object) call.op))
    by None g = let same : given ≡ answer_of (value objects L call.object) call.op = cc in ap (answer_eq answer) same
    by (Some u) g = cc

-- and what is kept of the sites
pub attempted_done : {S : Type 0} (objects : List ObjectDecl) (L : List Deed) (a : Name) (n : ℕ) (answer given other : Answer) (h : Option Name) (sites : HashMap ℕ Site S)
    → Done given ≡ grant_by h other → Attempted objects L a n answer h sites → KeepsSites objects (Perform a n answer ∷ L) sites
attempted_done objects L a n answer given other None sites g kept = kept
attempted_done objects L a n answer given other (Some u) sites g kept = absurd (apart g)
  where
    apart : Done given ≡ Conflict u → ⊥
    apart e = cc

pub attempted_conflict : {S : Type 0} (objects : List ObjectDecl) (L : List Deed) (a : Name) (n : ℕ) (answer other : Answer) (named : Name) (h : Option Name) (sites : HashMap ℕ Site S)
    → Conflict named ≡ grant_by h other → Attempted objects L a n answer h sites → KeepsSites objects L sites
attempted_conflict objects L a n answer other named None sites g kept = absurd (apart g)
  where
    apart : Conflict named ≡ Done other → ⊥
    apart e = cc
attempted_conflict objects L a n answer other named (Some u) sites g kept = kept
