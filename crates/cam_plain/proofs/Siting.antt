-- What one more deed does to what is kept of all sites.
use Rattle.std.proofs.Common.{◌≡◌, ℕ, eqb, Bool, true, false, not, ◌&&◌, ◌||◌, if◌then◌else◌, cond, List, [], ◌∷◌, ◌++◌, filter, Option, Some, None, refl, sym, ap, ◌∙◌, subst}
use Rattle.std.specs.HashMap.{HashMap}
use Rattle.std.specs.List.{list_all}
use Rattle.std.proofs.lemmas.Bool.{true≢false, eqb-true, eq-eqb, ne_eqb, or_right}
use Rattle.std.proofs.lemmas.List.Elements.{filter-append}
use Rattle.cam_names.specs.declared.name.Name.{Name}
use Rattle.cam_names.specs.Names.{name_eq, is_ancestor, family}
use Rattle.cam_type.specs.declared.ObjectDecl.{ObjectDecl}
use Rattle.cam_type.specs.declared.Answer.{Answer}
use Rattle.cam_event.specs.declared.Operation.{Operation}
use Rattle.cam_event.specs.declared.Deed.{Deed}
use Rattle.cam_event.specs.declared.Deed.TheVariants.{Create, Ask, Call, Perform, Bounce, Got, AskCommit, AskAbort, Commit, Abort, Secure, Inform, Crash}
use Rattle.cam_event.specs.History.{informed, secured_at, is_secure_at, Addressed, call_of}
use Rattle.cam_event.specs.Live.{site_of, of_call, is_dropped, is_kept, live, live_at}
use Rattle.cam_event.proofs.Snoc.{filter_filter, filter_same}
use Rattle.cam_event.proofs.LiveLaws.{live_perform, live_abort, live_crash, is_below}
use Rattle.cam_plain.specs.declared.site.Site.{Site}
use Rattle.cam_plain.specs.Sites.{AreLiveOps, is_noted, KeepsSite, KeepsIfSome, site_in, KeepsSites, Attempted, AfterAttempt, Between}
use Rattle.cam_plain.proofs.Performing.{noted_more}
use Rattle.cam_plain.proofs.Searches.{all_weaker}

-- what a deed leaves of a site
record SameSite (objects : List ObjectDecl) (L M : List Deed) (t : ℕ) : Type 0 where
  live : live_at objects M t ≡ live_at objects L t
  commits : (u : Name) → informed M t u true ≡ informed L t u true
  secured : (f : Name) → secured_at L f t ≡ true → secured_at M f t ≡ true

same_kept : (objects : List ObjectDecl) (L M : List Deed) (t : ℕ) (o : Option Site) → SameSite objects L M t → KeepsIfSome objects L t o → KeepsIfSome objects M t o
same_kept objects L M t None same keeps = record { none = same.live ∙ keeps.none; commits = λ u. keeps.commits u ∙ sym (same.commits u) }
same_kept objects L M t (Some site) same keeps =
    record {
      objects_are = keeps.objects_are;
      node = keeps.node;
      operations = subst (AreLiveOps site.locks.site.live) (sym same.live) keeps.operations;
      commits = λ u. keeps.commits u ∙ sym (same.commits u);
      tops = keeps.tops;
      families = ap (list_all (is_noted M t site.families)) same.live
          ∙ all_weaker (is_noted L t site.families) (is_noted M t site.families) (live_at objects L t)
          (λ o. noted_more L M t site.families site.families o (λ f h. h) same.secured) keeps.families;
    }

-- at another site than its own a deed leaves all
perform_elsewhere : (objects : List ObjectDecl) (L : List Deed) (a : Name) (n : ℕ) (answer : Answer) (call : Addressed) (s t : ℕ) → call_of L a n ≡ Some call → site_of objects call.object ≡ s → eqb t s ≡ false
    → SameSite objects L (Perform a n answer ∷ L) t
perform_elsewhere objects L a n answer call s t called at apart =
    record {
      live = ap (filter here) (live_perform objects L a n answer ∙ ap (λ c. live objects L ++ filter (λ o. not (is_dropped objects L o)) (of_call a n answer c)) called)
          ∙ filter-append here (live objects L) (filter (λ o. not (is_dropped objects L o)) (o ∷ []))
          ∙ ap (λ os. live_at objects L t ++ os) (by (not (is_dropped objects L o))) ∙ nothing_more (live_at objects L t);
      commits = λ u. refl;
      secured = λ f h. h;
    }
  where
    here : Operation → Bool
    here o = eqb (site_of objects o.object) t

    o : Operation
    o = record { action = a; number = n; object = call.object; op = call.op; answer = answer }

    elsewhere : eqb (site_of objects call.object) t ≡ false
    elsewhere = ne_eqb (site_of objects call.object) t (λ (e : site_of objects call.object ≡ t). true≢false (sym (eq-eqb t s (sym e ∙ at)) ∙ apart))

    by : (b : Bool) → filter here (cond b (o ∷ []) []) ≡ []
    by true = ap (λ c. cond c (o ∷ []) []) elsewhere
    by false = refl

    nothing_more : (os : List Operation) → os ++ [] ≡ os
    nothing_more [] = refl
    nothing_more (p ∷ os) = ap (λ ps. p ∷ ps) (nothing_more os)

-- tests of operations of another site
apart_at : (objects : List ObjectDecl) (L : List Deed) (s t : ℕ) (q : Operation → Bool) → eqb t s ≡ false → ((o : Operation) → eqb (site_of objects o.object) s ≡ false → q o ≡ true)
    → filter (λ o. eqb (site_of objects o.object) t) (filter q (live objects L)) ≡ live_at objects L t
apart_at objects L s t q apart passes =
    filter_filter here q (live objects L) ∙ filter_same (λ o. q o && here o) here (live objects L) (λ o. by o (here o) refl)
  where
    here : Operation → Bool
    here o = eqb (site_of objects o.object) t

    none : (b : Bool) → (b && false) ≡ false
    none true = refl
    none false = refl

    by : (o : Operation) (b : Bool) → here o ≡ b → (q o && b) ≡ b
    by o false e = none (q o)
    by o true e =
        ap (λ b. b && true) (passes o (ne_eqb (site_of objects o.object) s (λ (at : site_of objects o.object ≡ s).
        true≢false (sym (eq-eqb t s (sym (eqb-true (site_of objects o.object) t e) ∙ at)) ∙ apart))))

inform_elsewhere : (objects : List ObjectDecl) (L : List Deed) (a : Name) (outcome : Bool) (s t : ℕ) → eqb t s ≡ false → SameSite objects L (Inform s a outcome ∷ L) t
inform_elsewhere objects L a true s t apart =
    record {
      live = refl;
      commits = λ u. ap (λ b. (b && name_eq u a) || informed L t u true) apart;
      secured = λ f h. h;
    }
inform_elsewhere objects L a false s t apart =
    record {
      live = ap (filter (λ o. eqb (site_of objects o.object) t)) (live_abort objects L s a)
          ∙ apart_at objects L s t (λ o. not (is_below objects s a o)) apart (λ o off. ap (λ b. not (b && is_ancestor a o.action)) off);
      commits = λ u. refl;
      secured = λ f h. h;
    }

crash_elsewhere : (objects : List ObjectDecl) (L : List Deed) (s t : ℕ) → eqb t s ≡ false → SameSite objects L (Crash s ∷ L) t
crash_elsewhere objects L s t apart =
    record {
      live = ap (filter (λ o. eqb (site_of objects o.object) t)) (live_crash objects L s)
          ∙ apart_at objects L s t (is_kept objects L s) apart (λ o off. ap (λ b. not b || secured_at L (family o.action) s) off);
      commits = λ u. refl;
      secured = λ f h. h;
    }

-- a site was taken out, changed and put back
changed_at : {S : Type 0} (objects : List ObjectDecl) (L M : List Deed) (s : ℕ) (site : Site) (old middle new : HashMap ℕ Site S)
    → ((t : ℕ) → eqb t s ≡ false → site_in middle t ≡ site_in old t) → ((t : ℕ) → site_in new t ≡ (if eqb t s then Some site else site_in middle t))
    → KeepsSite objects M s site → ((t : ℕ) → eqb t s ≡ false → SameSite objects L M t) → KeepsSites objects L old → KeepsSites objects M new
changed_at objects L M s site old middle new others put keeps same before t = subst (KeepsIfSome objects M t) (sym (put t)) (by (eqb t s) refl)
  where
    by : (b : Bool) → eqb t s ≡ b → KeepsIfSome objects M t (if b then Some site else site_in middle t)
    by true e = subst (λ (u : ℕ). KeepsSite objects M u site) (sym (eqb-true t s e)) keeps
    by false e = subst (KeepsIfSome objects M t) (sym (others t e)) (same_kept objects L M t (site_in old t) (same t e) (before t))

pub inform_sites : {S : Type 0} (objects : List ObjectDecl) (L : List Deed) (s : ℕ) (a : Name) (outcome : Bool) (site : Site) (old middle new : HashMap ℕ Site S)
    → ((t : ℕ) → eqb t s ≡ false → site_in middle t ≡ site_in old t) → ((t : ℕ) → site_in new t ≡ (if eqb t s then Some site else site_in middle t))
    → KeepsSite objects (Inform s a outcome ∷ L) s site → KeepsSites objects L old → KeepsSites objects (Inform s a outcome ∷ L) new
inform_sites objects L s a outcome site old middle new others put keeps before =
    changed_at objects L (Inform s a outcome ∷ L) s site old middle new others put keeps (λ t apart. inform_elsewhere objects L a outcome s t apart) before

pub crash_sites : {S : Type 0} (objects : List ObjectDecl) (L : List Deed) (s : ℕ) (site : Site) (old middle new : HashMap ℕ Site S)
    → ((t : ℕ) → eqb t s ≡ false → site_in middle t ≡ site_in old t) → ((t : ℕ) → site_in new t ≡ (if eqb t s then Some site else site_in middle t))
    → KeepsSite objects (Crash s ∷ L) s site → KeepsSites objects L old → KeepsSites objects (Crash s ∷ L) new
crash_sites objects L s site old middle new others put keeps before =
    changed_at objects L (Crash s ∷ L) s site old middle new others put keeps (λ t apart. crash_elsewhere objects L s t apart) before

pub attempt_sites : {S : Type 0} (objects : List ObjectDecl) (L : List Deed) (s : ℕ) (a : Name) (n : ℕ) (answer : Answer) (call : Addressed) (h : Option Name) (site : Site) (old middle new : HashMap ℕ Site S)
    → call_of L a n ≡ Some call → site_of objects call.object ≡ s
    → ((t : ℕ) → eqb t s ≡ false → site_in middle t ≡ site_in old t) → ((t : ℕ) → site_in new t ≡ (if eqb t s then Some site else site_in middle t))
    → AfterAttempt objects L s a n answer h site → KeepsSites objects L old → Attempted objects L a n answer h new
attempt_sites objects L s a n answer call None site old middle new called at others put keeps before =
    changed_at objects L (Perform a n answer ∷ L) s site old middle new others put keeps (λ t apart. perform_elsewhere objects L a n answer call s t called at apart) before
attempt_sites objects L s a n answer call (Some u) site old middle new called at others put keeps before =
    changed_at objects L L s site old middle new others put keeps (λ t apart. record { live = refl; commits = λ u. refl; secured = λ f h. h }) before

-- A deed that is of no site leaves all sites, and a Perform was kept already.
pub other_sites : {S : Type 0} (objects : List ObjectDecl) (L : List Deed) (d : Deed) (sites : HashMap ℕ Site S)
    → ((s : ℕ) (a : Name) (outcome : Bool) → d ≡ Inform s a outcome → ⊥) → ((s : ℕ) → d ≡ Crash s → ⊥) → Between objects L d sites → KeepsSites objects (d ∷ L) sites
other_sites objects L (Inform s a outcome) sites no_inform no_crash before t = absurd (no_inform s a outcome refl)
other_sites objects L (Crash s) sites no_inform no_crash before t = absurd (no_crash s refl)
other_sites objects L (Perform a n answer) sites no_inform no_crash before t = before t
other_sites objects L (Secure f s c) sites no_inform no_crash before t =
    same_kept objects L (Secure f s c ∷ L) t (site_in sites t) (record { live = refl; commits = λ u. refl; secured = λ g h. or_right (is_secure_at g t (Secure f s c)) (secured_at L g t) h }) (before t)
other_sites objects L (Create a) sites no_inform no_crash before t = same_kept objects L (Create a ∷ L) t (site_in sites t) (record { live = refl; commits = λ u. refl; secured = λ g h. h }) (before t)
other_sites objects L (Ask a b) sites no_inform no_crash before t = same_kept objects L (Ask a b ∷ L) t (site_in sites t) (record { live = refl; commits = λ u. refl; secured = λ g h. h }) (before t)
other_sites objects L (Call a n x op c) sites no_inform no_crash before t = same_kept objects L (Call a n x op c ∷ L) t (site_in sites t) (record { live = refl; commits = λ u. refl; secured = λ g h. h }) (before t)
other_sites objects L (Bounce a n u) sites no_inform no_crash before t = same_kept objects L (Bounce a n u ∷ L) t (site_in sites t) (record { live = refl; commits = λ u. refl; secured = λ g h. h }) (before t)
other_sites objects L (Got a n seen) sites no_inform no_crash before t = same_kept objects L (Got a n seen ∷ L) t (site_in sites t) (record { live = refl; commits = λ u. refl; secured = λ g h. h }) (before t)
other_sites objects L (AskCommit a v) sites no_inform no_crash before t = same_kept objects L (AskCommit a v ∷ L) t (site_in sites t) (record { live = refl; commits = λ u. refl; secured = λ g h. h }) (before t)
other_sites objects L (AskAbort a) sites no_inform no_crash before t = same_kept objects L (AskAbort a ∷ L) t (site_in sites t) (record { live = refl; commits = λ u. refl; secured = λ g h. h }) (before t)
other_sites objects L (Commit a) sites no_inform no_crash before t = same_kept objects L (Commit a ∷ L) t (site_in sites t) (record { live = refl; commits = λ u. refl; secured = λ g h. h }) (before t)
other_sites objects L (Abort a) sites no_inform no_crash before t = same_kept objects L (Abort a ∷ L) t (site_in sites t) (record { live = refl; commits = λ u. refl; secured = λ g h. h }) (before t)
