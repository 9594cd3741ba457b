-- The live operations of a site, as the site's own deeds have them.
use Rattle.std.proofs.Common.{◌≡◌, inl, inr, cond, ℕ, eqb, Bool, true, false, not, ◌&&◌, ◌||◌, List, [], ◌∷◌, ◌++◌, filter, Some, refl, sym, ap, ◌∙◌}
use Rattle.std.specs.List.{list_any}
use Rattle.std.proofs.lemmas.Bool.{ne_eqb}
use Rattle.std.proofs.lemmas.Bool.Decides.{eqb_tells}
use Rattle.std.proofs.lemmas.List.Elements.{filter-append}
use Rattle.cam_names.specs.declared.name.Name.{Name}
use Rattle.cam_names.specs.Names.{name_eq, ancestors, family}
use Rattle.cam_type.specs.declared.ObjectDecl.{ObjectDecl}
use Rattle.cam_event.specs.declared.Operation.{Operation}
use Rattle.cam_event.specs.declared.Deed.{Deed}
use Rattle.cam_event.specs.declared.Deed.TheVariants.{Call, Perform, Secure, Crash}
use Rattle.cam_event.specs.History.{Addressed, call_of, informed, secured_at}
use Rattle.cam_event.specs.Live.{site_of, of_call, is_kept, is_dropped, surviving, live_at}
use Rattle.cam_event.proofs.Snoc.{filter_filter, filter_same}
use Rattle.cam_plain.proofs.Called.{call_stays}
use Rattle.cam_plain.specs.Legal.{Legal}
use Rattle.cam_cut.proofs.Places.{PlacedAt, Local}
use Rattle.cam_cut.proofs.HomeFacts.{skip_secure}
use Rattle.cam_cut.proofs.Lists.{filter_true}
use Rattle.std.proofs.lemmas.List.{append-nil}

-- the operations that no crash has removed, where a Perform's call is looked up in another history
abbrev pub surviving_in : List ObjectDecl → List Deed → List Deed → List Operation
surviving_in objects H [] = []
surviving_in objects H (Perform a n answer ∷ before) = surviving_in objects H before ++ of_call a n answer (call_of H a n)
surviving_in objects H (Crash s ∷ before) = filter (is_kept objects before s) (surviving_in objects H before)
surviving_in objects H (_ ∷ before) = surviving_in objects H before

-- in a legal history that is no other, if the other history has its calls
pub surviving_alike : (objects : List ObjectDecl) (H L : List Deed) → Legal objects L → ((a : Name) (n : ℕ) (call : Addressed) → call_of L a n ≡ Some call → call_of H a n ≡ Some call) → surviving objects L ≡ surviving_in objects H L
surviving_alike objects H [] legal calls = refl
surviving_alike objects H (Perform a n answer ∷ L) legal calls =
    let called : call_of L a n ≡ Some legal.0.call = legal.0.arrival.called in
    λ i. surviving_alike objects H L legal.1 calls i ++ of_call a n answer ((called ∙ sym (calls a n legal.0.call called)) i)
surviving_alike objects H (Crash s ∷ L) legal calls = ap (filter (is_kept objects L s)) (surviving_alike objects H L legal.1 calls)
surviving_alike objects H (Call b m x op c ∷ L) legal calls = surviving_alike objects H L legal.1 (λ a n call called. calls a n call (call_stays objects L (Call b m x op c) a n call legal called))
surviving_alike objects H (_ ∷ L) legal calls = surviving_alike objects H L legal.1 calls

-- whether an operation stands at the site
abbrev pub at_site : List ObjectDecl → ℕ → Operation → Bool
at_site objects s o = eqb (site_of objects o.object) s

-- two histories have the operations and the Secures of a site alike
abbrev pub SiteAgrees : List ObjectDecl → List Deed → ℕ → List Deed → List Deed → Type 0
SiteAgrees objects H s L M = (filter (at_site objects s) (surviving_in objects H L) ≡ filter (at_site objects s) (surviving_in objects H M)) × ((f : Name) → secured_at L f s ≡ secured_at M f s)

-- what a crash keeps at the site
abbrev keeps_here : List Deed → ℕ → ℕ → Operation → Bool
keeps_here L s crashed o = not (eqb s crashed) || secured_at L (family o.action) s

-- of an operation at the site a crash asks just that
kept_here : (objects : List ObjectDecl) (L : List Deed) (s crashed : ℕ) (o : Operation) → (is_kept objects L crashed o && at_site objects s o) ≡ (at_site objects s o && keeps_here L s crashed o)
kept_here objects L s crashed o = elim (eqb_tells (site_of objects o.object) s) [
  | inl y ↦ rw y.0 (and_true (is_kept objects L crashed o) ∙ here y.1)
  | inr n ↦ rw n.0 (and_false (is_kept objects L crashed o))
]
  where
    and_true : (b : Bool) → (b && true) ≡ b
    and_true true = refl
    and_true false = refl

    and_false : (b : Bool) → (b && false) ≡ false
    and_false true = refl
    and_false false = refl

    here : site_of objects o.object ≡ s → is_kept objects L crashed o ≡ keeps_here L s crashed o
    here same = elim (eqb_tells s crashed) [
      | inl y ↦ (λ i. not (eqb (same i) crashed) || secured_at L (family o.action) (sym y.1 i))
      | inr n ↦ ap (λ (x : ℕ). not (eqb x crashed) || secured_at L (family o.action) crashed) same ∙ ap (λ b. not b || secured_at L (family o.action) crashed) n.0 ∙ sym (ap (λ b. not b || secured_at L (family o.action) s) n.0)
    ]

-- what a crash leaves of the site's operations
crash_here : (objects : List ObjectDecl) (H L : List Deed) (s crashed : ℕ) → filter (at_site objects s) (surviving_in objects H (Crash crashed ∷ L)) ≡ filter (keeps_here L s crashed) (filter (at_site objects s) (surviving_in objects H L))
crash_here objects H L s crashed =
    filter_filter (at_site objects s) (is_kept objects L crashed) (surviving_in objects H L)
    ∙ filter_same (λ o. is_kept objects L crashed o && at_site objects s o) (λ o. at_site objects s o && keeps_here L s crashed o) (surviving_in objects H L) (kept_here objects L s crashed)
    ∙ sym (filter_filter (keeps_here L s crashed) (at_site objects s) (surviving_in objects H L))

-- a deed that both have keeps the agreement
site_both : (objects : List ObjectDecl) (H : List Deed) (s : ℕ) (d : Deed) (L M : List Deed) → SiteAgrees objects H s L M → SiteAgrees objects H s (d ∷ L) (d ∷ M)
site_both objects H s (Perform a n answer) L M h = (
  filter-append (at_site objects s) (surviving_in objects H L) (of_call a n answer (call_of H a n))
      ∙ ap (λ os. os ++ filter (at_site objects s) (of_call a n answer (call_of H a n))) h.0
      ∙ sym (filter-append (at_site objects s) (surviving_in objects H M) (of_call a n answer (call_of H a n))),
  h.1,
)
site_both objects H s (Crash r) L M h = (
  crash_here objects H L s r ∙ ap (filter (keeps_here L s r)) h.0
      ∙ filter_same (keeps_here L s r) (keeps_here M s r) (filter (at_site objects s) (surviving_in objects H M)) (λ o. ap (λ b. not (eqb s r) || b) (h.1 (family o.action)))
      ∙ sym (crash_here objects H M s r),
  h.1,
)
site_both objects H s (Secure g x c) L M h = (h.0, λ f. ap (λ b. (name_eq f g && eqb s x) || b) (h.1 f))
site_both objects H s _ L M h = h

-- and a deed elsewhere
site_other : (objects : List ObjectDecl) (H : List Deed) (s : ℕ) (d : Deed) (L M : List Deed) (r : ℕ) → PlacedAt objects H r d → (r ≡ s → ⊥) → SiteAgrees objects H s L M → SiteAgrees objects H s L (d ∷ M)
site_other objects H s (Perform a n answer) L M r placed away h = (
  h.0 ∙ sym (
      filter-append (at_site objects s) (surviving_in objects H M) (of_call a n answer (call_of H a n))
      ∙ ap (λ o. filter (at_site objects s) (surviving_in objects H M) ++ filter (at_site objects s) (of_call a n answer o)) placed.1
      ∙ ap (λ b. filter (at_site objects s) (surviving_in objects H M) ++ cond b (record { action = a; number = n; object = placed.0.object; op = placed.0.op; answer = answer } ∷ []) []) (ne_eqb (site_of objects placed.0.object) s (λ (e : site_of objects placed.0.object ≡ s). away (sym placed.2 ∙ e)))
      ∙ append-nil (filter (at_site objects s) (surviving_in objects H M))
      ),
  h.1,
)
site_other objects H s (Crash x) L M r placed away h = (
  h.0 ∙ sym (crash_here objects H M s x ∙ filter_true (keeps_here M s x) (filter (at_site objects s) (surviving_in objects H M)) (λ o. ap (λ b. not b || secured_at M (family o.action) s) (ne_eqb s x (λ (e : s ≡ x). away (sym placed ∙ sym e))))),
  h.1,
)
site_other objects H s (Secure g x c) L M r placed away h = (h.0, λ f. h.1 f ∙ sym (ap (λ b. b || secured_at M f s) (skip_secure objects H f s (Secure g x c) r placed away)))
site_other objects H s _ L M r placed away h = h

-- the operations and the Secures of a site are those of its own deeds
pub local_site : (objects : List ObjectDecl) (H : List Deed) (s : ℕ) → Local objects H s (SiteAgrees objects H s)
local_site objects H s = record {
  start = (refl, λ f. refl);
  both = λ L M d placed h. site_both objects H s d L M h;
  other = λ L M d r placed away h. site_other objects H s d L M r placed away h;
}

-- whether the site was informed of the abort of an ancestor of the operation's action
abbrev dropped_here : List Deed → ℕ → Operation → Bool
dropped_here L s o = list_any (λ u. informed L s u false) (ancestors o.action)

-- the live operations of a site by the Informs of that site
live_here : (objects : List ObjectDecl) (L : List Deed) (s : ℕ) → live_at objects L s ≡ filter (λ o. not (dropped_here L s o)) (filter (at_site objects s) (surviving objects L))
live_here objects L s =
    filter_filter (at_site objects s) (λ o. not (is_dropped objects L o)) (surviving objects L)
    ∙ filter_same (λ o. not (is_dropped objects L o) && at_site objects s o) (λ o. at_site objects s o && not (dropped_here L s o)) (surviving objects L) same
    ∙ sym (filter_filter (λ o. not (dropped_here L s o)) (at_site objects s) (surviving objects L))
  where
    and_true : (b : Bool) → (b && true) ≡ b
    and_true true = refl
    and_true false = refl

    and_false : (b : Bool) → (b && false) ≡ false
    and_false true = refl
    and_false false = refl

    same : (o : Operation) → (not (is_dropped objects L o) && at_site objects s o) ≡ (at_site objects s o && not (dropped_here L s o))
    same o = elim (eqb_tells (site_of objects o.object) s) [
      | inl y ↦ rw y.0 (and_true (not (is_dropped objects L o)) ∙ ap (λ (x : ℕ). not (list_any (λ u. informed L x u false) (ancestors o.action))) y.1)
      | inr n ↦ rw n.0 (and_false (not (is_dropped objects L o)))
    ]

-- two legal histories that agree on the site, and on the aborts of which it was informed, have its live operations alike
pub live_same : (objects : List ObjectDecl) (H L M : List Deed) (s : ℕ) → surviving objects L ≡ surviving_in objects H L → surviving objects M ≡ surviving_in objects H M → SiteAgrees objects H s L M → ((u : Name) → informed L s u false ≡ informed M s u false) → live_at objects L s ≡ live_at objects M s
live_same objects H L M s one other agree told =
    live_here objects L s
    ∙ ap (λ os. filter (λ o. not (dropped_here L s o)) os) (ap (filter (at_site objects s)) one ∙ agree.0 ∙ sym (ap (filter (at_site objects s)) other))
    ∙ filter_same (λ o. not (dropped_here L s o)) (λ o. not (dropped_here M s o)) (filter (at_site objects s) (surviving objects M)) (λ o. λ i. not (list_any (λ u. told u i) (ancestors o.action)))
    ∙ sym (live_here objects M s)
