-- What a node keeps of its site stays beside the standing operations through deeds that fit.
use Rattle.std.proofs.Common.{◌≡◌, ℕ, ◌+◌, true, false, ◌&&◌, ◌||◌, List, [], ◌∷◌, ◌++◌, map, Option, Some, sym, ap, ◌∙◌, subst}
use Rattle.std.specs.List.{list_any}
use Rattle.std.proofs.lemmas.Bool.{eq-eqb, or_right}
use Rattle.std.proofs.Math.Bool.{and-true}
use Rattle.cam_names.specs.declared.name.Name.{Name}
use Rattle.cam_names.specs.Names.{name_eq, is_ancestor, ancestors, family}
use Rattle.cam_event.specs.declared.Operation.{Operation}
use Rattle.cam_event.specs.declared.Deed.{Deed}
use Rattle.cam_event.specs.declared.Deed.TheVariants.{Create, Ask, Call, Perform, Bounce, Got, AskCommit, AskAbort, Commit, Abort, Secure, Inform, Crash}
use Rattle.cam_type.specs.declared.Answer.{Answer}
use Rattle.cam_event.specs.History.{after, informed, secured_at, number_of, Addressed, call_of, is_inform}
use Rattle.cam_event.specs.Live.{of_call}
use Rattle.cam_event.specs.Inputs.{Mail}
use Rattle.cam_event.specs.HeldSites.{Placed, Site, is_any_perform, performed_op, site_after, site_after_all}
use Rattle.cam_names.proofs.Every.{Every}
use Rattle.cam_agree.proofs.LiveOrder.{of_family}
use Rattle.cam_agree.proofs.LiveStands.{standing, crashed, alive, HandedUp, Stands, StandsAt}
use Rattle.cam_agree.proofs.LiveStep.{placed, stands_perform, stands_commit, stands_abort}
use Rattle.cam_agree.proofs.LiveKept.{stands_secure, stands_crash}

-- the operation of a call
abbrev pub operation_of : Name → ℕ → Answer → Addressed → Operation
operation_of a n answer call = record { action = a; number = n; object = call.object; op = call.op; answer = answer }

-- A Perform is of the call that the letter brought, of an action none of whose ancestors the site knows aborted and whose family it has
-- not secured.
pub record FitsPerform (H : List Deed) (s : ℕ) (L : List Deed) (mail : Option Mail) (a : Name) (n : ℕ) (answer : Answer) : Type 0 where
  pub call : Addressed
  pub called : call_of H a n ≡ Some call
  pub brought : performed_op answer mail ≡ operation_of a n answer call ∷ []
  pub named : is_ancestor a a ≡ true
  pub free : secured_at L (family a) s ≡ false
  pub clear : list_any (λ u. informed L s u false) (ancestors a) ≡ false

-- A family is secured once, with operations that were handed up to it.
pub record FitsSecure (H : List Deed) (s : ℕ) (L : List Deed) (f : Name) (site : ℕ) : Type 0 where
  pub here : site ≡ s
  pub fresh : secured_at L f s ≡ false
  pub to_it : Every (λ p. of_family f p ≡ true → HandedUp (λ u. informed L s u true) p.operation.action) (alive (λ u. informed L s u false) (standing H L s))

-- what a deed of the site must be, for what the node keeps to go with it
abbrev pub Fits : List Deed → ℕ → List Deed → Option Mail → Deed → Type 0
Fits H s L mail (Perform a n answer) = FitsPerform H s L mail a n answer
Fits H s L mail (Secure f site c) = FitsSecure H s L f site
Fits H s L mail (Inform site u false) = (site ≡ s) × (informed L s u true ≡ false)
Fits H s L mail (Inform site u true) = Unit {0}
Fits H s L mail (Crash site) = site ≡ s
Fits H s L mail _ = Unit {0}

abbrev pub AllFit : List Deed → ℕ → List Deed → Option Mail → List Deed → Type 0
AllFit H s L mail [] = Unit {0}
AllFit H s L mail (d ∷ ds) = Fits H s L mail d × AllFit H s (d ∷ L) mail ds

-- deeds one behind the other
pub fit_append : (H : List Deed) (s : ℕ) (L : List Deed) (mail : Option Mail) (xs ys : List Deed) → AllFit H s L mail xs → AllFit H s (after L xs) mail ys → AllFit H s L mail (xs ++ ys)
fit_append H s L mail [] ys h g = g
fit_append H s L mail (x ∷ xs) ys h g = (h.0, fit_append H s (x ∷ L) mail xs ys h.1 g)

stands_one : (H L : List Deed) (s : ℕ) (mail : Option Mail) (S : Site) (d : Deed) → StandsAt H L s S → Fits H s L mail d → StandsAt H (d ∷ L) s (site_after L mail S d)
stands_one H L s mail S (Perform a n answer) h fits =
    let o : Operation = operation_of a n answer fits.call in
    let p : Operation → Placed = placed (number_of is_any_perform L) in
    let done : Stands (crashed L) (number_of is_any_perform L + 1) (standing H L s ++ p o ∷ []) (λ f. secured_at L f s) (λ u. informed L s u false) (λ u. informed L s u true) (record S { live = S.live ++ p o ∷ [] }) =
    stands_perform (crashed L) (number_of is_any_perform L) (standing H L s) (λ f. secured_at L f s) (λ u. informed L s u false) (λ u. informed L s u true) S o h fits.named fits.free fits.clear in
    let called : Stands (crashed L) (number_of is_any_perform L + 1) (standing H L s ++ map p (of_call a n answer (call_of H a n))) (λ f. secured_at L f s) (λ u. informed L s u false) (λ u. informed L s u true) (record S { live = S.live ++ p o ∷ [] }) =
    subst (λ (c : Option Addressed). Stands (crashed L) (number_of is_any_perform L + 1) (standing H L s ++ map p (of_call a n answer c)) (λ f. secured_at L f s) (λ u. informed L s u false) (λ u. informed L s u true) (record S { live = S.live ++ p o ∷ [] })) (sym fits.called) done in
    subst (λ (os : List Operation). Stands (crashed L) (number_of is_any_perform L + 1) (standing H L s ++ map p (of_call a n answer (call_of H a n))) (λ f. secured_at L f s) (λ u. informed L s u false) (λ u. informed L s u true) (record S { live = S.live ++ map p os })) (sym fits.brought) called
stands_one H L s mail S (Secure f site c) h fits =
    stands_secure (crashed L) (number_of is_any_perform L) (standing H L s) (λ g. secured_at L g s) (λ g. secured_at (Secure f site c ∷ L) g s) (λ u. informed L s u false) (λ u. informed L s u true) S f h
    (λ g. ap (λ b. (name_eq g f && b) || secured_at L g s) (eq-eqb s site (sym fits.here)) ∙ ap (λ b. b || secured_at L g s) (and-true (name_eq g f))) fits.fresh fits.to_it
stands_one H L s mail S (Inform site u false) h fits =
    stands_abort (crashed L) (number_of is_any_perform L) (standing H L s) (λ g. secured_at L g s) (λ v. informed L s v false) (λ v. informed L s v true) (λ v. informed (Inform site u false ∷ L) s v false) S u h
    (λ v. ap (λ b. (b && name_eq v u) || informed L s v false) (eq-eqb s site (sym fits.0))) fits.1
stands_one H L s mail S (Inform site u true) h fits =
    stands_commit (crashed L) (number_of is_any_perform L) (standing H L s) (λ g. secured_at L g s) (λ v. informed L s v false) (λ v. informed L s v true) (λ v. informed (Inform site u true ∷ L) s v true) S h
    (λ v k. or_right (is_inform s v true (Inform site u true)) (informed L s v true) k)
stands_one H L s mail S (Crash site) h fits =
    subst (λ (r : ℕ). StandsAt H (Crash r ∷ L) s (site_after L mail S (Crash r))) (sym fits)
    (stands_crash (crashed L) (number_of is_any_perform L) (standing H L s) (λ f. secured_at L f s) (λ u. informed L s u false) (λ u. informed L s u true) S h)
stands_one H L s mail S (Create a) h fits = h
stands_one H L s mail S (Ask a b) h fits = h
stands_one H L s mail S (Call a n x op c) h fits = h
stands_one H L s mail S (Bounce a n u) h fits = h
stands_one H L s mail S (Got a n seen) h fits = h
stands_one H L s mail S (AskCommit a v) h fits = h
stands_one H L s mail S (AskAbort a) h fits = h
stands_one H L s mail S (Commit a) h fits = h
stands_one H L s mail S (Abort a) h fits = h

-- Through all deeds of an event.
pub stands_all : (H L : List Deed) (s : ℕ) (mail : Option Mail) (S : Site) (ds : List Deed) → StandsAt H L s S → AllFit H s L mail ds → StandsAt H (after L ds) s (site_after_all L mail S ds)
stands_all H L s mail S [] h fits = h
stands_all H L s mail S (d ∷ ds) h fits = stands_all H (d ∷ L) s mail (site_after L mail S d) ds (stands_one H L s mail S d h fits.0) fits.1
