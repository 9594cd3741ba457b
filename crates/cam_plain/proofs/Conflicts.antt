-- Of two live operations that do not commute, the older one's lift does not stand in the way of the newer one's action.
use Rattle.std.proofs.Common.{◌≡◌, inl, inr, eqb, true, false, List, ◌∷◌, Some, None, sym, ◌∙◌, subst, ℕ, not}
use Rattle.std.proofs.lemmas.Bool.{true≢false, eq-eqb, or_right, not-false, and_cases}
use Rattle.std.proofs.lemmas.Option.{same_Some}
use Rattle.cam_names.specs.Names.{is_ancestor}
use Rattle.cam_names.specs.declared.name.Name.{Name}
use Rattle.cam_type.specs.Table.{mode_of, compatible}
use Rattle.cam_type.specs.declared.Answer.{Answer}
use Rattle.cam_type.specs.declared.ObjectDecl.{ObjectDecl}
use Rattle.cam_event.specs.History.{informed, Addressed, call_of, is_inform}
use Rattle.cam_event.specs.Live.{site_of, live, live_on, lift, is_in_the_way, is_conflict, first_conflict}
use Rattle.cam_event.specs.declared.Deed.{Deed}
use Rattle.cam_event.specs.declared.Deed.TheVariants.{Perform}
use Rattle.cam_event.specs.declared.Operation.{Operation}
use Rattle.cam_plain.specs.Legal.{Legal}
use Rattle.cam_names.proofs.Any.{none_found}
use Rattle.cam_names.proofs.Every.{Every, Pairs, every_any, every_weaker, every_unfilter}
use Rattle.cam_plain.proofs.InTheWay.{not_in_the_way}
use Rattle.cam_plain.proofs.LiveSteps.{operation, pair_induction}

-- The site of an operation was informed of the commit of each ancestor that is none of the other operation's.
abbrev pub NotInTheWay : List ObjectDecl → List Deed → Operation → Operation → Type 0
NotInTheWay objects L o p = (u : Name) → is_ancestor u o.action ≡ true → is_ancestor u p.action ≡ false → informed L (site_of objects o.object) u true ≡ true

-- of two operations on one object that do not commute, the first is not in the way of the second
abbrev pub Apart : List ObjectDecl → List Deed → Operation → Operation → Type 0
Apart objects L o p = o.object ≡ p.object → compatible (mode_of o.op) (mode_of p.op) ≡ false → NotInTheWay objects L o p

-- that stays so, since sites forget nothing
pub not_in_the_way_more : (objects : List ObjectDecl) (L : List Deed) (d : Deed) (o p : Operation) → NotInTheWay objects L o p → NotInTheWay objects (d ∷ L) o p
not_in_the_way_more objects L d o p h u above n = or_right (is_inform (site_of objects o.object) u true d) (informed L (site_of objects o.object) u true) (h u above n)

-- no live operation conflicts with one that is performed
pub perform_apart : (objects : List ObjectDecl) (L : List Deed) (a : Name) (n : ℕ) (answer : Answer) (call : Addressed) → Legal objects (Perform a n answer ∷ L) → call_of L a n ≡ Some call → Every (λ o. Apart objects L o (operation a n answer call)) (live objects L)
perform_apart objects L a n answer call legal called =
    let same : legal.0.call ≡ call = same_Some legal.0.call call (sym legal.0.arrival.called ∙ called) in
    let free : first_conflict objects L a call.object call.op ≡ None = subst (λ (k : Addressed). first_conflict objects L a k.object k.op ≡ None) same legal.0.free in
    every_weaker (λ o. eqb o.object call.object ≡ true → is_conflict objects L a call.op o ≡ false) (λ o. Apart objects L o (operation a n answer call)) (live objects L) apart
    (every_unfilter (λ o. eqb o.object call.object) (λ o. is_conflict objects L a call.op o ≡ false) (live objects L) (none_found (is_conflict objects L a call.op) (live_on objects L call.object) free))
  where
    apart : (o : Operation) → (eqb o.object call.object ≡ true → is_conflict objects L a call.op o ≡ false) → Apart objects L o (operation a n answer call)
    apart o h there other = elim (and_cases (is_in_the_way a (lift L (site_of objects o.object) o.action)) (not (compatible (mode_of o.op) (mode_of call.op))) (h (eq-eqb o.object call.object there))) [
      | inl free ↦ not_in_the_way (λ u. informed L (site_of objects o.object) u true) o.action a free
      | inr not_so ↦ absurd (true≢false (sym (not-false (compatible (mode_of o.op) (mode_of call.op)) not_so) ∙ other))
    ]

-- of live operations, each older one's lift leaves room for each newer one with which it does not commute
pub apart : (objects : List ObjectDecl) (L : List Deed) → Legal objects L → Pairs (Apart objects L) (live objects L)
apart objects = pair_induction objects (λ L o. Unit {0}) (Apart objects) (λ L legal. every_any (λ o. Unit {0}) (live objects L) (λ o. tt))
    (λ L d o p legal x y h same other. not_in_the_way_more objects L d o p (h same other))
    (λ L a n answer call legal called. perform_apart objects L a n answer call legal called)
