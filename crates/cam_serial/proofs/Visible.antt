-- A choice of live operations that has, with each operation, all that it saw replays in order of the history.
use Rattle.std.proofs.Common.{◌≡◌, inl, inr, eqb, Bool, true, false, ◌&&◌, List, [], ◌∷◌, Some, None, refl, sym, ap, ◌∙◌, subst, cond, ℕ, not, ◌++◌, filter, Option}
use Rattle.std.proofs.lemmas.Bool.{and_parts, and_from, cases_Bool, true≢false, or_cases, or_left, or_right, eqb-true, not_from_false, not-true}
use Rattle.std.proofs.lemmas.List.{append-nil}
use Rattle.std.proofs.lemmas.List.Elements.{filter-append}
use Rattle.std.proofs.lemmas.Option.{same_Some}
use Rattle.cam_names.proofs.Names.{name_eq_same, name_eq_refl}
use Rattle.cam_names.specs.Names.{name_eq, is_ancestor, family}
use Rattle.cam_names.specs.declared.name.Name.{Name}
use Rattle.cam_type.specs.Table.{mode_of, compatible, answer_of}
use Rattle.cam_type.specs.declared.Answer.{Answer}
use Rattle.cam_type.specs.declared.ObjectDecl.{ObjectDecl}
use Rattle.cam_event.proofs.LiveLaws.{is_below}
use Rattle.cam_event.proofs.Snoc.{filter_filter}
use Rattle.cam_event.specs.History.{Addressed, call_of, secured_at, committed}
use Rattle.cam_event.specs.Live.{site_of, of_call, is_dropped, live, is_fit, start_of, value}
use Rattle.cam_event.specs.declared.Deed.{Deed}
use Rattle.cam_event.specs.declared.Deed.TheVariants.{Perform, Inform, Crash}
use Rattle.cam_event.specs.declared.Operation.{Operation}
use Rattle.cam_plain.specs.Legal.{Legal}
use Rattle.cam_names.proofs.Ancestry.{family_ancestor}
use Rattle.cam_plain.proofs.Called.{call_fits}
use Rattle.cam_plain.proofs.Conflicts.{NotInTheWay, Apart, not_in_the_way_more, perform_apart, apart}
use Rattle.cam_plain.proofs.Deciding.{informed_committed, one_outcome}
use Rattle.cam_names.proofs.Every.{Every, Pairs, every_weaker, every_unfilter, pairs_weaker, every_both, pairs_both, pairs_first, pairs_second, every_left}
use Rattle.cam_plain.proofs.LiveSteps.{keeps, added, operation, live_step}
use Rattle.cam_plain.proofs.Performed.{Performed, performed, performed_fits}
use Rattle.cam_plain.proofs.Secured.{SecuredIfCommitted, secured_committed}
use Rattle.cam_serial.proofs.Sequences.{Swaps, ReplaysFrom, OfKind, run, run_object, dropped, replays_push}
use Rattle.cam_serial.proofs.Sorting.{compatible_swaps}

-- A choice has all that its operations saw: with each operation each live one on its object whose lift is not in its way.
abbrev pub Chosen : List ObjectDecl → List Deed → (Operation → Bool) → Operation → Type 0
Chosen objects L choice o = (p : Operation) → choice p ≡ true → o.object ≡ p.object → NotInTheWay objects L o p → choice o ≡ true

-- so of each live operation
abbrev pub IsVisible : List ObjectDecl → List Deed → (Operation → Bool) → Type 0
IsVisible objects L choice = Every (Chosen objects L choice) (live objects L)

-- where each ancestor that is none of another family's operation's was informed, each of another family has committed
pub every_ancestor_committed : (objects : List ObjectDecl) (L : List Deed) (o p : Operation) → Legal objects L → NotInTheWay objects L o p → (family o.action ≡ family p.action → ⊥) → (u : Name) → is_ancestor u o.action ≡ true → committed L u ≡ true
every_ancestor_committed objects L o p legal free other u above =
    elim (cases_Bool (is_ancestor u p.action)) [
      | inl y ↦ absurd (other (sym (family_ancestor u o.action above) ∙ family_ancestor u p.action y))
      | inr n ↦ informed_committed objects L (site_of objects o.object) u legal (free u above n)
    ]

-- what keeps a later operation keeps an earlier one whose lift is not in its way
pub keeps_both : (objects : List ObjectDecl) (L : List Deed) (d : Deed) (o p : Operation) → Legal objects (d ∷ L) → SecuredIfCommitted objects L o → o.object ≡ p.object → NotInTheWay objects L o p → keeps objects L d p ≡ true → keeps objects L d o ≡ true
keeps_both objects L (Crash s) o p legal secure same free k =
    elim (cases_Bool (eqb (site_of objects o.object) s)) [
      | inr other ↦ or_left (not (eqb (site_of objects o.object) s)) (secured_at L (family o.action) s) (not_from_false (eqb (site_of objects o.object) s) other)
      | inl here ↦ or_right (not (eqb (site_of objects o.object) s)) (secured_at L (family o.action) s) (secured here)
    ]
  where
    kept_too : eqb (site_of objects o.object) s ≡ true → secured_at L (family p.action) s ≡ true
    kept_too here = elim (or_cases (not (eqb (site_of objects p.object) s)) (secured_at L (family p.action) s) k) [
      | inl away ↦ absurd (true≢false (sym (subst (λ x. eqb (site_of objects x) s ≡ true) same here) ∙ not-true (eqb (site_of objects p.object) s) away))
      | inr there ↦ there
    ]

    secured : eqb (site_of objects o.object) s ≡ true → secured_at L (family o.action) s ≡ true
    secured here = elim (cases_Bool (name_eq (family o.action) (family p.action))) [
      | inl one ↦ subst (λ f. secured_at L f s ≡ true) (sym (name_eq_same (family o.action) (family p.action) one)) (kept_too here)
      | inr two ↦ subst (λ x. secured_at L (family o.action) x ≡ true) (eqb-true (site_of objects o.object) s here)
          (secure (every_ancestor_committed objects L o p legal.1 free (λ e. true≢false (sym (subst (λ f. name_eq (family o.action) f ≡ true) e (name_eq_refl (family o.action))) ∙ two))))
    ]
keeps_both objects L (Inform s a false) o p legal secure same free k =
    elim (cases_Bool (is_below objects s a o)) [
      | inr n ↦ not_from_false (is_below objects s a o) n
      | inl y ↦
          let parts = and_parts (eqb (site_of objects o.object) s) (is_ancestor a o.action) y in
          elim (cases_Bool (is_ancestor a p.action)) [
            | inl t ↦ absurd (true≢false (sym (and_from (eqb (site_of objects p.object) s) (is_ancestor a p.action) (subst (λ x. eqb (site_of objects x) s ≡ true) same parts.0) t) ∙ not-true (is_below objects s a p) k))
            | inr f ↦ absurd (one_outcome objects L a legal.1 (informed_committed objects L (site_of objects o.object) a legal.1 (free a parts.1 f)) legal.0.decided)
          ]
    ]
keeps_both objects L _ o p legal secure same free k = refl

-- the choice before a deed: what it keeps of the choice
abbrev pub before_deed : List ObjectDecl → List Deed → Deed → (Operation → Bool) → Operation → Bool
before_deed objects L d choice o = keeps objects L d o && choice o

-- it has all that its operations saw, too
pub visible_before : (objects : List ObjectDecl) (L : List Deed) (d : Deed) (choice : Operation → Bool) → Legal objects (d ∷ L) → IsVisible objects (d ∷ L) choice → IsVisible objects L (before_deed objects L d choice)
visible_before objects L d choice legal visible =
    every_weaker (λ o. SecuredIfCommitted objects L o × (keeps objects L d o ≡ true → Chosen objects (d ∷ L) choice o)) (Chosen objects L (before_deed objects L d choice)) (live objects L) chosen
    (every_both (SecuredIfCommitted objects L) (λ o. keeps objects L d o ≡ true → Chosen objects (d ∷ L) choice o) (live objects L) (secured_committed objects L legal.1)
    (every_unfilter (keeps objects L d) (Chosen objects (d ∷ L) choice) (live objects L)
    (every_left (Chosen objects (d ∷ L) choice) (filter (keeps objects L d) (live objects L)) (added objects L d)
    (subst (Every (Chosen objects (d ∷ L) choice)) (live_step objects L d) visible))))
  where
    chosen : (o : Operation) → SecuredIfCommitted objects L o × (keeps objects L d o ≡ true → Chosen objects (d ∷ L) choice o) → Chosen objects L (before_deed objects L d choice) o
    chosen o h p c same free =
        let parts = and_parts (keeps objects L d p) (choice p) c in
        let kept : keeps objects L d o ≡ true = keeps_both objects L d o p legal h.0 same free parts.0 in
        and_from (keeps objects L d o) (choice o) kept (h.1 kept p parts.1 same (not_in_the_way_more objects L d o p free))

-- the op fits the object
abbrev pub Fits : List ObjectDecl → Operation → Type 0
Fits objects o = is_fit objects o.object o.op ≡ true

-- each live operation fits its object
pub fits : (objects : List ObjectDecl) (L : List Deed) → Legal objects L → Every (Fits objects) (live objects L)
fits objects L legal = every_weaker (Performed objects L) (Fits objects) (live objects L) (λ o h. performed_fits objects L o legal h) (performed objects L legal)

-- an operation that is not chosen may change places with a later one that is
pub hidden_swaps : (objects : List ObjectDecl) (L : List Deed) (choice : Operation → Bool) (o p : Operation) → Fits objects o → Fits objects p → Apart objects L o p → Chosen objects L choice o → choice o ≡ false → choice p ≡ true → Swaps objects o p
hidden_swaps objects L choice o p one other free chosen hidden shown same =
    elim (cases_Bool (compatible (mode_of o.op) (mode_of p.op))) [
      | inl y ↦ compatible_swaps objects o p one other y same
      | inr n ↦ absurd (true≢false (sym (chosen p shown same (free same n)) ∙ hidden))
    ]

-- so of each live operation that is not chosen and each later one that is
hidden_pairs : (objects : List ObjectDecl) (L : List Deed) (choice : Operation → Bool) → Legal objects L → IsVisible objects L choice → Pairs (λ o p. choice o ≡ false → choice p ≡ true → Swaps objects o p) (live objects L)
hidden_pairs objects L choice legal visible =
    pairs_weaker (λ o p. ((Fits objects o × Chosen objects L choice o) × Fits objects p) × Apart objects L o p) (λ o p. choice o ≡ false → choice p ≡ true → Swaps objects o p) (live objects L)
    (λ o p h. hidden_swaps objects L choice o p h.0.0.0 h.0.1 h.1 h.0.0.1)
    (pairs_both (λ o p. (Fits objects o × Chosen objects L choice o) × Fits objects p) (Apart objects L) (live objects L)
    (pairs_both (λ o p. Fits objects o × Chosen objects L choice o) (λ o p. Fits objects p) (live objects L)
    (pairs_first (λ o. Fits objects o × Chosen objects L choice o) (live objects L) (every_both (Fits objects) (Chosen objects L choice) (live objects L) (fits objects L legal) visible))
    (pairs_second (Fits objects) (live objects L) (fits objects L legal)))
    (apart objects L legal))

-- the start states are of their kinds
start_kind : (objects : List ObjectDecl) → OfKind objects (start_of objects)
start_kind objects x = refl

-- the answer of a chosen operation, by the chosen ones before it
perform_answers : (objects : List ObjectDecl) (L : List Deed) (choice : Operation → Bool) (a : Name) (n : ℕ) (answer : Answer) (call : Addressed) → Legal objects (Perform a n answer ∷ L) → call_of L a n ≡ Some call → IsVisible objects L choice → choice (operation a n answer call) ≡ true → answer ≡ answer_of (run (start_of objects) (filter choice (live objects L)) call.object) call.op
perform_answers objects L choice a n answer call legal called visible shown =
    let same : legal.0.call ≡ call = same_Some legal.0.call call (sym legal.0.arrival.called ∙ called) in
    let answered : answer ≡ answer_of (value objects L call.object) call.op = subst (λ (k : Addressed). answer ≡ answer_of (value objects L k.object) k.op) same legal.0.answered in
    answered
    ∙ ap (λ s. answer_of s call.op) (sym (run_object (live objects L) (start_of objects) call.object))
    ∙ dropped objects choice (live objects L) (start_of objects) (operation a n answer call) (start_kind objects) (hidden_pairs objects L choice legal.1 visible)
    (every_weaker (λ o. (Fits objects o × Chosen objects L choice o) × Apart objects L o (operation a n answer call)) (λ o. choice o ≡ false → Swaps objects o (operation a n answer call)) (live objects L)
    (λ o h hidden. hidden_swaps objects L choice o (operation a n answer call) h.0.0 (call_fits objects L a n call legal.1 called) h.1 h.0.1 hidden shown)
    (every_both (λ o. Fits objects o × Chosen objects L choice o) (λ o. Apart objects L o (operation a n answer call)) (live objects L)
    (every_both (Fits objects) (Chosen objects L choice) (live objects L) (fits objects L legal.1) visible)
    (perform_apart objects L a n answer call legal called)))

-- what a deed adds goes on replaying after the chosen ones before it
added_replays : (objects : List ObjectDecl) (L : List Deed) (d : Deed) (choice : Operation → Bool) → Legal objects (d ∷ L) → IsVisible objects L (before_deed objects L d choice) → ReplaysFrom (start_of objects) (filter (before_deed objects L d choice) (live objects L)) → ReplaysFrom (start_of objects) (filter (before_deed objects L d choice) (live objects L) ++ filter choice (added objects L d))
added_replays objects L (Perform a n answer) choice legal visible r =
    by (call_of L a n) refl
  where
    by : (c : Option Addressed) → call_of L a n ≡ c → ReplaysFrom (start_of objects) (filter (before_deed objects L (Perform a n answer) choice) (live objects L) ++ filter choice (filter (λ o. not (is_dropped objects L o)) (of_call a n answer c)))
    by None called = subst (ReplaysFrom (start_of objects)) (sym (append-nil (filter (before_deed objects L (Perform a n answer) choice) (live objects L)))) r
    by (Some call) called =
        elim (not (is_dropped objects L (operation a n answer call))) as (λ b. ReplaysFrom (start_of objects) (filter (before_deed objects L (Perform a n answer) choice) (live objects L) ++ filter choice (cond b (operation a n answer call ∷ []) []))) [
          | false ↦ subst (ReplaysFrom (start_of objects)) (sym (append-nil (filter (before_deed objects L (Perform a n answer) choice) (live objects L)))) r
          | true ↦ shown (choice (operation a n answer call)) refl
        ]
      where
        shown : (b : Bool) → choice (operation a n answer call) ≡ b → ReplaysFrom (start_of objects) (filter (before_deed objects L (Perform a n answer) choice) (live objects L) ++ cond b (operation a n answer call ∷ []) [])
        shown false e = subst (ReplaysFrom (start_of objects)) (sym (append-nil (filter (before_deed objects L (Perform a n answer) choice) (live objects L)))) r
        shown true e = replays_push (filter (before_deed objects L (Perform a n answer) choice) (live objects L)) (operation a n answer call) (start_of objects) r
            (perform_answers objects L (before_deed objects L (Perform a n answer) choice) a n answer call legal called visible e)
added_replays objects L _ choice legal visible r = subst (ReplaysFrom (start_of objects)) (sym (append-nil _)) r

-- The chosen operations replay, in order of the history.
pub visible_replays : (objects : List ObjectDecl) (L : List Deed) (choice : Operation → Bool) → Legal objects L → IsVisible objects L choice → ReplaysFrom (start_of objects) (filter choice (live objects L))
visible_replays objects [] choice legal visible = tt
visible_replays objects (d ∷ L) choice legal visible =
    let earlier : IsVisible objects L (before_deed objects L d choice) = visible_before objects L d choice legal visible in
    let parts : filter choice (live objects (d ∷ L)) ≡ filter (before_deed objects L d choice) (live objects L) ++ filter choice (added objects L d) =
    ap (filter choice) (live_step objects L d) ∙ filter-append choice (filter (keeps objects L d) (live objects L)) (added objects L d)
    ∙ ap (λ os. os ++ filter choice (added objects L d)) (filter_filter choice (keeps objects L d) (live objects L)) in
    subst (ReplaysFrom (start_of objects)) (sym parts) (added_replays objects L d choice legal earlier (visible_replays objects L (before_deed objects L d choice) legal.1 earlier))
