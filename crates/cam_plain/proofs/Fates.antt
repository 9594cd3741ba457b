-- What became of what was performed: it is live, or an ancestor was aborted, or the site has crashed.
use Rattle.std.proofs.Common.{◌≡◌, inl, inr, ◌+◌, ◌<◌, ◌≤◌, eqb, Bool, true, false, ◌&&◌, List, [], ◌∷◌, Some, refl, sym, ap, ◌∙◌, subst, arith, ◌⊎◌, ℕ, not, filter}
use Rattle.std.proofs.lemmas.Bool.{and_parts, and_from, cases_Bool, true≢false, eq-eqb, or_cases, or_left, or_right, or_parts, eqb-true, not-false}
use Rattle.std.proofs.lemmas.Option.{same_Some}
use Rattle.std.specs.List.{list_any}
use Rattle.cam_names.proofs.Names.{name_eq_same, name_eq_refl}
use Rattle.cam_names.specs.Names.{name_eq, is_ancestor}
use Rattle.cam_names.specs.declared.name.Name.{Name}
use Rattle.cam_type.specs.Table.{answer_eq}
use Rattle.cam_type.specs.declared.Answer.{Answer}
use Rattle.cam_type.specs.declared.ObjectDecl.{ObjectDecl}
use Rattle.cam_event.proofs.LiveLaws.{is_below}
use Rattle.cam_event.specs.History.{count, aborted, informed, Addressed, call_of, secured_at, is_abort}
use Rattle.cam_event.specs.Live.{site_of, of_call, is_dropped, live}
use Rattle.cam_event.specs.declared.Deed.{Deed}
use Rattle.cam_event.specs.declared.Deed.TheVariants.{Call, Perform, Inform, Crash}
use Rattle.cam_event.specs.declared.Operation.{Operation}
use Rattle.cam_plain.specs.Legal.{Legal}
use Rattle.cam_plain.specs.Lines.{is_perform}
use Rattle.cam_names.proofs.Ancestry.{some_ancestor}
use Rattle.cam_names.proofs.Any.{any_left, any_right, lost}
use Rattle.cam_plain.proofs.Called.{call_stays, count_grows}
use Rattle.cam_plain.proofs.Deciding.{informed_aborted}
use Rattle.cam_plain.proofs.LiveSteps.{keeps, added, operation, live_step}
use Rattle.cam_plain.proofs.Performed.{Performed, performed}

-- an operation with this action, number and answer
abbrev pub is_answer : Name → ℕ → Answer → Operation → Bool
is_answer a n answer o = name_eq a o.action && eqb n o.number && answer_eq answer o.answer

-- the count at which a call was addressed is at most that of its site
pub call_count : (objects : List ObjectDecl) (L : List Deed) (a : Name) (n : ℕ) (call : Addressed) → Legal objects L → call_of L a n ≡ Some call → call.count ≤ count L (site_of objects call.object)
call_count objects [] a n call legal h = cc
call_count objects (Call b m x op c ∷ L) a n call legal h =
    elim (cases_Bool (name_eq a b && eqb n m)) [
      | inl e ↦
          let found : call_of (Call b m x op c ∷ L) a n ≡ Some (record { object = x; op = op; count = c }) = rw e refl in
          let same : record { object = x; op = op; count = c } ≡ call = same_Some (record { object = x; op = op; count = c }) call (sym found ∙ h) in
          subst (λ (k : Addressed). k.count ≤ count L (site_of objects k.object)) same legal.0.count
      | inr other ↦
          let before : call_of (Call b m x op c ∷ L) a n ≡ call_of L a n = rw other refl in
          call_count objects L a n call legal.1 (sym before ∙ h)
    ]
call_count objects (Crash s ∷ L) a n call legal h = omega (arith, call_count objects L a n call legal.1 h, count_grows L (Crash s) (site_of objects call.object))
call_count objects (_ ∷ L) a n call legal h = call_count objects L a n call legal.1 h

-- An operation is live, or an ancestor of its action was aborted, or its site has crashed since it was addressed.
abbrev pub Fate : List ObjectDecl → List Deed → Name → ℕ → Answer → Addressed → Type 0
Fate objects L a n answer call =
    (list_any (is_answer a n answer) (live objects L) ≡ true)
    ⊎ (((u : Name) × (is_ancestor u a ≡ true) × (aborted L u ≡ true)) ⊎ (call.count < count L (site_of objects call.object)))

-- what takes a live operation away
taken : (objects : List ObjectDecl) (L : List Deed) (d : Deed) (a : Name) (n : ℕ) (answer : Answer) (call : Addressed) (o : Operation) → Legal objects (d ∷ L) → call_of L a n ≡ Some call → is_answer a n answer o ≡ true → keeps objects L d o ≡ false → Performed objects L o → Fate objects (d ∷ L) a n answer call
taken objects L (Crash s) a n answer call o legal called is gone facts =
    let parts = and_parts (name_eq a o.action && eqb n o.number) (answer_eq answer o.answer) is in
    let names = and_parts (name_eq a o.action) (eqb n o.number) parts.0 in
    let same : facts.call ≡ call = same_Some facts.call call (sym facts.called ∙ sym (λ i. call_of L (name_eq_same a o.action names.0 i) (eqb-true n o.number names.1 i)) ∙ called) in
    let object : call.object ≡ o.object = sym (ap (λ (k : Addressed). k.object) same) ∙ facts.same_object in
    let crashed : eqb (site_of objects o.object) s ≡ true = not-false (eqb (site_of objects o.object) s) (or_parts (not (eqb (site_of objects o.object) s)) (secured_at L _ s) gone).0 in
    let here : eqb (site_of objects call.object) s ≡ true = subst (λ x. eqb (site_of objects x) s ≡ true) (sym object) crashed in
    let more : count (Crash s ∷ L) (site_of objects call.object) ≡ count L (site_of objects call.object) + 1 = rw here refl in
    inr (inr (omega (arith, more, call_count objects L a n call legal.1 called)))
taken objects L (Inform s u false) a n answer call o legal called is gone facts =
    let parts = and_parts (name_eq a o.action && eqb n o.number) (answer_eq answer o.answer) is in
    let names = and_parts (name_eq a o.action) (eqb n o.number) parts.0 in
    let below = and_parts (eqb (site_of objects o.object) s) (is_ancestor u o.action) (not-false (is_below objects s u o) gone) in
    inr (inl (u, subst (λ x. is_ancestor u x ≡ true) (sym (name_eq_same a o.action names.0)) below.1, legal.0.decided))
taken objects L _ a n answer call o legal called is gone facts = absurd (true≢false gone)

-- one more deed leaves each of the three fates, or turns the first into one of the others
fate_more : (objects : List ObjectDecl) (L : List Deed) (d : Deed) (a : Name) (n : ℕ) (answer : Answer) (call : Addressed) → Legal objects (d ∷ L) → call_of L a n ≡ Some call → Fate objects L a n answer call → Fate objects (d ∷ L) a n answer call
fate_more objects L d a n answer call legal called (inl there) =
    elim (lost (is_answer a n answer) (keeps objects L d) (Performed objects L) (live objects L) (performed objects L legal.1) there) [
      | inl kept ↦ inl (subst (λ os. list_any (is_answer a n answer) os ≡ true) (sym (live_step objects L d)) (any_left (is_answer a n answer) (filter (keeps objects L d) (live objects L)) (added objects L d) kept))
      | inr gone ↦ taken objects L d a n answer call gone.0 legal called gone.1 gone.2 gone.3
    ]
fate_more objects L d a n answer call legal called (inr (inl u)) = inr (inl (u.0, u.1, or_right (is_abort u.0 d) (aborted L u.0) u.2))
fate_more objects L d a n answer call legal called (inr (inr c)) = inr (inr (omega (arith, c, count_grows L d (site_of objects call.object))))

-- what was just performed is live, or its site knows of an aborted ancestor
fresh_fate : (objects : List ObjectDecl) (L : List Deed) (a : Name) (n : ℕ) (answer other : Answer) (call : Addressed) → Legal objects (Perform a n other ∷ L) → call_of L a n ≡ Some call → answer_eq answer other ≡ true → Fate objects (Perform a n other ∷ L) a n answer call
fresh_fate objects L a n answer other call legal called same =
    elim (cases_Bool (is_dropped objects L (operation a n other call))) [
      | inl y ↦
          let found = some_ancestor (λ u. informed L (site_of objects call.object) u false) a y in
          inr (inl (found.0, found.1, informed_aborted objects L (site_of objects call.object) found.0 legal.1 found.2))
      | inr k ↦
          let is : is_answer a n answer (operation a n other call) ≡ true = and_from (name_eq a a && eqb n n) (answer_eq answer other) (and_from (name_eq a a) (eqb n n) (name_eq_refl a) (eq-eqb n n refl)) same in
          let new : list_any (is_answer a n answer) (filter (λ o. not (is_dropped objects L o)) (of_call a n other (Some call))) ≡ true = rw k (or_left (is_answer a n answer (operation a n other call)) false is) in
          let placed : list_any (is_answer a n answer) (added objects L (Perform a n other)) ≡ true = subst (λ c. list_any (is_answer a n answer) (filter (λ o. not (is_dropped objects L o)) (of_call a n other c)) ≡ true) (sym called) new in
          inl (subst (λ os. list_any (is_answer a n answer) os ≡ true) (sym (live_step objects L (Perform a n other))) (any_right (is_answer a n answer) (filter (keeps objects L (Perform a n other)) (live objects L)) (added objects L (Perform a n other)) placed))
    ]

-- what became of what was performed
pub performed_fate : (objects : List ObjectDecl) (L : List Deed) (a : Name) (n : ℕ) (answer : Answer) → Legal objects L → list_any (is_perform a n answer) L ≡ true → (call : Addressed) × (call_of L a n ≡ Some call) × Fate objects L a n answer call
performed_fate objects [] a n answer legal h = cc
performed_fate objects (d ∷ L) a n answer legal h = elim (or_cases (is_perform a n answer d) (list_any (is_perform a n answer) L) h) [
  | inl e ↦ now d legal e
  | inr r ↦ let rest = performed_fate objects L a n answer legal.1 r in (rest.0, call_stays objects L d a n rest.0 legal rest.1, fate_more objects L d a n answer rest.0 legal rest.1 rest.2)
]
  where
    now : (e : Deed) → Legal objects (e ∷ L) → is_perform a n answer e ≡ true → (call : Addressed) × (call_of (e ∷ L) a n ≡ Some call) × Fate objects (e ∷ L) a n answer call
    now (Perform b m other) l e =
        let parts = and_parts (name_eq a b && eqb n m) (answer_eq answer other) e in
        let names = and_parts (name_eq a b) (eqb n m) parts.0 in
        let one : b ≡ a = sym (name_eq_same a b names.0) in
        let two : m ≡ n = sym (eqb-true n m names.1) in
        here (subst (λ k. Legal objects (Perform a k other ∷ L)) two (subst (λ x. Legal objects (Perform x m other ∷ L)) one l)) one two parts.1
      where
        here : Legal objects (Perform a n other ∷ L) → b ≡ a → m ≡ n → answer_eq answer other ≡ true → (call : Addressed) × (call_of L a n ≡ Some call) × Fate objects (Perform b m other ∷ L) a n answer call
        here k one two same = (
          k.0.call,
          k.0.arrival.called,
          subst (λ j. Fate objects (Perform b j other ∷ L) a n answer k.0.call) (sym two) (subst (λ x. Fate objects (Perform x n other ∷ L) a n answer k.0.call) (sym one) (fresh_fate objects L a n answer other k.0.call k k.0.arrival.called same)),
        )
    now _ l e = absurd (true≢false (sym e))
