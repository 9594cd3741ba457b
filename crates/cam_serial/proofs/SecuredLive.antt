-- What was performed where its family is secured stays live, unless an ancestor was aborted.
use Rattle.std.proofs.Common.{◌≡◌, ◌<◌, ◌⊎◌, inl, inr, cond, ℕ, eqb, Bool, true, false, not, ◌&&◌, List, [], ◌∷◌, filter, Some, refl, sym, ap, ◌∙◌, subst, arith}
use Rattle.std.specs.List.{list_any}
use Rattle.std.proofs.lemmas.Bool.{and_parts, or_cases, or_left, or_right, or_parts, cases_Bool, true≢false, eqb-true}
use Rattle.std.proofs.lemmas.Option.{same_Some}
use Rattle.cam_names.specs.declared.name.Name.{Name}
use Rattle.cam_names.specs.Names.{name_eq, is_ancestor, family}
use Rattle.cam_names.proofs.Names.{name_eq_same}
use Rattle.cam_type.specs.declared.ObjectDecl.{ObjectDecl}
use Rattle.cam_type.specs.declared.Answer.{Answer}
use Rattle.cam_type.specs.Table.{answer_eq}
use Rattle.cam_event.specs.declared.Operation.{Operation}
use Rattle.cam_event.specs.declared.Deed.{Deed}
use Rattle.cam_event.specs.declared.Deed.TheVariants.{Perform, Secure, Inform, Crash}
use Rattle.cam_event.specs.History.{count, aborted, Addressed, call_of, secured, secured_at, is_secure, is_secure_at, is_abort}
use Rattle.cam_event.specs.Live.{site_of, live}
use Rattle.cam_event.proofs.LiveLaws.{is_below}
use Rattle.cam_plain.specs.Lines.{is_perform}
use Rattle.cam_plain.specs.Legal.{Legal}
use Rattle.cam_names.proofs.Every.{Every}
use Rattle.cam_names.proofs.Any.{any_weaker, any_left}
use Rattle.cam_plain.proofs.Called.{call_stays}
use Rattle.cam_plain.proofs.LiveSteps.{keeps, added, live_step}
use Rattle.cam_plain.proofs.Performed.{Performed, performed}
use Rattle.cam_plain.proofs.Fates.{is_answer, performed_fate}

-- An operation stays live after a deed that does not take it away.
pub stays_by :
    {X : Type 0} (test keep : X → Bool) (Fact : X → Type 0) (xs : List X) → Every Fact xs
    → ((x : X) → test x ≡ true → Fact x → keep x ≡ true) → list_any test xs ≡ true
    → list_any test (filter keep xs) ≡ true
stays_by test keep Fact [] facts kept h = cc
stays_by {X} test keep Fact (x ∷ xs) facts kept h =
    by (keep x) refl (or_cases (test x) (list_any test xs) h)
    (stays_by test keep Fact xs facts.1 kept)
  where
    by :
        (b : Bool) → keep x ≡ b → (test x ≡ true) ⊎ (list_any test xs ≡ true)
        → (list_any test xs ≡ true → list_any test (filter keep xs) ≡ true)
        → list_any test (cond b (x ∷ filter keep xs) (filter keep xs)) ≡ true
    by true e (inl y) rest = or_left (test x) (list_any test (filter keep xs)) y
    by true e (inr r) rest = or_right (test x) (list_any test (filter keep xs)) (rest r)
    by false e (inl y) rest = absurd (true≢false (sym (kept x y facts.0) ∙ e))
    by false e (inr r) rest = rest r

-- what one more deed may not take: an operation whose family is secured at its site and of whose
-- ancestors none was aborted
kept_secured :
    (objects : List ObjectDecl) (L : List Deed) (d : Deed) (a : Name) (n : ℕ) (answer : Answer)
    (call : Addressed) → Legal objects (d ∷ L) → call_of L a n ≡ Some call
    → secured L (family a) (site_of objects call.object) call.count ≡ true
    → ((u : Name) → is_ancestor u a ≡ true → aborted (d ∷ L) u ≡ false) → (o : Operation)
    → is_answer a n answer o ≡ true → Performed objects L o → keeps objects L d o ≡ true
kept_secured objects L (Crash s) a n answer call legal called secure open_ones o is facts =
    let parts = and_parts (name_eq a o.action && eqb n o.number) (answer_eq answer o.answer) is in
    let names = and_parts (name_eq a o.action) (eqb n o.number) parts.0 in
    let same : facts.call ≡ call =
    same_Some facts.call call
    (sym facts.called ∙ sym
    (λ i. call_of L (name_eq_same a o.action names.0 i) (eqb-true n o.number names.1 i))
    ∙ called) in
    let object : call.object ≡ o.object =
    sym (ap (λ (k : Addressed). k.object) same) ∙ facts.same_object in
    let there : secured_at L (family a) (site_of objects call.object) ≡ true =
    any_weaker (is_secure (family a) (site_of objects call.object) call.count)
    (is_secure_at (family a) (site_of objects call.object)) L
    (weaker (family a) (site_of objects call.object) call.count) secure in
    let here : secured_at L (family o.action) (site_of objects o.object) ≡ true =
    subst (λ x. secured_at L (family x) (site_of objects o.object) ≡ true)
    (name_eq_same a o.action names.0)
    (subst (λ x. secured_at L (family a) (site_of objects x) ≡ true) object there) in
    elim (cases_Bool (eqb (site_of objects o.object) s)) [
      | inl y ↦
          or_right (not (eqb (site_of objects o.object) s)) (secured_at L (family o.action) s)
          (subst (λ x. secured_at L (family o.action) x ≡ true)
          (eqb-true (site_of objects o.object) s y) here)
      | inr away ↦
          or_left (not (eqb (site_of objects o.object) s)) (secured_at L (family o.action) s)
          (ap not away)
    ]
  where
    weaker : (f : Name) (s c : ℕ) (d : Deed) → is_secure f s c d ≡ true → is_secure_at f s d ≡ true
    weaker f s c (Secure g r k) h = (and_parts (name_eq f g && eqb s r) (eqb c k) h).0
    weaker f s c _ h = cc
kept_secured objects L (Inform s u false) a n answer call legal called secure open_ones o is facts =
    let parts = and_parts (name_eq a o.action && eqb n o.number) (answer_eq answer o.answer) is in
    let names = and_parts (name_eq a o.action) (eqb n o.number) parts.0 in
    elim (cases_Bool (is_below objects s u o)) [
      | inl y ↦
          let below = and_parts (eqb (site_of objects o.object) s) (is_ancestor u o.action) y in
          let above : is_ancestor u a ≡ true =
          subst (λ x. is_ancestor u x ≡ true) (sym (name_eq_same a o.action names.0)) below.1 in
          absurd (true≢false (sym legal.0.decided ∙ open_ones u above))
      | inr k ↦ ap not k
    ]
kept_secured objects L _ a n answer call legal called secure open_ones o is facts = refl

-- a Secure stands at the present count
secured_now :
    (objects : List ObjectDecl) (L : List Deed) (d : Deed) (f : Name) (s c : ℕ)
    → Legal objects (d ∷ L) → is_secure f s c d ≡ true → count (d ∷ L) s ≡ c
secured_now objects L (Secure g r k) f s c legal h =
    let parts = and_parts (name_eq f g && eqb s r) (eqb c k) h in
    let site : s ≡ r = eqb-true s r (and_parts (name_eq f g) (eqb s r) parts.0).1 in
    ap (count L) site ∙ sym legal.0.count ∙ sym (eqb-true c k parts.1)
secured_now objects L _ f s c legal h = cc

-- a Perform stands at the addressed count
performed_now :
    (objects : List ObjectDecl) (L : List Deed) (d : Deed) (a : Name) (n : ℕ) (answer : Answer)
    (call : Addressed) → Legal objects (d ∷ L) → call_of (d ∷ L) a n ≡ Some call
    → is_perform a n answer d ≡ true → count (d ∷ L) (site_of objects call.object) ≡ call.count
performed_now objects L (Perform b m other) a n answer call legal called h =
    let parts = and_parts (name_eq a b && eqb n m) (answer_eq answer other) h in
    let names = and_parts (name_eq a b) (eqb n m) parts.0 in
    let same : legal.0.call ≡ call =
    same_Some legal.0.call call
    (sym legal.0.arrival.called
    ∙ sym (λ i. call_of L (name_eq_same a b names.0 i) (eqb-true n m names.1 i)) ∙ called) in
    subst (λ (k : Addressed). count L (site_of objects k.object) ≡ k.count) same
    (sym legal.0.arrival.count)
performed_now objects L _ a n answer call legal called h = cc

-- What was performed at a count at which its family is secured there is live, unless an ancestor
-- was aborted.
pub secured_live :
    (objects : List ObjectDecl) (L : List Deed) (a : Name) (n : ℕ) (answer : Answer)
    (call : Addressed) → Legal objects L → list_any (is_perform a n answer) L ≡ true
    → call_of L a n ≡ Some call
    → secured L (family a) (site_of objects call.object) call.count ≡ true
    → ((u : Name) → is_ancestor u a ≡ true → aborted L u ≡ false)
    → list_any (is_answer a n answer) (live objects L) ≡ true
secured_live objects [] a n answer call legal done called secure open_ones = cc
secured_live objects (d ∷ L) a n answer call legal done called secure open_ones =
    elim (performed_fate objects (d ∷ L) a n answer legal done).2 [
      | inl y ↦ y
      | inr gone ↦ elim gone [
        | inl u ↦ absurd (true≢false (sym u.2 ∙ open_ones u.0 u.1))
        | inr late ↦
            by (same_Some (performed_fate objects (d ∷ L) a n answer legal done).0 call
            (sym (performed_fate objects (d ∷ L) a n answer legal done).1 ∙ called)) late
            (λ older. secured_live objects L a n answer call legal.1 older)
      ]
    ]
  where
    before : (k : Addressed) → call_of L a n ≡ Some k → call_of L a n ≡ Some call
    before k was =
        was ∙ ap (λ c. Some c)
        (same_Some k call (sym (call_stays objects L d a n k legal was) ∙ called))

    by : {k : Addressed} → k ≡ call → k.count < count (d ∷ L) (site_of objects k.object)
        → (list_any (is_perform a n answer) L ≡ true → call_of L a n ≡ Some call
        → secured L (family a) (site_of objects call.object) call.count ≡ true
        → ((u : Name) → is_ancestor u a ≡ true → aborted L u ≡ false)
        → list_any (is_answer a n answer) (live objects L) ≡ true)
        → list_any (is_answer a n answer) (live objects (d ∷ L)) ≡ true
    by {k} same late rest =
        let now : call.count < count (d ∷ L) (site_of objects call.object) =
        subst (λ (c : Addressed). c.count < count (d ∷ L) (site_of objects c.object)) same late in
        elim (or_cases (is_perform a n answer d) (list_any (is_perform a n answer) L) done) [
          | inl new ↦
              let at = performed_now objects L d a n answer call legal called new in
              absurd (omega (arith, at, now))
          | inr older ↦ elim (or_cases
              (is_secure (family a) (site_of objects call.object) call.count d)
              (secured L (family a) (site_of objects call.object) call.count) secure) [
                | inl new ↦
                    let at =
                    secured_now objects L d (family a) (site_of objects call.object) call.count
                    legal new in
                    absurd (omega (arith, at, now))
                | inr old ↦
                    let fate = performed_fate objects L a n answer legal.1 older in
                    let was : call_of L a n ≡ Some call = before fate.0 fate.1 in
                    let live_before =
                    rest older was old (λ u above.
                    (or_parts (is_abort u d) (aborted L u) (open_ones u above)).1) in
                    subst (λ os. list_any (is_answer a n answer) os ≡ true)
                    (sym (live_step objects L d))
                    (any_left (is_answer a n answer) (filter (keeps objects L d) (live objects L))
                    (added objects L d)
                    (stays_by (is_answer a n answer) (keeps objects L d) (Performed objects L)
                    (live objects L) (performed objects L legal.1)
                    (kept_secured objects L d a n answer call legal was old open_ones) live_before))
              ]
        ]
