-- A request that a body makes lowers what is left of it, by one and by what its child's body may cost.
use Rattle.std.proofs.Common.{◌≡◌, ℕ, ℤ, ◌+◌, ◌-◌, ◌*◌, ◌≤◌, Bool, true, false, List, [], ◌∷◌, ◌++◌, Option, Some, None, refl, sym, ap, ◌∙◌, subst, arith}
use Rattle.std.specs.Prelude.{if◌then◌else◌, nat_le}
use Rattle.std.proofs.lemmas.Bool.{leb-false}
use Rattle.cam_names.specs.declared.name.Name.{Name}
use Rattle.cam_type.specs.declared.Op.{Op}
use Rattle.cam_event.specs.declared.ViewStep.{ViewStep}
use Rattle.cam_event.specs.declared.ViewStep.TheVariants as steps
use Rattle.cam_event.specs.declared.Want.{Want}
use Rattle.cam_event.specs.declared.Want.TheVariants as wants
use Rattle.cam_script.specs.declared.Statement.{Statement}
use Rattle.cam_script.specs.declared.Statement.TheVariants as statements
use Rattle.cam_script.specs.SoFar.{Size, cost_at, cost_of}
use Rattle.cam_body.specs.declared.Next.{Next}
use Rattle.cam_body.specs.declared.Next.TheVariants as nexts
use Rattle.cam_body.specs.Work.{Place, body_at, child_body, has_ended, next, next_at, place_of, tries_of, want_of}
use Rattle.cam_runs.specs.RequestsLeft.{failed_at, left_at, left_by, left_from}
use Rattle.cam_runs.proofs.RequestSteps.{abort_ends, asked_left, called_left, commit_ends, ended_left, gift_of, some_left, IsStepOf}

-- what a request asks for
abbrev pub request_want : Next → Want
request_want (nexts.Request want) = want
request_want nexts.Wait = wants.Abort
request_want nexts.Over = wants.Abort

-- arithmetic of one try
call_falls : (new tries f c : ℕ) → nat_le tries f ≡ false → new ≤ (tries - (f + 1)) + c
    → new + 1 ≤ (tries - f) + c
call_falls new tries f c less h =
    let not_less = leb-false tries f less in omega (arith, h, not_less)

child_falls : (new tries f u c : ℕ) → nat_le tries f ≡ false
    → new ≤ (tries - (f + 1)) * (1 + u) + c → new + (1 + u) ≤ (tries - f) * (1 + u) + c
child_falls new tries f u c less h =
    let not_less = leb-false tries f less in
    let k = tries - (f + 1) in
    let one_more : tries - f ≡ k + 1 = omega (arith, not_less) in
    subst (λ n. new + (1 + u) ≤ n * (1 + u) + c) (sym one_more) (by k h)
  where
    by : (k : ℕ) → new ≤ k * (1 + u) + c → new + (1 + u) ≤ (k + 1) * (1 + u) + c
    by k h =
        let more : (k + 1) * (1 + u) ≡ k * (1 + u) + (1 + u) = grind arith in
        subst (λ n. new + (1 + u) ≤ n + c) (sym more) (add (k * (1 + u)) h)
      where
        add : (n : ℕ) → new ≤ n + c → new + (1 + u) ≤ (n + (1 + u)) + c
        add n h = omega (arith, h)

-- THE LAW of one request.
abbrev pub Falls : List Size → List Statement → List ViewStep → ViewStep → Type 0
Falls sizes body v s =
    left_by sizes body (v ++ s ∷ []) + (1 + gift_of sizes (child_body body v) s)
    ≤ left_by sizes body v

-- where nothing is left afterwards
ends_falls : (sizes : List Size) (body : List Statement) (v : List ViewStep) (s : ViewStep)
    → left_by sizes body (v ++ s ∷ []) ≡ 0 → gift_of sizes (child_body body v) s ≡ 0
    → 1 ≤ left_by sizes body v → Falls sizes body v s
ends_falls sizes body v s none no_gift some = by _ _ _ none no_gift some
  where
    by : (x y z : ℕ) → x ≡ 0 → y ≡ 0 → 1 ≤ z → x + (1 + y) ≤ z
    by x y z a b c = omega (arith, a, b, c)

gift_for_commit : (sizes : List Size) (o : Option ℕ) (x : ℤ)
    → gift_of sizes o (steps.CommitAsked x) ≡ 0
gift_for_commit sizes None x = refl
gift_for_commit sizes (Some m) x = refl

gift_for_abort : (sizes : List Size) (o : Option ℕ) → gift_of sizes o steps.AbortAsked ≡ 0
gift_for_abort sizes None = refl
gift_for_abort sizes (Some m) = refl

gift_for_call : (sizes : List Size) (o : Option ℕ) (n x : ℕ) (op : Op)
    → gift_of sizes o (steps.Called n x op) ≡ 0
gift_for_call sizes None n x op = refl
gift_for_call sizes (Some m) n x op = refl

abort_falls : (sizes : List Size) (body : List Statement) (v : List ViewStep) (s : ViewStep)
    → IsStepOf wants.Abort s → 1 ≤ left_by sizes body v → Falls sizes body v s
abort_falls sizes body v steps.AbortAsked step some =
    ends_falls sizes body v steps.AbortAsked
    (ended_left sizes body (v ++ steps.AbortAsked ∷ []) (abort_ends v))
    (gift_for_abort sizes (child_body body v)) some
abort_falls sizes body v _ step some = absurd step

module _ (sizes : List Size) (body : List Statement) (v : List ViewStep) where
  abbrev pub place : Place
  place = place_of body v

  -- by the statement at work
  at_statement : (st : Statement) (ss : List Statement) (s : ViewStep) → place.rest ≡ st ∷ ss
      → left_by sizes body v ≡ left_from sizes (st ∷ ss) place.failed
      → nat_le (tries_of st) place.failed ≡ false → IsStepOf (want_of place.values st) s
      → Falls sizes body v s
  at_statement (statements.Call tries x op) ss (steps.Called n y p) at is less step =
      by _ _ _ (gift_for_call sizes (child_body body v) n y p) is
      (call_falls (left_by sizes body (v ++ steps.Called n y p ∷ [])) tries place.failed
      (cost_of sizes ss) less
      (subst (λ (rest : List Statement). left_by sizes body (v ++ steps.Called n y p ∷ [])
      ≤ left_from sizes rest (place.failed + 1)) at (called_left sizes body v n y p)))
    where
      by : (new gift old : ℕ) → gift ≡ 0
          → old ≡ left_from sizes (statements.Call tries x op ∷ ss) place.failed
          → new + 1 ≤ left_from sizes (statements.Call tries x op ∷ ss) place.failed
          → new + (1 + gift) ≤ old
      by new gift old a b h = omega (arith, a, b, h)
  at_statement (statements.Call tries x op) ss _ at is less step = absurd step
  at_statement (statements.Child tries node m) ss (steps.Asked b) at is less step =
      by _ _ _ (ap (λ (rest : List Statement). gift_of sizes (body_at rest) (steps.Asked b)) at) is
      (child_falls (left_by sizes body (v ++ steps.Asked b ∷ [])) tries place.failed
      (cost_at sizes m) (cost_of sizes ss) less
      (subst (λ (rest : List Statement). left_by sizes body (v ++ steps.Asked b ∷ [])
      ≤ left_from sizes rest (place.failed + 1)) at (asked_left sizes body v b)))
    where
      by : (new gift old : ℕ) → gift ≡ cost_at sizes m
          → old ≡ left_from sizes (statements.Child tries node m ∷ ss) place.failed
          → new + (1 + cost_at sizes m)
          ≤ left_from sizes (statements.Child tries node m ∷ ss) place.failed
          → new + (1 + gift) ≤ old
      by new gift old a b h =
          subst (λ g. new + (1 + g) ≤ old) (sym a)
          (subst (λ k. new + (1 + cost_at sizes m) ≤ k) (sym b) h)
  at_statement (statements.Child tries node m) ss _ at is less step = absurd step
  at_statement (statements.Commit e) ss (steps.CommitAsked x) at is less step =
      ends_falls sizes body v (steps.CommitAsked x)
      (ended_left sizes body (v ++ steps.CommitAsked x ∷ []) (commit_ends v x))
      (gift_for_commit sizes (child_body body v) x)
      (subst (λ n. 1 ≤ n) (sym is) (some_left sizes (statements.Commit e ∷ ss) place.failed))
  at_statement (statements.Commit e) ss _ at is less step = absurd step
  at_statement statements.Abort ss s at is less step =
      abort_falls sizes body v s step
      (subst (λ n. 1 ≤ n) (sym is) (some_left sizes (statements.Abort ∷ ss) place.failed))

  -- by where the body is
  pub request_falls : (want : Want) (s : ViewStep) → next body v ≡ nexts.Request want
      → IsStepOf want s → Falls sizes body v s
  request_falls want s asks step =
      by (has_ended v) refl (place.is_open) refl place.rest refl asks
    where
      by : (e : Bool) → has_ended v ≡ e → (o : Bool) → place.is_open ≡ o → (rest : List Statement)
          → place.rest ≡ rest
          → (if e then nexts.Over else if o then nexts.Wait
          else next_at rest place.failed place.values) ≡ nexts.Request want
          → Falls sizes body v s
      by true ended o opens rest at h = cc
      by false ended true opens rest at h = cc
      by false ended false opens [] at h = cc
      by false ended false opens (st ∷ ss) at h = test (nat_le (tries_of st) place.failed) refl h
        where
          left : left_by sizes body v ≡ left_from sizes (st ∷ ss) place.failed
          left =
              ap (λ b. if b then 0 else left_at sizes place) ended
              ∙ ap (λ b. left_from sizes place.rest (if b then place.failed + 1 else place.failed)) opens
              ∙ ap (λ (r : List Statement). left_from sizes r place.failed) at

          test : (b : Bool) → nat_le (tries_of st) place.failed ≡ b
              → (if b then nexts.Request wants.Abort
              else nexts.Request (want_of place.values st)) ≡ nexts.Request want
              → Falls sizes body v s
          test true tried h =
              abort_falls sizes body v s
              (subst (λ w. IsStepOf w s) (sym (ap request_want h)) step)
              (subst (λ n. 1 ≤ n) (sym left) (some_left sizes (st ∷ ss) place.failed))
          test false tried h =
              at_statement st ss s at left tried
              (subst (λ w. IsStepOf w s) (sym (ap request_want h)) step)

-- Where a body makes a request something is left of it, and no body gives up a child.
pub request_some : (sizes : List Size) (body : List Statement) (v : List ViewStep) (want : Want)
    → next body v ≡ nexts.Request want → 1 ≤ left_by sizes body v
request_some sizes body v want asks = by (has_ended v) asks
  where
    by : (e : Bool)
        → (if e then nexts.Over else if (place_of body v).is_open then nexts.Wait
        else next_at (place_of body v).rest (place_of body v).failed (place_of body v).values)
        ≡ nexts.Request want
        → 1 ≤ (if e then 0 else left_at sizes (place_of body v))
    by true h = cc
    by false h = some_left sizes (place_of body v).rest (failed_at (place_of body v))

wanted_no_give_up : (values : List ℤ) (s : Statement) (b : Name)
    → want_of values s ≡ wants.GiveUp b → ⊥
wanted_no_give_up values (statements.Call tries x op) b h = cc
wanted_no_give_up values (statements.Child tries node m) b h = cc
wanted_no_give_up values (statements.Commit e) b h = cc
wanted_no_give_up values statements.Abort b h = cc

pub no_give_up : (body : List Statement) (v : List ViewStep) (b : Name)
    → next body v ≡ nexts.Request (wants.GiveUp b) → ⊥
no_give_up body v b asks =
    by (has_ended v) (place_of body v).is_open (place_of body v).rest asks
  where
    by : (e o : Bool) (rest : List Statement)
        → (if e then nexts.Over else if o then nexts.Wait
        else next_at rest (place_of body v).failed (place_of body v).values)
        ≡ nexts.Request (wants.GiveUp b)
        → ⊥
    by true o rest h = cc
    by false true rest h = cc
    by false false [] h = cc
    by false false (s ∷ ss) h = test (nat_le (tries_of s) (place_of body v).failed) h
      where
        test : (c : Bool)
            → (if c then nexts.Request wants.Abort
            else nexts.Request (want_of (place_of body v).values s))
            ≡ nexts.Request (wants.GiveUp b)
            → ⊥
        test true h = cc
        test false h = wanted_no_give_up (place_of body v).values s b (ap request_want h)
