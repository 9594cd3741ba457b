-- What is left of a body's requests falls as the view of its action grows.
use Rattle.std.proofs.Common.{◌≡◌, ℕ, ◌+◌, ◌-◌, ◌*◌, ◌≤◌, Bool, true, false, List, [], ◌∷◌, ◌++◌, refl, sym, ap, ◌∙◌, subst, arith}
use Rattle.std.specs.Prelude.{if◌then◌else◌}
use Rattle.std.proofs.lemmas.List.{append_assoc, append-nil}
use Rattle.std.proofs.lemmas.Nat.{mul-le}
use Rattle.cam_names.specs.declared.name.Name.{Name}
use Rattle.cam_event.specs.declared.Deed.{Deed}
use Rattle.cam_event.specs.declared.ViewStep.{ViewStep}
use Rattle.cam_event.specs.declared.ViewStep.TheVariants as steps
use Rattle.cam_event.specs.History.{after}
use Rattle.cam_event.specs.Views.{step_of, view}
use Rattle.cam_script.specs.declared.Statement.{Statement}
use Rattle.cam_script.specs.declared.Statement.TheVariants as statements
use Rattle.cam_script.specs.SoFar.{Size, cost_at, cost_of}
use Rattle.cam_body.specs.Work.{Try, Place, after_tries, after_try, child_result, closed_with, has_ended, place_of, seen_result, start_of, tail, tries_after}
use Rattle.cam_body.specs.Work.Try.{Worked, Failed, Open}
use Rattle.cam_runs.specs.RequestsLeft.{failed_at, left_at, left_by, left_from}
use Rattle.cam_runs.proofs.Tries.{tries_append}

le_same : (n : ℕ) → n ≤ n
le_same n = omega arith

le_then : (a b c : ℕ) → a ≤ b → b ≤ c → a ≤ c
le_then a b c x y = omega (arith, x, y)

-- one more try that failed
one_more_failed : (sizes : List Size) (ss : List Statement) (f : ℕ)
    → left_from sizes ss (f + 1) ≤ left_from sizes ss f
one_more_failed sizes [] f = le_same 1
one_more_failed sizes (statements.Call tries object op ∷ ss) f = by (cost_of sizes ss)
  where
    by : (c : ℕ) → (tries - (f + 1)) + c ≤ (tries - f) + c
    by c = omega arith
one_more_failed sizes (statements.Child tries node body ∷ ss) f =
    by (cost_of sizes ss)
    (mul-le (tries - (f + 1)) (1 + cost_at sizes body) (tries - f) (1 + cost_at sizes body) less
    (le_same (1 + cost_at sizes body)))
  where
    less : tries - (f + 1) ≤ tries - f
    less = omega arith

    by : (c : ℕ)
        → (tries - (f + 1)) * (1 + cost_at sizes body) ≤ (tries - f) * (1 + cost_at sizes body)
        → (tries - (f + 1)) * (1 + cost_at sizes body) + c
        ≤ (tries - f) * (1 + cost_at sizes body) + c
    by c h = omega (arith, h)
one_more_failed sizes (statements.Commit e ∷ ss) f = le_same (cost_of sizes ss)
one_more_failed sizes (statements.Abort ∷ ss) f = le_same (cost_of sizes ss)

no_fewer : (n : ℕ) → n - 0 ≡ n
no_fewer n = omega arith

-- before the first try the whole cost is left
pub first_left : (sizes : List Size) (ss : List Statement) → left_from sizes ss 0 ≡ cost_of sizes ss
first_left sizes [] = refl
first_left sizes (statements.Call tries object op ∷ ss) =
    ap (λ n. n + cost_of sizes ss) (no_fewer tries)
first_left sizes (statements.Child tries node body ∷ ss) =
    ap (λ n. n * (1 + cost_at sizes body) + cost_of sizes ss) (no_fewer tries)
first_left sizes (statements.Commit e ∷ ss) = refl
first_left sizes (statements.Abort ∷ ss) = refl

-- the statement is done
next_statement : (sizes : List Size) (ss : List Statement) (f : ℕ)
    → left_from sizes (tail ss) 0 ≤ left_from sizes ss f
next_statement sizes [] f = le_same 1
next_statement sizes (s ∷ ss) f =
    subst (λ n. n ≤ left_from sizes (s ∷ ss) f) (sym (first_left sizes ss)) (behind s)
  where
    add : (a c : ℕ) → c ≤ a + c
    add a c = omega arith

    behind : (s : Statement) → cost_of sizes ss ≤ left_from sizes (s ∷ ss) f
    behind (statements.Call tries object op) = add (tries - f) (cost_of sizes ss)
    behind (statements.Child tries node body) =
        add ((tries - f) * (1 + cost_at sizes body)) (cost_of sizes ss)
    behind (statements.Commit e) = le_same (cost_of sizes ss)
    behind statements.Abort = le_same (cost_of sizes ss)

-- one more try, of whatever outcome
try_lowers : (sizes : List Size) (place : Place) (t : Try)
    → left_at sizes (after_try place t) ≤ left_at sizes place
try_lowers sizes place (Worked v) = next_statement sizes place.rest (failed_at place)
try_lowers sizes place Failed = by place.is_open
  where
    by : (b : Bool) → left_from sizes place.rest (place.failed + 1)
        ≤ left_from sizes place.rest (if b then place.failed + 1 else place.failed)
    by true = le_same (left_from sizes place.rest (place.failed + 1))
    by false = one_more_failed sizes place.rest place.failed
try_lowers sizes place Open = by place.is_open
  where
    by : (b : Bool) → left_from sizes place.rest (place.failed + 1)
        ≤ left_from sizes place.rest (if b then place.failed + 1 else place.failed)
    by true = le_same (left_from sizes place.rest (place.failed + 1))
    by false = one_more_failed sizes place.rest place.failed

-- the open try has its outcome
outcome_lowers : (sizes : List Size) (place : Place) (t : Try)
    → left_at sizes (after_try place t) ≤ left_at sizes (after_try place Open)
outcome_lowers sizes place (Worked v) = next_statement sizes place.rest (place.failed + 1)
outcome_lowers sizes place Failed = le_same (left_from sizes place.rest (place.failed + 1))
outcome_lowers sizes place Open = le_same (left_from sizes place.rest (place.failed + 1))

closed_lowers : (sizes : List Size) (place : Place) (t : Try) (ts : List Try)
    → left_at sizes (after_tries place (closed_with t ts)) ≤ left_at sizes (after_tries place ts)
closed_lowers sizes place t [] = le_same (left_at sizes place)
closed_lowers sizes place t (Open ∷ []) = outcome_lowers sizes place t
closed_lowers sizes place t (Worked v ∷ []) = le_same (left_at sizes (after_try place (Worked v)))
closed_lowers sizes place t (Failed ∷ []) = le_same (left_at sizes (after_try place Failed))
closed_lowers sizes place t (Open ∷ u ∷ ts) = closed_lowers sizes (after_try place Open) t (u ∷ ts)
closed_lowers sizes place t (Worked v ∷ u ∷ ts) =
    closed_lowers sizes (after_try place (Worked v)) t (u ∷ ts)
closed_lowers sizes place t (Failed ∷ u ∷ ts) =
    closed_lowers sizes (after_try place Failed) t (u ∷ ts)

pub tries_behind : (place : Place) (ts us : List Try)
    → after_tries place (ts ++ us) ≡ after_tries (after_tries place ts) us
tries_behind place [] us = refl
tries_behind place (t ∷ ts) us = tries_behind (after_try place t) ts us

opened_lowers : (sizes : List Size) (place : Place) (ts : List Try)
    → left_at sizes (after_tries place (ts ++ Open ∷ [])) ≤ left_at sizes (after_tries place ts)
opened_lowers sizes place ts =
    subst (λ (p : Place). left_at sizes p ≤ left_at sizes (after_tries place ts))
    (sym (tries_behind place ts (Open ∷ []))) (try_lowers sizes (after_tries place ts) Open)

-- what the view does next
steps_lower : (sizes : List Size) (place : Place) (ts : List Try) (w : List ViewStep)
    → left_at sizes (after_tries place (tries_after ts w)) ≤ left_at sizes (after_tries place ts)
steps_lower sizes place ts [] = le_same (left_at sizes (after_tries place ts))
steps_lower sizes place ts (steps.Asked b ∷ w) =
    le_then _ _ _ (steps_lower sizes place (ts ++ Open ∷ []) w) (opened_lowers sizes place ts)
steps_lower sizes place ts (steps.Called n x op ∷ w) =
    le_then _ _ _ (steps_lower sizes place (ts ++ Open ∷ []) w) (opened_lowers sizes place ts)
steps_lower sizes place ts (steps.Got n seen ∷ w) =
    le_then _ _ _ (steps_lower sizes place (closed_with (seen_result seen) ts) w)
    (closed_lowers sizes place (seen_result seen) ts)
steps_lower sizes place ts (steps.Child b value ∷ w) =
    le_then _ _ _ (steps_lower sizes place (closed_with (child_result value) ts) w)
    (closed_lowers sizes place (child_result value) ts)
steps_lower sizes place ts (steps.Created ∷ w) = steps_lower sizes place ts w
steps_lower sizes place ts (steps.CommitAsked v ∷ w) = steps_lower sizes place ts w
steps_lower sizes place ts (steps.AbortAsked ∷ w) = steps_lower sizes place ts w

places_lower : (sizes : List Size) (body : List Statement) (v w : List ViewStep)
    → left_at sizes (place_of body (v ++ w)) ≤ left_at sizes (place_of body v)
places_lower sizes body v w =
    subst (λ (ts : List Try). left_at sizes (after_tries (start_of body) ts)
    ≤ left_at sizes (place_of body v)) (sym (tries_append [] v w))
    (steps_lower sizes (start_of body) (tries_after [] v) w)

-- what has ended stays so
pub ended_stays : (v w : List ViewStep) → has_ended v ≡ true → has_ended (v ++ w) ≡ true
ended_stays [] w h = cc
ended_stays (steps.Asked b ∷ v) w h = ended_stays v w h
ended_stays (steps.Called n x op ∷ v) w h = ended_stays v w h
ended_stays (steps.Got n seen ∷ v) w h = ended_stays v w h
ended_stays (steps.Child b value ∷ v) w h = ended_stays v w h
ended_stays (steps.Created ∷ v) w h = ended_stays v w h
ended_stays (steps.CommitAsked x ∷ v) w h = refl
ended_stays (steps.AbortAsked ∷ v) w h = refl

-- THE LAW: a longer view leaves no more.
pub view_lowers : (sizes : List Size) (body : List Statement) (v w : List ViewStep)
    → left_by sizes body (v ++ w) ≤ left_by sizes body v
view_lowers sizes body v w =
    by (has_ended v) (has_ended (v ++ w)) (ended_stays v w) (places_lower sizes body v w)
  where
    by : (a b : Bool) → (a ≡ true → b ≡ true)
        → left_at sizes (place_of body (v ++ w)) ≤ left_at sizes (place_of body v)
        → (if b then 0 else left_at sizes (place_of body (v ++ w)))
        ≤ (if a then 0 else left_at sizes (place_of body v))
    by true true stays less = le_same 0
    by true false stays less = absurd (never (stays refl))
      where
        never : false ≡ true → ⊥
        never e = cc
    by false true stays less = omega arith
    by false false stays less = less

-- The view grows with each deed.
pub record Grown (L M : List Deed) (a : Name) : Type 0 where
  pub more : List ViewStep
  pub is : view M a ≡ view L a ++ more

grown_then : (L M N : List Deed) (a : Name) → Grown L M a → Grown M N a → Grown L N a
grown_then L M N a one other = record {
  more = one.more ++ other.more;
  is = other.is ∙ ap (λ v. v ++ other.more) one.is ∙ append_assoc (view L a) one.more other.more;
}

pub view_grows : (L ds : List Deed) (a : Name) → Grown L (after L ds) a
view_grows L [] a = record { more = []; is = sym (append-nil (view L a)) }
view_grows L (d ∷ ds) a =
    grown_then L (d ∷ L) (after (d ∷ L) ds) a
    (record { more = step_of L d a; is = refl }) (view_grows (d ∷ L) ds a)
