-- What a view has of a request, and what it leaves of its action's body.
use Rattle.std.proofs.Common.{◌≡◌, ℕ, ℤ, ◌+◌, ◌-◌, ◌*◌, ◌≤◌, Bool, true, false, List, [], ◌∷◌, ◌++◌, Option, Some, refl, sym, ap, ◌∙◌, subst, arith}
use Rattle.std.specs.Prelude.{if◌then◌else◌}
use Rattle.cam_names.specs.declared.name.Name.{Name}
use Rattle.cam_type.specs.declared.Op.{Op}
use Rattle.cam_event.specs.declared.ViewStep.{ViewStep}
use Rattle.cam_event.specs.declared.ViewStep.TheVariants as steps
use Rattle.cam_event.specs.declared.Want.{Want}
use Rattle.cam_event.specs.declared.Want.TheVariants as wants
use Rattle.cam_script.specs.declared.Statement.{Statement}
use Rattle.cam_script.specs.declared.Statement.TheVariants as statements
use Rattle.cam_script.specs.SoFar.{Size, cost_at, cost_of}
use Rattle.cam_body.specs.Work.{Place, after_tries, has_ended, place_of, start_of, tries_after}
use Rattle.cam_body.specs.Work.Try.{Open}
use Rattle.cam_runs.specs.RequestsLeft.{left_at, left_by, left_from}
use Rattle.cam_runs.proofs.RequestsFall.{tries_behind}
use Rattle.cam_runs.proofs.RequestsKept.{below_all, no_more}
use Rattle.cam_runs.proofs.Tries.{tries_append}

-- what a view has of a request
abbrev pub IsStepOf : Want → ViewStep → Type 0
IsStepOf (wants.Ask m) (steps.Asked b) = Unit {0}
IsStepOf (wants.Call x op) (steps.Called n y p) = Unit {0}
IsStepOf (wants.Commit v) (steps.CommitAsked w) = Unit {0}
IsStepOf wants.Abort steps.AbortAsked = Unit {0}
IsStepOf _ _ = ⊥

-- what is given to a child that it asks for
abbrev pub gift_of : List Size → Option ℕ → ViewStep → ℕ
gift_of sizes (Some m) (steps.Asked b) = cost_at sizes m
gift_of sizes _ _ = 0

-- a cost is one at least
pub some_cost : (sizes : List Size) (ss : List Statement) → 1 ≤ cost_of sizes ss
some_cost sizes [] = no_more 1
some_cost sizes (statements.Call tries object op ∷ ss) =
    let rest = some_cost sizes ss in omega (arith, rest)
some_cost sizes (statements.Child tries node body ∷ ss) =
    more (tries * (1 + cost_at sizes body)) (some_cost sizes ss)
  where
    more : (n : ℕ) → 1 ≤ cost_of sizes ss → 1 ≤ n + cost_of sizes ss
    more n h = omega (arith, h)
some_cost sizes (statements.Commit e ∷ ss) = some_cost sizes ss
some_cost sizes (statements.Abort ∷ ss) = some_cost sizes ss

some_more : (n c : ℕ) → 1 ≤ c → 1 ≤ n + c
some_more n c h = omega (arith, h)

pub some_left : (sizes : List Size) (ss : List Statement) (f : ℕ) → 1 ≤ left_from sizes ss f
some_left sizes [] f = no_more 1
some_left sizes (statements.Call tries object op ∷ ss) f =
    some_more (tries - f) (cost_of sizes ss) (some_cost sizes ss)
some_left sizes (statements.Child tries node body ∷ ss) f =
    some_more ((tries - f) * (1 + cost_at sizes body)) (cost_of sizes ss) (some_cost sizes ss)
some_left sizes (statements.Commit e ∷ ss) f = some_cost sizes ss
some_left sizes (statements.Abort ∷ ss) f = some_cost sizes ss

-- one more request in the view: a try is open
pub if_most : (b : Bool) (x y : ℕ) → x ≤ y → (if b then 0 else x) ≤ y
if_most true x y h = below_all y
if_most false x y h = h

pub asked_left : (sizes : List Size) (body : List Statement) (v : List ViewStep) (b : Name)
    → left_by sizes body (v ++ steps.Asked b ∷ [])
    ≤ left_from sizes (place_of body v).rest ((place_of body v).failed + 1)
asked_left sizes body v b =
    if_most (has_ended (v ++ steps.Asked b ∷ [])) _ _
    (subst (λ (p : Place). left_at sizes p
    ≤ left_from sizes (place_of body v).rest ((place_of body v).failed + 1))
    (sym (ap (after_tries (start_of body)) (tries_append [] v (steps.Asked b ∷ []))
    ∙ tries_behind (start_of body) (tries_after [] v) (Open ∷ [])))
    (no_more (left_from sizes (place_of body v).rest ((place_of body v).failed + 1))))

pub called_left : (sizes : List Size) (body : List Statement) (v : List ViewStep) (n x : ℕ)
    (op : Op)
    → left_by sizes body (v ++ steps.Called n x op ∷ [])
    ≤ left_from sizes (place_of body v).rest ((place_of body v).failed + 1)
called_left sizes body v n x op =
    if_most (has_ended (v ++ steps.Called n x op ∷ [])) _ _
    (subst (λ (p : Place). left_at sizes p
    ≤ left_from sizes (place_of body v).rest ((place_of body v).failed + 1))
    (sym (ap (after_tries (start_of body)) (tries_append [] v (steps.Called n x op ∷ []))
    ∙ tries_behind (start_of body) (tries_after [] v) (Open ∷ [])))
    (no_more (left_from sizes (place_of body v).rest ((place_of body v).failed + 1))))

-- one that ends: nothing is left
pub commit_ends : (v : List ViewStep) (x : ℤ) → has_ended (v ++ steps.CommitAsked x ∷ []) ≡ true
commit_ends [] x = refl
commit_ends (steps.Asked b ∷ v) x = commit_ends v x
commit_ends (steps.Called n y op ∷ v) x = commit_ends v x
commit_ends (steps.Got n seen ∷ v) x = commit_ends v x
commit_ends (steps.Child b value ∷ v) x = commit_ends v x
commit_ends (steps.Created ∷ v) x = commit_ends v x
commit_ends (steps.CommitAsked y ∷ v) x = refl
commit_ends (steps.AbortAsked ∷ v) x = refl

pub abort_ends : (v : List ViewStep) → has_ended (v ++ steps.AbortAsked ∷ []) ≡ true
abort_ends [] = refl
abort_ends (steps.Asked b ∷ v) = abort_ends v
abort_ends (steps.Called n y op ∷ v) = abort_ends v
abort_ends (steps.Got n seen ∷ v) = abort_ends v
abort_ends (steps.Child b value ∷ v) = abort_ends v
abort_ends (steps.Created ∷ v) = abort_ends v
abort_ends (steps.CommitAsked y ∷ v) = refl
abort_ends (steps.AbortAsked ∷ v) = refl

pub ended_left : (sizes : List Size) (body : List Statement) (w : List ViewStep)
    → has_ended w ≡ true → left_by sizes body w ≡ 0
ended_left sizes body w h = ap (λ b. if b then 0 else left_at sizes (place_of body w)) h
