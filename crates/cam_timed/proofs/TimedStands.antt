-- What holds of a script by time after some of its lines, and after one step more.
use Rattle.std.proofs.Common.{◌≡◌, ◌≤◌, ◌+◌, ◌⊎◌, inl, inr, ℕ, zero, suc, true, false, List, [], ◌∷◌, ◌++◌, Some, None, length, refl, ap, subst, ◌∙◌, arith}
use Rattle.std.specs.Prelude.{nat_le, slice_get}
use Rattle.std.specs.Option.{option_map_or}
use Rattle.cam_type.specs.declared.ObjectDecl.{ObjectDecl}
use Rattle.cam_script.specs.declared.Binding.{Binding}
use Rattle.cam_script.specs.declared.Binding.TheVariants as bindings
use Rattle.cam_script.specs.SoFar.{SoFar, Variable}
use Rattle.cam_script.specs.Parse.{IsWithin}
use Rattle.cam_script.proofs.Appended.{one_longer, get_last, get_either}
use Rattle.cam_script.proofs.Stands.{Stands, stands_nothing}
use Rattle.cam_script.proofs.Within.{stands_within}
use Rattle.cam_timed.specs.declared.TimedAct.{TimedAct}
use Rattle.cam_timed.specs.declared.TimedAct.TheVariants as acts
use Rattle.cam_timed.specs.declared.TimedStep.{TimedStep}
use Rattle.cam_timed.specs.declared.reading.TimedSoFar.{TimedSoFar}
use Rattle.cam_timed.specs.TimedRange.{is_begin, begins_at, ActInRange, EachInRange}
use Rattle.cam_timed.specs.TimedGrammar.{timed_nothing, with_bound, with_timed}
use Rattle.cam_timed.proofs.Placed.{IsPlaced}
use Rattle.cam_timed.proofs.TimedRanges.{AreBegun}

-- what is declared, but the variables
abbrev pub without_variables : SoFar → SoFar
without_variables d = record d { variables = [] }

-- what holds after some lines
pub record TimedStands (d : TimedSoFar) : Type 0 where
  pub declared : Stands (without_variables d.declared)
  pub no_untimed : d.declared.script.steps ≡ []
  pub outside : d.declared.writing ≡ None
  pub begun : AreBegun d.declared.variables d.steps
  pub range : EachInRange d.declared.script.objects d.steps d.steps
  pub room : length d.steps ≤ 512

-- what is declared is within the limits of a script
pub timed_within : (d : TimedSoFar) → TimedStands d → IsWithin d.declared
timed_within d s =
    let w = stands_within (without_variables d.declared) s.declared in
    record {
      labels = w.labels;
      steps = w.steps;
      spent = w.spent;
      bodies = w.bodies;
      names = w.names;
      statements = w.statements;
    }

pub placed : (d : TimedSoFar) → TimedStands d → IsPlaced d.declared
placed d s =
    record { eight = s.declared.eight; placed = s.declared.placed; labels = s.declared.labels }

no_variables : (steps : List TimedStep) → AreBegun [] steps
no_variables steps i v e = absurd (grind (arith, e))

pub timed_nothing_stands : TimedStands timed_nothing
timed_nothing_stands =
    record {
      declared = stands_nothing;
      no_untimed = refl;
      outside = refl;
      begun = no_variables [];
      range = tt;
      room = omega arith;
    }

-- One step more.
begins_more :
    (steps : List TimedStep) (step : TimedStep) (v : ℕ) → begins_at steps v ≡ true
    → begins_at (steps ++ step ∷ []) v ≡ true
begins_more [] step v h = absurd (grind (arith, h))
begins_more (s ∷ steps) step zero h = h
begins_more (s ∷ steps) step (suc v) h = begins_more steps step v h

act_more :
    (objects : List ObjectDecl) (all : List TimedStep) (step : TimedStep) (act : TimedAct)
    → ActInRange objects all act → ActInRange objects (all ++ step ∷ []) act
act_more objects all step (acts.Begin s until) h = h
act_more objects all step (acts.Ask p m until) h = h
act_more objects all step (acts.Call v x op) h = h
act_more objects all step (acts.Commit v value) h = h
act_more objects all step (acts.Abort v) h = h
act_more objects all step (acts.GiveUp v w) h = h
act_more objects all step (acts.Deliver k) h = h
act_more objects all step (acts.Lose k) h = h
act_more objects all step acts.Drain h = h
act_more objects all step (acts.Tell s to) h = h
act_more objects all step (acts.Query s v) h = h
act_more objects all step (acts.Tick s moment) h = h
act_more objects all step (acts.Expire v) h = begins_more all step v h

each_more :
    (objects : List ObjectDecl) (all steps : List TimedStep) (step : TimedStep)
    → EachInRange objects all steps → ActInRange objects all step.act
    → EachInRange objects (all ++ step ∷ []) (steps ++ step ∷ [])
each_more objects all [] step h k = (act_more objects all step step.act k, tt)
each_more objects all (s ∷ steps) step h k =
    (act_more objects all step s.act h.0, each_more objects all steps step h.1 k)

below_512 : (n : ℕ) → nat_le 512 n ≡ false → n + 1 ≤ 512
below_512 n h = grind (arith, h)

-- whatever the variables are, where they are begun
step_stands :
    (d : TimedSoFar) (variables : List Variable) (number : ℕ) (act : TimedAct) → TimedStands d
    → nat_le 512 (length d.steps) ≡ false → ActInRange d.declared.script.objects d.steps act
    → AreBegun variables (d.steps ++ record { line = number; act = act } ∷ [])
    → TimedStands (with_timed
    (record d { declared = record d.declared { variables = variables } }) number act)
step_stands d variables number act s room fits begun =
    let step : TimedStep = record { line = number; act = act } in
    let longer = one_longer d.steps step in
    let below = below_512 (length d.steps) room in
    record {
      declared = s.declared;
      no_untimed = s.no_untimed;
      outside = s.outside;
      begun = begun;
      range = each_more d.declared.script.objects d.steps d.steps step s.range fits;
      room = omega (arith, longer, below);
    }

pub after_timed :
    (d : TimedSoFar) (number : ℕ) (act : TimedAct) → TimedStands d
    → nat_le 512 (length d.steps) ≡ false → ActInRange d.declared.script.objects d.steps act
    → TimedStands (with_timed d number act)
after_timed d number act s room fits =
    step_stands d d.declared.variables number act s room fits
    (λ i v e b. begins_more d.steps (record { line = number; act = act }) v.step (s.begun i v e b))

begun_one :
    (d : TimedSoFar) (name : List ℕ) (number : ℕ) (binding : Binding) (act : TimedAct)
    → AreBegun d.declared.variables d.steps → (binding ≡ bindings.Begin → is_begin act ≡ true)
    → (i : ℕ) (v : Variable)
    → (slice_get d.declared.variables i ≡ Some v) ⊎
    (record { name = name; step = length d.steps; binding = binding } ≡ v)
    → v.binding ≡ bindings.Begin
    → begins_at (d.steps ++ record { line = number; act = act } ∷ []) v.step ≡ true
begun_one d name number binding act begun begins i v (inl e) b =
    begins_more d.steps (record { line = number; act = act }) v.step (begun i v e b)
begun_one d name number binding act begun begins i v (inr e) b =
    let step : TimedStep = record { line = number; act = act } in
    subst (λ (v : Variable). v.binding ≡ bindings.Begin
    → begins_at (d.steps ++ step ∷ []) v.step ≡ true) e
    (λ c. ap (λ o. option_map_or (λ (s : TimedStep). is_begin s.act) o false)
    (get_last d.steps step) ∙ begins c) b

pub after_bound :
    (d : TimedSoFar) (number : ℕ) (name : List ℕ) (binding : Binding) (act : TimedAct)
    → TimedStands d → nat_le 512 (length d.steps) ≡ false
    → ActInRange d.declared.script.objects d.steps act
    → (binding ≡ bindings.Begin → is_begin act ≡ true)
    → TimedStands (with_bound d number name binding act)
after_bound d number name binding act s room fits begins =
    let one : Variable = record { name = name; step = length d.steps; binding = binding } in
    step_stands d (d.declared.variables ++ one ∷ []) number act s room fits
    (λ i v e b. begun_one d name number binding act s.begun begins i v
    (get_either d.declared.variables one i v e) b)
