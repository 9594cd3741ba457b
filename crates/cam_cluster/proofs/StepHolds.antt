-- What the grammar gives of the step that is taken next.
use Rattle.std.proofs.Common.{◌≡◌, ℕ, zero, suc, ◌≤◌, true, List, [], ◌∷◌, ◌++◌, length}
use Rattle.std.proofs.Common.{Option, Some, None, subst}
use Rattle.std.specs.Prelude.{nat_le, slice_get}
use Rattle.std.proofs.lemmas.Bool.{and_parts, leb-true}
use Rattle.std.proofs.lemmas.Option.{same_Some}
use Rattle.cam_type.specs.declared.ObjectDecl.{ObjectDecl}
use Rattle.cam_runs.specs.InRange.{is_act}
use Rattle.cam_runs.specs.Standing.{Standing}
use Rattle.cam_runs.specs.UnderHalts.{IsNextStep}
use Rattle.cam_runs.proofs.LeadOn.{step_passes}
use Rattle.cam_runs.proofs.Range.{script_in_range}
use Rattle.cam_script.specs.declared.Act.{Act}
use Rattle.cam_script.specs.declared.Script.{Script}
use Rattle.cam_script.specs.declared.Step.{Step}
use Rattle.cam_script.specs.Law.{IsScript, act_holds, are_steps, is_node}

-- a step holds after those before it
pub step_holds : (nodes : ℕ) (objects : List ObjectDecl) (bodies : ℕ) (earlier steps : List Step)
    (k : ℕ) (step : Step) → are_steps nodes objects bodies earlier steps ≡ true
    → slice_get steps k ≡ Some step
    → (before : List Step) × (act_holds nodes objects bodies before step.act ≡ true)
step_holds nodes objects bodies earlier [] k step hold at =
    let gone : ◌≡◌ {A = Option Step} None (Some step) = at in cc
step_holds nodes objects bodies earlier (s ∷ steps) zero step hold at = (
  earlier,
  rw (← (same_Some
      s step at)) (and_parts (act_holds nodes objects bodies earlier s.act)
      (are_steps nodes objects bodies (earlier ++ s ∷ []) steps) hold).0,
)
step_holds nodes objects bodies earlier (s ∷ steps) (suc k) step hold at =
    step_holds nodes objects bodies (earlier ++ s ∷ []) steps k step (and_parts (act_holds nodes
    objects bodies earlier s.act) (are_steps nodes objects bodies (earlier ++ s ∷ []) steps) hold).1
    at

module _ (script : Script) (st : Standing) (line : ℕ) (act_is : Act) (is : IsScript script)
    (next : IsNextStep script st (record { line = line; act = act_is })) where
  -- The next step is one of the script,
  pub next_holds : (before : List Step)
      × (act_holds script.nodes script.objects (length script.bodies) before act_is ≡ true)
  next_holds = step_holds _ _ _ [] script.steps (length st.running.bound) _ is.steps_hold next

  -- and in the ranges of runs.
  pub next_in_range : is_act script act_is ≡ true
  next_in_range =
      step_passes (λ (s : Step). is_act script s.act) script.steps (length st.running.bound) _
      (script_in_range script is).0 next

-- a node of the script
pub node_within : (nodes s : ℕ) → is_node nodes s ≡ true → (1 ≤ s) × (s ≤ nodes)
node_within nodes s h =
    let parts = and_parts (nat_le 1 s) (nat_le s nodes) h in
    (leb-true 1 s parts.0, leb-true s nodes parts.1)
