-- How a line ends whose input goes by what a variable stands for.
use Rattle.std.proofs.Common.{◌≡◌, ◌≤◌, ℕ, ◌+◌, ◌-◌, List, Option, Some, None, Err, sym, ap, ◌∙◌}
use Rattle.std.proofs.Common.{subst, arith}
use Rattle.std.specs.Prelude.{Result}
use Rattle.cam_names.specs.declared.name.Name.{Name}
use Rattle.cam_names.specs.Names.{home_node}
use Rattle.cam_event.specs.declared.LineRefusal.{LineRefusal}
use Rattle.cam_event.specs.declared.LineRefusal.TheVariants as refusals
use Rattle.cam_event.specs.declared.Want.{Want}
use Rattle.cam_event.specs.Inputs.{Input}
use Rattle.cam_event.specs.Readings.{by_knowledge}
use Rattle.cam_node.specs.declared.Input.TheVariants as inputs
use Rattle.cam_node.specs.Log.{Logged}
use Rattle.cam_runs.specs.Halts.{Halting}
use Rattle.cam_runs.specs.HaltedLines.{setting}
use Rattle.cam_runs.specs.Requests.{variable}
use Rattle.cam_runs.specs.Standing.{Standing, Setting}
use Rattle.cam_runs.specs.UnderHalts.{IsNextStep}
use Rattle.cam_script.specs.declared.Act.{Act}
use Rattle.cam_script.specs.declared.Script.{Script}
use Rattle.cam_script.specs.declared.Step.{Step}
use Rattle.cam_script.specs.Law.{IsScript}
use Rattle.cam_cluster.specs.declared.LineFault.{LineFault}
use Rattle.cam_cluster.specs.declared.LineFault.TheVariants as line_faults
use Rattle.cam_cluster.specs.declared.works.Put.{Put}
use Rattle.cam_cluster.specs.InputLines.{IsLineToSome, IsRefusedAs, IsTriedLine}
use Rattle.cam_cluster.specs.SoFar.{IsEnded, IsRefused, KeepsLines, LinesFields}
use Rattle.cam_cluster.specs.VariableLines.{AreAtNodes, IsItsInput, IsRequestBySome, IsRequestLine}
use Rattle.cam_cluster.specs.VariableLines.{action_of, request_of}
use Rattle.cam_cluster.proofs.TriedLine.{refused_line}
use Rattle.cam_cluster.proofs.VariableActs.{IsUnbound, to_its_home, unbound_by}

-- what a variable stands for is the same in each run that is kept,
pub stands_for : (script : Script) (st : Standing) (lines : LinesFields)
    (may : ℕ → Logged → Type 0) (v : ℕ) (o : Option Name) → KeepsLines script st lines may
    → action_of lines.bound v ≡ o → variable st.running v ≡ o
stands_for script st lines may v o keeps is =
    ap (λ (bs : List (Option Name)). action_of bs v) (sym keeps.variables) ∙ is

-- and the action is at one of the nodes.
pub placed_in_each : (one other : Script) (st behind : Standing) (lines : LinesFields)
    (may : ℕ → Logged → Type 0) → KeepsLines one st lines may → KeepsLines other behind lines may
    → AreAtNodes one.nodes st.running.bound → AreAtNodes other.nodes behind.running.bound
placed_in_each one other st behind lines may keeps also placed =
    subst (λ (n : ℕ). AreAtNodes n behind.running.bound)
    (sym keeps.runs.one_each ∙ also.runs.one_each)
    (subst (AreAtNodes one.nodes) (sym keeps.variables ∙ also.variables) placed)

-- a line of a variable that stands for nothing
pub unbound_line : (line : ℕ) (act_is : Act) (old new : LinesFields)
    (might may : ℕ → Logged → Type 0) (script : Script) (st : Standing) (halts : Halting)
    (later : List Step) → IsScript script → KeepsLines script st old might
    → IsNextStep script st (record { line = line; act = act_is }) → IsUnbound script st act_is
    → (fault : LineFault) → IsRefusedAs line refusals.Unbound old might new may fault
    → (input : Input)
    → IsEnded script st
    (setting (by_knowledge script.objects) halts (record { line = line; act = act_is }) later)
    act_is input new may (Err fault)
unbound_line line act_is old new might may script st halts later is keeps next unbound
    line_faults.NoMemory before input = before script st is keeps
unbound_line line act_is old new might may script st halts later is keeps next unbound
    (line_faults.Refused told) has input =
    rw has.0 (refused_line _ _ halts later _ _ _ _ _ _ _ is keeps next unbound.test
    (unbound.takes (setting (by_knowledge script.objects) halts (record {
      line = line;
      act = act_is;
    }) later)) has.1)

module _ (line v : ℕ) (want : Want) (old new : LinesFields) (might may : ℕ → Logged → Type 0) where
  pub request_unbound : action_of old.bound v ≡ None → (fault : LineFault)
      → IsRefusedAs line refusals.Unbound old might new may fault
      → IsRequestLine line v want old might new may (Err fault)
  request_unbound none fault has script st halts act_is later is keeps next asks input its =
      unbound_line line act_is old new might may script st halts later is keeps next
      (unbound_by script st act_is v want asks (stands_for script st old might v None keeps none))
      fault has input

  pub request_ended : IsRequestBySome v want old might → (a : Name)
      → action_of old.bound v ≡ Some a → (result : Result Put LineFault)
      → IsTriedLine line (home_node a) (inputs.Request (record { action = a; want = want })) old
      might new may result
      → IsRequestLine line v want old might new may result
  request_ended some a at result has script st halts act_is later is keeps next asks input its =
      subst (λ (i : Input). IsEnded script st c act_is i new may result) (subst (λ (o : Option
      Name). IsItsInput (request_of o want) input) at its) (has script st halts act_is later is
      keeps next (to_its_home _ _ _ _ _ _ keeps.runs.under (placed_in_each _ _ _ _ _ _
      some.keeps keeps some.placed) asks (stands_for _ _ _ _ _ _ keeps at)))
    where
      c : Setting
      c = setting (by_knowledge script.objects) halts (record { line = line; act = act_is }) later

  -- the line that it is
  pub request_to : IsRequestBySome v want old might → (a : Name) → action_of old.bound v ≡ Some a
      → IsLineToSome (home_node a) (inputs.Request (record { action = a; want = want })) old might
  request_to some a at = record {
    script = some.script;
    standing = some.standing;
    act_is = some.act_is;
    is_script = some.is_script;
    keeps = some.keeps;
    is_line =
        to_its_home _ _ _ _ _ _ some.keeps.runs.under some.placed some.is_request (stands_for
        _ _ _ _ _ _ some.keeps at);
  }

-- the place of a node, and the place of the home of an action
pub before_after : (node : ℕ) → 1 ≤ node → node - 1 + 1 ≡ node
before_after node low = omega (arith, low)

pub home_place : (home : ℕ × ℕ) (node count : ℕ) → home ≡ (node, count) → 1 ≤ node
    → home.0 - 1 + 1 ≡ node
home_place home node count is low =
    let first : home.0 ≡ node = ap (λ (p : ℕ × ℕ). p.0) is in
    omega (arith, first, low)
