-- The acts of lines that make a request of a variable's action.
use Rattle.std.proofs.Common.{◌≡◌, ℕ, ℤ, Option, Some, None, refl, sym, ap, ◌∙◌}
use Rattle.std.proofs.lemmas.Bool.{and_parts}
use Rattle.cam_names.specs.declared.name.Name.{Name}
use Rattle.cam_names.specs.Names.{home_node}
use Rattle.cam_type.specs.declared.Op.{Op}
use Rattle.cam_event.specs.declared.LineRefusal.TheVariants as refusals
use Rattle.cam_event.specs.declared.Want.{Want}
use Rattle.cam_event.specs.declared.Want.TheVariants as wants
use Rattle.cam_event.specs.Live.{site_of, is_fit}
use Rattle.cam_event.specs.Readings.{by_knowledge}
use Rattle.cam_node.specs.declared.Input.TheVariants as inputs
use Rattle.cam_runs.specs.HaltedLines.{Refused, act, of_variable, take_request}
use Rattle.cam_runs.specs.InRange.{is_free, is_node, is_op}
use Rattle.cam_runs.specs.Requests.{variable}
use Rattle.cam_runs.specs.Standing.{Standing, Setting}
use Rattle.cam_runs.specs.UnderHalts.{IsNextStep, IsUnderHalts}
use Rattle.cam_runs.proofs.Bodies.{node_of_test}
use Rattle.cam_runs.proofs.HaltedParts.{bare_at}
use Rattle.cam_script.specs.declared.Act.{Act}
use Rattle.cam_script.specs.declared.Act.TheVariants as acts
use Rattle.cam_script.specs.declared.Script.{Script}
use Rattle.cam_script.specs.Law.{IsScript}
use Rattle.cam_histories.specs.Lines.{line_refusal, test_request, test_variable}
use Rattle.cam_cluster.specs.InputLines.{IsLineTo}
use Rattle.cam_cluster.specs.VariableLines.{AreAtNodes, IsRequestBy}
use Rattle.cam_cluster.proofs.StepHolds.{next_in_range}

module _ (script : Script) (st : Standing) (line : ℕ) (is : IsScript script) where
  pub ask_by : (v m : ℕ) → IsNextStep script st (record { line = line; act = acts.Ask v m })
      → IsRequestBy script st (acts.Ask v m) v (wants.Ask m)
  ask_by v m next =
      let parts = and_parts (is_free script v) (is_node m) (next_in_range script st line (acts.Ask v
      m) is next) in
      record {
        free = parts.0;
        in_range = node_of_test _ parts.1;
        tests = refl;
        takes = λ c. refl;
      }

  pub call_by : (v x : ℕ) (op : Op)
      → IsNextStep script st (record { line = line; act = acts.Call v x op })
      → IsRequestBy script st (acts.Call v x op) v (wants.Call x op)
  call_by v x op next =
      let parts = and_parts (is_free script v) (is_op script.objects x op) (next_in_range script st
      line (acts.Call v x op) is next) in
      let fit = and_parts (is_fit script.objects x op) (is_node (site_of script.objects x)) parts.1
      in
      record {
        free = parts.0;
        in_range = (fit.0, node_of_test _ fit.1);
        tests = refl;
        takes = λ c. refl;
      }

  pub commit_by : (v : ℕ) (value : ℤ)
      → IsNextStep script st (record { line = line; act = acts.Commit v value })
      → IsRequestBy script st (acts.Commit v value) v (wants.Commit value)
  commit_by v value next = record {
    free = next_in_range script st line (acts.Commit v value) is next;
    in_range = tt;
    tests = refl;
    takes = λ c. refl;
  }

  pub abort_by : (v : ℕ) → IsNextStep script st (record { line = line; act = acts.Abort v })
      → IsRequestBy script st (acts.Abort v) v wants.Abort
  abort_by v next = record {
    free = next_in_range script st line (acts.Abort v) is next;
    in_range = tt;
    tests = refl;
    takes = λ c. refl;
  }

  pub give_up_by : (v w : ℕ) (b : Name) → variable st.running w ≡ Some b
      → IsNextStep script st (record { line = line; act = acts.GiveUp v w })
      → IsRequestBy script st (acts.GiveUp v w) v (wants.GiveUp b)
  give_up_by v w b child next = record {
    free = next_in_range script st line (acts.GiveUp v w) is next;
    in_range = tt;
    tests =
        ap (λ o. test_variable (variable st.running v) (λ x. test_variable o
        (λ y. test_request (by_knowledge script.objects) st x (wants.GiveUp y)))) child;
    takes = λ c.
        ap (λ o. of_variable (variable st.running v) (λ x. of_variable o
        (λ y. take_request c st x (wants.GiveUp y)))) child;
  }

-- It is the line that puts the request to the action's home, where the variable stands for one.
pub to_its_home : (script : Script) (st : Standing) (act_is : Act) (v : ℕ) (want : Want)
    (a : Name) → IsUnderHalts script st → AreAtNodes script.nodes st.running.bound
    → IsRequestBy script st act_is v want → variable st.running v ≡ Some a
    → IsLineTo script st act_is (home_node a)
    (inputs.Request (record { action = a; want = want }))
to_its_home script st act_is v want a under placed by at = record {
  low = (placed v a at).0;
  high = (placed v a at).1;
  at = refl;
  own = by.in_range;
  idle = λ body works. no_body body (sym (bare_at _ _ _ _ under by.free at).bare ∙ works);
  tests =
      by.tests ∙ ap (λ o. test_variable o (λ x. test_request (by_knowledge script.objects) st x
      want)) at;
  takes = λ c. by.takes c ∙ ap (λ o. of_variable o (λ x. take_request c st x want)) at;
}
  where
    no_body : {X : Type 0} (n : ℕ) → None ≡ Some n → X
    no_body n e = cc

-- A line is refused where no action stands for a variable of it.
pub record IsUnbound (script : Script) (st : Standing) (act_is : Act) : Type 0 where
  pub test : line_refusal (by_knowledge script.objects) st act_is ≡ Some refusals.Unbound
  pub takes : (c : Setting) → act c script.bodies st act_is ≡ Refused refusals.Unbound

pub unbound_by : (script : Script) (st : Standing) (act_is : Act) (v : ℕ) (want : Want)
    → IsRequestBy script st act_is v want → variable st.running v ≡ None
    → IsUnbound script st act_is
unbound_by script st act_is v want by at = record {
  test =
      by.tests
      ∙ ap (λ o. test_variable o (λ x. test_request (by_knowledge script.objects) st x want)) at;
  takes = λ c. by.takes c ∙ ap (λ o. of_variable o (λ x. take_request c st x want)) at;
}

no_child : (o : Option Name) → test_variable o (λ x. Some refusals.Unbound) ≡ Some refusals.Unbound
no_child None = refl
no_child (Some a) = refl

no_child_taken : (o : Option Name) → of_variable o (λ x. Refused refusals.Unbound)
    ≡ Refused refusals.Unbound
no_child_taken None = refl
no_child_taken (Some a) = refl

pub give_up_unbound : (script : Script) (st : Standing) (v w : ℕ) → variable st.running w ≡ None
    → IsUnbound script st (acts.GiveUp v w)
give_up_unbound script st v w none = record {
  test =
      ap (λ o. test_variable (variable st.running v) (λ x. test_variable o
      (λ y. test_request (by_knowledge script.objects) st x (wants.GiveUp y)))) none
      ∙ no_child (variable st.running v);
  takes = λ c.
      ap (λ o. of_variable (variable st.running v) (λ x. of_variable o
      (λ y. take_request c st x (wants.GiveUp y)))) none
      ∙ no_child_taken (variable st.running v);
}
