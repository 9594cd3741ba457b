-- The acts of lines whose input is put to a node that the line names.
use Rattle.std.proofs.Common.{◌≡◌, ℕ, Some, None, refl, ap}
use Rattle.std.proofs.lemmas.Bool.{and_parts}
use Rattle.cam_names.specs.declared.name.Name.{Name}
use Rattle.cam_names.specs.Names.{family}
use Rattle.cam_event.specs.Readings.{by_knowledge}
use Rattle.cam_node.specs.declared.Input.TheVariants as inputs
use Rattle.cam_runs.specs.HaltedLines.{halted_or, of_variable}
use Rattle.cam_runs.specs.HaltedLines.{unless}
use Rattle.cam_runs.specs.InRange.{is_node}
use Rattle.cam_runs.specs.Requests.{variable}
use Rattle.cam_runs.specs.Standing.{Standing}
use Rattle.cam_runs.specs.UnderHalts.{IsNextStep}
use Rattle.cam_runs.proofs.Bodies.{node_of_test}
use Rattle.cam_script.specs.declared.Act.TheVariants as acts
use Rattle.cam_script.specs.declared.Script.{Script}
use Rattle.cam_script.specs.declared.Use.TheVariants as uses
use Rattle.cam_script.specs.Law as law
use Rattle.cam_script.specs.Law.{IsScript, may_use}
use Rattle.cam_histories.specs.Lines.{test_variable}
use Rattle.cam_cluster.specs.InputLines.{IsLineTo, led_by, refusal_of}
use Rattle.cam_cluster.proofs.StepHolds.{next_holds, next_in_range, node_within}
use Rattle.cam_cluster.proofs.VariableActs.{IsUnbound}

module _ (script : Script) (st : Standing) (line : ℕ) (is : IsScript script) where
  -- `tell` puts its input to its node,
  pub tell_to : (s to : ℕ) → IsNextStep script st (record { line = line; act = acts.Tell s to })
      → IsLineTo script st (acts.Tell s to) s (inputs.Tell to)
  tell_to s to next =
      let holds = next_holds script st line (acts.Tell s to) is next in
      let node = node_within _ _ (and_parts (law.is_node script.nodes s) (law.is_node script.nodes
      to) holds.1).0 in
      record {
        low = node.0;
        high = node.1;
        at = refl;
        own =
            node_of_test _ (and_parts (is_node s) (is_node to) (next_in_range script st line
            (acts.Tell s to) is next)).1;
        idle = tt;
        tests = refl;
        takes = λ c. refl;
      }

  -- and so does `query`, where its variable stands for an action.
  pub query_to : (s v : ℕ) (a : Name) → variable st.running v ≡ Some a
      → IsNextStep script st (record { line = line; act = acts.Query s v })
      → IsLineTo script st (acts.Query s v) s (inputs.Query (family a))
  query_to s v a at next =
      let holds = next_holds script st line (acts.Query s v) is next in
      let node = node_within _ _ (and_parts (law.is_node script.nodes s) (may_use holds.0
      uses.Query v) holds.1).0 in
      record {
        low = node.0;
        high = node.1;
        at = refl;
        own = tt;
        idle = tt;
        tests =
            ap (λ o. test_variable o (λ x. halted_or st s (refusal_of (by_knowledge script.objects)
            st s (inputs.Query (family x))))) at;
        takes = λ c. ap (λ o. of_variable o (λ x. unless (halted_or st s (refusal_of c.reading st s
            (inputs.Query (family x)))) (led_by c st s (inputs.Query (family x))))) at;
      }

  pub query_unbound : (s v : ℕ) → variable st.running v ≡ None
      → IsUnbound script st (acts.Query s v)
  query_unbound s v none = record {
    test =
        ap (λ o. test_variable o (λ x. halted_or st s
        (refusal_of (by_knowledge script.objects) st s (inputs.Query (family x))))) none;
    takes = λ c.
        ap (λ o. of_variable o (λ x. unless (halted_or st s
        (refusal_of c.reading st s (inputs.Query (family x))))
        (led_by c st s (inputs.Query (family x))))) none;
  }
