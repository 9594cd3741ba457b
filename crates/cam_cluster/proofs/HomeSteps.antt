-- The node of the home of an action that may go on: it takes the request of the action's body.
use Rattle.std.proofs.Common.{◌≡◌, ℕ, ◌+◌, ◌<◌, false, List, length, map, Some, None}
use Rattle.std.proofs.Common.{sym, ap, ◌∙◌, arith}
use Rattle.std.specs.Prelude.{slice_get}
use Rattle.std.specs.List.{AllByRecursion}
use Rattle.cam_names.specs.declared.name.Name.{Name}
use Rattle.cam_names.specs.Names.{home_node}
use Rattle.cam_know.specs.Known.{nothing}
use Rattle.cam_event.specs.declared.Want.{Want}
use Rattle.cam_event.specs.ByDeltas.{Received, as_carried}
use Rattle.cam_event.specs.ByKnowledge.{held_sight}
use Rattle.cam_event.specs.Readings.{by_knowledge}
use Rattle.cam_event.specs.Refusals.{refusal}
use Rattle.cam_tranman.proofs.Requests.{refusal_is_rule}
use Rattle.cam_tranman.proofs.Sights.{sight_is_answered}
use Rattle.cam_body.specs.declared.Next.TheVariants as nexts
use Rattle.cam_net.specs.Waiting.{is_halted}
use Rattle.cam_node.specs.declared.Input.TheVariants as inputs
use Rattle.cam_node.specs.Log.{Logged}
use Rattle.cam_node.specs.MayStep.{MayStep}
use Rattle.cam_node.specs.Represents.{Represents}
use Rattle.cam_node.specs.Refused.{IsNotRefused}
use Rattle.cam_runs.specs.Running.{has_number}
use Rattle.cam_runs.specs.Standing.{Standing}
use Rattle.cam_script.specs.declared.Statement.{Statement}
use Rattle.cam_histories.specs.Laws.{history_of}
use Rattle.cam_wire.specs.Writable.{IsWritable}
use Rattle.cam_cluster.specs.declared.workers.Workers.{Workers}
use Rattle.cam_cluster.specs.Goes.{GoesOfSome, next_of}
use Rattle.cam_cluster.specs.Works.{NodeFields, WorksFields}
use Rattle.cam_cluster.proofs.BegunLine.{told_halted, within}
use Rattle.cam_cluster.proofs.BodyRequests.{asks_by_body, asks_freely}
use Rattle.cam_cluster.proofs.HandedOver.{works_may_be_written}
use Rattle.cam_cluster.proofs.TriedNode.{here, numbers_left, stands}

-- Some run is kept in which the action may go on, and its next request is this one: what its home
-- gives for the step.
module _ (a : Name) (bodies : List (List Statement)) (works : WorksFields)
    (may : ℕ → Logged → Type 0) (workers : Workers)
    (goes : GoesOfSome a bodies works may workers) (place : ℕ) (home : home_node a ≡ place + 1)
  where
    abbrev st : Standing
    st = goes.standing

    pub home_there : place < length works.nodes
    home_there =
        let high = goes.may.high in
        let each = goes.keeps.one_each in
        omega (arith, high, each, home)

    pub home_within : place < 8
    home_within = within goes.script st works may goes.is_script goes.keeps _ home_there

    pub home_awake : is_halted works.halted (place + 1) ≡ false
    home_awake =
        told_halted goes.script st works may goes.is_script goes.keeps place home_there
        ∙ ap (has_number st.halted) (sym home) ∙ goes.may.awake

    pub home_runs : (node : NodeFields) → slice_get works.nodes place ≡ Some node
        → node.halted ≡ false
    home_runs node at = (goes.keeps.nodes place node at).is_halted ∙ home_awake

    module _ (want : Want) (asks : next_of goes.script.bodies st a ≡ nexts.Request want) where
      free : refusal ((by_knowledge goes.script.objects).sight st.running.trace (place + 1)) a want
          ≡ None
      free =
          ap (λ s. refusal ((by_knowledge goes.script.objects).sight st.running.trace s) a want)
          (sym home) ∙ asks_freely _ _ _ goes.is_script goes.keeps.under goes.may _ asks

      pub home_is_free : (node : NodeFields) → slice_get works.nodes place ≡ Some node
          → IsNotRefused node.site.node (inputs.Request (record { action = a; want = want }))
      home_is_free node at =
          sym
          (refusal_is_rule goes.script.objects
          (held_sight goes.script.objects node.site.node.number (map as_carried history) nothing)
          node.site.node.actions a want
          (sight_is_answered goes.script.objects node.site.node.number (map as_carried history)
          nothing node.site.node.actions rep.runs) (home ∙ sym number))
          ∙ ap (λ s. refusal (held_sight goes.script.objects s (map as_carried history) nothing) a
          want)
          number
          ∙ free
        where
          history : List Received
          history = history_of goes.script.objects st.running.trace (place + 1)

          rep : Represents goes.script.objects history node.site.node
          rep = stands _ st works may goes.is_script goes.keeps place home_there home_awake _ at

          number : node.site.node.number ≡ place + 1
          number = (here _ _ works may goes.is_script goes.keeps _ home_there home_awake _
              at).number

      pub home_has_numbers : (node : NodeFields) → slice_get works.nodes place ≡ Some node
          → MayStep node.site.node (inputs.Request (record { action = a; want = want }))
      home_has_numbers node at =
          numbers_left goes.script st works may goes.is_script goes.keeps place home_there
          home_awake node at (inputs.Request (record { action = a; want = want })) home
          (asks_by_body goes.script st a goes.is_script goes.keeps.under goes.may want asks).may.1
          free

-- letters of the event before may be written
pub goes_writably : (a : Name) (bodies : List (List Statement)) (works : WorksFields)
    (may : ℕ → Logged → Type 0) (workers : Workers) → GoesOfSome a bodies works may workers
    → AllByRecursion IsWritable works.outbox.unput
goes_writably a bodies works may workers goes =
    works_may_be_written _ _ (record {
      script = goes.script;
      standing = goes.standing;
      is_script = goes.is_script;
      keeps = goes.keeps;
    })
