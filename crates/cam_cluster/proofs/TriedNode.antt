-- An input of a line and its node: the node refuses it as the run does, and where it is not refused
-- has numbers left.
use Rattle.std.proofs.Common.{◌≡◌, ℕ, ◌+◌, ◌<◌, false, List, map, length}
use Rattle.std.proofs.Common.{Option, Some, None, sym, ap, ◌∙◌, subst, arith}
use Rattle.std.specs.Prelude.{slice_get}
use Rattle.cam_names.specs.declared.name.Name.{Name}
use Rattle.cam_names.specs.Names.{home_node}
use Rattle.cam_type.specs.declared.ObjectDecl.{ObjectDecl}
use Rattle.cam_know.specs.Known.{nothing}
use Rattle.cam_event.specs.declared.LineRefusal.{LineRefusal}
use Rattle.cam_event.specs.declared.Want.{Want}
use Rattle.cam_event.specs.declared.Want.TheVariants as wants
use Rattle.cam_event.specs.Inputs.{node_of}
use Rattle.cam_event.specs.ByDeltas.{Received, as_carried}
use Rattle.cam_event.specs.ByKnowledge.{held_sight}
use Rattle.cam_event.specs.Carried.{deeds_of}
use Rattle.cam_event.specs.Readings.{by_knowledge}
use Rattle.cam_event.specs.Refusals.{refusal, query_refusal, tell_refusal}
use Rattle.cam_event.specs.Runs.{IsWant}
use Rattle.cam_event.specs.Sights.{Sight}
use Rattle.cam_net.specs.Waiting.{is_halted}
use Rattle.cam_node.specs.declared.Input.{Input}
use Rattle.cam_node.specs.declared.Input.TheVariants as inputs
use Rattle.cam_node.specs.Calls.{input_of}
use Rattle.cam_node.specs.Halting.{IsThrough}
use Rattle.cam_node.specs.Log.{Logged}
use Rattle.cam_node.specs.MayStep.{HasNumber, MayAsk, MayStep}
use Rattle.cam_node.specs.Refused.{IsRefusalOf}
use Rattle.cam_node.specs.Represents.{Represents}
use Rattle.cam_runs.specs.Running.{has_number}
use Rattle.cam_runs.specs.Standing.{Standing}
use Rattle.cam_script.specs.declared.Script.{Script}
use Rattle.cam_script.specs.Law.{IsScript}
use Rattle.cam_tranman.specs.Actions.{MayRunHere}
use Rattle.cam_histories.specs.Counted.{HasCounted}
use Rattle.cam_histories.specs.Laws.{history_of}
use Rattle.cam_histories.specs.Whole.{IsSiteOf}
use Rattle.cam_histories.proofs.Counted.{asked_may_run, nodes_count_few}
use Rattle.cam_histories.proofs.ScriptNodes.{standings_hold}
use Rattle.cam_histories.proofs.Sites.{site_at}
use Rattle.cam_cluster.specs.InputLines.{IsOwnInput, refusal_of}
use Rattle.cam_cluster.specs.Works.{NodeFields, WorksFields, KeepsRun, sites_of}
use Rattle.cam_cluster.proofs.BegunLine.{few_events, told_halted}
use Rattle.cam_cluster.proofs.WorksNodes.{site_there}

module _ (script : Script) (st : Standing) (works : WorksFields) (may : ℕ → Logged → Type 0)
    (is : IsScript script) (keeps : KeepsRun script st works may) (place : ℕ)
    (there : place < length works.nodes)
    (runs : is_halted works.halted (place + 1) ≡ false)
    (node : NodeFields) (at : slice_get works.nodes place ≡ Some node) where
  abbrev history : List Received
  history = history_of script.objects st.running.trace (place + 1)

  -- what the node goes by
  abbrev goes_by : ℕ → Sight
  goes_by s = held_sight script.objects s (map as_carried history) nothing

  awake : has_number st.halted (place + 1) ≡ false
  awake = sym (told_halted script st works may is keeps place there) ∙ runs

  pub here : IsSiteOf script.objects st (place + 1) node.site
  here =
      subst (λ (s : ℕ). IsSiteOf script.objects st s node.site) (omega arith)
      (site_at script.objects st 1 place (sites_of works.nodes) node.site keeps.whole.nodes
      (site_there works.nodes place node at))

  pub stands : Represents script.objects history node.site.node
  stands = (here.stands awake).represents

  through : IsThrough script.objects node.site.node.number history
  through = rw here.number ((standings_hold script st keeps.under).through (place + 1) awake)

  -- The node refuses it as the run does.
  pub refuses : (input : Input) (r : Option LineRefusal)
      → node_of st.running.trace (input_of (place + 1) input) ≡ place + 1
      → IsRefusalOf script.objects node.site.node input r
      → r ≡ refusal_of (by_knowledge script.objects) st (place + 1) input
  refuses inputs.Begin r home told = told
  refuses (inputs.Letter id letter) r home told = told
  refuses (inputs.Tell to) r home told = told ∙ ap (λ (s : ℕ). tell_refusal s to) here.number
  refuses (inputs.Query f) r home told =
      told history through stands ∙ ap (λ (s : ℕ). query_refusal (goes_by s) f) here.number
  refuses (inputs.Request request) r home told =
      told history through stands (home ∙ sym here.number)
      ∙ ap (λ (s : ℕ). refusal (goes_by s) request.action request.want) here.number

  -- Where it is not refused a request may be put to the node, and what it makes has a number left.
  numbers : (a : Name) (want : Want) → home_node a ≡ place + 1 → IsWant script.objects want
      → refusal (goes_by (place + 1)) a want ≡ None → MayAsk node.site.node a want
  numbers a want home in_range free = (
    home ∙ sym here.number,
    rw stands.serves.site.objects_are
        in_range,
    by want,
  )
    where
      own_deeds : MayRunHere (deeds_of (map as_carried history)) (place + 1) a
      own_deeds = asked_may_run script.objects (place + 1) history a want home free

      counted : HasCounted st.running.trace (place + 1) (deeds_of (map as_carried history))
          node.site.node
      counted =
          nodes_count_few script.objects (has_number st.taken) st.running.trace (place + 1)
          node.site.node keeps.under.run here.number stands

      few : length st.running.trace < 1000000000
      few = few_events _ _ _ _ keeps

      by : (w : Want) → HasNumber node.site.node a w
      by (wants.Ask m) = let most = counted.children a own_deeds in omega (arith, most, few)
      by (wants.Call x op) = let most = counted.called a own_deeds in omega (arith, most, few)
      by (wants.Commit value) = tt
      by wants.Abort = tt
      by (wants.GiveUp b) = tt

  -- Where it is not refused the node has numbers left.
  pub numbers_left : (input : Input)
      → node_of st.running.trace (input_of (place + 1) input) ≡ place + 1
      → IsOwnInput script.objects input
      → refusal_of (by_knowledge script.objects) st (place + 1) input ≡ None
      → MayStep node.site.node input
  numbers_left inputs.Begin home own free =
      let tops = (nodes_count_few script.objects (has_number st.taken) st.running.trace (place + 1)
      node.site.node keeps.under.run here.number stands).tops in
      let few = few_events _ _ _ _ keeps in
      omega (arith, tops, few)
  numbers_left (inputs.Letter id letter) home own free = absurd own
  numbers_left (inputs.Tell to) home own free = own
  numbers_left (inputs.Query f) home own free = tt
  numbers_left (inputs.Request request) home own free =
      numbers request.action request.want home own free
