-- The line `begin`, at the node of a place: what the run says of it, and what it comes to.
use Rattle.std.proofs.Common.{◌≡◌, ℕ, ◌+◌, ◌<◌, Bool, true, false, List, length}
use Rattle.std.proofs.Common.{Some, None, refl, sym, ap, ◌∙◌, subst, arith}
use Rattle.std.specs.Prelude.{slice_get}
use Rattle.std.specs.List.{AllByRecursion}
use Rattle.std.proofs.lemmas.List.{length-reverse}
use Rattle.cam_event.specs.declared.Event.{Event}
use Rattle.cam_event.specs.declared.LineRefusal.TheVariants as refusals
use Rattle.cam_event.specs.Inputs.{Begins}
use Rattle.cam_event.specs.Readings.{by_knowledge}
use Rattle.cam_event.specs.Refusals.{where_so}
use Rattle.cam_event.specs.Runs.{IsNode}
use Rattle.cam_net.specs.Waiting.{is_halted}
use Rattle.cam_node.specs.declared.Input.TheVariants as inputs
use Rattle.cam_node.specs.Log.{Logged}
use Rattle.cam_runs.specs.Halts.{Halting}
use Rattle.cam_runs.specs.HaltedLines.{Passed, act, after_line, led_creating, setting}
use Rattle.cam_runs.specs.HaltedLines.{unless, is_restart}
use Rattle.cam_runs.specs.Running.{has_number}
use Rattle.cam_runs.specs.Standing.{Standing, Setting, put}
use Rattle.cam_runs.specs.UnderHalts.{IsNextStep, IsUnderHalts, act_by}
use Rattle.cam_runs.proofs.HaltedWhole.{halted_lines_lead_on, halted_lines_agree}
use Rattle.cam_runs.proofs.Range.{script_in_range}
use Rattle.cam_script.specs.declared.Act.TheVariants as acts
use Rattle.cam_script.specs.declared.Script.{Script}
use Rattle.cam_script.specs.declared.Step.{Step}
use Rattle.cam_script.specs.Law.{IsScript}
use Rattle.cam_wire.specs.Writable.{IsWritable}
use Rattle.cam_histories.specs.Whole.{IsSiteOf}
use Rattle.cam_histories.proofs.Counted.{nodes_count_few}
use Rattle.cam_histories.proofs.ManyPut.{all_may_be_written}
use Rattle.cam_histories.proofs.Sites.{site_at}
use Rattle.cam_histories.proofs.Stepping.{own_inputs_are_put}
use Rattle.cam_cluster.specs.declared.works.Put.{Put}
use Rattle.cam_cluster.specs.SoFar.{AreLinesOfSome, HasLed, HasRefused, IsLed, IsRefused}
use Rattle.cam_cluster.specs.SoFar.{KeepsLines, LinesFields}
use Rattle.cam_cluster.specs.Works.{NodeFields, WorksFields, KeepsRun, sites_of}
use Rattle.cam_cluster.proofs.WorksNodes.{site_there}
use Rattle.std.specs.List.{list_any}

-- the events of a run are few
pub few_events : (script : Script) (st : Standing) (works : WorksFields) (may : ℕ → Logged → Type 0)
    → KeepsRun script st works may → length st.running.trace < 1000000000
few_events script st works may keeps =
    let few = keeps.few in
    let long : length works.events ≡ length st.running.trace =
    ap (λ (es : List Event). length es) keeps.events ∙ length-reverse st.running.trace in
    omega (arith, few, long)

-- the letters that are put next may be written
pub unput_may_be_written : (lines : LinesFields) (may : ℕ → Logged → Type 0)
    → AreLinesOfSome lines may → AllByRecursion IsWritable lines.works.outbox.unput
unput_may_be_written lines may some =
    let st = some.standing in
    let keeps = some.keeps.runs in
    (all_may_be_written some.script.objects (has_number st.taken) st lines.works.outbox.net
    lines.works.outbox.unput lines.works.halted keeps.under.run some.is_script.object_limit
    (few_events _ _ _ _ keeps) keeps.whole.network).0

-- of a halted node the run says so, and of one that is not
module _ (script : Script) (st : Standing) (works : WorksFields) (may : ℕ → Logged → Type 0)
    (is : IsScript script) (keeps : KeepsRun script st works may) (place : ℕ)
    (there : place < length works.nodes) where
  pub within : place < 8
  within =
      let eight = is.eight_nodes in let many = keeps.one_each in omega (arith, eight, many, there)

  pub told_halted : is_halted works.halted (place + 1) ≡ has_number st.halted (place + 1)
  told_halted =
      keeps.whole.network.stands.nodes (place + 1) (omega arith) (omega (arith, within))

  -- A node that runs is not halted, and has begun few actions.
  pub node_runs : is_halted works.halted (place + 1) ≡ false → (node : NodeFields)
      → slice_get works.nodes place ≡ Some node
      → (node.halted ≡ false) × (node.site.node.actions.tops < 1000000000)
  node_runs awake node at =
      let here : IsSiteOf script.objects st (place + 1) node.site =
      subst (λ (s : ℕ). IsSiteOf script.objects st s node.site) (omega arith)
      (site_at script.objects st 1 place (sites_of works.nodes) node.site keeps.whole.nodes
      (site_there works.nodes place node at)) in
      let tops =
      (nodes_count_few script.objects (has_number st.taken) st.running.trace (place + 1)
      node.site.node keeps.under.run here.number
      (here.stands (sym told_halted ∙ awake)).represents).tops in
      let few = few_events script st works may keeps in
      ((keeps.nodes place node at).is_halted ∙ awake, omega (arith, tops, few))

-- what the next line comes to is under way
pub next_leads : (script : Script) (st : Standing) (step : Step) (halts : Halting)
    (later : List Step)
    → IsScript script → IsUnderHalts script st → IsNextStep script st step
    → IsUnderHalts script (after_line st step.line (act_by by_knowledge halts later script st step))
next_leads script st step halts later is under next =
    let range = script_in_range script is in
    rw (halted_lines_agree script st step halts later range under next) (halted_lines_lead_on script st step halts later range under next)

module _ (script : Script) (st : Standing) (halts : Halting) (later : List Step)
    (line place : ℕ) (old : LinesFields) (might : ℕ → Logged → Type 0) (is : IsScript script)
    (keeps : KeepsLines script st old might) (there : place < length old.works.nodes)
    (next : IsNextStep script st (record { line = line; act = acts.Begin (place + 1) })) where
  abbrev c : Setting
  c = setting (by_knowledge script.objects) halts
      (record { line = line; act = acts.Begin (place + 1) }) later

  abbrev leads : Passed
  leads = led_creating None st (put c st (Begins (place + 1)))

  pub begun : (done : Put) (new : LinesFields) (may : ℕ → Logged → Type 0)
      → is_halted old.works.halted (place + 1) ≡ false
      → HasLed line place inputs.Begin old might done new may
      → IsLed script st c (acts.Begin (place + 1)) (Begins (place + 1)) done new may
  begun done new may runs has = record {
    passed = ap (λ (b : Bool). where_so b refusals.Halted) awake;
    stands = λ halt. subst (λ (p : Passed). KeepsLines script (after_line st line p) new may) (sym
        passes) (has script st halts (λ s. list_any (is_restart s) later) is keeps (record {
          coming = record { may = node; awake = awake; idle = tt };
          at = refl;
          is_put =
              own_inputs_are_put script.objects (has_number st.taken) st.running.trace (Begins
              (place + 1)) keeps.runs.under.run node refl;
        }) halt (subst (λ (p : Passed). IsUnderHalts script (after_line st line p)) passes
        (next_leads _ _ _ halts later is keeps.runs.under next)));
  }
    where
      awake : has_number st.halted (place + 1) ≡ false
      awake = sym (told_halted script st old.works might is keeps.runs place there) ∙ runs

      node : IsNode (place + 1)
      node = (
        omega arith,
        let few = within script st old.works might is keeps.runs place there in
            omega (arith, few),
      )

      passes : act c script.bodies st (acts.Begin (place + 1)) ≡ leads
      passes = ap (λ (b : Bool). unless (where_so b refusals.Halted) leads) awake

  pub begun_refused : (new : LinesFields) (may : ℕ → Logged → Type 0)
      → is_halted old.works.halted (place + 1) ≡ true
      → HasRefused line refusals.Halted old might new may
      → IsRefused script st line (acts.Begin (place + 1)) refusals.Halted new may
  begun_refused new may stops has = record {
    test = ap (λ (b : Bool). where_so b refusals.Halted) halted;
    stands =
        has script st keeps (subst (λ (p : Passed). IsUnderHalts script (after_line st line p)) (ap
        (λ (b : Bool). unless (where_so b refusals.Halted) leads) halted) (next_leads _ _ _ halts
        later is keeps.runs.under next));
  }
    where
      halted : has_number st.halted (place + 1) ≡ true
      halted = sym (told_halted script st old.works might is keeps.runs place there) ∙ stops
