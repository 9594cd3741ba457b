-- The line `start`, at the node of a place: as `begin`, and the action has a body then.
use Rattle.std.proofs.Common.{◌≡◌, inl, inr, ℕ, ◌+◌, ◌<◌, Bool, true, false, not, List, length}
use Rattle.std.proofs.Common.{Option, Some, None, refl, sym, ap, ◌∙◌, subst, arith}
use Rattle.std.specs.List.{list_any}
use Rattle.std.proofs.lemmas.Bool.{true≢false}
use Rattle.cam_names.specs.declared.name.Name.{Name}
use Rattle.cam_event.specs.declared.LineRefusal.TheVariants as refusals
use Rattle.cam_event.specs.Inputs.{Begins}
use Rattle.cam_event.specs.Readings.{by_knowledge}
use Rattle.cam_event.specs.Refusals.{where_so}
use Rattle.cam_event.specs.Runs.{IsNode}
use Rattle.cam_net.specs.Waiting.{is_halted}
use Rattle.cam_node.specs.declared.Input.TheVariants as inputs
use Rattle.cam_node.specs.Log.{Logged}
use Rattle.cam_runs.specs.Halts.{Halting}
use Rattle.cam_runs.specs.HaltedLines.{Passed, act, after_line, is_restart, led_creating, setting}
use Rattle.cam_runs.specs.HaltedLines.{unless}
use Rattle.cam_runs.specs.InRange.{is_free, is_start}
use Rattle.cam_runs.specs.Requests.{created_in}
use Rattle.cam_runs.specs.Running.{has_number}
use Rattle.cam_runs.specs.HaltedPlaying.{given_body}
use Rattle.cam_runs.specs.Standing.{Standing, Setting, made, put, with_binding}
use Rattle.cam_runs.specs.UnderHalts.{IsNextStep, IsUnderHalts}
use Rattle.cam_runs.proofs.LeadOn.{slice_more}
use Rattle.cam_script.specs.declared.Act.TheVariants as acts
use Rattle.cam_script.specs.declared.Script.{Script}
use Rattle.cam_script.specs.declared.Step.{Step}
use Rattle.cam_script.specs.Law.{IsScript}
use Rattle.cam_histories.specs.InputLaws.{halt_of}
use Rattle.cam_histories.proofs.OneInput.{inputs_lead_on}
use Rattle.cam_histories.proofs.Stepping.{own_inputs_are_put}
use Rattle.cam_cluster.specs.declared.works.Put.{Put}
use Rattle.cam_cluster.specs.Puts.{as_halt}
use Rattle.cam_cluster.specs.SoFar.{HasLed, HasRefused, IsLed, IsRefused, KeepsLines, LinesFields}
use Rattle.cam_cluster.specs.SoFar.{after_put}
use Rattle.cam_cluster.proofs.BegunLine.{next_leads, told_halted, within}
use Rattle.cam_cluster.proofs.Led.{bound_stays, keeps_others}
use Rattle.cam_cluster.proofs.TriedLine.{refused_line}

-- what stands with a binding, and with a body besides
abbrev bound_to : Option Name → Standing → Standing
bound_to binds after = record after { running = with_binding binds after.running }

-- Which actions work at bodies is not kept with the lines.
given_keeps : (script : Script) (body : ℕ) (a binds : Option Name) (after : Standing)
    (lines : LinesFields) (may : ℕ → Logged → Type 0)
    → KeepsLines script (bound_to binds after) lines may
    → IsUnderHalts script (bound_to binds (given_body (Some body) a after))
    → KeepsLines script (bound_to binds (given_body (Some body) a after)) lines may
given_keeps script body None binds after lines may keeps under = keeps
given_keeps script body (Some a) binds after lines may keeps under = record {
  runs =
      keeps_others _ _ _ _ _ _ (record { trace = refl; lost = refl; delivered = refl }) refl
      refl refl keeps.runs.all_marks under keeps.runs;
  variables = keeps.variables;
}

module _ (script : Script) (st : Standing) (halts : Halting) (later : List Step)
    (line place body : ℕ) (old : LinesFields) (might : ℕ → Logged → Type 0)
    (is : IsScript script) (keeps : KeepsLines script st old might)
    (there : place < length old.works.nodes)
    (next : IsNextStep script st (record { line = line; act = acts.Start (place + 1) body })) where
  abbrev c : Setting
  c = setting (by_knowledge script.objects) halts
      (record { line = line; act = acts.Start (place + 1) body }) later

  abbrev after : Standing
  after = put c st (Begins (place + 1))

  abbrev leads : Passed
  leads = led_creating (Some body) st after

  halted_is : (b : Bool) → is_halted old.works.halted (place + 1) ≡ b
      → has_number st.halted (place + 1) ≡ b
  halted_is b said = sym (told_halted script st old.works might is keeps.runs place there) ∙ said

  pub node : IsNode (place + 1)
  node =
      let few = within script st old.works might is keeps.runs _ there in
      (omega arith, omega (arith, few))

  -- its variable is one of `start`, so that it may stand for an action with a body
  not_free : (v : ℕ) → v ≡ length st.running.bound → is_free script v ≡ true → ⊥
  not_free v is_new free =
      true≢false (sym free
      ∙ ap (λ (n : ℕ). is_free script n) is_new
      ∙ ap (λ (o : Option Step). not (is_start o)) next)

  -- what stands without the body is under way
  begun_under : (done : Put) → has_number st.halted (place + 1) ≡ false
      → halt_of c st (Begins (place + 1)) ≡ as_halt done
      → IsUnderHalts script (after_put inputs.Begin st after)
  begun_under done awake halt = record {
    run = first.run;
    below = first.below;
    waits = first.waits;
    works = first.works;
    placed = first.placed;
    decided = first.decided;
    bound = λ v a free at.
        elim (slice_more after.running.bound (created_in (made st after)) (Some a) v at) [
          | inl before ↦ first.bound v a free before
          | inr last ↦
              absurd (not_free v
              (last.0 ∙ ap (λ (bs : List (Option Name)). length bs)
              (bound_stays c st (Begins (place + 1)) done halt)) free)
        ];
  }
    where
      first : IsUnderHalts script after
      first =
          inputs_lead_on script halts line (λ s. list_any (is_restart s) later) st
          (Begins (place + 1)) keeps.runs.under
          (record { may = node; awake = awake; idle = tt })

  pub started : (done : Put) (new : LinesFields) (may : ℕ → Logged → Type 0)
      → is_halted old.works.halted (place + 1) ≡ false
      → HasLed line place inputs.Begin old might done new may
      → IsLed script st c (acts.Start (place + 1) body) (Begins (place + 1)) done new may
  started done new may runs has = record {
    passed = ap (λ (b : Bool). where_so b refusals.Halted) awake;
    stands = λ halt. rw passes (with_body (has script st halts (λ s. list_any (is_restart s) later)
        is keeps (record {
          coming = record { may = node; awake = awake; idle = tt };
          at = refl;
          is_put =
              own_inputs_are_put script.objects (has_number st.taken) st.running.trace (Begins
              (place + 1)) keeps.runs.under.run node refl;
        }) halt (begun_under done awake halt)));
  }
    where
      awake : has_number st.halted (place + 1) ≡ false
      awake = halted_is false runs

      passes : act c script.bodies st (acts.Start (place + 1) body) ≡ leads
      passes = ap (λ (b : Bool). unless (where_so b refusals.Halted) leads) awake

      with_body : KeepsLines script (after_put inputs.Begin st after) new may
          → KeepsLines script (after_line st line leads) new may
      with_body begun =
          given_keeps _ _ _ _ _ _ _ begun (subst (λ (p : Passed). IsUnderHalts script
          (after_line st line p)) passes (next_leads _ _ _ halts later is keeps.runs.under next))

  pub start_refused : (new : LinesFields) (may : ℕ → Logged → Type 0)
      → is_halted old.works.halted (place + 1) ≡ true
      → HasRefused line refusals.Halted old might new may
      → IsRefused script st line (acts.Start (place + 1) body) refusals.Halted new may
  start_refused new may stops has =
      refused_line _ _ halts later _ _ _ _ _ _ _ is keeps next (ap (λ (b : Bool). where_so
      b refusals.Halted) (halted_is true stops)) (ap (λ (b : Bool). unless (where_so b
      refusals.Halted) leads) (halted_is true stops)) has
