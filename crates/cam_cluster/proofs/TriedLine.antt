-- A line that puts an input to the node of a place: where it is not refused, and where it is.
use Rattle.std.proofs.Common.{◌≡◌, ℕ, ◌+◌, ◌<◌, Bool, true, false, List, length}
use Rattle.std.proofs.Common.{Option, Some, None, refl, sym, ap, ◌∙◌, subst, arith}
use Rattle.std.specs.List.{list_any}
use Rattle.cam_type.specs.declared.ObjectDecl.{ObjectDecl}
use Rattle.cam_event.specs.declared.Event.{Event}
use Rattle.cam_event.specs.declared.LineRefusal.{LineRefusal}
use Rattle.cam_event.specs.declared.LineRefusal.TheVariants as refusals
use Rattle.cam_event.specs.Inputs.{node_of}
use Rattle.cam_event.specs.Readings.{by_knowledge}
use Rattle.cam_event.specs.Refusals.{first_of_two, refusal, where_so}
use Rattle.cam_event.specs.Runs.{IsNode, MayCome}
use Rattle.cam_event.specs.Taken.{IsRunTaking}
use Rattle.cam_net.specs.Waiting.{is_halted}
use Rattle.cam_node.specs.declared.Input.{Input}
use Rattle.cam_node.specs.declared.Input.TheVariants as inputs
use Rattle.cam_node.specs.Calls.{input_of, load_of, mail_of}
use Rattle.cam_node.specs.Log.{Logged}
use Rattle.cam_runs.specs.Halts.{Halting}
use Rattle.cam_runs.specs.HaltedLines.{Passed, Refused, act, after_line, is_restart, setting}
use Rattle.cam_runs.specs.HaltedLines.{unless}
use Rattle.cam_runs.specs.Running.{has_number}
use Rattle.cam_runs.specs.Standing.{Standing, Setting}
use Rattle.cam_runs.specs.UnderHalts.{IsNextStep, IsUnderHalts}
use Rattle.cam_script.specs.declared.Act.{Act}
use Rattle.cam_script.specs.declared.Script.{Script}
use Rattle.cam_script.specs.declared.Step.{Step}
use Rattle.cam_script.specs.Law.{IsScript}
use Rattle.cam_histories.specs.Lines.{line_refusal}
use Rattle.cam_histories.specs.Stepping.{IsPut}
use Rattle.cam_histories.proofs.Putting.{puts_may_come}
use Rattle.cam_histories.proofs.Stepping.{own_inputs_are_put}
use Rattle.cam_cluster.specs.declared.works.Put.{Put}
use Rattle.cam_cluster.specs.InputLines.{IsLineTo, IsOwnInput, led_by, refusal_of}
use Rattle.cam_cluster.specs.SoFar.{HasLed, HasRefused, IsLed, IsRefused}
use Rattle.cam_cluster.specs.SoFar.{KeepsLines, LinesFields}
use Rattle.cam_cluster.proofs.BegunLine.{next_leads, told_halted}

-- A line that is refused leaves its mark.
pub refused_line : (script : Script) (st : Standing) (halts : Halting) (later : List Step)
    (line : ℕ) (act_is : Act) (why : LineRefusal) (old new : LinesFields)
    (might may : ℕ → Logged → Type 0) → IsScript script → KeepsLines script st old might
    → IsNextStep script st (record { line = line; act = act_is })
    → line_refusal (by_knowledge script.objects) st act_is ≡ Some why
    → act (setting (by_knowledge script.objects) halts
    (record { line = line; act = act_is }) later) script.bodies st act_is ≡ Refused why
    → HasRefused line why old might new may
    → IsRefused script st line act_is why new may
refused_line script st halts later line act_is why old new might may is keeps next test takes has =
    record {
      test = test;
      stands =
          has script st keeps (subst (λ (p : Passed). IsUnderHalts script (after_line st line p))
          takes (next_leads _ _ _ halts later is keeps.runs.under next));
    }

-- an own input that is not refused may come
own_may_come : (objects : List ObjectDecl) (taken : ℕ → Bool) (st : Standing) (s : ℕ)
    (input : Input) → IsRunTaking objects taken st.running.trace → IsNode s
    → node_of st.running.trace (input_of s input) ≡ s → IsOwnInput objects input
    → refusal_of (by_knowledge objects) st s input ≡ None
    → MayCome objects st.running.trace (input_of s input)
own_may_come objects taken st s inputs.Begin run node at own free = node
own_may_come objects taken st s (inputs.Letter id letter) run node at own free = absurd own
own_may_come objects taken st s (inputs.Tell to) run node at own free = (node, own, free)
own_may_come objects taken st s (inputs.Query f) run node at own free =
    puts_may_come objects taken st.running.trace (input_of s (inputs.Query f)) run node
    (refl, free, (refl, refl))
own_may_come objects taken st s (inputs.Request request) run node at own free =
    puts_may_come objects taken st.running.trace (input_of s (inputs.Request request)) run
    (subst IsNode (sym at) node) (
      refl,
      ap (λ (n : ℕ). refusal ((by_knowledge objects).sight st.running.trace n) request.action
          request.want) at
          ∙ free,
      own,
      (refl, refl),
    )

-- what is put with it: no letter
own_put : (objects : List ObjectDecl) (taken : ℕ → Bool) (t : List Event) (s : ℕ) (input : Input)
    → IsRunTaking objects taken t → MayCome objects t (input_of s input) → IsOwnInput objects input
    → IsPut objects t (input_of s input) (mail_of input) (load_of input)
own_put objects taken t s inputs.Begin run may own =
    own_inputs_are_put objects taken t (input_of s inputs.Begin) run may refl
own_put objects taken t s (inputs.Letter id letter) run may own = absurd own
own_put objects taken t s (inputs.Tell to) run may own =
    own_inputs_are_put objects taken t (input_of s (inputs.Tell to)) run may refl
own_put objects taken t s (inputs.Query f) run may own =
    own_inputs_are_put objects taken t (input_of s (inputs.Query f)) run may refl
own_put objects taken t s (inputs.Request request) run may own =
    own_inputs_are_put objects taken t (input_of s (inputs.Request request)) run may refl

module _ (script : Script) (st : Standing) (halts : Halting) (later : List Step) (line place : ℕ)
    (act_is : Act) (input : Input) (old : LinesFields) (might : ℕ → Logged → Type 0)
    (is : IsScript script) (keeps : KeepsLines script st old might)
    (there : place < length old.works.nodes)
    (next : IsNextStep script st (record { line = line; act = act_is }))
    (to : IsLineTo script st act_is (place + 1) input) where
  abbrev c : Setting
  c = setting (by_knowledge script.objects) halts (record { line = line; act = act_is }) later

  abbrev leads : Passed
  leads = led_by c st (place + 1) input

  abbrev says : Option LineRefusal
  says = refusal_of (by_knowledge script.objects) st (place + 1) input

  -- the tests in their order: that of the halted node, and the other
  halted_is : (b : Bool) → is_halted old.works.halted (place + 1) ≡ b
      → has_number st.halted (place + 1) ≡ b
  halted_is b said = sym (told_halted script st old.works might is keeps.runs place there) ∙ said

  tested : (b : Bool) → is_halted old.works.halted (place + 1) ≡ b
      → first_of_two (where_so (has_number st.halted (place + 1)) refusals.Halted) says
      ≡ first_of_two (where_so b refusals.Halted) says
  tested b said =
      ap (λ (x : Bool). first_of_two (where_so x refusals.Halted) says) (halted_is b said)

  refused_by : (why : LineRefusal) (new : LinesFields) (may : ℕ → Logged → Type 0)
      → first_of_two (where_so (has_number st.halted (place + 1)) refusals.Halted) says ≡ Some why
      → HasRefused line why old might new may → IsRefused script st line act_is why new may
  refused_by why new may first has =
      refused_line _ _ halts later _ _ _ _ _ _ _ is keeps next (to.tests ∙ first) (to.takes
      c ∙ ap (λ (o : Option LineRefusal). unless o leads) first) has

  pub halted_refuses : (new : LinesFields) (may : ℕ → Logged → Type 0)
      → is_halted old.works.halted (place + 1) ≡ true
      → HasRefused line refusals.Halted old might new may
      → IsRefused script st line act_is refusals.Halted new may
  halted_refuses new may stops has = refused_by refusals.Halted new may (tested true stops) has

  pub node_refuses : (why : LineRefusal) (new : LinesFields) (may : ℕ → Logged → Type 0)
      → is_halted old.works.halted (place + 1) ≡ false → says ≡ Some why
      → HasRefused line why old might new may → IsRefused script st line act_is why new may
  node_refuses why new may runs said has = refused_by why new may (tested false runs ∙ said) has

  pub leads_on : (done : Put) (new : LinesFields) (may : ℕ → Logged → Type 0)
      → is_halted old.works.halted (place + 1) ≡ false → says ≡ None
      → HasLed line place input old might done new may
      → IsLed script st c act_is (input_of (place + 1) input) done new may
  leads_on done new may runs free has = record {
    passed = to.tests ∙ tested false runs ∙ free;
    stands = λ halt.
        subst (λ (p : Passed). KeepsLines script (after_line st line p) new may) (sym passes)
        (has script st halts (λ s. list_any (is_restart s) later) is keeps
        (record {
          coming = record { may = may_come; awake = awake; idle = to.idle };
          at = to.at;
          is_put =
              own_put script.objects (has_number st.taken) st.running.trace (place + 1) input
              keeps.runs.under.run may_come to.own;
        }) halt
        (subst (λ (p : Passed). IsUnderHalts script (after_line st line p)) passes
        (next_leads script st (record { line = line; act = act_is }) halts later is
        keeps.runs.under next)));
  }
    where
      awake : has_number st.halted (node_of st.running.trace (input_of (place + 1) input)) ≡ false
      awake = ap (has_number st.halted) to.at ∙ halted_is false runs

      node : IsNode (place + 1)
      node =
          let low = to.low in let high = to.high in let eight = is.eight_nodes in
          (low, omega (arith, high, eight))

      may_come : MayCome script.objects st.running.trace (input_of (place + 1) input)
      may_come =
          own_may_come _ (has_number st.taken) st _ _ keeps.runs.under.run node to.at to.own free

      passes : act c script.bodies st act_is ≡ leads
      passes =
          to.takes c
          ∙ ap (λ (o : Option LineRefusal). unless o leads) (tested false runs ∙ free)
