-- The parts of a run stand after an input that is no halt.
use Rattle.std.proofs.Common.{◌≡◌, ℕ, ◌+◌, ◌-◌, List, ◌∷◌, Option, refl, sym, ap, ◌∙◌, subst, arith}
use Rattle.cam_type.specs.declared.ObjectDecl.{ObjectDecl}
use Rattle.cam_event.specs.declared.Event.{Event}
use Rattle.cam_event.specs.Inputs.{Input, Mail, mail_got, node_of, got_of}
use Rattle.cam_event.specs.Loads.{Load}
use Rattle.cam_event.specs.ByDeltas.{Received}
use Rattle.cam_event.specs.Runs.{IsNode}
use Rattle.cam_event.specs.Taken.{IsRunTaking}
use Rattle.cam_agree.proofs.Ran.{Ran}
use Rattle.cam_node.specs.Calls.{letters_of}
use Rattle.cam_node.specs.Opened.{logged_of}
use Rattle.cam_runs.specs.Running.{has_number}
use Rattle.cam_runs.specs.UnderHalts.{IsUnderHalts}
use Rattle.cam_runs.specs.Standing.{Standing, Setting, put}
use Rattle.cam_histories.specs.Laws.{history_of, load_of_input}
use Rattle.cam_histories.specs.ReadBack.{received_with}
use Rattle.cam_histories.specs.Stepping.{IsPut, HasStepped}
use Rattle.cam_histories.specs.Flight.{IsNetworkOf}
use Rattle.cam_histories.specs.Whole.{Site, KeepsInOrder, IsSiteOf, IsWhole}
use Rattle.cam_histories.specs.InputLaws.{held_setting, with_site, KeepsEvent, InputsStand}
use Rattle.cam_histories.proofs.Sites.{site_at, sites_with}
use Rattle.cam_histories.proofs.InRange.{travels, input_node}
use Rattle.cam_histories.proofs.ScriptNodes.{standings_hold}
use Rattle.cam_histories.proofs.ReadBack.{logs_go_on, in_order_as_good}
use Rattle.cam_histories.proofs.Stepping.{steps_lead_on}
use Rattle.cam_histories.proofs.Handing.{handed_out_are_sent}
use Rattle.cam_histories.proofs.Carried.{event_sends}
use Rattle.cam_histories.proofs.OneInput.{inputs_lead_on, plain_put, put_plain, trace_with}
use Rattle.cam_histories.proofs.OneInput.{own_site, other_site}

-- what a log keeps goes by what is received, as good as it was sent
kept_as_good : (objects : List ObjectDecl) (t : List Event) (input : Input) (mail : Option Mail)
    (load : Load) (event : Event) (new : Site) → IsPut objects t input mail load
    → KeepsEvent objects t input mail load event new
    → KeepsInOrder objects (node_of t input)
    (received_with event (mail_got t (got_of input)) (load_of_input objects t input)
    ∷ history_of objects t (node_of t input)) new
kept_as_good objects t input mail load event new put_so keeps =
    let s : ℕ = node_of t input in
    let h : List Received = history_of objects t s in
    subst (λ (o : Option Mail). KeepsInOrder objects s
    (received_with event o (load_of_input objects t input) ∷ h) new) put_so.is_mail
    (record {
      keeps = record {
        recovered = keeps.keeps.recovered;
        says = keeps.keeps.says;
        is_log = logs_go_on objects s h event mail load (load_of_input objects t input)
            (logged_of keeps.keeps.recovered) put_so.as_good keeps.keeps.is_log;
      };
      order = in_order_as_good objects h event mail load (load_of_input objects t input)
          keeps.keeps.recovered.held new.node put_so.as_good keeps.order;
    })

pub inputs_stand : InputsStand
inputs_stand script halts line restarted st input sites net halted old new mail load event under
    coming none whole at put_so step keeps = record {
      trace = ap (λ (x : Standing). x.running.trace) is ∙ sym trace;
      stepped = stepped;
      whole =
          subst (λ (x : Standing). IsWhole script.objects x (with_site t input sites new) net
          (letters_of new.node event.sent) halted) (sym is)
          (record {
            nodes =
                sites_with script.objects st behind s new
                (own_site script c st input new event stepped.held stepped
                (kept_as_good script.objects t input mail load event new put_so keeps))
                (other_site script c st input new event stepped.held stepped) 1 (s - 1) sites back
                whole.nodes;
            network = network;
          });
    }
  where
    c : Setting
    c = held_setting script.objects halts line restarted

    t : List Event
    t = st.running.trace

    s : ℕ
    s = node_of t input

    run : Ran script.objects t
    run = (has_number st.taken, under.run)

    node : IsNode s
    node = input_node script.objects t input run coming.may (travels script.objects t run)

    back : 1 + (s - 1) ≡ s
    back = let low = node.0 in omega (arith, low)

    mine : IsSiteOf script.objects st s old
    mine =
        subst (λ (m : ℕ). IsSiteOf script.objects st m old) back
        (site_at script.objects st 1 (s - 1) sites old whole.nodes at)

    stepped : HasStepped script.objects t input new.node event
    stepped =
        steps_lead_on script.objects (has_number st.taken) t input old.node new.node mail load event
        under.run coming.may mine.number ((standings_hold script st under).through s coming.awake)
        (mine.stands coming.awake).represents put_so step

    behind : Standing
    behind = plain_put script c st input

    is : put c st input ≡ behind
    is = put_plain script c st input none

    trace : event ∷ t ≡ behind.running.trace
    trace = trace_with script c st input new event stepped.held stepped

    more : IsRunTaking script.objects (has_number behind.taken) (event ∷ t)
    more =
        subst (IsRunTaking script.objects (has_number behind.taken)) (sym trace)
        (subst (IsUnderHalts script) is
        (inputs_lead_on script halts line restarted st input under coming)).run

    network : IsNetworkOf script.objects behind net (letters_of new.node event.sent) halted
    network =
        event_sends script.objects (has_number behind.taken) st behind event net
        (letters_of new.node event.sent) halted more
        (record { trace = sym trace; lost = refl; delivered = refl; halted = refl })
        (handed_out_are_sent script.objects (has_number behind.taken) t event new.node more
        stepped.number stepped.represents) whole.network
