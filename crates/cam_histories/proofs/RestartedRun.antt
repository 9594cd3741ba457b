-- A node of a run restarts.
use Rattle.std.proofs.Common.{◌≡◌, ℕ, ◌+◌, ◌-◌, ◌≤◌, eqb}
use Rattle.std.proofs.Common.{false, if◌then◌else◌, List, [], ◌∷◌, set, None}
use Rattle.std.proofs.Common.{refl, sym, ap, ◌∙◌, subst, arith}
use Rattle.std.proofs.lemmas.Bool.{ne_eqb}
use Rattle.cam_event.specs.declared.Event.{Event}
use Rattle.cam_event.specs.Inputs.{Restarts}
use Rattle.cam_event.specs.ByDeltas.{Received}
use Rattle.cam_event.specs.Loads.{no_load}
use Rattle.cam_event.specs.Taken.{IsRunTaking}
use Rattle.cam_net.specs.Waiting.{is_halted}
use Rattle.cam_node.specs.Calls.{letters_of}
use Rattle.cam_node.specs.Keeping.{KeepsNode}
use Rattle.cam_node.specs.Represents.{Represents}
use Rattle.cam_runs.specs.Running.{has_number}
use Rattle.cam_runs.specs.UnderHalts.{IsUnderHalts}
use Rattle.cam_runs.specs.Standing.{Standing, Setting, put, ended_halt}
use Rattle.cam_runs.proofs.HaltedTests.{restart_both}
use Rattle.cam_histories.specs.Laws.{history_of}
use Rattle.cam_histories.specs.Flight.{IsNetworkOf}
use Rattle.cam_histories.specs.ReadBack.{received_with}
use Rattle.cam_histories.specs.Stepping.{HasStepped}
use Rattle.cam_histories.specs.Whole.{Site, KeepsInOrder, StandsAt, IsSiteOf, IsWhole}
use Rattle.cam_histories.specs.InputLaws.{held_setting}
use Rattle.cam_histories.specs.LineLaws.{RestartsStand}
use Rattle.cam_histories.proofs.ScriptNodes.{standings_hold}
use Rattle.cam_histories.proofs.Stepping.{restarts_lead_on}
use Rattle.cam_histories.proofs.Handing.{handed_out_are_sent}
use Rattle.cam_histories.proofs.Carried.{event_sends}
use Rattle.cam_histories.proofs.Changing.{halts_stand}
use Rattle.cam_histories.proofs.Sites.{sites_with}
use Rattle.cam_histories.proofs.OneInput.{plain_put, put_plain}
use Rattle.cam_histories.proofs.HaltedLists.{halted_now, without}

pub restarts_stand : RestartsStand
restarts_stand script halts line restarted st s sites net halted logged new event under node eight
    none
    whole keeps restart = record {
      under = next;
      trace = ap (λ (x : Standing). x.running.trace) is ∙ sym trace;
      stepped = stepped;
      whole =
          subst (λ (x : Standing). IsWhole script.objects x (set sites (s - 1) new) net
          (letters_of new.node event.sent) (set halted (s - 1) false)) (sym is)
          (record {
            nodes = sites_with script.objects st behind s new own others 1
                (s - 1) sites back whole.nodes;
            network = network;
          });
    }
  where
    c : Setting
    c = held_setting script.objects halts line restarted

    t : List Event
    t = st.running.trace

    ended : Standing
    ended = ended_halt st s

    behind : Standing
    behind = plain_put script c ended (Restarts s)

    is : put c ended (Restarts s) ≡ behind
    is = put_plain script c ended (Restarts s) none

    next : IsUnderHalts script (put c ended (Restarts s))
    next = let both = restart_both script c st s under node in subst (IsUnderHalts script)
        (sym both.same) both.under

    back : 1 + (s - 1) ≡ s
    back = let low = node.0 in omega (arith, low)

    stepped : HasStepped script.objects t (Restarts s) new.node event
    stepped =
        restarts_lead_on script.objects (has_number st.taken) t s logged new.node new.entries event
        under.run
        node
        ((standings_hold script st under).ended s) keeps restart

    mine : KeepsNode script.objects
        (received_with event None no_load ∷ history_of script.objects t s) new.node new.entries
    mine =
        restart.keeps (history_of script.objects t s) ((standings_hold script st under).ended s)
        keeps

    log : KeepsInOrder script.objects s (history_of script.objects (event ∷ t) s) new
    log =
        subst (λ (h : List Received). KeepsInOrder script.objects s h new)
        (sym (subst (λ (m : ℕ). history_of script.objects (event ∷ t) m
        ≡ received_with event None no_load ∷ history_of script.objects t m) stepped.node stepped.own))
        (subst (λ (n : ℕ). KeepsInOrder script.objects n
        (received_with event None no_load ∷ history_of script.objects t s) new) restart.number
        (record { keeps = mine.keeps; order = mine.order }))

    trace : event ∷ t ≡ behind.running.trace
    trace = ap (λ (e : Event). e ∷ t) stepped.held

    own : IsSiteOf script.objects behind s new
    own = record {
      number = stepped.number ∙ stepped.node;
      stands = λ awake. subst (λ (x : List Event). StandsAt script.objects s
          (history_of script.objects x s) new) trace
          (record {
            represents =
                subst (λ (m : ℕ). Represents script.objects
                (history_of script.objects (event ∷ t) m) new.node) stepped.node
                stepped.represents;
            log = log;
          });
    }

    others : (m : ℕ) (n : Site) → (s ≡ m → ⊥) → IsSiteOf script.objects st m n
        → IsSiteOf script.objects behind m n
    others m n off site = record {
      number = site.number;
      stands = λ awake.
          subst (λ h. StandsAt script.objects m h n)
          (sym (stepped.others m (λ e. off (sym stepped.node ∙ e))) ∙ ap
          (λ (x : List Event). history_of script.objects x m) trace)
          (site.stands (sym (without st.halted s m
          ∙ ap (λ b. if b then false else has_number st.halted m) (ne_eqb s m off)) ∙ awake));
    }

    more : IsRunTaking script.objects (has_number behind.taken) (event ∷ t)
    more =
        subst (IsRunTaking script.objects (has_number behind.taken)) (sym trace)
        (subst (IsUnderHalts script) is next).run

    freed : IsNetworkOf script.objects ended net [] (set halted (s - 1) false)
    freed =
        halts_stand script.objects st ended net [] halted (set halted (s - 1) false)
        (record { trace = refl; lost = refl; delivered = refl })
        (λ m low high. halted_now halted s m false eight node low ∙ told m low high ∙ sym
        (without st.halted s m)) whole.network
      where
        told : (m : ℕ) → 1 ≤ m → m ≤ 8
            → (if eqb s m then false else is_halted halted m)
            ≡ (if eqb s m then false else has_number st.halted m)
        told m low high =
            ap (λ b. if eqb s m then false else b) (whole.network.stands.nodes m low high)

    network : IsNetworkOf script.objects behind net (letters_of new.node event.sent)
        (set halted (s - 1) false)
    network =
        event_sends script.objects (has_number behind.taken) ended behind event net
        (letters_of new.node event.sent) (set halted (s - 1) false) more
        (record { trace = sym trace; lost = refl; delivered = refl; halted = refl })
        (handed_out_are_sent script.objects (has_number behind.taken) t event new.node more
        stepped.number stepped.represents) freed
