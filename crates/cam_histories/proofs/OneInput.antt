-- An input that is no halt, and the parts of the run after it.
use Rattle.std.proofs.Common.{◌≡◌, ℕ, List, ◌∷◌, Some, None, sym, ap, ◌∙◌, subst}
use Rattle.cam_names.specs.declared.name.Name.{Name}
use Rattle.cam_event.specs.declared.Event.{Event}
use Rattle.cam_event.specs.Inputs.{Input, Begins, Requests, Receives, Tells, Queries, Restarts}
use Rattle.cam_event.specs.Inputs.{mail_got, node_of, got_of}
use Rattle.cam_event.specs.Pasts.{plain_all}
use Rattle.cam_agree.proofs.RunAsks.{AsksOf}
use Rattle.cam_node.specs.Represents.{Represents}
use Rattle.cam_script.specs.declared.Script.{Script}
use Rattle.cam_runs.specs.Playing.{body_number}
use Rattle.cam_runs.specs.UnderWay.{Idle}
use Rattle.cam_runs.specs.UnderHalts.{IsUnderHalts}
use Rattle.cam_runs.specs.Halts.{appends}
use Rattle.cam_runs.specs.Standing.{Standing, Setting, after_input, put}
use Rattle.cam_runs.proofs.HaltedPuts.{put_both, ready_by}
use Rattle.cam_histories.specs.Laws.{history_of, load_of_input}
use Rattle.cam_histories.specs.ReadBack.{received_with}
use Rattle.cam_histories.specs.Stepping.{HasStepped}
use Rattle.cam_histories.specs.Whole.{Site, KeepsInOrder, StandsAt, IsSiteOf}
use Rattle.cam_histories.specs.InputLaws.{held_setting, IsIdleFor, InputsLeadOn, halt_of}

-- an action that asks, asks where nothing of it is open
idle_for : (st : Standing) (input : Input) → IsIdleFor st input
    → (a : Name) (n : ℕ) → body_number st.running.bodies a ≡ Some n → AsksOf a input
    → Idle (plain_all st.running.trace) a
idle_for st (Begins s) idle a n at asks = absurd asks
idle_for st (Requests r) idle a n at asks =
    subst (λ (b : Name). Idle (plain_all st.running.trace) b) (sym asks)
    (idle n (subst (λ (b : Name). body_number st.running.bodies b ≡ Some n) asks at))
idle_for st (Receives letter) idle a n at asks = absurd asks
idle_for st (Tells s to) idle a n at asks = absurd asks
idle_for st (Queries s f) idle a n at asks = absurd asks
idle_for st (Restarts s) idle a n at asks = absurd asks

pub inputs_lead_on : InputsLeadOn
inputs_lead_on script halts line restarted st input under coming =
    let c : Setting = held_setting script.objects halts line restarted in
    let both = put_both script c st input
    (ready_by script st input under coming.awake coming.may (idle_for st input coming.idle)) in
    subst (IsUnderHalts script) (sym both.same) both.under

-- what stands after an input that is no halt
module _ (script : Script) (c : Setting) (st : Standing) (input : Input) where
  abbrev pub plain_put : Standing
  plain_put =
      let s = node_of st.running.trace input in
      after_input c.line (c.restarted s) st s (c.reading.next st.running.trace input)
      (appends c.reading st.running.trace input) None

  pub put_plain : halt_of c st input ≡ None → put c st input ≡ plain_put
  put_plain none =
      let s = node_of st.running.trace input in
      ap (after_input c.line (c.restarted s) st s (c.reading.next st.running.trace input)
      (appends c.reading st.running.trace input)) none

-- a node stands for the run's next event, and the others for what they stood for
module _ (script : Script) (c : Setting) (st : Standing) (input : Input) (new : Site)
    (event : Event) (is_held : event ≡ c.reading.next st.running.trace input)
    (stepped : HasStepped script.objects st.running.trace input new.node event) where
  -- the trace with the event
  pub trace_with : event ∷ st.running.trace ≡ (plain_put script c st input).running.trace
  trace_with = ap (λ (e : Event). e ∷ st.running.trace) is_held

  -- the history of its node, and that of another
  pub own_history : history_of script.objects (plain_put script c st input).running.trace
      (node_of st.running.trace input)
      ≡ received_with event (mail_got st.running.trace (got_of input))
      (load_of_input script.objects st.running.trace input)
      ∷ history_of script.objects st.running.trace (node_of st.running.trace input)
  own_history =
      let t : List Event = st.running.trace in
      sym (ap (λ (x : List Event). history_of script.objects x (node_of t input)) trace_with)
      ∙ subst (λ (m : ℕ). history_of script.objects (event ∷ t) m
      ≡ received_with event (mail_got t (got_of input)) (load_of_input script.objects t input)
      ∷ history_of script.objects t m) stepped.node stepped.own

  pub other_history : (m : ℕ) → (node_of st.running.trace input ≡ m → ⊥)
      → history_of script.objects st.running.trace m
      ≡ history_of script.objects (plain_put script c st input).running.trace m
  other_history m off =
      sym (stepped.others m (λ e. off (sym stepped.node ∙ e)))
      ∙ ap (λ (t : List Event). history_of script.objects t m) trace_with

  pub own_site : KeepsInOrder script.objects (node_of st.running.trace input)
      (received_with event (mail_got st.running.trace (got_of input))
      (load_of_input script.objects st.running.trace input)
      ∷ history_of script.objects st.running.trace (node_of st.running.trace input)) new
      → IsSiteOf script.objects (plain_put script c st input) (node_of st.running.trace input) new
  own_site keeps =
      let t : List Event = st.running.trace in
      let s : ℕ = node_of t input in
      record {
        number = stepped.number ∙ stepped.node;
        stands = λ awake. record {
          represents =
              subst (λ (x : List Event). Represents script.objects (history_of script.objects x s)
              new.node) trace_with
              (subst (λ (m : ℕ). Represents script.objects
              (history_of script.objects (event ∷ t) m) new.node) stepped.node stepped.represents);
          log = subst (λ h. KeepsInOrder script.objects s h new) (sym own_history) keeps;
        };
      }

  pub other_site : (m : ℕ) (n : Site) → (node_of st.running.trace input ≡ m → ⊥)
      → IsSiteOf script.objects st m n → IsSiteOf script.objects (plain_put script c st input) m n
  other_site m n off is = record {
    number = is.number;
    stands = λ awake.
        subst (λ h. StandsAt script.objects m h n) (other_history m off) (is.stands awake);
  }
