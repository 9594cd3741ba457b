-- A node steps: its event stands, and the works keep the run with it.
use Rattle.std.proofs.Common.{◌≡◌, ℕ, ◌+◌, ◌-◌, ◌≤◌, ◌<◌, Bool, true}
use Rattle.std.proofs.Common.{List, [], ◌∷◌, ◌++◌, length, set, Some, None, Option}
use Rattle.std.proofs.Common.{refl, sym, ap, ◌∙◌, subst, arith, length-append}
use Rattle.std.specs.Prelude.{map, reverse, slice_get}
use Rattle.std.proofs.lemmas.Bool.{true≢false}
use Rattle.std.proofs.lemmas.List.{reverse-append}
use Rattle.cam_event.specs.declared.Event.{Event}
use Rattle.cam_event.specs.declared.Letter.{Letter}
use Rattle.cam_event.specs.Inputs.{Input, Mail, node_of}
use Rattle.cam_event.specs.Loads.{Load}
use Rattle.cam_node.specs.Calls.{letters_of}
use Rattle.cam_node.specs.Halting.{IsStepThrough}
use Rattle.cam_node.specs.Keeping.{KeepsNode, KeepsOn}
use Rattle.cam_node.specs.Log.{Logged}
use Rattle.cam_event.specs.Readings.{by_knowledge}
use Rattle.cam_runs.specs.Halts.{Halting, appends}
use Rattle.cam_runs.specs.Halts.{Input as InputTurn}
use Rattle.cam_runs.specs.Running.{has_number}
use Rattle.cam_runs.specs.Standing.{Standing, Setting, put}
use Rattle.cam_runs.specs.UnderHalts.{IsUnderHalts}
use Rattle.cam_script.specs.declared.Script.{Script}
use Rattle.cam_histories.specs.InputLaws as laws
use Rattle.cam_histories.specs.InputLaws.{held_setting, halt_of, with_site, KeepsEvent}
use Rattle.cam_histories.specs.Laws.{history_of}
use Rattle.cam_histories.specs.PutIn.{nameless}
use Rattle.cam_histories.specs.Whole.{Site, KeepsInOrder, IsWhole}
use Rattle.cam_histories.proofs.OneInput.{inputs_lead_on, plain_put, put_plain, other_history}
use Rattle.cam_histories.proofs.InputsStand.{inputs_stand}
use Rattle.cam_cluster.specs.Puts.{IsPutAt}
use Rattle.cam_cluster.specs.Works.{NodeFields, WorksFields, KeepsRun, AreStoppedIf, IsUnfailing}
use Rattle.cam_cluster.specs.Works.{sites_of}
use Rattle.cam_cluster.proofs.WorksNodes.{site_there}
use Rattle.cam_cluster.proofs.NodeChanged.{KeepsNodes, kept_nodes, as_many, halts_are, nodes_are}
use Rattle.cam_cluster.proofs.NodeChanged.{sites_are}
use Rattle.cam_cluster.proofs.HaltsKept.{all_sent_still, undecided_on}
use Rattle.cam_cluster.proofs.PutNode.{site_is, node_keeps, may_then}

pub one_longer : (t : List Event) (e : Event) → reverse t ++ e ∷ [] ≡ reverse (e ∷ t)
one_longer t e = sym (reverse-append (e ∷ []) t)

-- the same with the node after the step
module _ (script : Script) (st : Standing) (place : ℕ) (input : Input) (mail : Option Mail)
    (load : Load) (works : WorksFields) (might : ℕ → Logged → Type 0) (old : NodeFields)
    (keeps : KeepsRun script st works might) (put_so : IsPutAt script st place input mail load)
    (there : slice_get works.nodes place ≡ Some old) (within : place < 8)
    (halts : Halting) (line : ℕ) (restarted : ℕ → Bool) (new : NodeFields)
    (may : ℕ → Logged → Type 0) (nodes : List NodeFields) (are : nodes ≡ set works.nodes place new)
    (objects : new.objects ≡ old.objects)
    (others : (s : ℕ) (logged : Logged) → 1 ≤ s → (s ≡ place + 1 → ⊥) → may s logged
    → might s logged) where
  abbrev c : Setting
  c = held_setting script.objects halts line restarted

  abbrev r : ℕ
  r = node_of st.running.trace input

  abbrev kept : KeepsNodes script st place works might
  kept = kept_nodes _ _ _ _ _ keeps

  place_is : r - 1 ≡ place
  place_is = let at = put_so.at in omega (arith, at)

  sites_now : with_site st.running.trace input (sites_of works.nodes) new.site ≡ sites_of nodes
  sites_now =
      ap (λ (i : ℕ). set (sites_of works.nodes) i new.site) place_is
      ∙ sites_are script st place works might old kept there new may nodes are objects others

  -- a halted node is another one
  off : (m : ℕ) → has_number st.halted m ≡ true → (m ≡ place + 1 → ⊥)
  off m said e =
      true≢false (sym said ∙ ap (has_number st.halted) (e ∙ sym put_so.at) ∙ put_so.coming.awake)

  mine : KeepsNode script.objects (history_of script.objects st.running.trace r) old.site.node
      old.site.entries
  mine = node_keeps _ _ place _ mail load works might _ keeps put_so there

  -- the event stands
  module _ (event : Event) (letters : List Letter) (none_left : works.outbox.unput ≡ [])
      (few : length works.events + 1 < 1000000000) (runs : new.halted ≡ old.halted)
      (none : halt_of c st input ≡ None)
      (step : IsStepThrough script.objects old.site.node new.site.node input mail load event)
      (on : KeepsOn script.objects old.site.node old.site.entries new.site.node new.site.entries
      input mail load event)
      (sent : letters ≡ letters_of new.site.node event.sent)
      (stops_so : AreStoppedIf (IsUnfailing works.failed nodes) script.objects
      ((by_knowledge script.objects).next st.running.trace input ∷ st.running.trace) st.halted
      (InputTurn r line (appends (by_knowledge script.objects) st.running.trace input) (restarted r)
      ∷ st.turns) nodes) where
    abbrev behind : Standing
    behind = plain_put script c st input

    is : put c st input ≡ behind
    is = put_plain script c st input none

    keeps_event : KeepsEvent script.objects st.running.trace input mail load event new.site
    keeps_event =
        subst (λ (s : ℕ). KeepsInOrder script.objects s (record {
          event = event;
          mail = mail;
          load =
              load;
        } ∷ history_of script.objects st.running.trace r) new.site) (step.number ∙ (site_is _
        _ place _ mail load works might _ keeps put_so
        there).number) (record { keeps = goes_on.keeps; order = goes_on.order })
      where
        goes_on : KeepsNode script.objects
            (record { event = event; mail = mail; load = load }
            ∷ history_of script.objects st.running.trace r) new.site.node new.site.entries
        goes_on =
            on (history_of script.objects st.running.trace r) mine (may_then _ _ place _ _ _
            works might _ keeps put_so there)

    has : laws.HasPut script c st input (sites_of works.nodes) works.outbox.net works.halted
        new.site event
    has =
        inputs_stand script halts line restarted st input (sites_of works.nodes) works.outbox.net
        works.halted old.site new.site mail load event keeps.under put_so.coming none
        (subst (λ (u : List Letter). IsWhole script.objects st (sites_of works.nodes)
        works.outbox.net u works.halted) none_left keeps.whole)
        (ap (λ (i : ℕ). slice_get (sites_of works.nodes) i) place_is
        ∙ site_there works.nodes place old there)
        put_so.is_put step keeps_event

    stood_at : KeepsRun script behind
        (record {
          nodes = nodes;
          outbox = record { net = works.outbox.net; unput = letters };
          halted = works.halted;
          failed = works.failed;
          undecided = works.undecided;
          events = works.events ++ event ∷ [];
          marks = works.marks;
        }) may
    stood_at = record {
      under =
          subst (IsUnderHalts script) is
          (inputs_lead_on script halts line restarted st input keeps.under put_so.coming);
      one_each =
          as_many script st place works might old kept there new may nodes are objects others;
      eight = keeps.eight;
      nodes =
          nodes_are script st place works might old kept there new may nodes are objects others
          works.halted (runs ∙ (keeps.nodes place old there).is_halted) (λ m low off. refl);
      whole =
          subst (λ (z : Standing). IsWhole script.objects z (sites_of nodes) works.outbox.net
          letters works.halted) is
          (subst (λ (u : List Letter). IsWhole script.objects (put c st input) (sites_of nodes)
          works.outbox.net u works.halted) (sym sent)
          (subst (λ (sites : List Site). IsWhole script.objects (put c st input) sites
          works.outbox.net (letters_of new.site.node event.sent) works.halted) sites_now
          has.whole));
      halts = λ q n at said.
          halts_are script st place works might old kept there new may nodes are objects others
          behind (λ m is. (off m is, is))
          (λ m low away. ap (λ h. map nameless h) (other_history script c st input new.site event
          has.stepped.held has.stepped m (λ e. away (sym e ∙ put_so.at))))
          (λ m away. undecided_on script.objects st behind m
          (c.reading.next st.running.trace input ∷ []) refl refl keeps.under.placed) q n at said;
      undecided = keeps.undecided;
      sent =
          all_sent_still (length st.running.trace) (length behind.running.trace) (omega arith)
          st.undecided keeps.sent;
      events =
          ap (λ (es : List Event). es ++ event ∷ []) keeps.events
          ∙ one_longer st.running.trace event
          ∙ ap (λ (e : Event). reverse (e ∷ st.running.trace)) has.stepped.held;
      all_marks = keeps.all_marks;
      few = let more = length-append works.events (event ∷ []) in omega (arith, few, more);
      stops = stops_so;
    }

    pub stood : KeepsRun script (put c st input)
        (record {
          nodes = nodes;
          outbox = record { net = works.outbox.net; unput = letters };
          halted = works.halted;
          failed = works.failed;
          undecided = works.undecided;
          events = works.events ++ event ∷ [];
          marks = works.marks;
        }) may
    stood =
        subst (λ (z : Standing). KeepsRun script z
        (record {
          nodes = nodes;
          outbox = record { net = works.outbox.net; unput = letters };
          halted = works.halted;
          failed = works.failed;
          undecided = works.undecided;
          events = works.events ++ event ∷ [];
          marks = works.marks;
        }) may) (sym is) stood_at
