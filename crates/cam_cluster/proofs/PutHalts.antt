-- A node halts in its step, and the works keep the run with the halt.
use Rattle.std.proofs.Common.{◌≡◌, ℕ, ◌+◌, ◌-◌, ◌≤◌, ◌<◌, eqb, Bool, true, false, if◌then◌else◌}
use Rattle.std.proofs.Common.{List, [], ◌∷◌, ◌++◌, length, set, Some, Option, sym, ap, ◌∙◌, subst}
use Rattle.std.proofs.Common.{arith}
use Rattle.std.specs.Prelude.{slice_get}
use Rattle.std.proofs.lemmas.Bool.{ne_eqb, eq-eqb}
use Rattle.std.proofs.lemmas.List.{length-set}
use Rattle.cam_event.specs.declared.Letter.{Letter}
use Rattle.cam_event.specs.declared.LetterId.{LetterId}
use Rattle.cam_event.specs.declared.Mark.{Mark}
use Rattle.cam_event.specs.declared.Mark.TheVariants as marks
use Rattle.cam_event.specs.Inputs.{Input, Mail, node_of, got_of}
use Rattle.cam_event.specs.Loads.{Load}
use Rattle.cam_event.specs.Runs.{IsNode}
use Rattle.cam_net.specs.Waiting.{is_halted}
use Rattle.cam_node.specs.Found.{HaltsAt}
use Rattle.cam_node.specs.Keeping.{IsHalt}
use Rattle.cam_node.specs.Log.{Logged}
use Rattle.cam_runs.specs.Halts.{Halting, appends, Input as InputTurn}
use Rattle.cam_runs.specs.Standing.{Standing, Setting, after_input, put}
use Rattle.cam_runs.specs.UnderHalts.{IsUnderHalts}
use Rattle.cam_script.specs.declared.Script.{Script}
use Rattle.cam_histories.specs.InputLaws.{held_setting, halt_of, with_site}
use Rattle.cam_histories.specs.Whole.{Site, IsWhole}
use Rattle.cam_histories.proofs.HaltedLists.{halted_now}
use Rattle.cam_histories.proofs.Halting.{lost_halts_stand}
use Rattle.cam_histories.proofs.OneInput.{inputs_lead_on}
use Rattle.cam_cluster.specs.declared.works.failing.Failed.{Failed}
use Rattle.cam_cluster.specs.Puts.{IsPutAt}
use Rattle.cam_cluster.specs.Works.{NodeFields, WorksFields, KeepsRun, AreStoppedIf, IsUnfailing}
use Rattle.cam_cluster.specs.Works.{sites_of}
use Rattle.cam_cluster.proofs.NodeChanged.{KeepsNodes, kept_nodes, as_many, nodes_are, sites_are}
use Rattle.cam_cluster.proofs.PutNode.{site_is}
use Rattle.cam_cluster.proofs.RunHalts.{sent_in}
use Rattle.cam_cluster.proofs.OwnHalts.{halts_now, opened}

-- the same with the node after the step
module _ (script : Script) (st : Standing) (place : ℕ) (input : Input) (mail : Option Mail)
    (load : Load) (works : WorksFields) (might : ℕ → Logged → Type 0) (old : NodeFields)
    (keeps : KeepsRun script st works might) (put_so : IsPutAt script st place input mail load)
    (there : slice_get works.nodes place ≡ Some old) (within : place < 8)
    (halts : Halting) (line : ℕ) (restarted : ℕ → Bool) (new : NodeFields)
    (may : ℕ → Logged → Type 0) (nodes : List NodeFields) (are : nodes ≡ set works.nodes place new)
    (objects : new.objects ≡ old.objects)
    (others : (s : ℕ) (logged : Logged) → 1 ≤ s → (s ≡ place + 1 → ⊥) → may s logged
    → might s logged) where
  abbrev c : Setting
  c = held_setting script.objects halts line restarted

  abbrev r : ℕ
  r = node_of st.running.trace input

  abbrev kept : KeepsNodes script st place works might
  kept = kept_nodes _ _ _ _ _ keeps

  place_is : r - 1 ≡ place
  place_is = let at = put_so.at in omega (arith, at)

  sites_now : with_site st.running.trace input (sites_of works.nodes) new.site ≡ sites_of nodes
  sites_now =
      ap (λ (i : ℕ). set (sites_of works.nodes) i new.site) place_is
      ∙ sites_are script st place works might old kept there new may nodes are objects others

  -- the node halted
  module _ (none_left : works.outbox.unput ≡ []) (stops : new.halted ≡ true)
      (lost : halt_of c st input ≡ Some false)
      (same_number : new.site.node.number ≡ old.site.node.number)
      (halt : IsHalt script.objects old.site.node old.site.entries input mail load
      (may (place + 1)))
      (halts_at : HaltsAt script.objects old.site.node old.site.entries input mail load
      new.site.node new.halted_at)
      (failed : Failed)
      (stops_so : AreStoppedIf (IsUnfailing failed nodes) script.objects st.running.trace
      (r ∷ st.halted)
      (InputTurn r line (appends c.reading st.running.trace input) (restarted r) ∷ st.turns) nodes)
    where
      abbrev behind : Standing
      behind = after_input line (restarted r) st r (c.reading.next st.running.trace input)
          (appends c.reading st.running.trace input) (Some false)

      is : put c st input ≡ behind
      is = ap (after_input line (restarted r) st r (c.reading.next st.running.trace input)
          (appends c.reading st.running.trace input)) lost

      node : IsNode r
      node = let at = put_so.at in (omega (arith, at), omega (arith, at, within))

      abbrev now_halted : List Bool
      now_halted = set works.halted place true

      halted_is : (m : ℕ) → 1 ≤ m
          → is_halted now_halted m ≡ (if eqb r m then true else is_halted works.halted m)
      halted_is m low =
          ap (λ (i : ℕ). is_halted (set works.halted i true) m) (sym place_is) ∙ halted_now _ _ _
          true keeps.eight node low

      whole :
          IsWhole script.objects behind (sites_of nodes) works.outbox.net works.outbox.unput
          now_halted
      whole =
          rw none_left (rw (← place_is) (rw (← is) (rw (← sites_now) (lost_halts_stand script halts
          line restarted st input (sites_of works.nodes) works.outbox.net works.halted new.site lost
          node keeps.eight (same_number ∙ (site_is _ _ place _ mail load works might _ keeps
          put_so there).number) (rw (← none_left) keeps.whole)))))

      abbrev now : Option LetterId → WorksFields
      now got = record {
        nodes = nodes;
        outbox = works.outbox;
        halted = now_halted;
        failed = failed;
        undecided = record {
          node = place + 1;
          before = length works.events;
          got = got;
        } ∷ works.undecided;
        events = works.events;
        marks = works.marks ++ marks.Halted line (place + 1) false ∷ [];
      }

      halted_at : (got : Option LetterId) → got_of input ≡ got
          → KeepsRun script behind (now got) may
      halted_at got is_got = record {
        under =
            subst (IsUnderHalts script) is
            (inputs_lead_on script halts line restarted st input keeps.under put_so.coming);
        one_each =
            as_many script st place works might old kept there new may nodes are objects others;
        eight = length-set works.halted place true ∙ keeps.eight;
        nodes =
            nodes_are script st place works might old kept there new may nodes are objects others
            now_halted
            (stops
            ∙ sym (halted_is (place + 1) (omega arith)
            ∙ ap (λ (b : Bool). if b then true else is_halted works.halted (place + 1))
            (eq-eqb r (place + 1) put_so.at)))
            (λ m low away. sym (halted_is m low
            ∙ ap (λ (b : Bool). if b then true else is_halted works.halted m)
            (ne_eqb r m (λ e. away (sym e ∙ put_so.at)))));
        whole = whole;
        halts =
            halts_now script st place input mail load works might keeps put_so halts line restarted
            old there new may nodes are others same_number halt halts_at;
        undecided =
            opened script st place input mail load works might keeps put_so halts line restarted got
            is_got;
        sent = (sent_in script.objects st.running.trace input put_so.coming.may, keeps.sent);
        events = keeps.events;
        all_marks =
            ap (λ (ms : List Mark). ms ++ marks.Halted line (place + 1) false ∷ []) keeps.all_marks
            ∙ ap (λ (s : ℕ). st.running.marks ++ marks.Halted line s false ∷ []) (sym put_so.at);
        few = keeps.few;
        stops = stops_so;
      }

      pub halted : (got : Option LetterId) → got_of input ≡ got
          → KeepsRun script (put c st input)
          (record {
            nodes = nodes;
            outbox = works.outbox;
            halted = set works.halted place true;
            failed = failed;
            undecided = record {
              node = place + 1;
              before = length works.events;
              got = got;
            } ∷ works.undecided;
            events = works.events;
            marks = works.marks ++ marks.Halted line (place + 1) false ∷ [];
          }) may
      halted got is_got =
          subst (λ (z : Standing). KeepsRun script z (now got) may) (sym is) (halted_at got is_got)
