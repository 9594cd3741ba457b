-- The line that drains: by its deliveries no variable is bound, and it comes to all of them.
use Rattle.std.proofs.Common.{◌≡◌, ℕ, zero, suc, Bool, true, false, List, [], ◌∷◌, ◌++◌, length}
use Rattle.std.proofs.Common.{Option, Some, None, refl, sym, ap, ◌∙◌}
use Rattle.cam_names.specs.declared.name.Name.{Name}
use Rattle.cam_event.specs.declared.LetterId.{LetterId}
use Rattle.cam_event.specs.Inputs.{Input, Receives, node_of}
use Rattle.cam_event.specs.Readings.{by_knowledge}
use Rattle.cam_node.specs.Log.{Logged}
use Rattle.cam_runs.specs.Halts.{appends}
use Rattle.cam_runs.specs.HaltedLines.{Led, after_line, is_restart, setting}
use Rattle.cam_runs.specs.Standing.{Standing, Setting, after_input, deliver_waiting, deliveries}
use Rattle.cam_runs.specs.Standing.{drain, waiting}
use Rattle.cam_runs.specs.Running.{waiting_weight}
use Rattle.cam_script.specs.declared.Act.TheVariants as acts
use Rattle.cam_histories.specs.InputLaws.{held_setting, halt_of}
use Rattle.cam_cluster.specs.Drains.{HasDeliveredSome, HasDrained, IsLineOfDrain, IsPartOfDrain}
use Rattle.cam_cluster.specs.Works.{WorksFields}
use Rattle.cam_cluster.proofs.BegunLine.{next_leads}
use Rattle.cam_cluster.proofs.Led.{keeps_others}
use Rattle.std.specs.List.{list_any}

-- No variable is bound by a delivery.
bound_put : (line : ℕ) (restarted : Bool) (st : Standing) (c : Setting) (input : Input)
    (o : Option Bool)
    → (let s = node_of st.running.trace input in
    (after_input line restarted st s (c.reading.next st.running.trace input)
    (appends c.reading st.running.trace input) o).running.bound) ≡ st.running.bound
bound_put line restarted st c input None = refl
bound_put line restarted st c input (Some true) = refl
bound_put line restarted st c input (Some false) = refl

bound_next : (c : Setting) (st : Standing) (o : Option (ℕ × LetterId))
    → (deliver_waiting c st o).running.bound ≡ st.running.bound
bound_next c st None = refl
bound_next c st (Some w) =
    bound_put c.line (c.restarted (node_of st.running.trace (Receives w.1))) st c (Receives w.1)
    (halt_of c st (Receives w.1))

pub bound_deliveries : (c : Setting) (n : ℕ) (st : Standing)
    → (deliveries c n st).running.bound ≡ st.running.bound
bound_deliveries c zero st = refl
bound_deliveries c (suc n) st =
    bound_deliveries c n (deliver_waiting c st (waiting st)) ∙ bound_next c st (waiting st)

-- So it is of a line.
module _ (line : ℕ) (old new : WorksFields) (might may : ℕ → Logged → Type 0)
    (bound now : List (Option Name)) where
  pub drain_line : HasDrained line old might new may → now ≡ bound ++ None ∷ []
      → IsLineOfDrain line (record { works = old; bound = bound }) might
      (record { works = new; bound = now }) may
  drain_line has is_now = record {
    ends = has.ends;
    drained = λ script st halts later is keeps next said.
        let c = setting (by_knowledge script.objects) halts (record {
          line = line;
          act = acts.Drain;
        }) later in
        let so = has.drained script st halts (λ s. list_any (is_restart s) later) is keeps.runs said
        in record {
          due = so.due;
          over = so.over;
          stands = record {
            runs =
                keeps_others _ _ _ _ _ _ (record {
                  trace = refl;
                  lost = refl;
                  delivered = refl;
                }) refl refl refl so.stands.all_marks (next_leads _ _ _ halts later is
                keeps.runs.under next) so.stands;
            variables =
                is_now ∙ ap (λ (bs : List (Option Name)). bs ++ None ∷ []) (keeps.variables ∙ sym
                (bound_drain c st));
          };
        };
  }
    where
      bound_drain : (c : Setting) (st : Standing) → (drain c st).running.bound ≡ st.running.bound
      bound_drain c st = bound_deliveries c (waiting_weight st.running) st

  pub drain_part : HasDeliveredSome line old might new may → now ≡ bound
      → IsPartOfDrain line (record { works = old; bound = bound }) might
      (record { works = new; bound = now }) may
  drain_part has is_now = record {
    ends = has.ends;
    delivered = λ script st halts restarted is keeps said.
        let c = held_setting script.objects halts line restarted in
        let so = has.delivered script st halts restarted is keeps.runs said in
        record {
          due = so.due;
          stands = record {
            runs = so.stands;
            variables =
                is_now ∙ keeps.variables ∙ sym (bound_deliveries c (length has.ends) st);
          };
        };
  }
