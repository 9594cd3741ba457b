-- The line `play`: the rounds bind no variable, and what stands after them is what the line comes
-- to.
use Rattle.std.proofs.Common.{◌≡◌, ℕ, zero, suc, Bool, true, false, if◌then◌else◌, List, [], ◌∷◌}
use Rattle.std.proofs.Common.{◌++◌, take, Option, None, refl, sym, ap, ◌∙◌}
use Rattle.std.specs.Prelude.{nat_lt}
use Rattle.std.specs.List.{list_any}
use Rattle.cam_names.specs.declared.name.Name.{Name}
use Rattle.cam_event.specs.Pasts.{plain_all}
use Rattle.cam_event.specs.Readings.{by_knowledge}
use Rattle.cam_event.specs.Views.{view}
use Rattle.cam_body.specs.Work.{child_body}
use Rattle.cam_node.specs.Log.{Logged}
use Rattle.cam_runs.specs.Halts.{accepted}
use Rattle.cam_runs.specs.HaltedLines.{Led, after_line, is_restart, setting}
use Rattle.cam_runs.specs.HaltedPlaying.{go, go_in_round, may_go_on, play, round, rounds}
use Rattle.cam_runs.specs.Playing.{body_of, in_order}
use Rattle.cam_runs.specs.Running.{waiting_weight}
use Rattle.cam_runs.specs.Standing.{Setting, Standing}
use Rattle.cam_runs.specs.UnderHalts.{IsUnderHalts}
use Rattle.cam_script.specs.declared.Script.{Script}
use Rattle.cam_script.specs.declared.Statement.{Statement}
use Rattle.cam_histories.specs.InputLaws.{held_setting}
use Rattle.cam_cluster.specs.declared.workers.Workers.{Workers}
use Rattle.cam_cluster.specs.GoLines.{KeepsLinesAtWork}
use Rattle.cam_cluster.specs.Goes.{next_of}
use Rattle.cam_cluster.specs.Making.{HaveMade, KeepsAtWork}
use Rattle.cam_cluster.specs.Plays.{HasPlayedPart, IsLineOfPlay, IsPartOfPlay, play_part}
use Rattle.cam_cluster.specs.Plays.{play_step, rounds_whole}
use Rattle.cam_cluster.specs.Works.{WorksFields}
use Rattle.cam_cluster.proofs.BegunLine.{next_leads}
use Rattle.cam_cluster.proofs.DrainLines.{bound_deliveries}
use Rattle.cam_cluster.proofs.GoLine.{bound_made}
use Rattle.cam_cluster.proofs.Led.{keeps_others}
use Rattle.cam_cluster.proofs.Made.{none_made}
use Rattle.cam_cluster.proofs.WorkersStand.{workers_stay}

-- No variable is bound by the rounds.
module _ (c : Setting) (bodies : List (List Statement)) where
  bound_names : (names : List Name) (st : Standing)
      → (go_in_round c bodies names st).running.bound ≡ st.running.bound
  bound_names [] st = refl
  bound_names (a ∷ names) st =
      bound_names names (if may_go_on c st a then go c bodies st a else st) ∙ by (may_go_on c st a)
    where
      by : (b : Bool) → (if b then go c bodies st a else st).running.bound ≡ st.running.bound
      by true =
          bound_made c st a
          (child_body (body_of bodies st.running a) (view (plain_all st.running.trace) a))
          (next_of bodies st a)
      by false = refl

  bound_round : (st : Standing) → (round c bodies st).running.bound ≡ st.running.bound
  bound_round st =
      let turns = go_in_round c bodies (in_order st.running.bodies) st in
      bound_deliveries c (waiting_weight turns.running) turns
      ∙ bound_names (in_order st.running.bodies) st

  bound_rounds : (n : ℕ) (st : Standing) → (rounds c bodies n st).running.bound ≡ st.running.bound
  bound_rounds zero st = refl
  bound_rounds (suc n) st =
      by (nat_lt (accepted st.turns) (accepted (round c bodies st).turns))
      (bound_rounds n (round c bodies st))
    where
      by : (b : Bool)
          → (rounds c bodies n (round c bodies st)).running.bound
          ≡ (round c bodies st).running.bound
          → (if b then rounds c bodies n (round c bodies st)
          else round c bodies st).running.bound
          ≡ st.running.bound
      by true more = more ∙ bound_round st
      by false more = bound_round st

  bound_whole : (n : ℕ) (st : Standing)
      → (rounds_whole c bodies n st).running.bound ≡ st.running.bound
  bound_whole zero st = refl
  bound_whole (suc n) st = bound_whole n (round c bodies st) ∙ bound_round st

  bound_part : (whole requests number : ℕ) (st : Standing)
      → (play_part whole requests number c bodies st).running.bound ≡ st.running.bound
  bound_part whole requests number st =
      let at = rounds_whole c bodies whole st in
      let names = take requests (in_order at.running.bodies) in
      bound_deliveries c number (go_in_round c bodies names at) ∙ bound_names names at
      ∙ bound_whole whole st

-- A line led on that binds nothing.
led_at_work : (script : Script) (st now : Standing) (line : ℕ) (works : WorksFields)
    (may : ℕ → Logged → Type 0) (workers : Workers) (bound : List (Option Name))
    → IsUnderHalts script (after_line st line (Led now None))
    → KeepsAtWork script now works may workers → bound ≡ now.running.bound ++ None ∷ []
    → KeepsLinesAtWork script (after_line st line (Led now None))
    (record { works = works; bound = bound }) may workers
led_at_work script st now line works may workers bound under keeps is_bound = record {
  lines = record {
    runs =
        keeps_others _ _ _ _ _ _ (record { trace = refl; lost = refl; delivered = refl }) refl
        refl refl keeps.runs.all_marks under keeps.runs;
    variables = is_bound;
  };
  workers = workers_stay _ _ _ [] refl refl keeps.workers;
}

module _ (line : ℕ) (bodies : List (List Statement)) (old new : WorksFields)
    (might may : ℕ → Logged → Type 0) (before after : Workers) (bound now : List (Option Name))
  where
    pub play_line : HaveMade play line bodies old might before new may after
        → now ≡ bound ++ None ∷ []
        → IsLineOfPlay line bodies (record { works = old; bound = bound }) might before
        (record { works = new; bound = now }) may after
    play_line has is_now = record {
      ends = has.ends;
      played = λ script st halts later is bodies_are keeps next said.
          let c = setting (by_knowledge script.objects) halts (play_step line) later in
          let so =
          has.made script st halts (λ s. list_any (is_restart s) later) is bodies_are
          (record { runs = keeps.lines.runs; workers = keeps.workers }) said in
          record {
            counted = so.counted;
            stands =
                led_at_work script st (play c script.bodies st) line new may after now
                (next_leads script st (play_step line) halts later is keeps.lines.runs.under next)
                so.keeps
                (is_now
                ∙ ap (λ (bs : List (Option Name)). bs ++ None ∷ [])
                (keeps.lines.variables ∙ sym (bound_rounds c script.bodies 514 st)));
          };
    }

    -- Memory ran out in it,
    pub play_wanting : HasPlayedPart line bodies old might before new may after → now ≡ bound
        → IsPartOfPlay line bodies (record { works = old; bound = bound }) might before
        (record { works = new; bound = now }) may after
    play_wanting has is_now = record {
      whole = has.whole;
      requests = has.requests;
      number = has.number;
      ends = has.made.ends;
      played = λ script st halts restarted is bodies_are keeps said.
          let c = held_setting script.objects halts line restarted in
          let so =
          has.made.made script st halts restarted is bodies_are
          (record { runs = keeps.lines.runs; workers = keeps.workers }) said in
          record {
            counted = so.counted;
            stands = record {
              lines = record {
                runs = so.keeps.runs;
                variables =
                    is_now ∙ keeps.lines.variables
                    ∙ sym (bound_part c script.bodies has.whole has.requests has.number st);
              };
              workers = so.keeps.workers;
            };
          };
    }

-- or before it.
pub none_played : (line : ℕ) (bodies : List (List Statement)) (works : WorksFields)
    (may : ℕ → Logged → Type 0) (workers : Workers)
    → HasPlayedPart line bodies works may workers works may workers
none_played line bodies works may workers = record {
  whole = 0;
  requests = 0;
  number = 0;
  made = none_made _ _ _ _ _;
}
