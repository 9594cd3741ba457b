-- The nodes in the run of a script.
use Rattle.std.proofs.Common.{List, sym, ◌∙◌, subst}
use Rattle.std.proofs.lemmas.Bool.{true≢false, false_from_ne_true}
use Rattle.cam_type.specs.declared.ObjectDecl.{ObjectDecl}
use Rattle.cam_event.specs.declared.Event.{Event}
use Rattle.cam_event.specs.Pasts.{last_of, holds}
use Rattle.cam_event.specs.Readings.{by_pasts}
use Rattle.cam_event.specs.Runs.{IsRun}
use Rattle.cam_agree.proofs.Ran.{Ran, plain_ran}
use Rattle.cam_runs.specs.Running.{Running, has_number}
use Rattle.cam_runs.specs.Run.{run_of_first}
use Rattle.cam_runs.proofs.Beginnings.{beginnings_agree, beginnings_are_runs}
use Rattle.cam_runs.proofs.HaltedWhole.{whole_stands}
use Rattle.cam_histories.specs.Scripts.{AllMayBePut, NodesRun, NodesStand, BeginningsHold, StandingsHold, HaltedScriptsHold}
use Rattle.cam_histories.proofs.Sent.{ran_letters_put}
use Rattle.cam_histories.proofs.Putting.{ran_inputs_put}
use Rattle.cam_histories.proofs.Lawful.{histories_are_lawful, histories_go_through, histories_may_end}

all_put : (objects : List ObjectDecl) (t : List Event) → Ran objects t → AllMayBePut objects t
all_put objects t run = ((λ letter mail at. ran_letters_put objects t letter mail run at), (λ input may. ran_inputs_put objects t input run may))

nodes_run : (objects : List ObjectDecl) (t : List Event) → IsRun objects t → NodesRun objects t
nodes_run objects t run = record { lawful = λ s. histories_are_lawful objects t s run; put = all_put objects t (plain_ran objects t run) }

pub beginnings_hold : BeginningsHold
beginnings_hold script n range =
    subst (λ (r : Running). NodesRun script.objects r.trace) (sym (beginnings_agree script n range))
    (nodes_run script.objects (run_of_first by_pasts n script).trace (beginnings_are_runs script n range))

-- where the last event of a node was a taken one, the node is halted
pub standings_hold : StandingsHold
standings_hold script st under = record {
  through = λ s awake. histories_go_through script.objects (has_number st.taken) st.running.trace s under.run
      (false_from_ne_true (holds (has_number st.taken) (last_of st.running.trace s)) (λ h. true≢false (sym (under.waits s h) ∙ awake)));
  ended = λ s. histories_may_end script.objects (has_number st.taken) st.running.trace s under.run;
  put = all_put script.objects st.running.trace (has_number st.taken, under.run);
}

pub halted_scripts_hold : HaltedScriptsHold
halted_scripts_hold script halts range =
    let whole = whole_stands script halts range in
    subst (NodesStand script) (sym whole.same) (standings_hold script _ whole.under)
