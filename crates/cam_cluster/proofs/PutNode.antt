-- A node of works to which an input is put, before its step.
use Rattle.std.proofs.Common.{◌≡◌, ℕ, ◌+◌}
use Rattle.std.proofs.Common.{List, Some, Option}
use Rattle.std.proofs.Common.{sym, ◌∙◌, subst, arith}
use Rattle.std.specs.Prelude.{slice_get}
use Rattle.cam_event.specs.Inputs.{Input, Mail, node_of}
use Rattle.cam_event.specs.Loads.{Load}
use Rattle.cam_event.specs.ByDeltas.{Received}
use Rattle.cam_node.specs.Halting.{IsThrough}
use Rattle.cam_node.specs.Keeping.{IsLogOf, KeepsNode, MayBePutThen}
use Rattle.cam_node.specs.Log.{Logged}
use Rattle.cam_node.specs.Opened.{logged_of}
use Rattle.cam_runs.specs.Standing.{Standing}
use Rattle.cam_script.specs.declared.Script.{Script}
use Rattle.cam_histories.specs.Laws.{history_of}
use Rattle.cam_histories.specs.Whole.{StandsAt, IsSiteOf}
use Rattle.cam_histories.proofs.ScriptNodes.{standings_hold}
use Rattle.cam_histories.proofs.Sites.{site_at}
use Rattle.cam_cluster.specs.Puts.{IsPutAt}
use Rattle.cam_cluster.specs.Works.{NodeFields, WorksFields, KeepsRun}
use Rattle.cam_cluster.specs.Works.{sites_of}
use Rattle.cam_cluster.proofs.WorksNodes.{site_there}

-- A node with what was put to it, before the step.
module _ (script : Script) (st : Standing) (place : ℕ) (input : Input) (mail : Option Mail)
    (load : Load) (works : WorksFields) (might : ℕ → Logged → Type 0) (old : NodeFields)
    (keeps : KeepsRun script st works might) (put_so : IsPutAt script st place input mail load)
    (there : slice_get works.nodes place ≡ Some old) where
  pub over : old.objects ≡ script.objects
  over = (keeps.nodes place old there).over

  pub site_is : IsSiteOf script.objects st (node_of st.running.trace input) old.site
  site_is =
      rw (← (same put_so.at)) (site_at _ _ _ _ _ _ keeps.whole.nodes (site_there works.nodes
      place _ there))
    where
      same : node_of st.running.trace input ≡ place + 1 → 1 + place ≡ node_of st.running.trace input
      same at = omega (arith, at)

  pub number : old.site.node.number ≡ place + 1
  number = site_is.number ∙ put_so.at

  abbrev history : List Received
  history = history_of script.objects st.running.trace (node_of st.running.trace input)

  pub node_keeps : KeepsNode script.objects
      (history_of script.objects st.running.trace (node_of st.running.trace input)) old.site.node
      old.site.entries
  node_keeps = record {
    through =
        subst (λ (s : ℕ). IsThrough script.objects s history) (sym site_is.number)
        ((standings_hold script st keeps.under).through (node_of st.running.trace input)
        put_so.coming.awake);
    represents = stands.represents;
    keeps = record {
      recovered = stands.log.keeps.recovered;
      says = stands.log.keeps.says;
      is_log =
          subst (λ (s : ℕ). IsLogOf script.objects s history
          (logged_of stands.log.keeps.recovered)) (sym site_is.number) stands.log.keeps.is_log;
    };
    order = stands.log.order;
  }
    where
      stands : StandsAt script.objects (node_of st.running.trace input) history old.site
      stands = site_is.stands put_so.coming.awake

  pub may_then : MayBePutThen script.objects old.site.node.number
      (history_of script.objects st.running.trace (node_of st.running.trace input)) input mail load
  may_then = rw site_is.number put_so.is_put.may
