-- A restart finds the event of a halt by a stop just where the stop let three calls pass.
use Rattle.std.proofs.Common.{◌≡◌, ℕ, ◌+◌, ◌<◌, eqb, Bool, true, List, Option, Some, None}
use Rattle.std.proofs.Common.{is_some, refl, sym, ap, ◌∙◌, subst, arith, true≢false}
use Rattle.std.specs.Prelude.{slice_get}
use Rattle.std.proofs.lemmas.Bool.{eqb-true}
use Rattle.std.proofs.lemmas.Option.{same_Some}
use Rattle.cam_type.specs.declared.ObjectDecl.{ObjectDecl}
use Rattle.cam_event.specs.declared.Event.{Event}
use Rattle.cam_event.specs.declared.Mark.{Mark}
use Rattle.cam_net.specs.Outbox.{OutboxFields}
use Rattle.cam_net.specs.Waiting.{is_halted}
use Rattle.cam_node.specs.declared.found.Found.{Found}
use Rattle.cam_node.specs.Found.{FindsBy}
use Rattle.cam_node.specs.Log.{Logged}
use Rattle.cam_runs.specs.Running.{has_number}
use Rattle.cam_runs.specs.Standing.{Standing}
use Rattle.cam_script.specs.declared.Script.{Script}
use Rattle.cam_histories.specs.Laws.{history_of}
use Rattle.cam_histories.specs.Whole.{IsSiteOf}
use Rattle.cam_histories.proofs.Sites.{site_at}
use Rattle.cam_cluster.specs.declared.works.failing.Failed.{Failed}
use Rattle.cam_cluster.specs.declared.works.restart.Restart.TheVariants as ends
use Rattle.cam_cluster.specs.declared.works.undecided.OpenHalt.{OpenHalt}
use Rattle.cam_cluster.specs.Restarts.{HasFoundByStop}
use Rattle.cam_cluster.specs.Stopped.{IsHaltByStop}
use Rattle.cam_cluster.specs.Stopping.{stopped_at}
use Rattle.cam_cluster.specs.Works.{NodeFields, WorksFields, IsUnfailing, KeepsRun, MayReadAt}
use Rattle.cam_cluster.specs.Works.{sites_of}
use Rattle.cam_cluster.proofs.PlacedNodes.{seen_there}
use Rattle.cam_cluster.proofs.PutWorks.{seen}
use Rattle.cam_cluster.proofs.HaltsByStop.{finds_by_stop}
use Rattle.cam_cluster.proofs.StoppedWorks.{unfailing_there}
use Rattle.cam_cluster.proofs.WorksNodes.{site_there}

module _ (script : Script) (st : Standing) (place : ℕ) (works : WorksFields)
    (might : ℕ → Logged → Type 0) (old : NodeFields) (keeps : KeepsRun script st works might)
    (there : slice_get works.nodes place ≡ Some old)
    (sound : IsUnfailing works.failed works.nodes (place + 1))
    (said : has_number st.halted (place + 1) ≡ true) (found : Found)
    (finds : old.tells ≡ true → FindsBy old.objects old.site.node.number old.site.node old.halted_at
    old.reads found) where
  site_here : IsSiteOf script.objects st (place + 1) old.site
  site_here =
      subst (λ (s : ℕ). IsSiteOf script.objects st s old.site) (omega arith)
      (site_at script.objects st 1 place (sites_of works.nodes) old.site keeps.whole.nodes
      (site_there works.nodes place old there))

  halt : IsHaltByStop script.objects (history_of script.objects st.running.trace (place + 1))
      st.turns (place + 1) old.site.node old.halted_at old.reads
  halt = (keeps.stops.each place old there sound).by_stop said

  finds_here : FindsBy script.objects (place + 1) old.site.node old.halted_at old.reads found
  finds_here =
      subst (λ (z : List ObjectDecl × ℕ). FindsBy z.0 z.1 old.site.node old.halted_at old.reads
      found) (λ i. ((keeps.nodes place old there).over i, site_here.number i)) (finds
      (unfailing_there _ _ _ _ there (place + 1) sound))

  three : is_some found.event ≡ eqb halt.calls 3
  three =
      finds_by_stop _ (history_of script.objects st.running.trace (place + 1)) st.turns _ _ _ _
      halt _ finds_here

  pub none_found : found.event ≡ None → stopped_at st.turns (place + 1) ≡ Some 3 → ⊥
  none_found none is =
      let calls : halt.calls ≡ 3 = same_Some halt.calls 3 (sym halt.stopped ∙ is) in
      true≢false (sym (ap (λ (n : ℕ). eqb n 3) calls) ∙ sym three
      ∙ ap (λ (o : Option Event). is_some o) none)

  pub some_found : (event : Event) → found.event ≡ Some event
      → stopped_at st.turns (place + 1) ≡ Some 3
  some_found event some =
      halt.stopped
      ∙ ap (λ (n : ℕ). Some n) (eqb-true halt.calls 3 (sym three
      ∙ ap (λ (o : Option Event). is_some o) some))

module _ {N : Type 0} (part : N → NodeFields) (tells : N → Bool) (may : N → Logged → Type 0)
    (place : ℕ) (nodes : List N) (o : OutboxFields) (h : List Bool) (v : Failed)
    (u : List OpenHalt) (e : List Event) (m : List Mark) (old : N) (within : place < 8)
    (there : slice_get nodes place ≡ Some old) (found : Found)
    (finds : (part old).tells ≡ true → FindsBy (part old).objects (part old).site.node.number
    (part old).site.node (part old).halted_at (part old).reads found) where
  pub none_by_stop : (is_halted h (place + 1) ≡ true → found.event ≡ None)
      → HasFoundByStop place (seen part tells may nodes o h v u e m) (MayReadAt tells may nodes)
      ends.Stood
  none_by_stop none script st is keeps sound said =
      none_found script st place (seen part tells may nodes o h v u e m)
      (MayReadAt tells may nodes) (part old) keeps (seen_there part nodes place old there) sound
      said found finds
      (none (keeps.whole.network.stands.nodes (place + 1) (omega arith) (omega (arith, within))
      ∙ said))

  pub some_by_stop : (event : Event) → found.event ≡ Some event
      → HasFoundByStop place (seen part tells may nodes o h v u e m) (MayReadAt tells may nodes)
      ends.Found
  some_by_stop event some script st is keeps sound said =
      some_found script st place (seen part tells may nodes o h v u e m)
      (MayReadAt tells may nodes) (part old) keeps (seen_there part nodes place old there) sound
      said found finds event some
