-- What a restart makes of works, by what the node tells.
use Rattle.std.proofs.Common.{◌≡◌, ℕ, ◌+◌, ◌-◌, ◌≤◌, ◌<◌, Bool, true, false, List, []}
use Rattle.std.proofs.Common.{◌∷◌, ◌++◌, length, get_or, set, Some, None, refl, sym, ap}
use Rattle.std.proofs.Common.{◌∙◌, subst, arith}
use Rattle.std.specs.Prelude.{map, slice_get}
use Rattle.std.proofs.lemmas.List.{map-set}
use Rattle.cam_type.specs.declared.ObjectDecl.{ObjectDecl}
use Rattle.cam_event.specs.declared.Event.{Event}
use Rattle.cam_event.specs.declared.Mark.{Mark}
use Rattle.cam_net.specs.Outbox.{OutboxFields}
use Rattle.cam_net.specs.Waiting.{is_halted}
use Rattle.cam_node.specs.declared.found.Restarted.{Restarted}
use Rattle.cam_node.specs.Found.{HasRestarted, TellsWhich}
use Rattle.cam_node.specs.Calls.{letters_of}
use Rattle.cam_node.specs.Keeping.{IsLogOf, IsRestart}
use Rattle.cam_node.specs.Log.{Logged}
use Rattle.cam_node.specs.Opened.{logged_of}
use Rattle.cam_runs.specs.Running.{has_number}
use Rattle.cam_runs.specs.Standing.{Standing}
use Rattle.cam_script.specs.declared.Script.{Script}
use Rattle.cam_histories.specs.Laws.{history_of}
use Rattle.cam_histories.specs.Whole.{IsSiteOf}
use Rattle.cam_histories.proofs.Sites.{site_at}
use Rattle.cam_cluster.specs.declared.works.failing.Failed.{Failed}
use Rattle.cam_cluster.specs.declared.works.restart.Restart.TheVariants as ends
use Rattle.cam_cluster.specs.declared.works.undecided.OpenHalt.{OpenHalt}
use Rattle.cam_cluster.specs.OpenHalts.{events_found, halts_found, marks_found, open_halt_of}
use Rattle.cam_cluster.specs.Restarts.{HasRestartedAs}
use Rattle.cam_cluster.specs.Works.{HasTellingDisk}
use Rattle.cam_cluster.specs.Works.{NodeFields, WorksFields, KeepsRun, MayReadAt, sites_of}
use Rattle.cam_cluster.proofs.PlacedNodes.{reads_elsewhere, seen_there, taken_there}
use Rattle.cam_cluster.proofs.PutWorks.{seen}
use Rattle.cam_cluster.proofs.RestartEnds.{found_none, nothing_sent}
use Rattle.cam_cluster.proofs.FoundEvents.{log_is}
use Rattle.cam_cluster.proofs.HaltFound.{found_kept}
use Rattle.cam_cluster.proofs.HaltsKept.{open_without}
use Rattle.cam_cluster.proofs.RestartReads.{IsReadOf, read_is}
use Rattle.cam_cluster.proofs.RestartStands.{restart_stands}
use Rattle.cam_cluster.proofs.KeptButOne.{keeps_but}
use Rattle.cam_cluster.proofs.WorksNodes.{site_there}

-- the node at the place
module _ (script : Script) (st : Standing) (place : ℕ) (works : WorksFields)
    (might : ℕ → Logged → Type 0) (old : NodeFields) (keeps : KeepsRun script st works might)
    (there : slice_get works.nodes place ≡ Some old) where
  site_here : IsSiteOf script.objects st (place + 1) old.site
  site_here =
      subst (λ (s : ℕ). IsSiteOf script.objects st s old.site) (omega arith)
      (site_at script.objects st 1 place (sites_of works.nodes) old.site keeps.whole.nodes
      (site_there works.nodes place old there))

  over : old.objects ≡ script.objects
  over = (keeps.nodes place old there).over

  -- while it is not halted what is read of its log is that of its history
  pub read_awake : (logged : Logged) → has_number st.halted (place + 1) ≡ false
      → IsReadOf old.site.entries logged
      → IsLogOf script.objects (place + 1) (history_of script.objects st.running.trace (place + 1))
      logged
  read_awake logged awake read = read_is _ _ _ _ _ (site_here.stands awake).log.keeps read

module _ {N : Type 0} (part : N → NodeFields) (tells : N → Bool) (may : N → Logged → Type 0)
    (place : ℕ) (nodes : List N) (o : OutboxFields) (h : List Bool) (v : Failed) (u : List OpenHalt)
    (e : List Event) (m : List Mark) (old new : N) (there : place < length nodes)
    (within : place < 8) (is_old : old ≡ get_or nodes place old) (now : List N)
    (set_is : now ≡ set nodes place new) (objects : (part new).objects ≡ (part old).objects)
    (told : tells old ≡ true)
    (rest : (part old).halted ≡ false → (logged : Logged) → may old logged
    → IsReadOf (part old).site.entries logged) (none_left : o.unput ≡ []) where
  abbrev works : WorksFields
  works = seen part tells may nodes o h v u e m

  abbrev might : ℕ → Logged → Type 0
  might = MayReadAt tells may nodes

  at : slice_get (map part nodes) place ≡ Some (part old)
  at = seen_there part nodes place _ (taken_there _ _ _ there is_old)

  are : map part now ≡ set (map part nodes) place (part new)
  are = ap (map part) set_is ∙ map-set part nodes place new

  others : (s : ℕ) (logged : Logged) → 1 ≤ s → (s ≡ place + 1 → ⊥)
      → MayReadAt tells may now s logged → MayReadAt tells may nodes s logged
  others s logged low away read =
      reads_elsewhere _ may _ _ _ _ _ low away (subst (λ (ns : List N). MayReadAt tells may ns
      s logged) set_is read)

  reads : (logged : Logged) → may old logged → MayReadAt tells may nodes (place + 1) logged
  reads logged read = record {
    node = old;
    at =
        rw (← (let x : place ≡ place + 1 - 1 = omega arith
        in x)) (taken_there _ _ _ there is_old);
    told = told;
    reads = read;
  }

  module _ (script : Script) (st : Standing) (keeps : KeepsRun script st works might) where
    -- what is said over the node's objects and by its number is said over the script's
    by_place : (P : List ObjectDecl → ℕ → Type 0) → P (part old).objects
        (part old).site.node.number
        → P script.objects (place + 1)
    by_place P is =
        rw (← (over script st place works might (part old) keeps at)) (rw (← (site_here script st place works might (part old) keeps at).number) is)

    told_halted : is_halted h (place + 1) ≡ has_number st.halted (place + 1)
    told_halted =
        keeps.whole.network.stands.nodes (place + 1) (omega arith) (omega (arith, within))

    runs_awake : has_number st.halted (place + 1) ≡ false → (part old).halted ≡ false
    runs_awake awake = (keeps.nodes place (part old) at).is_halted ∙ told_halted ∙ awake

    log_read : (r : Restarted) (logged : Logged) → may old logged
        → TellsWhich (part old).objects (part old).site.node.number (part old).site.node
        (part old).halted_at logged r.found
        → (is_halted h (place + 1) ≡ true → r.found.event ≡ None)
        → (b : Bool) → has_number st.halted (place + 1) ≡ b
        → IsLogOf script.objects (place + 1)
        (history_of script.objects st.running.trace (place + 1)) logged
    log_read r logged read which none true halted =
        found_none script.objects st.running.trace st.undecided (place + 1) (part old)
        (might (place + 1)) logged r.found (keeps.halts place (part old) at halted)
        (reads logged read)
        (by_place (λ xs s. TellsWhich xs s (part old).site.node (part old).halted_at logged
        r.found) which)
        (none (told_halted ∙ halted))
    log_read r logged read which none false awake =
        read_awake script st place works might (part old) keeps at logged awake
        (rest (runs_awake awake) logged read)

  module _ (r : Restarted) (runs : (part new).halted ≡ false)
      (has : HasRestarted (part old).objects (part old).site.node.number (tells old) (may old)
      (part old).site.node (part old).halted_at (part new).site.node (part new).site.entries r)
      (no_letters : r.stepped.letters ≡ []) (passes : (part new).passes ≡ None)
      (less : HasTellingDisk (part new) → HasTellingDisk (part old)) where
    abbrev logged : Logged
    logged = logged_of has.left.recovered

    sent : r.stepped.letters ≡ letters_of (part new).site.node r.stepped.event.sent
    sent = nothing_sent (part new).site.node _ _ no_letters (ap (λ (x : Event). x.sent) has.event)

    pub restarted_in : length e + 1 < 1000000000
        → (is_halted h (place + 1) ≡ true → r.found.event ≡ None)
        → HasRestartedAs place works might ends.Stood
        (seen part tells may now (record { net = o.net; unput = r.stepped.letters })
        (set h place false) v (open_without (place + 1) u) (e ++ r.stepped.event ∷ []) m)
        (MayReadAt tells may now)
    restarted_in few none script st halts line restarted is keeps stands =
        restart_stands script st place works might (part old)
        (keeps_but script st place works might few keeps) at within halts line restarted (part new)
        (MayReadAt tells may now) (map part now) are objects others logged r.stepped.event
        r.stepped.letters none_left runs stands
        (log_read script st keeps r logged (has.was told) has.tells_which none
        (has_number st.halted (place + 1)) refl)
        (by_place script st keeps (λ xs s. IsRestart xs s logged (part new).site.node
        (part new).site.entries r.stepped.event) has.restart)
        sent passes less

    pub found_in : (event : Event) → length e + 2 < 1000000000 → is_halted h (place + 1) ≡ true
        → r.found.event ≡ Some event
        → HasRestartedAs place works might ends.Found
        (seen part tells may now (record { net = o.net; unput = r.stepped.letters })
        (set h place false) v
        (open_without (place + 1) (halts_found (place + 1) (open_halt_of (place + 1) u) u))
        (events_found (open_halt_of (place + 1) u) event e ++ r.stepped.event ∷ [])
        (marks_found (place + 1) (open_halt_of (place + 1) u) m))
        (MayReadAt tells may now)
    found_in event few stops says = record {
      halted = λ script st is keeps. sym (told_halted script st keeps) ∙ stops;
      stands = λ script st found k before taken halts line restarted is keeps under beyond stands.
          let which = by_place script st keeps (λ xs s. TellsWhich xs s (part old).site.node
          (part old).halted_at logged r.found) has.tells_which in
          let read = reads logged (has.was told) in
          restart_stands script found place
          (record works {
            undecided = halts_found (place + 1) (open_halt_of (place + 1) u) u;
            events = events_found (open_halt_of (place + 1) u) event e;
            marks = marks_found (place + 1) (open_halt_of (place + 1) u) m;
          }) might (part old)
          (found_kept script st found place k before taken works might keeps under beyond
          (part old) at logged r.found event read says which few) at within halts line restarted
          (part new) (MayReadAt tells may now) (map part now) are objects others logged
          r.stepped.event r.stepped.letters none_left runs stands
          (log_is script st found place k before taken works might keeps beyond (part old) at
          logged r.found event read says which)
          (by_place script st keeps (λ xs s. IsRestart xs s logged (part new).site.node
          (part new).site.entries r.stepped.event) has.restart)
          sent passes less;
    }
