-- What a round may expect of an action, by what its home says of a request to abort.
use Rattle.std.proofs.Common.{◌≡◌, ℕ, ◌+◌, ◌<◌, Bool, true, false, not, ◌&&◌, ◌||◌, List, length}
use Rattle.std.proofs.Common.{Option, Some, None, refl, sym, ap, ◌∙◌, subst, arith}
use Rattle.std.specs.Prelude.{is_none, nat_lt, slice_get}
use Rattle.std.specs.List.{list_any}
use Rattle.std.proofs.lemmas.Bool.{or_left, or_right}
use Rattle.cam_names.specs.declared.name.Name.{Name}
use Rattle.cam_names.specs.Names.{home_count, home_node}
use Rattle.cam_type.specs.declared.ObjectDecl.{ObjectDecl}
use Rattle.cam_event.specs.declared.Deed.{Deed}
use Rattle.cam_event.specs.declared.Event.{Event}
use Rattle.cam_event.specs.declared.LineRefusal.{LineRefusal}
use Rattle.cam_event.specs.declared.LineRefusal.TheVariants as refusals
use Rattle.cam_event.specs.declared.Want.TheVariants as wants
use Rattle.cam_event.specs.ByDeltas.{sight_by_deltas}
use Rattle.cam_event.specs.History.{created, ended}
use Rattle.cam_event.specs.Readings.{by_knowledge}
use Rattle.cam_event.specs.Refusals.{first_of_two, refusal, where_so}
use Rattle.cam_event.specs.Sights.{Sight, present}
use Rattle.cam_net.specs.Waiting.{is_halted}
use Rattle.cam_node.specs.declared.Input.{Input}
use Rattle.cam_node.specs.declared.Input.TheVariants as inputs
use Rattle.cam_node.specs.Log.{Logged}
use Rattle.cam_runs.specs.Halts.{Halting}
use Rattle.cam_runs.specs.HaltedPlaying.{may_go_on}
use Rattle.cam_runs.specs.Playing.{is_stop_of, may_go}
use Rattle.cam_runs.specs.Requests.{home_sight}
use Rattle.cam_runs.specs.Running.{has_number}
use Rattle.cam_runs.specs.Standing.{Standing}
use Rattle.cam_script.specs.declared.Script.{Script}
use Rattle.cam_script.specs.Law.{IsScript}
use Rattle.cam_histories.specs.InputLaws.{held_setting}
use Rattle.cam_cluster.specs.declared.workers.Workers.{Workers}
use Rattle.cam_cluster.specs.declared.works.round.Outlook.TheVariants as outlooks
use Rattle.cam_cluster.specs.Over.{home_deeds, is_over}
use Rattle.cam_cluster.specs.Rounds.{IsAtNodeOfSome, IsOutlook}
use Rattle.cam_cluster.specs.Workers.{HaveCaughtUp}
use Rattle.cam_cluster.specs.Works.{KeepsRun, NodeFields, WorksFields}
use Rattle.cam_cluster.proofs.BegunLine.{told_halted}
use Rattle.cam_cluster.proofs.MayGoOn.{is_running, known_running}
use Rattle.cam_cluster.proofs.Over.{own_sight, said_over}
use Rattle.cam_cluster.proofs.TriedEnds.{IsSaid}
use Rattle.cam_cluster.proofs.TriedNode.{refuses}

and_false : (x : Bool) → (x && false) ≡ false
and_false true = refl
and_false false = refl

and_true : (x : Bool) → (x && true) ≡ x
and_true true = refl
and_true false = refl

-- of the two tests of a request to abort the first fails
first_ends : (ends other : Bool)
    → first_of_two (where_so ends refusals.Ended) (where_so other refusals.NotOpen)
    ≡ Some refusals.Ended
    → ends ≡ true
first_ends true other told = refl
first_ends false true told = cc
first_ends false false told = cc

-- It is over where its home says so.
refused_is_over : (objects : List ObjectDecl) (t : List Event) (a : Name)
    → refusal (sight_by_deltas objects t (home_node a)) a wants.Abort ≡ Some refusals.Ended
    → is_over t a ≡ true
refused_is_over objects t a told =
    let g : Sight = sight_by_deltas objects t (home_node a) in
    let said : said_over g.deeds a ≡ true =
    first_ends _ _ told in
    or_left (said_over (home_deeds t a) a) (list_any (is_stop_of a) t) (rw (← (own_sight objects t
    (home_node a))) said)

-- so it is where it was stopped
pub stopped_is_over : (a : Name) (works : WorksFields) (may : ℕ → Logged → Type 0)
    (workers : Workers)
    → ((st : Standing) → HaveCaughtUp st workers
    → true ≡ list_any (is_stop_of a) st.running.trace)
    → IsOutlook a works may workers outlooks.Over
stopped_is_over a works may workers stopped script st halts line restarted is keeps caught =
    or_right (said_over (home_deeds st.running.trace a) a)
    (list_any (is_stop_of a) st.running.trace)
    (sym (stopped st caught))

abbrev pub aborts : Name → Input
aborts a = inputs.Request (record { action = a; want = wants.Abort })

-- What the works say of the home, at a place.
module _ (a : Name) (works : WorksFields) (may : ℕ → Logged → Type 0)
    (some : IsAtNodeOfSome a works may) (place : ℕ) (home : home_node a ≡ place + 1) where
  pub outlook_there : place < length works.nodes
  outlook_there =
      let high = some.placed.1 in
      let each = some.keeps.one_each in
      omega (arith, high, each, home)

  home_told : (script : Script) (st : Standing) (b : Bool) → IsScript script
      → KeepsRun script st works may → is_halted works.halted (place + 1) ≡ b
      → has_number st.halted (home_node a) ≡ b
  home_told script st b is keeps told =
      ap (has_number st.halted) home
      ∙ sym (told_halted script st works may is keeps place outlook_there) ∙ told

  abbrev here : Script → Standing → Sight
  here script st = home_sight (by_knowledge script.objects) st.running a

  abbrev stops : Standing → Bool
  stops st = list_any (is_stop_of a) st.running.trace

  pub halted_waits : (workers : Workers) → is_halted works.halted (place + 1) ≡ true
      → IsOutlook a works may workers outlooks.Waits
  halted_waits workers told script st halts line restarted is keeps caught =
      ap (λ b. may_go (here script st) st.running a && not b)
      (home_told script st true is keeps told)
      ∙ and_false (may_go (here script st) st.running a)

  -- The home is not halted, and says this of a request to abort.
  module _ (workers : Workers) (awake : is_halted works.halted (place + 1) ≡ false)
      (unstopped : (st : Standing) → HaveCaughtUp st workers → false ≡ stops st)
      (node : NodeFields) (at : slice_get works.nodes place ≡ Some node)
      (o : Option LineRefusal) (told : IsSaid node (aborts a) o) where
    home_says : (script : Script) (st : Standing) → IsScript script
        → KeepsRun script st works may → refusal (here script st) a wants.Abort ≡ o
    home_says script st is keeps =
        ap (λ s. refusal ((by_knowledge script.objects).sight st.running.trace s) a wants.Abort)
        home
        ∙ sym (refuses script st works may is keeps place outlook_there awake node at (aborts a) o
        home (told script.objects))

    goes_as_told : (script : Script) (st : Standing) (halts : Halting) (line : ℕ)
        (restarted : ℕ → Bool) → IsScript script → KeepsRun script st works may
        → HaveCaughtUp st workers
        → may_go_on (held_setting script.objects halts line restarted) st a ≡ is_none o
    goes_as_told script st halts line restarted is keeps caught =
        ap (λ b. (is_running (here script st) a && not (stops st)) && not b)
        (home_told script st false is keeps awake)
        ∙ and_true (is_running (here script st) a && not (stops st))
        ∙ ap (λ b. is_running (here script st) a && not b) (sym (unstopped st caught))
        ∙ and_true (is_running (here script st) a)
        ∙ known_running script st a keeps.under
        ∙ ap is_none (home_says script st is keeps)

    pub goes_where_free : o ≡ None → IsOutlook a works may workers outlooks.GoesOn
    goes_where_free free script st halts line restarted is keeps caught =
        goes_as_told script st halts line restarted is keeps caught ∙ ap is_none free

    pub waits_where_refused : (why : LineRefusal) → o ≡ Some why
        → IsOutlook a works may workers outlooks.Waits
    waits_where_refused why refused script st halts line restarted is keeps caught =
        goes_as_told script st halts line restarted is keeps caught ∙ ap is_none refused

    pub over_where_ended : o ≡ Some refusals.Ended → IsOutlook a works may workers outlooks.Over
    over_where_ended refused script st halts line restarted is keeps caught =
        refused_is_over script.objects st.running.trace a (home_says script st is keeps ∙ refused)
