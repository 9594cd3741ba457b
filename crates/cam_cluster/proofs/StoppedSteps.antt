-- A step of a node in a run, by the lines that stop its disk: it halts just where a stop ends, and
-- its log has what was taken of the event just where three calls passed.
use Rattle.std.proofs.Common.{◌≡◌, ℕ, ◌<◌, Bool, true, false, not}
use Rattle.std.proofs.Common.{List, ◌∷◌, Option, Some, None, refl, sym, ap, ◌∙◌, subst}
use Rattle.std.proofs.lemmas.Bool.{true≢false}
use Rattle.cam_type.specs.declared.ObjectDecl.{ObjectDecl}
use Rattle.cam_event.specs.declared.Event.{Event}
use Rattle.cam_event.specs.History.{is_empty}
use Rattle.cam_event.specs.Inputs.{Input as NodeInput, Mail, node_of}
use Rattle.cam_event.specs.Loads.{Load}
use Rattle.cam_event.specs.ByDeltas.{Received}
use Rattle.cam_event.specs.Readings.{by_knowledge}
use Rattle.cam_event.specs.Runs.{MayCome}
use Rattle.cam_event.specs.Taken.{IsRunTaking}
use Rattle.cam_commit.specs.Steps.{is_restarting}
use Rattle.cam_log.specs.Moments.{Opened}
use Rattle.cam_recman.specs.declared.Record.{Record}
use Rattle.cam_node.specs.Appending.{HasAppended, OpensAfter, OpensAs, history_after}
use Rattle.cam_node.specs.Entries.{entry_records}
use Rattle.cam_node.specs.Found.{Adds, HaltsAt, whole_step}
use Rattle.cam_node.specs.Halting.{IsStepThrough, taken}
use Rattle.cam_node.specs.Keeping.{KeepsNode, MayBePutThen}
use Rattle.cam_node.specs.Represents.{Node}
use Rattle.cam_runs.specs.Halts.{Turn, Input, appends, calls_left}
use Rattle.cam_histories.specs.Laws.{history_of}
use Rattle.cam_histories.specs.LogEntries.{next_whole}
use Rattle.cam_histories.specs.Stepping.{IsPut}
use Rattle.cam_histories.proofs.LogEntries.{entries_add, entries_are_appended}
use Rattle.cam_cluster.specs.Stopped.{IsHaltByStop}
use Rattle.cam_cluster.specs.Stopping.{ends_by, runs_on}
use Rattle.cam_cluster.proofs.StopTurns.{cut_as_stopped, own_stopped, spent_as}

module _ (objects : List ObjectDecl) (taking : ℕ → Bool) (trace : List Event)
    (input : NodeInput) (mail : Option Mail) (load : Load) (old : Node)
    (entries : List (List ℕ)) (run : IsRunTaking objects taking trace)
    (may : MayCome objects trace input) (is_put : IsPut objects trace input mail load)
    (number : old.number ≡ node_of trace input)
    (keeps : KeepsNode objects (history_of objects trace (node_of trace input)) old entries)
    (may_be : MayBePutThen objects old.number (history_of objects trace (node_of trace input))
    input mail load) where
  abbrev s : ℕ
  s = node_of trace input

  abbrev h : List Received
  h = history_of objects trace s

  abbrev w : Bool
  w = appends (by_knowledge objects) trace input

  -- what the node makes of the input is the run's next event
  whole_is : whole_step objects old.number h input mail load
      ≡ next_whole objects trace input mail load
  whole_is = ap (λ (n : ℕ). whole_step objects n h input mail load) number

  -- It came to its end: no stop ends there, and the disk did the calls of the append.
  pub stood_as_stopped : (new : Node) (event : Event) (now : List (List ℕ)) (turns : List Turn)
      (line : ℕ) (again : Bool) (passes left : Option ℕ)
      → IsStepThrough objects old new input mail load event
      → HasAppended objects old input mail load event entries now passes left
      → passes ≡ calls_left turns s
      → (ends_by turns s w ≡ None) × (left ≡ calls_left (Input s line w again ∷ turns) s)
  stood_as_stopped new event now turns line again passes left step appended is =
      spent_as appended.records turns s line w again passes left none is appended.spent
    where
      none : is_empty appended.records ≡ not w
      none =
          ap (λ (rs : List Record). is_empty rs) (sym (appended.entry.are h entries keeps may_be))
          ∙ ap (λ (e : Event). is_empty (entry_records appended.entry.holds objects h
          (record { event = e; mail = mail; load = load })))
          (step.next h keeps.through keeps.represents may_be)
          ∙ ap (λ (c : Received). is_empty (entry_records appended.entry.holds objects h c))
          whole_is
          ∙ entries_are_appended appended.entry.holds objects taking trace input mail load run may
          is_put

  -- It was cut off: a stop ends there, at an event that appends.
  appends_there : (calls : ℕ) (reads : Opened)
      → OpensAfter calls objects old entries input mail load reads → w ≡ true
  appends_there calls reads after =
      let cut = after h keeps may_be in
      by w (sym cut.some
      ∙ ap (λ (c : Received). is_empty (entry_records cut.holds objects h c)) whole_is
      ∙ entries_are_appended cut.holds objects taking trace input mail load run may is_put)
    where
      by : (b : Bool) → false ≡ not b → b ≡ true
      by true is = refl
      by false is = absurd (true≢false (sym is))

  pub ends_there : (calls : ℕ) (reads : Opened) (turns : List Turn) (passes : Option ℕ)
      → OpensAfter calls objects old entries input mail load reads
      → passes ≡ calls_left turns s → passes ≡ Some calls → calls < 4
      → ends_by turns s w ≡ Some calls
  ends_there calls reads turns passes after is had fewer =
      ap (ends_by turns s) (appends_there calls reads after) ∙ cut_as_stopped turns s _ _ is had
      fewer

  pub halted_by_stop : (calls : ℕ) (reads : Opened) (turns : List Turn) (passes : Option ℕ)
      (line : ℕ) (again : Bool) (new : Node) (halted_at : Option Event)
      → is_restarting input ≡ false
      → OpensAfter calls objects old entries input mail load reads
      → HaltsAt objects old entries input mail load new halted_at
      → passes ≡ calls_left turns s → passes ≡ Some calls → calls < 4
      → runs_on turns s ≡ true
      → IsHaltByStop objects h (Input s line w again ∷ turns) s new halted_at reads
  halted_by_stop calls reads turns passes line again new halted_at goes_on after halts is had fewer
      runs = by halted_at refl halts
    where
      by : (o : Option Event) → halted_at ≡ o
          → HaltsAt objects old entries input mail load new o
          → IsHaltByStop objects h (Input s line w again ∷ turns) s new halted_at reads
      by None none at = absurd at
      by (Some event) kept at = record {
        whole = whole_step objects old.number h input mail load;
        event = event;
        kept = kept;
        halted = at h keeps may_be;
        adds =
            subst (λ (c : Received). Adds objects h c) (sym whole_is) (entries_add objects taking
            trace input mail load run may is_put goes_on (appends_there calls reads after));
        calls = calls;
        stopped =
            own_stopped _ s line _ again _ runs (ends_there calls reads turns passes after is had
            fewer);
        opens =
            subst (λ (n : ℕ). OpensAs objects n (history_after calls h (taken (whole_step objects
            old.number h input mail load))) reads) number (after h keeps may_be).opens;
      }
