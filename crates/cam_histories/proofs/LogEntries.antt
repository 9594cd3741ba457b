-- In a run an event has a record just where it appends an entry, and what it has adds to what the
-- log keeps.
use Rattle.std.proofs.Common.{◌≡◌, ℕ, ◌≤◌, max, Bool, true, false, not, ◌||◌, List, [], ◌∷◌, ◌++◌}
use Rattle.std.proofs.Common.{map, Option, refl, sym, ap, ◌∙◌, subst, arith}
use Rattle.std.specs.List.{list_any}
use Rattle.std.proofs.lemmas.Bool.{true≢false, false_from_ne_true}
use Rattle.cam_names.specs.Dependencies.{greater_counts}
use Rattle.cam_type.specs.declared.ObjectDecl.{ObjectDecl}
use Rattle.cam_know.specs.Knowledge.{Knowledge}
use Rattle.cam_know.specs.Known.{known_count, nothing, both}
use Rattle.cam_know.specs.Order.{told_in_order}
use Rattle.cam_event.specs.declared.Deed.{Deed}
use Rattle.cam_event.specs.declared.Deed.TheVariants.{Commit, Abort}
use Rattle.cam_event.specs.declared.Event.{Event}
use Rattle.cam_event.specs.History.{count, is_crash, is_empty}
use Rattle.cam_event.specs.Inputs.{Input, Begins, Requests, Receives, Tells, Queries, Restarts}
use Rattle.cam_event.specs.Inputs.{Mail, node_of, got_of, mail_got}
use Rattle.cam_event.specs.Taken.{is_entered}
use Rattle.cam_event.specs.ByPast.{next, own_past}
use Rattle.cam_event.specs.ByKnowledge.{held, held_sight, new_informs, node_step}
use Rattle.cam_event.specs.Carried.{Carried}
use Rattle.cam_event.specs.Loads.{Load, each_node}
use Rattle.cam_event.specs.ByDeltas.{Received, as_carried, known, next_by_deltas}
use Rattle.cam_event.specs.Readings.{by_knowledge}
use Rattle.cam_event.specs.Runs.{MayCome}
use Rattle.cam_event.proofs.Members.{In, in_right}
use Rattle.cam_agree.proofs.Ran.{Ran}
use Rattle.cam_commit.specs.Steps.{is_restarting}
use Rattle.cam_delta.proofs.SameSteps.{ran_events}
use Rattle.cam_recman.specs.declared.Record.{Record}
use Rattle.cam_node.specs.Entries.{Holding, deed_records, entry_records, learnt_records}
use Rattle.cam_node.specs.Found.{Adds, Decides, Counts, Secures}
use Rattle.cam_node.specs.Halting.{taken}
use Rattle.cam_node.specs.Learning.{ruled}
use Rattle.cam_node.specs.LogOrder.{is_any_secure}
use Rattle.cam_runs.specs.Halts.{appends, brought_by, learns_count}
use Rattle.cam_histories.specs.Laws.{history_of, load_of_input}
use Rattle.cam_histories.specs.LogEntries.{next_whole, EntriesAreAppended, EntriesAdd}
use Rattle.cam_histories.proofs.EntriesAdd.{AreTold, entry_is, entry_adds}
use Rattle.cam_histories.proofs.GreaterCounts.{any_greater}
use Rattle.cam_histories.proofs.Replying.{rule_restarts}
use Rattle.cam_histories.proofs.RunDecisions.{commits_unknown, aborts_unknown, tells_the_same}
use Rattle.cam_histories.proofs.RunDecisions.{known_counts, own_low, brought_counts}

-- What is added does not go by the order of what a letter tells.
pub adds_as_good : (objects : List ObjectDecl) (history : List Received) (one other : Received)
    → known objects (one ∷ history) ≡ known objects (other ∷ history)
    → one.event ≡ other.event → Adds objects history one → Adds objects history other
adds_as_good objects history one other same event (Decides off) =
    Decides (λ e. off (ap (λ (k : Knowledge). k.outcomes) same ∙ e))
adds_as_good objects history one other same event (Counts m low high off) =
    Counts m low high (λ e. off (ap (λ (k : Knowledge). known_count k m) same ∙ e))
adds_as_good objects history one other same event (Secures some) =
    Secures
    (subst (λ e. list_any is_any_secure (taken (record one { event = e })).event.deeds ≡ true)
    event some)

-- of eight counts that are one or more the greater ones beside ones are the same
beside_ones : (f : ℕ → ℕ) → ((m : ℕ) → 1 ≤ f m) → (ms : List ℕ)
    → greater_counts (map f ms) (map (λ m. 1) ms) ≡ map f ms
beside_ones f low [] = refl
beside_ones f low (m ∷ ms) =
    let first = low m in
    let same : max (f m) 1 ≡ f m = omega (arith, first) in
    λ i. same i ∷ beside_ones f low ms i

module _ (objects : List ObjectDecl) (t : List Event) (input : Input) (run : Ran objects t)
    (may : MayCome objects t input) where
  abbrev s : ℕ
  s = node_of t input

  abbrev history : List Received
  history = history_of objects t s

  abbrev mail : Option Mail
  mail = mail_got t (got_of input)

  abbrev load : Load
  load = load_of_input objects t input

  abbrev f : ℕ → ℕ
  f = count (own_past t s)

  given : AreTold (known objects history) load.know f (brought_counts objects t run input may).0
  given = record {
    same = tells_the_same objects t run input s may;
    known = known_counts objects t run s;
    told = (brought_counts objects t run input may).1;
  }

  brought_is : (i : Input)
      → brought_by (by_knowledge objects) t i ≡ (load_of_input objects t i).know
  brought_is (Begins m) = refl
  brought_is (Requests r) = refl
  brought_is (Receives letter) = refl
  brought_is (Tells m to) = refl
  brought_is (Queries m a) = refl
  brought_is (Restarts m) = refl

  -- the counts by which the run says so
  learns_is : learns_count ((by_knowledge objects).sight t s).known_count
      (brought_by (by_knowledge objects) t input)
      ≡ any_greater (known objects history).counts load.know.counts
  learns_is =
      ap (learns_count (known_count (both (known objects history) nothing))) (brought_is input)
      ∙ (λ i. learns (greater_counts (given.known i) (map (λ m. 1) each_node)) (given.told i))
      ∙ (λ i. learns (beside_ones f (own_low objects t run s) each_node i) (map g each_node))
      ∙ (λ i. any_greater (sym given.known i) (sym given.told i))
    where
      g : ℕ → ℕ
      g = (brought_counts objects t run input may).0

      learns : List ℕ → List ℕ → Bool
      learns ks cs =
          learns_count (known_count (record { outcomes = []; counts = ks }))
          (record { outcomes = []; counts = cs })

  appends_is : appends (by_knowledge objects) t input
      ≡ (list_any is_entered (next_by_deltas objects t input).deeds
      || any_greater (known objects history).counts load.know.counts)
  appends_is = ap (λ b. list_any is_entered (next_by_deltas objects t input).deeds || b) learns_is

  own_next : (d : Deed) → In d (ruled objects s history input mail load)
      → In d (next objects t input).deeds
  own_next d i =
      subst (λ (e : Event). In d e.deeds) (ran_events objects t input run may)
      (in_right (new_informs s (told_in_order load.know) (known objects history))
      (ruled objects s history input mail load) d i)

  stays : is_restarting input ≡ false → (m : ℕ)
      → list_any (is_crash m) (ruled objects s history input mail load) ≡ false
  stays goes_on m =
      false_from_ne_true (list_any (is_crash m) (ruled objects s history input mail load))
      (λ h. let was = rule_restarts objects
      (held_sight objects s (map as_carried history) (told_in_order load.know)) mail input m h
      in true≢false (sym (ap is_restarting was.1) ∙ goes_on))

  pub is_entry : (holds : Holding)
      → is_empty (entry_records holds objects history (next_whole objects t input mail load))
      ≡ not (appends (by_knowledge objects) t input)
  is_entry holds =
      entry_is objects s history input mail load f (brought_counts objects t run input may).0
      given holds
      ∙ ap not (sym appends_is)

  pub adds : is_restarting input ≡ false → appends (by_knowledge objects) t input ≡ true
      → Adds objects history (next_whole objects t input mail load)
  adds goes_on some =
      entry_adds objects s history input mail load f (brought_counts objects t run input may).0
      given (stays goes_on)
      (λ a i. commits_unknown objects t run input s a may (own_next (Commit a) i))
      (λ a i. aborts_unknown objects t run input s a may (own_next (Abort a) i))
      (sym appends_is ∙ some)

-- whatever is put that is as good as what the run sent
pub entries_are_appended : EntriesAreAppended
entries_are_appended holds objects taken t input read brought run may put =
    (λ i. is_empty (entry_of (put.is_mail i) (put.as_good.order i)))
    ∙ is_entry objects t input (taken, run) may holds
  where
    s : ℕ
    s = node_of t input

    history : List Received
    history = history_of objects t s

    entry_of : Option Mail → Knowledge → List Record
    entry_of got k =
        learnt_records (known objects history) k
        ++ deed_records holds objects (map as_carried history) got
        (node_step objects s (map as_carried history) input got k).deeds

pub entries_add : EntriesAdd
entries_add objects taken t input read brought run may put goes_on some =
    adds_as_good objects history
    (next_whole objects t input (mail_got t (got_of input)) (load_of_input objects t input))
    (next_whole objects t input read brought)
    (λ i.
    held objects
    (step_of (sym put.is_mail i) (sym put.as_good.order i) ∷ map as_carried history))
    (λ i. (step_of (sym put.is_mail i) (sym put.as_good.order i)).event)
    (adds objects t input (taken, run) may goes_on some)
  where
    s : ℕ
    s = node_of t input

    history : List Received
    history = history_of objects t s

    step_of : Option Mail → Knowledge → Carried
    step_of got k = record {
      event = node_step objects s (map as_carried history) input got k;
      mail = got;
      brought = k;
    }
