-- A node that halts: the event that is undecided from then on is the one at which it halted.
use Rattle.std.proofs.Common.{◌≡◌, inl, inr, ℕ, Bool, List, ◌∷◌, map, length, Option, Some}
use Rattle.std.proofs.Common.{None, sym, ap, ◌∙◌, subst, arith}
use Rattle.std.proofs.lemmas.Bool.{cases_Bool}
use Rattle.std.specs.List.{list_any}
use Rattle.cam_type.specs.declared.ObjectDecl.{ObjectDecl}
use Rattle.cam_know.specs.Known.{nothing}
use Rattle.cam_know.specs.Order.{told_in_order}
use Rattle.cam_event.specs.declared.Event.{Event}
use Rattle.cam_event.specs.ByDeltas.{Received, as_carried}
use Rattle.cam_event.specs.ByKnowledge.{held, held_sight, node_step}
use Rattle.cam_event.specs.Carried.{Carried}
use Rattle.cam_event.specs.History.{is_crash}
use Rattle.cam_event.specs.Inputs.{Input, Mail, node_of}
use Rattle.cam_event.specs.Loads.{Load}
use Rattle.cam_event.specs.Runs.{MayCome}
use Rattle.cam_event.specs.Taken.{IsRunTaking, taken_of}
use Rattle.cam_node.specs.Found.{IsHaltedAt, whole_step}
use Rattle.cam_node.specs.Halting.{taken}
use Rattle.cam_node.specs.Keeping.{IsLogOf}
use Rattle.cam_node.specs.Lawful.{MayBePut}
use Rattle.cam_node.specs.Log.{Logged}
use Rattle.cam_node.specs.Represents.{Node}
use Rattle.cam_runs.specs.Running.{has_number}
use Rattle.cam_histories.specs.Laws.{history_of}
use Rattle.cam_histories.specs.ReadBack.{received_with}
use Rattle.cam_histories.specs.Stepping.{IsPut}
use Rattle.cam_histories.specs.Undecided.{received_behind, step_in, undecided_in}
use Rattle.cam_histories.specs.Undecided.{NewHaltsAreUndecided, NewHaltsKeepLogs}
use Rattle.cam_histories.specs.Undecided.{UndecidedAreHalts}
use Rattle.cam_histories.proofs.Putting.{halted_inputs_may_be_put}
use Rattle.cam_histories.proofs.ReadBack.{logs_go_on}
use Rattle.cam_histories.proofs.UndecidedPlaces.{before_all, placed_within, undecided_node}

-- The step is the same for what was put as for what the run has of it.
module _ (objects : List ObjectDecl) (t : List Event) (input : Input) (mail : Option Mail)
    (load : Load) (put : IsPut objects t input mail load)
  where
    abbrev pub s : ℕ
    s = node_of t input

    abbrev pub h : List Received
    h = history_of objects t s

    abbrev pub was : Received
    was = whole_step objects s h input mail load

    abbrev pub is : Received
    is = step_in objects t input

    pub same : was.event ≡ is.event
    same = λ i. node_step objects s (map as_carried h) input (put.is_mail i) (put.as_good.order i)

    pub carried : as_carried was ≡ as_carried is
    carried = λ i. record {
      event = same i;
      mail = put.is_mail i;
      brought = put.as_good.order i;
    }

    pub halted_in_run : (taken : ℕ → Bool) (node : Node) (event : Event)
        → IsRunTaking objects taken t → MayCome objects t input → node.number ≡ s
        → IsHaltedAt objects h was node event → IsHaltedAt objects h is node event
    halted_in_run taken node event run may number halted = record {
      through = halted.through;
      step = record {
        input = input;
        may =
            subst (λ n. MayBePut objects n (held_sight objects n (map as_carried h) nothing) input
            is.mail is.load) (sym number)
            (halted_inputs_may_be_put objects taken t input run may);
        is_next =
            ap (λ n. node_step objects n (map as_carried h) input is.mail
            (told_in_order is.load.know)) (sym number);
      };
      goes_on =
          ap (λ (e : Event). list_any (is_crash node.number) e.deeds) (sym same)
          ∙ halted.goes_on;
      count = halted.count;
      before = halted.before;
      know = halted.know ∙ ap (λ (c : Carried). held objects (c ∷ map as_carried h)) carried;
      knows = halted.knows;
      is_taken = halted.is_taken ∙ ap taken_of same;
    }

    pub log_in_run : (logged : Logged)
        → IsLogOf objects s (taken was ∷ h) logged → IsLogOf objects s (taken is ∷ h) logged
    log_in_run logged keeps =
        subst (λ c. IsLogOf objects s (c ∷ h) logged)
        (λ i. received_with (taken_of (same i)) (put.is_mail i) is.load)
        (logs_go_on objects s h (taken_of was.event) mail load is.load logged put.as_good keeps)

pub new_halts_are_undecided : NewHaltsAreUndecided
new_halts_are_undecided objects taken t input mail load node event run may put number halted =
    record {
      halted = now;
      is_undecided = now.is_taken;
      adds =
          ap (λ before. received_behind objects before (undecided_in objects t input).event)
          (sym (before_all (length t) t (omega arith)));
    }
  where
    now : IsHaltedAt objects (history_of objects t (node_of t input)) (step_in objects t input)
        node event
    now = halted_in_run objects t input mail load put taken node event run may number halted

pub new_halts_keep_logs : NewHaltsKeepLogs
new_halts_keep_logs objects t input mail load logged put (inl keeps) = inl keeps
new_halts_keep_logs objects t input mail load logged put (inr keeps) =
    inr (log_in_run objects t input mail load put logged keeps)

-- what is undecided of a node
pub undecided_are_halts : UndecidedAreHalts
undecided_are_halts script st s u under is = record {
  node = undecided_node s st.undecided u is;
  halted = elim (cases_Bool (has_number st.halted s)) [
    | inl asleep ↦ asleep
    | inr awake ↦ absurd (not_some (sym (under.decided s awake) ∙ is))
  ];
  within = placed_within (length st.running.trace) s st.undecided u under.placed is;
}
  where
    not_some : None ≡ Some u → ⊥
    not_some e = cc
