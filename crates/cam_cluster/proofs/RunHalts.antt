-- A node halts in a step for an input of a run: what its log may have is what the run has yet to
-- decide on.
use Rattle.std.proofs.Common.{◌≡◌, ℕ, ◌<◌, Bool, true, List, ◌∷◌, length}
use Rattle.std.proofs.Common.{Option, Some, None, refl, sym, ap, subst}
use Rattle.std.specs.Prelude.{is_some, option_and_then, option_map, slice_get}
use Rattle.std.proofs.lemmas.Bool.{true≢false}
use Rattle.cam_type.specs.declared.ObjectDecl.{ObjectDecl}
use Rattle.cam_event.specs.declared.Event.{Event}
use Rattle.cam_event.specs.declared.LetterId.{LetterId}
use Rattle.cam_event.specs.Inputs.{Input, Mail, Begins, Requests, Receives, Tells, Queries}
use Rattle.cam_event.specs.Inputs.{Restarts}
use Rattle.cam_event.specs.Inputs.{event_at, got_of, letter_at, mail_of, node_of}
use Rattle.cam_event.proofs.Members.{event_below}
use Rattle.cam_event.specs.Loads.{Load}
use Rattle.cam_event.specs.ByDeltas.{Received}
use Rattle.cam_event.specs.Runs.{MayCome}
use Rattle.cam_event.specs.Taken.{IsRunTaking}
use Rattle.cam_node.specs.Found.{HaltsAt, IsHaltedAt, whole_step}
use Rattle.cam_node.specs.Halting.{taken_step}
use Rattle.cam_node.specs.Keeping.{IsHalt, IsLogOfEither, KeepsNode, MayBePutThen}
use Rattle.cam_node.specs.Log.{Logged}
use Rattle.cam_node.specs.Represents.{Node}
use Rattle.cam_runs.specs.Standing.{Undecided}
use Rattle.cam_histories.specs.Laws.{history_of}
use Rattle.cam_histories.specs.PutIn.{nameless}
use Rattle.cam_histories.specs.Stepping.{IsPut}
use Rattle.cam_histories.specs.Undecided.{IsNewHalt, step_in, undecided_in}
use Rattle.cam_histories.proofs.NewHalts.{new_halts_are_undecided, new_halts_keep_logs}
use Rattle.cam_histories.proofs.UndecidedBeside.{newest_own}
use Rattle.cam_cluster.specs.Works.{IsHaltOf, IsSentBefore, NodeFields}

-- a letter that may come was sent
pub letter_within : (t : List Event) (id : LetterId) → is_some (letter_at t id) ≡ true
    → id.event < length t
letter_within t id some = by (event_at t id.event) refl some
  where
    by : (o : Option Event) → event_at t id.event ≡ o
        → is_some (option_and_then (λ (e : Event). option_map (mail_of e)
        (slice_get e.sent id.place)) o) ≡ true
        → id.event < length t
    by None is some = absurd (true≢false (sym some))
    by (Some e) is some = event_below _ _ _ is

pub sent_in : (objects : List ObjectDecl) (trace : List Event) (input : Input)
    → MayCome objects trace input → IsSentBefore (length trace) (got_of input)
sent_in objects trace (Begins s) may = tt
sent_in objects trace (Requests r) may = tt
sent_in objects trace (Receives letter) may = letter_within _ _ may
sent_in objects trace (Tells s to) may = tt
sent_in objects trace (Queries s f) may = tt
sent_in objects trace (Restarts s) may = tt

module _ (objects : List ObjectDecl) (taking : ℕ → Bool) (trace : List Event) (input : Input)
    (mail : Option Mail) (load : Load) (undecided : List Undecided) (old : Node)
    (new : NodeFields) (may_read : Logged → Type 0) (run : IsRunTaking objects taking trace)
    (may : MayCome objects trace input) (is_put : IsPut objects trace input mail load)
    (number : old.number ≡ node_of trace input)
    (number_now : new.site.node.number ≡ node_of trace input) where
  abbrev s : ℕ
  s = node_of trace input

  abbrev h : List Received
  h = history_of objects trace s

  pub halt_of_run : (entries : List (List ℕ)) → KeepsNode objects h old entries
      → MayBePutThen objects old.number h input mail load
      → IsHalt objects old entries input mail load may_read
      → HaltsAt objects old entries input mail load new.site.node new.halted_at
      → IsHaltOf objects trace (undecided_in objects trace input ∷ undecided) s new may_read
  halt_of_run entries keeps may_be halt halts_at = by new.halted_at refl halts_at
    where
      by : (o : Option Event) → new.halted_at ≡ o
          → HaltsAt objects old entries input mail load new.site.node o
          → IsHaltOf objects trace (undecided_in objects trace input ∷ undecided) s new may_read
      by None is none = absurd none
      by (Some event) is at =
          let put_so : IsNewHalt objects trace input new.site.node event =
          new_halts_are_undecided objects taking trace input mail load new.site.node event run may
          is_put number_now (subst (λ n. IsHaltedAt objects h (whole_step objects n h input mail
          load) new.site.node event) number (at h keeps may_be)) in record {
            whole = step_in objects trace input;
            event = event;
            kept = is;
            halted = put_so.halted;
            either = λ logged read. new_halts_keep_logs objects trace input mail load logged is_put
                (subst (λ n. IsLogOfEither objects n h (taken_step objects n h input mail load)
                logged) number (halt.either h logged keeps may_be read));
            halt = undecided_in objects trace input;
            newest = newest_own _ _ undecided refl;
            alike = ap nameless put_so.adds;
          }
