-- From one step of a core, recorded, to a turn of what is left.
use Rattle.std.proofs.Common.{◌≡◌, ℕ, ◌+◌, Bool, List, [], ◌∷◌, Option, refl, ◌∙◌, subst}
use Rattle.std.specs.Prelude.{Result, Ok, Err}
use Rattle.atomic_table.specs.Seated.{TableId}
use Rattle.cam_journal.specs.declared.entry.NumberedEvent.{NumberedEvent}
use Rattle.cam_journal.specs.declared.input.CoreInput.{CoreInput}
use Rattle.cam_journal.specs.Seats.{Mention}
use Rattle.cam_journal.specs.Taking.{AnswerLaw}
use Rattle.cam_journal.specs.Trace.{EventLaw}
use Rattle.cam_hall.specs.declared.advance.Advance.{Advance}
use Rattle.cam_hall.specs.declared.advance.Advance.TheVariants.{Made, Nothing, Full}
use Rattle.cam_hall.specs.declared.item.ItemOf.{ItemOf}
use Rattle.cam_hall.specs.declared.turned.HallFault.{HallFault}
use Rattle.cam_hall.specs.declared.turned.HallFault.TheVariants.{DiskFault, NoMemory}
use Rattle.cam_hall.specs.Notes.{all_notes}
use Rattle.cam_hall.specs.Advances.{HistoryThen, ended, without_notes}
use Rattle.cam_hall.specs.Turns.{Outcome, Ends, HistoryAfter, core_input, outcome_of}
use Rattle.cam_hall.specs.Ending.{Left, IsLeft, IsItem, IsStepAt, IsTaken, IsWhole}

same_outcome : (N : Type 0) (answer : Result Advance HallFault)
    → ended answer ≡ outcome_of {N = N} (without_notes answer)
same_outcome N (Ok (Made number letters)) = refl
same_outcome N (Ok Nothing) = refl
same_outcome N (Ok Full) = refl
same_outcome N (Err DiskFault) = refl
same_outcome N (Err NoMemory) = refl

is_whole : (L : Type 0) (answer : Result Advance HallFault) → IsWhole {L = L} (without_notes answer)
is_whole L (Ok (Made number letters)) = refl
is_whole L (Ok Nothing) = tt
is_whole L (Ok Full) = tt
is_whole L (Err fault) = tt

module _ {L : Type 0} (goes_to : L → ℕ) (journal : TableId) where
  -- letters that are not copied have no notes
  no_notes : (number place : ℕ) (letters : List L)
      → [] ≡ all_notes goes_to (λ letter. 0) journal number place letters
  no_notes number place [] = refl
  no_notes number place (letter ∷ letters) = no_notes number (place + 1) letters

module _ {E L : Type 0} (names : E → Option (ℕ × ℕ)) (sends : E → List L) (goes_to : L → ℕ)
    (lawful : EventLaw E L) (answers : AnswerLaw E L) where
  history_after : (journal : TableId) (node : ℕ) (old new : List (NumberedEvent E L))
      (item : ItemOf (Mention L)) (answer : Result Advance HallFault)
      → HistoryThen names sends lawful answers node old new item answer
      → HistoryAfter names sends goes_to (λ letter. 0) lawful answers journal node old new item
      (without_notes answer)
  history_after journal node old new item (Ok (Made number letters)) step = record {
    event = step.event;
    more = step.more;
    noted = no_notes goes_to journal number 0 (sends step.event);
  }
  history_after journal node old new item (Ok Nothing) same = same
  history_after journal node old new item (Ok Full) same = same
  history_after journal node old new item (Err fault) same = same

  -- a step at the place of a node is a turn of the node
  pub taken : {S : Type 0} (is_replay : S → ℕ → List (NumberedEvent E L) → Type 0) (faults : S → ℕ)
      (is_idle : S → CoreInput L → Bool) (node at : ℕ) (old new : Left S E L)
      (letter : Option (ℕ × ℕ)) (item : ItemOf (Mention L)) (answer : Result Advance HallFault)
      → at + 1 ≡ node → IsLeft is_replay old
      → IsItem sends goes_to old.journal.id old.seats node letter item
      → IsStepAt faults names sends lawful answers is_idle at old new item answer
      → IsTaken faults names sends goes_to lawful answers is_idle node old new letter
      (without_notes answer)
  taken is_replay faults is_idle node at old new letter item answer place left is_item step =
      let numbered = (left.each at step.before step.moved.stood).number ∙ place in
      record {
        at = at;
        place = place;
        before = step.before;
        after = step.after;
        moved = step.moved;
        item = item;
        is_item = is_item;
        turn = record {
          history =
              history_after old.journal.id node step.before.seat.history
              step.after.seat.history item answer
              (subst
              (λ (n : ℕ).
              HistoryThen names sends lawful answers n step.before.seat.history
              step.after.seat.history item answer)
              numbered step.step.history);
          ends =
              subst
              (λ (outcome : Outcome).
              Ends faults is_idle step.before step.after (core_input item) outcome)
              (same_outcome (Mention L) answer) step.step.ends;
        };
        whole = is_whole L answer;
      }
