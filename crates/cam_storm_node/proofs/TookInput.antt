-- What a node did for an input is what it took for the item, and its letter came few times before.
use Rattle.std.proofs.Common.{◌≡◌, ℕ, ℤ, ◌<◌, ◌≤◌, Bool, true, false, if◌then◌else◌, List, map, length}
use Rattle.std.proofs.Common.{Option, Some, None, refl, sym, ap, ◌∙◌, subst}
use Rattle.std.specs.Prelude.{nat_lt}
use Rattle.cam_event.specs.declared.Event.{Event}
use Rattle.cam_event.specs.declared.Letter.{Letter as EventLetter}
use Rattle.cam_event.specs.declared.Request.{Request}
use Rattle.cam_type.specs.declared.ObjectDecl.{ObjectDecl}
use Rattle.cam_know.specs.Known.{nothing}
use Rattle.cam_event.specs.Inputs.{Input, Begins, Requests, Receives, Restarts, got_of}
use Rattle.cam_event.specs.ByKnowledge.{node_step}
use Rattle.cam_event.specs.ByDeltas.{Received, as_carried}
use Rattle.cam_event.specs.Loads.{no_load}
use Rattle.cam_know.specs.Order.{told_in_order}
use Rattle.cam_node.specs.declared.Input.{Input as Put}
use Rattle.cam_node.specs.declared.Input.TheVariants as puts
use Rattle.cam_node.specs.Represents.{Node}
use Rattle.cam_journal.specs.declared.input.CoreInput.{CoreInput}
use Rattle.cam_journal.specs.declared.input.CoreInput.TheVariants.{Letter, Drive}
use Rattle.cam_gen.specs.Storms.{Words, objects_of, tops_of, restarts_at}
use Rattle.cam_storm.specs.Events.{Copied}
use Rattle.cam_storm.specs.Lawful.{letter_mail}
use Rattle.cam_storm.specs.Own.{OwnRequest}
use Rattle.cam_storm.specs.Core.{IsAnswer, IsDriven, IsLeastDrive}
use Rattle.cam_storm_node.specs.declared.receipts.Receipts.{Receipts}
use Rattle.cam_storm_node.specs.Receipts.{times_in}
use Rattle.cam_storm_node.specs.Taking.{HasPut, HasRestarted, HasTaken}
use Rattle.cam_storm_node.specs.Following.{HasFewReceipts}
use Rattle.cam_storm_node.proofs.Took.{own_taken, letter_taken}
use Rattle.cam_storm_node.proofs.Answered.{begins_answer, letter_answer, request_answer, restart_answer}

-- what the node did for an input is what it took for the item
module _ (words : Words) (s : ℕ) (own : List Received) (objects : List ObjectDecl)
    (objects_are : objects ≡ objects_of words) (old : Node) (number : old.number ≡ s)
    (event : Event)
    (letters : List EventLetter) (finish : Option ℤ) (node : Node)
    (after : node.number ≡ old.number)
    (entries : List (List ℕ)) where
  of_storm : (input : Put) → HasPut objects own input old event letters finish node entries
      → HasPut (objects_of words) own input old event letters finish node entries
  of_storm input put =
      subst
      (λ (os : List ObjectDecl). HasPut os own input old event letters finish node entries)
      objects_are put

  pub begin_taken : (item : CoreInput Copied) → length own < tops_of words s
      → HasPut objects own puts.Begin old event letters finish node entries
      → HasTaken words s own item event letters finish node entries
  begin_taken item few put =
      let p = of_storm puts.Begin put in
      own_taken words s own item event letters node entries (after ∙ number) p.letters_are
      (Begins s)
      finish (begins_answer words s own item few) refl
      (p.is_next
      ∙ ap (λ (n : ℕ).
      node_step (objects_of words) n (map as_carried own) (Begins n) None
      (told_in_order no_load.know)) number) p.finish_is p.stands

  pub restart_taken : (item : CoreInput Copied) → tops_of words s ≤ length own
      → restarts_at words (length own) ≡ true
      → HasRestarted objects own old event letters finish node entries
      → HasTaken words s own item event letters finish node entries
  restart_taken item all due restarted =
      let p =
      subst
      (λ (os : List ObjectDecl). HasRestarted os own old event letters finish node entries)
      objects_are restarted in
      own_taken words s own item event letters node entries (after ∙ number) p.letters_are
      (Restarts s) finish (restart_answer words s own item all due) refl
      (p.is_next
      ∙ ap (λ (n : ℕ).
      node_step (objects_of words) n (map as_carried own) (Restarts n) None nothing) number)
      p.finish_is p.stands

  pub received_taken : (item : CoreInput Copied) (k place : ℕ) (c : Copied)
      → item ≡ Letter k place c
      → tops_of words s ≤ length own
      → restarts_at words (length own) ≡ false
      → HasPut objects own (puts.Letter (record { event = k; place = place }) c.letter) old event
      letters finish node entries
      → HasTaken words s own item event letters finish node entries
  received_taken item k place c at all none put =
      let p = of_storm (puts.Letter (record { event = k; place = place }) c.letter) put in
      letter_taken words s own item event letters node entries (after ∙ number) p.letters_are k
      place c
      finish at
      (subst
      (λ (i : CoreInput Copied).
      IsAnswer words s own i (Receives (record { event = k; place = place }))) (sym at)
      (letter_answer words s own k place c all none))
      (p.is_next
      ∙ ap (λ (n : ℕ).
      node_step (objects_of words) n (map as_carried own)
      (Receives (record { event = k; place = place })) (Some (letter_mail c.letter))
      (told_in_order c.letter.know)) number) p.finish_is p.stands

  pub request_taken : (item : CoreInput Copied) (r : Request) → item ≡ Drive
      → tops_of words s ≤ length own
      → restarts_at words (length own) ≡ false → IsLeastDrive words s own (Some r.action)
      → OwnRequest words s own r.action r.want
      → HasPut objects own (puts.Request r) old event letters finish node entries
      → HasTaken words s own item event letters finish node entries
  request_taken item r at all none least request put =
      let p = of_storm (puts.Request r) put in
      own_taken words s own item event letters node entries (after ∙ number) p.letters_are
      (Requests r)
      finish
      (subst (λ (i : CoreInput Copied). IsAnswer words s own i (Requests r)) (sym at)
      (request_answer words s own r all none least request)) refl
      (p.is_next
      ∙ ap (λ (n : ℕ).
      node_step (objects_of words) n (map as_carried own) (Requests r) None
      (told_in_order no_load.know)) number) p.finish_is p.stands

-- The letter that an event received came fewer times before than a number of times can be, where
-- the letter of the item did.
pub few_taken : (words : Words) (s : ℕ) (own : List Received) (item : CoreInput Copied)
    (event : Event) (letters : List EventLetter) (finish : Option ℤ) (node : Node)
    (entries : List (List ℕ)) (receipts : Receipts)
    → HasTaken words s own item event letters finish node entries
    → ((k place : ℕ) (c : Copied) → item ≡ Letter k place c → times_in receipts k place < 255)
    → HasFewReceipts receipts event.got
few_taken words s own item event letters finish node entries receipts took few =
    subst (HasFewReceipts receipts)
    (sym (ap (λ (e : Event). e.got) took.is_next))
    (by_item item took.input took.is_answer few)
  where
    by_test : (k place : ℕ) (begins restarts : Bool) → times_in receipts k place < 255
        → HasFewReceipts receipts
        (got_of (if begins then Begins s
        else if restarts then Restarts s
        else Receives (record { event = k; place = place })))
    by_test k place true restarts small = tt
    by_test k place false true small = tt
    by_test k place false false small = small

    by_drive : (begins restarts : Bool) (input : Input) → IsDriven begins restarts words s own input
        → HasFewReceipts receipts (got_of input)
    by_drive true restarts input is = subst (λ i. HasFewReceipts receipts (got_of i)) (sym is) tt
    by_drive false true input is = subst (λ i. HasFewReceipts receipts (got_of i)) (sym is) tt
    by_drive false false input makes =
        subst (λ i. HasFewReceipts receipts (got_of i)) (sym makes.is) tt

    by_item : (given : CoreInput Copied) (input : Input) → IsAnswer words s own given input
        → ((k place : ℕ) (c : Copied) → given ≡ Letter k place c
        → times_in receipts k place < 255)
        → HasFewReceipts receipts (got_of input)
    by_item (Letter k place c) input answers small =
        subst (λ i. HasFewReceipts receipts (got_of i)) (sym answers)
        (by_test k place (nat_lt (length own) (tops_of words s)) (restarts_at words (length own))
        (small k place c refl))
    by_item Drive input answers small =
        by_drive (nat_lt (length own) (tops_of words s)) (restarts_at words (length own)) input
        answers
