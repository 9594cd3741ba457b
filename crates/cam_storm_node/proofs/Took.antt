-- The step that a node took for an input of its own, or for a letter, is what it took for the item.
use Rattle.std.proofs.Common.{◌≡◌, ℕ, ℤ, List, ◌∷◌, map}
use Rattle.std.proofs.Common.{Option, Some, None, sym, ap, ◌∙◌}
use Rattle.cam_event.specs.declared.Event.{Event}
use Rattle.cam_event.specs.declared.Letter.{Letter as EventLetter}
use Rattle.cam_event.specs.declared.LetterId.{LetterId}
use Rattle.cam_event.specs.Inputs.{Input, Receives, got_of}
use Rattle.cam_event.specs.ByKnowledge.{node_step}
use Rattle.cam_event.specs.ByDeltas.{Received, as_carried}
use Rattle.cam_event.specs.Loads.{no_load}
use Rattle.cam_know.specs.Order.{told_in_order}
use Rattle.cam_node.specs.Calls.{letters_of}
use Rattle.cam_node.specs.Keeping.{KeepsNode}
use Rattle.cam_node.specs.Represents.{Node}
use Rattle.cam_journal.specs.declared.input.CoreInput.{CoreInput}
use Rattle.cam_journal.specs.declared.input.CoreInput.TheVariants.{Letter}
use Rattle.cam_journal.specs.Taking.{letter_in, received_of}
use Rattle.cam_gen.specs.Storms.{Words, objects_of}
use Rattle.cam_storm.specs.Events.{Copied}
use Rattle.cam_storm.specs.Lawful.{letter_load, letter_mail, named}
use Rattle.cam_storm.specs.Own.{finish_value}
use Rattle.cam_storm.specs.Core.{IsAnswer}
use Rattle.cam_storm_node.specs.Taking.{HasTaken}

module _ (words : Words) (s : ℕ) (own : List Received) (item : CoreInput Copied) (event : Event)
    (letters : List EventLetter) (node : Node) (entries : List (List ℕ)) (number : node.number ≡ s)
    (letters_are : letters ≡ letters_of node event.sent) where
  -- for an input of its own
  pub own_taken : (input : Input) (finish : Option ℤ) → IsAnswer words s own item input
      → got_of input ≡ None
      → event
      ≡ node_step (objects_of words) s (map as_carried own) input None (told_in_order no_load.know)
      → finish ≡ None
      → KeepsNode (objects_of words) (record { event = event; mail = None; load = no_load } ∷ own)
      node entries
      → HasTaken words s own item event letters finish node entries
  own_taken input finish answers alone is none stands = record {
    input = input;
    is_answer = answers;
    from = None;
    is_from =
        sym (ap (λ (g : Option LetterId). received_of (named g) (letter_in item))
        (ap (λ (e : Event). e.got) is ∙ alone));
    is_next = is;
    finish_is = sym none;
    number = number;
    stands = stands;
    letters_are = letters_are;
  }

  -- for a letter
  pub letter_taken : (k place : ℕ) (c : Copied) (finish : Option ℤ) → item ≡ Letter k place c
      → IsAnswer words s own item (Receives (record { event = k; place = place }))
      → event
      ≡ node_step (objects_of words) s (map as_carried own)
      (Receives (record { event = k; place = place })) (Some (letter_mail c.letter))
      (told_in_order c.letter.know)
      → finish ≡ finish_value (Some (letter_mail c.letter))
      → KeepsNode (objects_of words)
      (record {
        event = event;
        mail = Some (letter_mail c.letter);
        load = letter_load c.letter;
      } ∷ own) node entries
      → HasTaken words s own item event letters finish node entries
  letter_taken k place c finish at answers is value stands = record {
    input = Receives (record { event = k; place = place });
    is_answer = answers;
    from = Some (record { number = k; place = place; letter = c });
    is_from =
        sym (ap (λ (g : Option LetterId). received_of (named g) (letter_in item))
        (ap (λ (e : Event). e.got) is) ∙ ap letter_in at);
    is_next = is;
    finish_is = sym value;
    number = number;
    stands = stands;
    letters_are = letters_are;
  }
