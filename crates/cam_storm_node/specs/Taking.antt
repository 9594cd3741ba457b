-- The step that the node of a storm node takes for an item.
use Rattle.std.specs.Prelude.{◌≡◌, ℕ, ◌<◌, ◌≤◌, ℤ, List, ◌∷◌, length, map, Option, None, option_map, IfSome}
use Rattle.cam_type.specs.declared.ObjectDecl.{ObjectDecl}
use Rattle.cam_event.specs.declared.Event.{Event}
use Rattle.cam_event.specs.declared.Letter.{Letter as EventLetter}
use Rattle.cam_event.specs.declared.Request.{Request}
use Rattle.cam_event.specs.Inputs.{Input, Restarts}
use Rattle.cam_event.specs.ByKnowledge.{node_step}
use Rattle.cam_event.specs.ByDeltas.{Received, as_carried}
use Rattle.cam_event.specs.Loads.{no_load}
use Rattle.cam_event.specs.Runs.{IsNode}
use Rattle.cam_know.specs.Known.{nothing}
use Rattle.cam_know.specs.Order.{told_in_order}
use Rattle.cam_node.specs.declared.Input.{Input as Put}
use Rattle.cam_node.specs.Calls.{input_of, letters_of, load_of, mail_of}
use Rattle.cam_node.specs.Keeping.{KeepsNode}
use Rattle.cam_node.specs.Lawful.{IsLawful, IsLetter}
use Rattle.cam_node.specs.MayStep.{MayStep}
use Rattle.cam_node.specs.Refused.{IsNotRefused}
use Rattle.cam_node.specs.Represents.{Node}
use Rattle.cam_journal.specs.declared.entry.SentLetter.{SentLetter as Taken}
use Rattle.cam_journal.specs.declared.input.CoreInput.{CoreInput}
use Rattle.cam_journal.specs.Taking.{letter_in, received_of}
use Rattle.cam_gen.specs.Storms.{Words, objects_of, tops_of}
use Rattle.cam_storm.specs.Events.{Copied}
use Rattle.cam_storm.specs.Lawful.{goes_to, letter_load, letter_mail, load_in, mail_in, named, step_at}
use Rattle.cam_storm.specs.Own.{finish_value}
use Rattle.cam_storm.specs.Core.{IsAnswer, IsLeastDrive}
use Rattle.cam_storm_node.specs.Playing.{StormNodeFields, IsNextRequest}

-- what is known of an item that a storm node takes a step with: a letter goes to its node
abbrev pub IsItem : ℕ → CoreInput Copied → Type 0
IsItem s item = IfSome (letter_in item) (λ sent. goes_to sent.letter ≡ s)

-- A step that its node took for an item, after the node's own history: the answer to the item, the
-- event with its letters, and the node and its log after it.
pub record HasTaken (words : Words) (s : ℕ) (own : List Received) (item : CoreInput Copied)
    (event : Event) (letters : List EventLetter) (finish : Option ℤ) (node : Node)
    (entries : List (List ℕ)) : Type 0 where
  pub input : Input
  pub is_answer : IsAnswer words s own item input
  -- what the event received
  pub from : Option (Taken Copied)
  pub is_from : from ≡ received_of (named event.got) (letter_in item)
  pub is_next : event ≡ step_at words s own input from
  pub finish_is : finish_value (mail_in from) ≡ finish
  pub number : node.number ≡ s
  pub stands :
      KeepsNode (objects_of words)
      (record { event = event; mail = mail_in from; load = load_in from } ∷ own) node entries
  pub letters_are : letters ≡ letters_of node event.sent

-- what its node answers for, and the events that it has counted
pub record MayTake (words : Words) (s : ℕ) (own : List Received) (storm_node : StormNodeFields)
    : Type 0 where
  pub words_are : storm_node.storm ≡ words
  pub tops : storm_node.tops ≡ tops_of words s
  pub number : storm_node.node.number ≡ s
  pub events : storm_node.events ≡ length own
  pub objects : storm_node.objects ≡ objects_of words
  pub node : KeepsNode (objects_of words) own storm_node.node storm_node.entries
  pub drive : IsLeastDrive words s own (option_map (λ (r : Request). r.action) storm_node.next)
  pub next : IsNextRequest words s own storm_node.next

-- the letter of an item may be handed to the node
abbrev pub MayReceive : Words → ℕ → Option (Taken Copied) → Type 0
MayReceive words s received =
    IfSome received (λ sent. IsNode sent.letter.letter.from
    × IsLetter (objects_of words) s (letter_mail sent.letter.letter)
    (letter_load sent.letter.letter))

-- A storm node may take a step with an item: its node answers for a lawful history with room for
-- one more event, and a letter may be handed to it.
pub record CanTake (words : Words) (item : CoreInput Copied) (storm_node : StormNodeFields)
    : Type 0 where
  pub node : ℕ
  pub own : List Received
  pub may : MayTake words node own storm_node
  pub few : words.actions ≤ 64
  pub lawful : IsLawful (objects_of words) node own
  pub room : length own < 500000000
  pub letter : MayReceive words node (letter_in item)

-- an input is not refused, and the node has numbers left for it
abbrev pub IsAllowed : Node → Put → Type 0
IsAllowed node input = IsNotRefused node input × MayStep node input

-- The node took a step for an input: the event is the definition's, its letters are those that the
-- rule sends, and the node and its log go on with it.
pub record HasPut (objects : List ObjectDecl) (own : List Received) (input : Put) (old : Node)
    (event : Event) (letters : List EventLetter) (finish : Option ℤ) (node : Node)
    (entries : List (List ℕ)) : Type 0 where
  pub is_next :
      event
      ≡ node_step objects old.number (map as_carried own) (input_of old.number input)
      (mail_of input) (told_in_order (load_of input).know)
  pub stands :
      KeepsNode objects
      (record { event = event; mail = mail_of input; load = load_of input } ∷ own) node entries
  pub letters_are : letters ≡ letters_of node event.sent
  pub finish_is : finish ≡ finish_value (mail_of input)

-- the node restarted
pub record HasRestarted (objects : List ObjectDecl) (own : List Received) (old : Node)
    (event : Event) (letters : List EventLetter) (finish : Option ℤ) (node : Node)
    (entries : List (List ℕ)) : Type 0 where
  pub is_next :
      event ≡ node_step objects old.number (map as_carried own) (Restarts old.number) None nothing
  pub stands :
      KeepsNode objects (record { event = event; mail = None; load = no_load } ∷ own) node entries
  pub letters_are : letters ≡ letters_of node event.sent
  pub finish_is : finish ≡ None

-- only its node and its log may have changed, and the node runs
pub record OnlyNode (old new : StormNodeFields) : Type 0 where
  pub storm : new.storm ≡ old.storm
  pub objects : new.objects ≡ old.objects
  pub lost : new.lost ≡ old.lost
  pub events : new.events ≡ old.events
  pub tops : new.tops ≡ old.tops
  pub copies : new.copies ≡ old.copies
  pub works : new.works ≡ old.works
  pub next : new.next ≡ old.next
  pub receipts : new.receipts ≡ old.receipts
  pub number : new.node.number ≡ old.node.number
