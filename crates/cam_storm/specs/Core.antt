-- What a core of a storm keeps: a node with its bodies, so that it is the replay of its history;
-- and what it has to do with an item.
use Rattle.std.specs.Prelude.{◌≡◌, ◌⊎◌, ℕ, ◌≤◌, nat_le, nat_lt, Bool, true, false, ◌&&◌, ◌||◌, if◌then◌else◌, List, ◌∷◌, map, length, reverse, Option, Some, None, is_none}
use Rattle.std.specs.List.{list_any}
use Rattle.cam_names.specs.declared.name.Name.{Name}
use Rattle.cam_names.specs.Names.{name_lt}
use Rattle.cam_event.specs.declared.LetterId.{LetterId}
use Rattle.cam_event.specs.declared.Want.{Want}
use Rattle.cam_event.specs.declared.ViewStep.{ViewStep}
use Rattle.cam_event.specs.History.{created}
use Rattle.cam_event.specs.Inputs.{Input, Begins, Requests, Receives, Restarts}
use Rattle.cam_event.specs.Carried.{deeds_of}
use Rattle.cam_event.specs.ByDeltas.{Received, as_carried}
use Rattle.cam_tranman.specs.Actions.{MayRunHere}
use Rattle.cam_node.specs.Represents.{Node, Represents}
use Rattle.cam_runs.specs.Playing.{is_stop_of}
use Rattle.cam_journal.specs.declared.entry.SentLetter.{SentLetter as Taken}
use Rattle.cam_journal.specs.Taking.{received_of, letter_in}
use Rattle.cam_journal.specs.declared.input.CoreInput.{CoreInput}
use Rattle.cam_journal.specs.declared.input.CoreInput.TheVariants.{Letter, Drive}
use Rattle.cam_gen.specs.Storms.{Words, objects_of, tops_of, restarts_at}
use Rattle.cam_storm.specs.Events.{Copied}
use Rattle.cam_storm.specs.Events.{Stepped}
use Rattle.cam_storm.specs.Runs.{received}
use Rattle.cam_storm.specs.Own.{event_in, own_sent, own_view, OwnRequest}
use Rattle.cam_storm.specs.Lawful.{SeatHistory, names, carried, own_history, step_at, AreCopied, IsStormHistory}

-- a node with what its bodies go by
pub record Cell : Type 0 where
  pub node : Node
  -- it takes no further step
  pub is_halted : Bool
  -- how many events it has made, and how many letters it has sent
  pub events : ℕ
  pub sent : ℕ
  -- the view of an action that it runs, and whether one was stopped
  pub view : Name → List ViewStep
  pub is_stopped : Name → Bool
  -- the least-named action with a request
  pub next_drive : Option Name
  -- how often it has received a letter
  pub received : LetterId → ℕ

-- The action with a request whose name is least; none where no action has one.
abbrev pub IsLeastDrive : Words → ℕ → List Received → Option Name → Type 0
IsLeastDrive words s own None = (a : Name) (want : Want) → OwnRequest words s own a want → ⊥
IsLeastDrive words s own (Some a) =
    ((want : Want) × OwnRequest words s own a want)
    × ((b : Name) (want : Want) → OwnRequest words s own b want → name_lt b a ≡ false)

-- what a core keeps answers as its own history does
pub record Keeps (words : Words) (s : ℕ) (own : List Received) (cell : Cell) : Type 0 where
  pub node : Represents (objects_of words) own cell.node
  pub events : cell.events ≡ length own
  pub sent : cell.sent ≡ own_sent own
  pub views :
      (a : Name) → MayRunHere (deeds_of (map as_carried own)) s a
      → created (deeds_of (map as_carried own)) a ≡ true → cell.view a ≡ own_view own a
  pub stops :
      (a : Name) → MayRunHere (deeds_of (map as_carried own)) s a
      → cell.is_stopped a ≡ list_any (is_stop_of a) (map event_in own)
  pub drive : IsLeastDrive words s own cell.next_drive
  pub received : (letter : LetterId) → cell.received letter ≡ received (map event_in own) letter

-- Whether the core is the replay of a node's history: a history of the storm, which what it keeps
-- answers for, unless it is halted.
pub record IsReplay (words : Words) (cell : Cell) (s : ℕ) (history : SeatHistory) : Type 0 where
  pub number : cell.node.number ≡ s
  pub here : (1 ≤ s) × (s ≤ 4)
  pub lawful : IsStormHistory words s (reverse history)
  pub keeps : (cell.is_halted ≡ true) ⊎ Keeps words s (own_history history) cell

-- It has nothing to do with any item where it is halted; with `Drive`, where its top actions were
-- created and no action has a request; with a letter, where it has received the letter as often as
-- its copies.
abbrev pub is_idle : Words → Cell → CoreInput Copied → Bool
is_idle words cell (Letter number place c) =
    cell.is_halted || nat_le c.copies (cell.received (record { event = number; place = place }))
is_idle words cell Drive =
    cell.is_halted
    || (nat_le (tops_of words cell.node.number) cell.events && is_none cell.next_drive)

-- What it does with `Drive` else: a top action is created; or it restarts, in place of the step
-- that it would make; or the least-named action makes its request.
pub record MakesRequest (words : Words) (s : ℕ) (own : List Received) (input : Input) : Type 0 where
  pub action : Name
  pub want : Want
  pub least : IsLeastDrive words s own (Some action)
  pub request : OwnRequest words s own action want
  pub is : input ≡ Requests (record { action = action; want = want })

abbrev pub IsDriven : Bool → Bool → Words → ℕ → List Received → Input → Type 0
IsDriven true restarts words s own input = input ≡ Begins s
IsDriven false true words s own input = input ≡ Restarts s
IsDriven false false words s own input = MakesRequest words s own input

-- And with a letter: a top action is created in its place while one is left, or it restarts in its
-- place, or the letter is received.
abbrev pub IsAnswer : Words → ℕ → List Received → CoreInput Copied → Input → Type 0
IsAnswer words s own (Letter number place c) input =
    input
    ≡ (if nat_lt (length own) (tops_of words s) then Begins s
    else if restarts_at words (length own) then Restarts s
    else Receives (record { event = number; place = place }))
IsAnswer words s own Drive input =
    IsDriven (nat_lt (length own) (tops_of words s)) (restarts_at words (length own))
    words s own input

-- An event that answers an item: the step of the node for it, with its letters. A letter that the
-- event does not name is not received.
abbrev pub used_by : Stepped → CoreInput Copied → Option (Taken Copied)
used_by e item = received_of (names e) (letter_in item)

pub record Answers (words : Words) (s : ℕ) (history : SeatHistory)
    (item : CoreInput Copied) (e : Stepped) : Type 0 where
  pub input : Input
  pub is_answer : IsAnswer words s (own_history history) item input
  pub is_next : e.event ≡ step_at words s (own_history history) input (used_by e item)
  pub letters :
      AreCopied words s (carried e (used_by e item) ∷ own_history history)
      (own_sent (own_history history)) e.event.sent e.letters
