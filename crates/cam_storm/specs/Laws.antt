-- What holds of the run that is gathered from the seats of a storm.
use Rattle.std.specs.Prelude.{◌≡◌, ◌≤◌, ℕ, All, true, false, List, [], ◌∷◌, map, length, reverse, Option, Some, None, is_some, IfSome, slice_get}
use Rattle.cam_names.specs.declared.name.Name.{Name}
use Rattle.cam_names.specs.Names.{home_node}
use Rattle.cam_event.specs.declared.Event.{Event}
use Rattle.cam_event.specs.declared.LetterId.{LetterId}
use Rattle.cam_event.specs.declared.Want.{Want}
use Rattle.cam_event.specs.Inputs.{Input, Mail, letter_at, got_of}
use Rattle.cam_event.specs.ByDeltas.{next_by_deltas}
use Rattle.cam_event.specs.Refusals.{refusal}
use Rattle.cam_event.specs.ByPast.{sight}
use Rattle.cam_event.specs.Runs.{IsWant, IsRun}
use Rattle.cam_event.specs.Agreement.{IsSent}
use Rattle.cam_type.specs.declared.ObjectDecl.{ObjectDecl}
use Rattle.cam_node.specs.Lawful.{IsLetter, IsLawful}
use Rattle.cam_journal.specs.declared.entry.NumberedEvent.{NumberedEvent}
use Rattle.cam_journal.specs.declared.entry.SentLetter.{SentLetter as Taken}
use Rattle.cam_journal.specs.declared.input.CoreInput.{CoreInput}
use Rattle.cam_journal.specs.declared.input.CoreInput.TheVariants.{Letter, Drive}
use Rattle.cam_journal.specs.Taking.{letter_in, IsNext, IsFromLawful}
use Rattle.cam_journal.specs.Seats.{Opened, Sitting}
use Rattle.cam_journal.specs.Gathered.{AreSeats, AreGathered}
use Rattle.cam_gen.specs.Storms.{Words, objects_of, tops_of}
use Rattle.cam_storm.specs.Events.{Copied}
use Rattle.cam_storm.specs.Events.{Stepped}
use Rattle.cam_storm.specs.Runs.{received, copies, Drives, StormRun, Settled}
use Rattle.cam_storm.specs.Names.{IsOfStorm, Near}
use Rattle.cam_storm.specs.Own.{event_in, OwnRequest}
use Rattle.cam_storm.specs.Lawful.{SeatHistory, names, sends, goes_to, letter_mail, letter_load, IsStormHistory, lawful, own_history}
use Rattle.cam_storm.specs.Core.{Cell, IsReplay, is_idle, IsAnswer, Answers}

-- the seats of the nodes, and what is gathered from them: the events with their numbers
abbrev pub Seats : Type 0
Seats = List (Sitting Stepped Copied)

abbrev pub Gathered : Type 0
Gathered = List (ℕ × Stepped)

-- the events that were gathered, the newest first
abbrev pub events_of : Gathered → List Event
events_of gathered = reverse (map (λ p. p.1.event) gathered)

-- By knowledge: each event is the step of its node after that node's own history; a letter that it
-- received was sent by an earlier event, and brings what its receiver had not acknowledged.
pub record IsHeldNext (objects : List ObjectDecl) (t : List Event) (e : Event) : Type 0 where
  pub input : Input
  pub sent : IsSent t (got_of input)
  pub is_next : e ≡ next_by_deltas objects t input

abbrev pub IsHeldRun : List ObjectDecl → List Event → Type 0
IsHeldRun objects [] = Unit {0}
IsHeldRun objects (e ∷ t) = IsHeldNext objects t e × IsHeldRun objects t

-- the events of four seats, each of whose events is lawful after its own history and the letter
-- that it received
abbrev pub IsGathered : Words → Seats → Gathered → Type 0
IsGathered words seats gathered = AreGathered names sends (lawful words) 4 seats gathered

-- What is gathered is a run by knowledge,
abbrev pub GatheredByKnowledge : Type 0
GatheredByKnowledge =
    (words : Words) (seats : Seats) (gathered : Gathered)
    → IsGathered words seats gathered → IsHeldRun (objects_of words) (events_of gathered)

-- and a run of the storm, by the pasts of its events.
abbrev pub GatheredAreStorms : Type 0
GatheredAreStorms =
    (words : Words) (seats : Seats) (gathered : Gathered)
    → IsGathered words seats gathered → StormRun words (events_of gathered)

-- A run of a storm is a run: so all that holds of runs holds of it.
abbrev pub StormsAreRuns : Type 0
StormsAreRuns = (words : Words) (t : List Event) → StormRun words t → IsRun (objects_of words) t

-- In a run of a storm each request that an action has is not refused, and in range.
abbrev pub RequestsMayCome : Type 0
RequestsMayCome =
    (words : Words) (t : List Event) (a : Name) (want : Want) → StormRun words t → 1 ≤ home_node a
    → Drives words t a want
    → (refusal (sight (objects_of words) t (home_node a) None) a want ≡ None)
    × IsWant (objects_of words) want

-- A letter of a lawful event may be handed to the node to which it goes, which is one of the four:
-- it is for that node, knows each count on which it or one of its commits depends, and speaks of the
-- storm's actions and nodes alone.
abbrev pub LettersMayCome : Type 0
LettersMayCome =
    (words : Words) (s : ℕ) (history : SeatHistory) (taken : Option (Taken Copied))
    (e : Stepped) (place : ℕ) (c : Copied)
    → lawful words s history taken e
    → slice_get (sends e) place ≡ Some c
    → IsLetter (objects_of words) (goes_to c) (letter_mail c.letter) (letter_load c.letter)
    × Near (goes_to c)
    × IsOfStorm words c.letter.from c.letter.body

-- In a run of a storm each letter goes to one of the four nodes.
abbrev pub LettersStayInside : Type 0
LettersStayInside =
    (words : Words) (t : List Event) (letter : LetterId) (mail : Mail) → StormRun words t
    → letter_at t letter ≡ Some mail → (1 ≤ mail.to) × (mail.to ≤ 4)

-- In a run of a storm each letter was received no more often than its copies.
abbrev pub CopiesBoundReceipts : Type 0
CopiesBoundReceipts =
    (words : Words) (t : List Event) (letter : LetterId) → StormRun words t
    → is_some (letter_at t letter) ≡ true → received t letter ≤ copies words t letter

-- Nothing is left to do in these histories: each node has created its top actions, none of its
-- actions has a request, and each letter came as often as it has copies at the node to which it
-- goes.
pub record NothingLeft (words : Words) (seats : Seats) : Type 0 where
  pub started : All (λ seat. tops_of words seat.node ≤ length seat.history) seats
  pub quiet :
      All (λ seat. (a : Name) (want : Want)
      → OwnRequest words seat.node (own_history seat.history) a want → ⊥) seats
  pub delivered :
      All (λ seat. All (λ other.
      (at place : ℕ) (entry : NumberedEvent Stepped Copied) (c : Copied)
      → slice_get seat.history at ≡ Some entry → slice_get entry.event.letters place ≡ Some c
      → c.letter.to ≡ other.node
      → c.copies
      ≤ received (map event_in (own_history other.history))
      (record { event = entry.number; place = place })) seats) seats

-- Then what is gathered is settled.
abbrev pub GatheredAreSettled : Type 0
GatheredAreSettled =
    (words : Words) (journal : Opened) (seats : Seats)
    (gathered : Gathered)
    → journal.nodes ≡ 4 → AreSeats journal seats → IsGathered words seats gathered
    → NothingLeft words seats → Settled words (events_of gathered)

-- A history of a storm is one that a node may have: so the laws of nodes hold of a core that keeps
-- it.
abbrev pub HistoriesAreLawful : Type 0
HistoriesAreLawful =
    (words : Words) (s : ℕ) (history : SeatHistory)
    → IsStormHistory words s (reverse history) → IsLawful (objects_of words) s (own_history history)

-- Where a core that is not halted has nothing to do with `Drive`, its node has created its top
-- actions, and none of its actions has a request.
abbrev pub IdleIsQuiet : Type 0
IdleIsQuiet =
    (words : Words) (cell : Cell) (s : ℕ) (history : SeatHistory)
    → IsReplay words cell s history → cell.is_halted ≡ false → is_idle words cell Drive ≡ true
    → (tops_of words s ≤ length history)
    × ((a : Name) (want : Want) → OwnRequest words s (own_history history) a want → ⊥)

-- Where it has nothing to do with a letter, the letter came as often as it has copies.
abbrev pub IdleHasReceived : Type 0
IdleHasReceived =
    (words : Words) (cell : Cell) (s : ℕ) (history : SeatHistory) (number place : ℕ)
    (c : Copied)
    → IsReplay words cell s history → cell.is_halted ≡ false
    → is_idle words cell (Letter number place c) ≡ true
    → c.copies
    ≤ received (map event_in (own_history history)) (record { event = number; place = place })

-- Where the core has something to do with an item, an event that answers the item may come next; a
-- letter is one that a lawful event sent to the node. A storm has 64 top actions at most.
abbrev pub AnswersAreLawful : Type 0
AnswersAreLawful =
    (words : Words) (cell : Cell) (s : ℕ) (history : SeatHistory)
    (item : CoreInput Copied) (e : Stepped)
    → words.actions ≤ 64
    → IsReplay words cell s history → cell.is_halted ≡ false → is_idle words cell item ≡ false
    → IfSome (letter_in item) (λ sent.
    (goes_to sent.letter ≡ s) × IsFromLawful sends (lawful words) sent)
    → Answers words s history item e
    → IsNext names (lawful words) s history (letter_in item) e

-- Where the core has something to do with an item, there is an answer to it.
abbrev pub BusyHasAnswer : Type 0
BusyHasAnswer =
    (words : Words) (cell : Cell) (s : ℕ) (history : SeatHistory)
    (item : CoreInput Copied)
    → IsReplay words cell s history → cell.is_halted ≡ false → is_idle words cell item ≡ false
    → (input : Input) × IsAnswer words s (own_history history) item input
