-- Which event of a node is lawful in a storm: after the node's own history, with a letter that it
-- received, or none.
--
-- A history is that of the journal: each entry is an event with its letters, and the letter that it
-- received. A letter is told by the number of the event that sent it and its place; it has what it
-- carries and its copies with it.
use Rattle.std.specs.Prelude.{◌≡◌, ℕ, ◌+◌, ◌<◌, ◌≤◌, nat_lt, List, [], ◌∷◌, map, length, reverse, Option, Some, None}
use Rattle.cam_know.specs.Order.{told_in_order}
use Rattle.cam_event.specs.declared.Event.{Event}
use Rattle.cam_event.specs.declared.Letter.{Letter}
use Rattle.cam_event.specs.declared.LetterId.{LetterId}
use Rattle.cam_event.specs.declared.Sent.{Sent}
use Rattle.cam_event.specs.History.{count}
use Rattle.cam_event.specs.Inputs.{Input, Begins, Requests, Receives, Tells, Queries, Restarts, Mail}
use Rattle.cam_event.specs.Loads.{Load, no_load}
use Rattle.cam_event.specs.ByKnowledge.{node_step}
use Rattle.cam_event.specs.Carried.{deeds_of}
use Rattle.cam_event.specs.ByDeltas.{Received, as_carried, load_for}
use Rattle.cam_node.specs.Lawful.{MayBePut}
use Rattle.cam_journal.specs.declared.entry.NumberedEvent.{NumberedEvent}
use Rattle.cam_journal.specs.declared.entry.SentLetter.{SentLetter as Taken}
use Rattle.cam_gen.specs.Storms.{Words, objects_of, tops_of, copies_of, restarts_at}
use Rattle.cam_storm.specs.Events.{Copied}
use Rattle.cam_storm.specs.Events.{Stepped}
use Rattle.cam_storm.specs.Runs.{received, is_begin, is_restart}
use Rattle.cam_storm.specs.Names.{IsOfStorm}
use Rattle.cam_storm.specs.Own.{event_in, own_sent, sight_at, OwnDrives}

-- the history of a seat of the journal: its events, each with its letters and what it received
abbrev pub SeatHistory : Type 0
SeatHistory = List (NumberedEvent Stepped Copied)

-- which letter an event received, by number and place
abbrev pub named : Option LetterId → Option (ℕ × ℕ)
named None = None
named (Some letter) = Some (letter.event, letter.place)

abbrev pub names : Stepped → Option (ℕ × ℕ)
names e = named e.event.got

-- the letters that it sends, in order of their places
abbrev pub sends : Stepped → List Copied
sends e = e.letters

-- where a letter goes, and how often it comes
abbrev pub goes_to : Copied → ℕ
goes_to c = c.letter.to

abbrev pub copied : Copied → ℕ
copied c = c.copies

-- what a letter says, from which node and to which
abbrev pub letter_mail : Letter → Mail
letter_mail letter = record { from = letter.from; to = letter.to; body = letter.body }

-- the letter that an event received
abbrev pub mail_in : Option (Taken Copied) → Option Mail
mail_in None = None
mail_in (Some sent) = Some (letter_mail sent.letter.letter)

-- what it carries; a node's own inputs bring nothing
abbrev pub letter_load : Letter → Load
letter_load letter = record { have = letter.have; place = letter.place; know = letter.know }

abbrev pub load_in : Option (Taken Copied) → Load
load_in None = no_load
load_in (Some sent) = letter_load sent.letter.letter

-- an event of a node with the letter that it received and what that letter carried
abbrev pub carried : Stepped → Option (Taken Copied) → Received
carried e received = record { event = e.event; mail = mail_in received; load = load_in received }

abbrev pub carried_in : NumberedEvent Stepped Copied → Received
carried_in entry = carried entry.event entry.received

-- the history of a seat, the newest event first
abbrev pub own_history : SeatHistory → List Received
own_history history = map carried_in (reverse history)

-- A letter as it is sent: by this node at its count, with what its receiver has not acknowledged
-- then, and with the copies that it draws.
pub record IsCopied (words : Words) (s : ℕ) (history : List Received) (number : ℕ)
    (sent : Sent) (c : Copied) : Type 0 where
  pub from : c.letter.from ≡ s
  pub count : c.letter.count ≡ count (deeds_of (map as_carried history)) s
  pub to : c.letter.to ≡ sent.to
  pub body : c.letter.body ≡ sent.body
  pub load : letter_load c.letter ≡ load_for (objects_of words) s history sent.to
  pub copies : c.copies ≡ copies_of words s number

-- the letters of an event, in order, from this number among the letters of the node
abbrev pub AreCopied : Words → ℕ → List Received → ℕ → List Sent → List Copied → Type 0
AreCopied words s history number [] [] = Unit {0}
AreCopied words s history number (sent ∷ more) (c ∷ cs) =
    IsCopied words s history number sent c × AreCopied words s history (number + 1) more cs
AreCopied words s history number [] (c ∷ cs) = ⊥
AreCopied words s history number (sent ∷ more) [] = ⊥

-- the letter came less often so far than it has copies
abbrev pub IsLeft : ℕ → Option (Taken Copied) → Type 0
IsLeft times None = ⊥
IsLeft times (Some sent) = times < sent.letter.copies

abbrev pub ComesFrom : Words → Option Mail → Type 0
ComesFrom words None = Unit {0}
ComesFrom words (Some mail) = IsOfStorm words mail.from mail.body

-- What a storm puts to a node: a letter of the storm no more often than its copies, and of an
-- action's requests the one that it has.
abbrev pub IsPut : Words → ℕ → List Received → Option (Taken Copied) → Input → Type 0
IsPut words s history taken (Begins m) = Unit {0}
IsPut words s history taken (Requests r) = OwnDrives words s history r.action r.want
IsPut words s history taken (Receives letter) =
    IsLeft (received (map event_in history) letter) taken × ComesFrom words (mail_in taken)
IsPut words s history taken (Tells m to) = ⊥
IsPut words s history taken (Queries m f) = ⊥
IsPut words s history taken (Restarts m) = Unit {0}

-- the step of a node after its history, for an input with the letter that it hands over
abbrev pub step_at : Words → ℕ → List Received → Input → Option (Taken Copied) → Event
step_at words s history input taken =
    node_step (objects_of words) s (map as_carried history) input (mail_in taken)
    (told_in_order (load_in taken).know)

-- An event that may come next at a node after its history, with a letter that it received, or none.
pub record IsStormStep (words : Words) (s : ℕ) (history : List Received)
    (taken : Option (Taken Copied)) (e : Stepped) : Type 0 where
  pub input : Input
  -- the node is one of the four
  pub here : (1 ≤ s) × (s ≤ 4)
  -- it may be put to a node that holds this
  pub may :
      MayBePut (objects_of words) s (sight_at words s history) input (mail_in taken) (load_in taken)
  -- and a storm puts it
  pub so : IsPut words s history taken input
  -- the node's top actions come first, and are created nowhere else
  pub tops_first : is_begin input ≡ nat_lt (length history) (tops_of words s)
  -- it restarts in the places of its restarts, and nowhere else
  pub restarts : is_restart input ≡ restarts_at words (length history)
  -- the event is the step by what the node holds and the letter carries
  pub is_next : e.event ≡ step_at words s history input taken
  -- its letters
  pub letters :
      AreCopied words s (carried e taken ∷ history) (own_sent history) e.event.sent e.letters

-- a history each of whose events may come next after those before it, the newest first
abbrev pub IsStormHistory : Words → ℕ → SeatHistory → Type 0
IsStormHistory words s [] = Unit {0}
IsStormHistory words s (entry ∷ before) =
    IsStormStep words s (map carried_in before) entry.received entry.event
    × IsStormHistory words s before

-- Lawful, for the journal: the history is one of a storm, and the event may come next.
abbrev pub lawful :
    Words → ℕ → SeatHistory → Option (Taken Copied) → Stepped → Type 0
lawful words s history taken e =
    IsStormHistory words s (reverse history) × IsStormStep words s (own_history history) taken e
