-- The event that comes next at one node, if letters carry what their receivers have not acknowledged. What a node does with what a
-- letter brings is the same as ever; only what letters carry differs.
use Rattle.std.specs.Prelude.{ℕ, min, max, eqb, Bool, false, not, ◌&&◌, if◌then◌else◌, List, [], ◌∷◌, map, length, Option, Some, None}
use Rattle.std.specs.List.{list_any}
use Rattle.cam_type.specs.declared.ObjectDecl.{ObjectDecl}
use Rattle.cam_know.specs.Knowledge.{Knowledge}
use Rattle.cam_know.specs.Known.{nothing, after_place}
use Rattle.cam_know.specs.Order.{told_in_order}
use Rattle.cam_event.specs.declared.LetterId.{LetterId}
use Rattle.cam_event.specs.declared.Event.{Event}
use Rattle.cam_event.specs.History.{is_crash}
use Rattle.cam_event.specs.Inputs.{Input, Mail, letter_at, mail_got, node_of, got_of}
use Rattle.cam_event.specs.Sights.{Sight}
use Rattle.cam_event.specs.ByKnowledge.{held, held_sight, node_step}
use Rattle.cam_event.specs.Carried.{Carried}
use Rattle.cam_event.specs.Loads.{Load, no_load, with_load, PlacesFields, each_node}

-- an event of a node, with the letter that it received and what that letter carried
pub record Received : Type 0 where
  pub event : Event
  pub mail : Option Mail
  pub load : Load

-- the event with the knowledge that the letter brought, in the order in which it is learnt
abbrev pub as_carried : Received → Carried
as_carried c = record { event = c.event; mail = c.mail; brought = told_in_order c.load.know }

-- What a node knows, its outcomes in the order in which it learnt them: those of each letter in the order in which the event has its first
-- Informs, then its own decisions. It outlives restarts.
abbrev pub known : List ObjectDecl → List Received → Knowledge
known objects history = held objects (map as_carried history)

abbrev pub is_from : ℕ → Option Mail → Bool
is_from r None = false
is_from r (Some mail) = eqb r mail.from

-- the event received a letter of that other node
abbrev pub came_from : ℕ → Received → Bool
came_from r c = not (eqb c.event.node r) && is_from r c.mail

-- the event is a crash of its node
abbrev pub crashed : Event → Bool
crashed e = list_any (is_crash e.node) e.deeds

-- How many outcomes of another node's list the node has: the greatest place of that node's letters since the last crash.
abbrev pub have_of : List Received → ℕ → ℕ
have_of [] r = 0
have_of (c ∷ before) r =
    if crashed c.event then 0 else if came_from r c then max (have_of before r) c.load.place
    else have_of before r

-- How many outcomes of the node's list another node has acknowledged: the most that its letters since the last crash have said, but of
-- each no more than the list had with the letter's news.
abbrev pub acked_of : List ObjectDecl → List Received → ℕ → ℕ
acked_of objects [] r = 0
acked_of objects (c ∷ before) r =
    if crashed c.event then 0
    else if came_from r c
    then max (acked_of objects before r)
    (min c.load.have (length (with_load (known objects before) c.load).outcomes))
    else acked_of objects before r

-- What a letter carries that the node s sends after its history to the node r. To itself a node sends only its counts.
abbrev pub load_for : List ObjectDecl → ℕ → List Received → ℕ → Load
load_for objects s history r =
    if eqb s r
    then record {
      have = 0;
      place = 0;
      know
          = record { outcomes = []; counts = (known objects history).counts };
    }
    else
    record {
      have = have_of history r;
      place = length (known objects history).outcomes;
      know = after_place (acked_of objects history r) (known objects history);
    }

-- a whole run so: of the events of all nodes, the newest first, those of one node, and those up to a number
abbrev pub of_node : List Received → ℕ → List Received
of_node [] s = []
of_node (c ∷ before) s = if eqb c.event.node s then c ∷ of_node before s else of_node before s

abbrev pub up_to : List Received → ℕ → List Received
up_to [] i = []
up_to (c ∷ before) i = if eqb i (length before) then c ∷ before else up_to before i

-- what a letter carries: by its sender's history up to the event that sent it
abbrev pub load_by : List ObjectDecl → List Received → Option LetterId → Option Mail → Load
load_by objects all (Some letter) (Some mail) =
    load_for objects mail.from (of_node (up_to all letter.event) mail.from) mail.to
load_by objects all _ _ = no_load

-- The events of a trace, each with the letter that it received and what that letter carried.
abbrev pub received : List ObjectDecl → List Received → Event → Option Mail → Received
received objects all e mail =
    record { event = e; mail = mail; load = load_by objects all e.got mail }

abbrev pub received_of : List ObjectDecl → List Event → List Received
received_of objects [] = []
received_of objects (e ∷ before) =
    received objects (received_of objects before) e (mail_got before e.got)
    ∷ received_of objects before

-- the event of an input: the step of its node after that node's own history
abbrev pub step_after : List ObjectDecl → List Received → Input → ℕ → Option Mail → Event
step_after objects all input s mail =
    node_step objects s (map as_carried (of_node all s)) input mail
    (told_in_order (load_by objects all (got_of input) mail).know)

abbrev pub next_by_deltas : List ObjectDecl → List Event → Input → Event
next_by_deltas objects t input =
    step_after objects (received_of objects t) input (node_of t input) (mail_got t (got_of input))

-- what a node goes by when an action or a line asks something of it
abbrev pub sight_by_deltas : List ObjectDecl → List Event → ℕ → Sight
sight_by_deltas objects t s =
    held_sight objects s (map as_carried (of_node (received_of objects t) s)) nothing

-- what a letter of the trace carries
abbrev pub load_at : List ObjectDecl → List Event → LetterId → Load
load_at objects t letter =
    load_by objects (received_of objects t) (Some letter) (letter_at t letter)

-- what a node has noted, for each of the eight nodes
abbrev pub places_of : List ObjectDecl → List Received → PlacesFields
places_of objects history =
    record {
      have = map (have_of history) each_node;
      acked = map (acked_of objects history) each_node;
    }
