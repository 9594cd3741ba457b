-- A trace into which an event is put, at a place before its newest events.
--
-- The events after the place have numbers greater by one then, and so have the letters that they
-- sent. An event that received such a letter names it by its new number. Nothing else in an event
-- is the number of an event, so all else of each event stays what it was.
--
-- This is what a restart makes of a halt: where the log has the entry of the event at which the
-- node halted, the event was made at its place, though nobody learnt of it.
use Rattle.std.specs.Prelude.{◌≡◌, ℕ, ◌+◌, nat_lt, if◌then◌else◌, List, [], ◌∷◌, ◌++◌, map, length}
use Rattle.std.specs.Prelude.{Option, Some, None, option_map}
use Rattle.std.specs.List.{AllByRecursion}
use Rattle.cam_type.specs.declared.ObjectDecl.{ObjectDecl}
use Rattle.cam_event.specs.declared.Event.{Event}
use Rattle.cam_event.specs.declared.LetterId.{LetterId}
use Rattle.cam_event.specs.Inputs.{Input, Begins, Requests, Receives, Tells, Queries, Restarts}
use Rattle.cam_event.specs.Inputs.{letter_at, node_of}
use Rattle.cam_event.specs.Readings.{by_knowledge}
use Rattle.cam_event.specs.ByDeltas.{Received}
use Rattle.cam_event.specs.Refusals.{refusal, query_refusal}
use Rattle.cam_event.specs.declared.Want.{Want}
use Rattle.cam_names.specs.declared.name.Name.{Name}
use Rattle.cam_histories.specs.Laws.{history_of}

-- the number that an event has then, the letter that it sent, and what names such a letter
abbrev pub moved : ℕ → ℕ → ℕ
moved place number = if nat_lt number place then number else number + 1

abbrev pub moved_letter : ℕ → LetterId → LetterId
moved_letter place letter = record letter { event = moved place letter.event }

abbrev pub moved_event : ℕ → Event → Event
moved_event place e = record e { got = option_map (moved_letter place) e.got }

abbrev pub moved_input : ℕ → Input → Input
moved_input place (Begins s) = Begins s
moved_input place (Requests request) = Requests request
moved_input place (Receives letter) = Receives (moved_letter place letter)
moved_input place (Tells s to) = Tells s to
moved_input place (Queries s f) = Queries s f
moved_input place (Restarts s) = Restarts s

-- the trace with the event put in after the events `before`
abbrev pub put_in : List Event → Event → List Event → List Event
put_in behind e before = map (moved_event (length before)) behind ++ e ∷ before

-- Nobody learns of an event that sent no letter while its node does nothing more.
pub record IsUnseen (s : ℕ) (behind : List Event) (e : Event) : Type 0 where
  pub at : e.node ≡ s
  pub mute : e.sent ≡ []
  pub others : AllByRecursion (λ (b : Event). b.node ≡ s → ⊥) behind

-- a history but for the numbers of the letters that came
abbrev pub unnumbered : Option LetterId → Option LetterId
unnumbered None = None
unnumbered (Some letter) = Some (record { event = 0; place = 0 })

abbrev pub nameless : Received → Received
nameless c = record c { event = record c.event { got = unnumbered c.event.got } }

-- The letters of the trace are those that it had, under their new numbers,
abbrev pub LettersAreMoved : Type 0
LettersAreMoved =
    (s : ℕ) (behind before : List Event) (e : Event) (letter : LetterId) → IsUnseen s behind e
    → letter_at (put_in behind e before) (moved_letter (length before) letter)
    ≡ letter_at (behind ++ before) letter

-- and carry the same;
abbrev pub LoadsAreMoved : Type 0
LoadsAreMoved =
    (objects : List ObjectDecl) (s : ℕ) (behind before : List Event) (e : Event) (letter : LetterId)
    → IsUnseen s behind e
    → (by_knowledge objects).carried (put_in behind e before) (moved_letter (length before) letter)
    ≡ (by_knowledge objects).carried (behind ++ before) letter

-- the other nodes have the same histories but for those numbers;
abbrev pub HistoriesAreMoved : Type 0
HistoriesAreMoved =
    (objects : List ObjectDecl) (s m : ℕ) (behind before : List Event) (e : Event)
    → IsUnseen s behind e → (s ≡ m → ⊥)
    → map nameless (history_of objects (put_in behind e before) m)
    ≡ map nameless (history_of objects (behind ++ before) m)

-- they refuse the same,
abbrev pub RefusalsStay : Type 0
RefusalsStay =
    (objects : List ObjectDecl) (s m : ℕ) (behind before : List Event) (e : Event) (a : Name)
    (want : Want) → IsUnseen s behind e → (s ≡ m → ⊥)
    → refusal ((by_knowledge objects).sight (put_in behind e before) m) a want
    ≡ refusal ((by_knowledge objects).sight (behind ++ before) m) a want

abbrev pub QueryRefusalsStay : Type 0
QueryRefusalsStay =
    (objects : List ObjectDecl) (s m : ℕ) (behind before : List Event) (e : Event) (f : Name)
    → IsUnseen s behind e → (s ≡ m → ⊥)
    → query_refusal ((by_knowledge objects).sight (put_in behind e before) m) f
    ≡ query_refusal ((by_knowledge objects).sight (behind ++ before) m) f

-- and each of their inputs makes the same event, where a letter has its new number.
abbrev pub EventsAreMoved : Type 0
EventsAreMoved =
    (objects : List ObjectDecl) (s : ℕ) (behind before : List Event) (e : Event) (input : Input)
    → IsUnseen s behind e → (s ≡ node_of (behind ++ before) input → ⊥)
    → (by_knowledge objects).next (put_in behind e before) (moved_input (length before) input)
    ≡ moved_event (length before) ((by_knowledge objects).next (behind ++ before) input)
