-- Which lists of steps are runs of several nodes. A step's number is its place in the run, from 0.
use Rattle.std.specs.Prelude.{◌≡◌, ℕ, ◌+◌, ◌==◌, if◌then◌else◌, List, [], ◌∷◌, take, Option, Some, None, IfSome, slice_get}
use Rattle.cam_journal.specs.declared.entry.SentLetter.{SentLetter}
use Rattle.cam_journal.specs.declared.entry.NumberedEvent.{NumberedEvent}
use Rattle.cam_journal.specs.declared.entry.RunStep.{RunStep}

-- which events are lawful for a node, after its history and a letter that it received, or none
abbrev pub EventLaw : Type 0 → Type 0 → Type 1
EventLaw E L = ℕ → List (NumberedEvent E L) → Option (SentLetter L) → E → Type 0

-- An event names the letter that it received, by number and place, or names none and received none.
abbrev pub Receives : {L : Type 0} → Option (ℕ × ℕ) → Option (SentLetter L) → Type 0
Receives None None = Unit {0}
Receives None (Some sent) = ⊥
Receives (Some name) None = ⊥
Receives (Some name) (Some sent) = (name.0 ≡ sent.number) × (name.1 ≡ sent.place)

module _ {E L : Type 0} where
  -- a step of a node, under its number, as an entry of that node's history
  abbrev pub entry_of : ℕ → RunStep E L → NumberedEvent E L
  entry_of number step = record { number = number; event = step.event; received = step.received }

  -- the history of a node in steps that are numbered from here on
  abbrev pub history_from : ℕ → ℕ → List (RunStep E L) → List (NumberedEvent E L)
  history_from node number [] = []
  history_from node number (step ∷ steps) =
      if step.node == node then entry_of number step ∷ history_from node (number + 1) steps else history_from node (number + 1) steps

  -- the history of a node in a run
  abbrev pub history_of : ℕ → List (RunStep E L) → List (NumberedEvent E L)
  history_of node trace = history_from node 0 trace

  -- the numbers and events of steps that are numbered from here on
  abbrev pub numbered_from : ℕ → List (RunStep E L) → List (ℕ × E)
  numbered_from number [] = []
  numbered_from number (step ∷ steps) = (number, step.event) ∷ numbered_from (number + 1) steps

  -- The letter was sent at its place by the event that has its number.
  pub record IsSent (sends : E → List L) (trace : List (RunStep E L)) (sent : SentLetter L) : Type 0 where
    pub sender : RunStep E L
    pub event : slice_get trace sent.number ≡ Some sender
    pub letter : slice_get (sends sender.event) sent.place ≡ Some sent.letter

  -- A step is lawful after the run before it. The letter that it received was sent in that run, so under a smaller number.
  pub record IsLawful (names : E → Option (ℕ × ℕ)) (sends : E → List L) (lawful : EventLaw E L) (before : List (RunStep E L))
      (step : RunStep E L) : Type 0 where
    pub named : Receives (names step.event) step.received
    pub sent : IfSome step.received (IsSent sends before)
    pub allowed : lawful step.node (history_of step.node before) step.received step.event

  -- Each step is lawful after those before it.
  abbrev pub IsRun : (E → Option (ℕ × ℕ)) → (E → List L) → EventLaw E L → List (RunStep E L) → Type 0
  IsRun names sends lawful trace =
      (number : ℕ) (step : RunStep E L) → slice_get trace number ≡ Some step → IsLawful names sends lawful (take number trace) step
