-- What is gathered from the seats of a journal.
use Rattle.std.specs.Prelude.{◌≡◌, ◌≢◌, ◌<◌, ◌≤◌, ℕ, All, Contains, List, [], ◌∷◌, map, length, drop, Option, Some, None}
use Rattle.cam_journal.specs.declared.entry.RunStep.{RunStep}
use Rattle.cam_journal.specs.declared.view.SeatView.{SeatView}
use Rattle.cam_journal.specs.declared.view.SeatView.TheVariants.{Whole}
use Rattle.cam_journal.specs.Trace.{EventLaw, history_from, history_of, numbered_from, IsRun}
use Rattle.cam_journal.specs.Rule.{IsNode}
use Rattle.cam_journal.specs.Seats.{Opened, Sitting, numbered}

-- no number stands twice
abbrev pub IsApart : List ℕ → Type 0
IsApart [] = Unit {0}
IsApart (node ∷ nodes) = All (λ other. other ≢ node) nodes × IsApart nodes

module _ {E L : Type 0} where
  -- The seats are those of the journal: as many as it has nodes, one for each, in whatever order.
  pub record AreSeats (journal : Opened) (seats : List (Sitting E L)) : Type 0 where
    pub count : length seats ≡ journal.nodes
    pub own : All (λ seat. seat.journal ≡ journal.id) seats
    pub apart : IsApart (map (λ seat. seat.node) seats)
    pub each : (node : ℕ) → IsNode journal.nodes node → Contains (map (λ seat. seat.node) seats) node

  -- The events are those of one lawful run of these nodes, each under its place in the run, and the history of each seat is that of
  -- its node in that run.
  pub record AreGathered (names : E → Option (ℕ × ℕ)) (sends : E → List L) (lawful : EventLaw E L) (nodes : ℕ) (seats : List (Sitting E L))
      (events : List (ℕ × E)) : Type 0 where
    pub trace : List (RunStep E L)
    pub run : IsRun names sends lawful trace
    pub nodes_only : All (λ step. IsNode nodes step.node) trace
    pub events_are : events ≡ numbered_from 0 trace
    pub histories : All (λ seat. seat.history ≡ history_of seat.node trace) seats

  -- the run that a view knows
  abbrev pub trace_in : SeatView E L → List (RunStep E L)
  trace_in (Whole gathered trace) = trace
  trace_in _ = []

  -- the numbers and events of each of these nodes, in steps that are numbered from here on
  abbrev pub lists_from : ℕ → List (RunStep E L) → List ℕ → List (List (ℕ × E))
  lists_from next steps nodes = map (λ node. map numbered (history_from node next steps)) nodes

  -- the lists are what is left of a run from this number on, by nodes
  abbrev pub IsLeft : ℕ → List (List (ℕ × E)) → SeatView E L → Type 0
  IsLeft next lists (Whole gathered trace) =
      (next ≤ length trace)
      × (length trace < 18446744073709551616)
      × (lists ≡ lists_from next (drop next trace) (map (λ held. held.node) gathered))
      × IsApart (map (λ held. held.node) gathered)
      × All (λ step. Contains (map (λ held. held.node) gathered) step.node) trace
  IsLeft next lists _ = ⊥

-- the number of the first event
abbrev pub front_of : {E : Type 0} → List (ℕ × E) → Option ℕ
front_of [] = None
front_of (first ∷ rest) = Some first.0
