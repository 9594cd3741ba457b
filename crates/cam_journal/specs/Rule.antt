-- The rule of the table: one run, of which each seat knows a part.
use Rattle.std.specs.Prelude.{◌≡◌, ◌<◌, ◌≤◌, ◌+◌, ℕ, All, List, [], ◌∷◌, ◌++◌, length, Option, Some, None, IfSome, slice_get}
use mathlib.Core.Option.{some}
use lib.ListN.{get_elem?}
use Rattle.atomic_table.specs.Table.{State, Me}
use Rattle.cam_journal.specs.declared.entry.SentLetter.{SentLetter}
use Rattle.cam_journal.specs.declared.entry.NumberedEvent.{NumberedEvent}
use Rattle.cam_journal.specs.declared.entry.RunStep.{RunStep}
use Rattle.cam_journal.specs.declared.view.NodeHistory.{NodeHistory}
use Rattle.cam_journal.specs.declared.view.SeatView.{SeatView}
use Rattle.cam_journal.specs.declared.view.SeatView.TheVariants.{Maker, Node, Posted, Gatherer, Whole, Spent}
use Rattle.cam_journal.specs.Trace.{EventLaw, history_of, IsSent, IsRun}
use Rattle.cam_journal.specs.Taking.{left_of, entry, IsNext}

-- a node of a journal of so many nodes
abbrev pub IsNode : ℕ → ℕ → Type 0
IsNode nodes node = (0 < node) × (node ≤ nodes)

module _ {E L : Type 0} where
  -- what a seat knows is a part of the run, and each node has one seat
  abbrev pub Fits : (E → List L) → ℕ → List (RunStep E L) → (ℕ → ℕ) → ℕ → SeatView E L → Type 0
  Fits sends nodes trace seat id (Maker count next) =
      (count ≡ nodes) × ((node : ℕ) → next ≤ node → node ≤ nodes → (seat node ≡ id) × (history_of node trace ≡ []))
  Fits sends nodes trace seat id (Node node history taken) =
      IsNode nodes node × (seat node ≡ id) × (history ≡ history_of node trace) × IfSome taken (IsSent sends trace)
  Fits sends nodes trace seat id (Posted sent) = IsSent sends trace sent
  Fits sends nodes trace seat id (Gatherer count gathered) =
      (count ≡ nodes) × All (λ held. (seat held.node ≡ id) × (held.history ≡ history_of held.node trace)) gathered
  Fits sends nodes trace seat id (Whole gathered steps) = Unit {0}
  Fits sends nodes trace seat id Spent = Unit {0}

  -- The word is the number of steps of one lawful run, of which each seat knows a part.
  pub record IsKept (names : E → Option (ℕ × ℕ)) (sends : E → List L) (lawful : EventLaw E L) {S : Type 0} (nodes : ℕ)
      (state : State S (SeatView E L)) : Type 0 where
    pub trace : List (RunStep E L)
    pub seat : ℕ → ℕ
    pub few : nodes ≤ 8
    pub words : state.words ≡ length trace ∷ []
    pub run : IsRun names sends lawful trace
    pub nodes_only : All (λ step. IsNode nodes step.node) trace
    pub room : (node : ℕ) → length (history_of node trace) ≤ 500000000
    pub fits : (id : ℕ) (view : SeatView E L) → get_elem? state.views id ≡ some view → Fits sends nodes trace seat id view

  -- the first view: no node has a seat yet
  abbrev pub maker : ℕ → SeatView E L
  maker nodes = Maker nodes 1

  abbrev pub without_next : SeatView E L → SeatView E L
  without_next (Maker nodes next) = Maker nodes (next + 1)
  without_next (Node node history taken) = Node node history taken
  without_next (Posted sent) = Posted sent
  without_next (Gatherer nodes gathered) = Gatherer nodes gathered
  without_next (Whole gathered trace) = Whole gathered trace
  without_next Spent = Spent

  abbrev pub next_node : SeatView E L → SeatView E L
  next_node (Maker nodes next) = Node next [] None
  next_node _ = Spent

  -- the view of a node after an event under this number
  abbrev pub recorded : (E → Option (ℕ × ℕ)) → E → ℕ → SeatView E L → SeatView E L
  recorded names event number (Node node history taken) =
      Node node (history ++ entry names number taken event ∷ []) (left_of (names event) taken)
  recorded names event number (Maker nodes next) = Maker nodes next
  recorded names event number (Posted sent) = Posted sent
  recorded names event number (Gatherer nodes gathered) = Gatherer nodes gathered
  recorded names event number (Whole gathered trace) = Whole gathered trace
  recorded names event number Spent = Spent

  -- all events of a node have numbers below this one
  abbrev pub IsBelow : ℕ → SeatView E L → Type 0
  IsBelow number (Node node history taken) = All (λ entry. entry.number < number) history
  IsBelow number _ = Unit {0}

  -- a node recorded the event that was told under the number that was found, which is above its earlier ones
  abbrev pub Recorded : {S : Type 0} → (E → Option (ℕ × ℕ)) → Option E → ℕ → Me S (SeatView E L) → Me S (SeatView E L) → Type 0
  Recorded names told number me after = IfSome told (λ event. (after ≡ (recorded names event number me.0, me.1)) × IsBelow number me.0)

  -- a node with room may record an event
  abbrev pub CanRecord : (E → Option (ℕ × ℕ)) → EventLaw E L → SeatView E L → E → Type 0
  CanRecord names lawful (Node node history taken) event = IsNext names lawful node history taken event × (length history < 500000000)
  CanRecord names lawful _ event = ⊥

  -- The letter was sent by the event that it names, which stands in the history of this node.
  abbrev pub HasSent : (E → List L) → SeatView E L → SentLetter L → Type 0
  HasSent sends (Node node history taken) sent =
      (at : ℕ) × (entry : NumberedEvent E L) × (slice_get history at ≡ Some entry) × (entry.number ≡ sent.number)
      × (slice_get (sends entry.event) sent.place ≡ Some sent.letter)
  HasSent sends _ sent = ⊥

  -- a note of the letter that was told
  abbrev pub note_of : Option (SentLetter L) → SeatView E L
  note_of (Some sent) = Posted sent
  note_of None = Spent

  -- a node takes the letter of a note, in place of one that it took and has not used
  abbrev pub with_letter : SeatView E L → SeatView E L → SeatView E L
  with_letter (Node node history taken) (Posted sent) = Node node history (Some sent)
  with_letter view _ = view

  -- the seat that gathers, from the first view
  abbrev pub gatherer : SeatView E L → SeatView E L
  gatherer (Maker nodes next) = Gatherer nodes []
  gatherer _ = Spent

  abbrev pub StartsGathering : {S : Type 0} → Me S (SeatView E L) → Me S (SeatView E L) → Type 0
  StartsGathering me after = after.0 ≡ gatherer me.0

  -- a node with its history after those that were gathered
  abbrev pub with_history : SeatView E L → SeatView E L → SeatView E L
  with_history (Gatherer nodes gathered) (Node node history taken) =
      Gatherer nodes (gathered ++ record { node = node; history = history } ∷ [])
  with_history view _ = view

  -- the histories that were gathered are those of a lawful run of these nodes, with so many steps as the word says
  pub record IsWhole (names : E → Option (ℕ × ℕ)) (sends : E → List L) (lawful : EventLaw E L) (nodes : ℕ)
      (gathered : List (NodeHistory E L)) (trace : List (RunStep E L)) : Type 0 where
    pub run : IsRun names sends lawful trace
    pub nodes_only : All (λ step. IsNode nodes step.node) trace
    pub histories : All (λ held. held.history ≡ history_of held.node trace) gathered

  abbrev pub Knows : (E → Option (ℕ × ℕ)) → (E → List L) → EventLaw E L → ℕ → SeatView E L → SeatView E L → Type 0
  Knows names sends lawful word (Gatherer nodes gathered) (Whole same trace) =
      (same ≡ gathered) × (word ≡ length trace) × IsWhole names sends lawful nodes gathered trace
  Knows names sends lawful word (Gatherer nodes gathered) _ = ⊥
  Knows names sends lawful word _ _ = Unit {0}

  abbrev pub Learned : {S : Type 0} → (E → Option (ℕ × ℕ)) → (E → List L) → EventLaw E L → ℕ → Me S (SeatView E L) → Me S (SeatView E L)
      → Type 0
  Learned names sends lawful word me after = Knows names sends lawful word me.0 after.0
