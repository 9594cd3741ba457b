-- What a network of a run goes through: it begins empty; an event sends letters, which are put one
-- by one; a letter is lost or delivered; a node halts or goes on.
use Rattle.std.specs.Prelude.{◌≡◌, ◌≤◌, ◌<◌, ℕ, Bool, true, false, List, [], ◌∷◌, ◌++◌, length}
use Rattle.std.specs.Prelude.{take}
use Rattle.std.specs.List.{AllByRecursion}
use Rattle.std.specs.Option.{option_map}
use Rattle.cam_type.specs.declared.ObjectDecl.{ObjectDecl}
use Rattle.cam_event.specs.declared.Event.{Event}
use Rattle.cam_event.specs.declared.Letter.{Letter}
use Rattle.cam_event.specs.Readings.{by_knowledge}
use Rattle.cam_event.specs.Taken.{IsRunTaking}
use Rattle.cam_wire.specs.Laws.{IsSpelled}
use Rattle.cam_wire.specs.OfTrace.{spelling_of}
use Rattle.cam_wire.specs.OneSet.{HasOneSetEach}
use Rattle.cam_wire.specs.Spelling.{spelled}
use Rattle.cam_wire.specs.Writable.{IsWritable}
use Rattle.cam_net.specs.Letters.{InFlightFields, put_as, has_letter, whole_of, cut_of, changed}
use Rattle.cam_net.specs.Letters.{as_lost, as_delivered}
use Rattle.cam_net.specs.Outbox.{OutboxFields, HasPutSome}
use Rattle.cam_net.specs.Waiting.{is_halted}
use Rattle.cam_node.specs.Calls.{letters_of}
use Rattle.cam_node.specs.Represents.{Node, Represents}
use Rattle.cam_runs.specs.Running.{ids_from, has_number, letter_of as run_letter}
use Rattle.cam_runs.specs.Standing.{Standing, start}
use Rattle.cam_runs.specs.HaltedLines.{lose}
use Rattle.cam_histories.specs.Laws.{history_of}
use Rattle.cam_histories.specs.Flight.{AreSent, IsNetworkOf}

-- A network without a letter is that of the run before its first line, where no node is halted.
abbrev pub NewNetworkStands : Type 0
NewNetworkStands =
    (objects : List ObjectDecl) (halted : List Bool)
    → ((node : ℕ) → 1 ≤ node → node ≤ 8 → is_halted halted node ≡ false)
    → IsNetworkOf objects start [] [] halted

-- What a node hands out is what its event sent.
abbrev pub HandedOutAreSent : Type 0
HandedOutAreSent =
    (objects : List ObjectDecl) (taken : ℕ → Bool) (t : List Event) (e : Event) (node : Node)
    → IsRunTaking objects taken (e ∷ t) → node.number ≡ e.node
    → Represents objects (history_of objects (e ∷ t) e.node) node
    → AreSent objects (e ∷ t) (letters_of node e.sent) (ids_from (length t) 0 e.sent)

-- One more event: all of its letters are still to be put.
pub record HasEvent (e : Event) (old new : Standing) : Type 0 where
  pub trace : new.running.trace ≡ e ∷ old.running.trace
  pub lost : new.running.lost ≡ old.running.lost
  pub delivered : new.running.delivered ≡ old.running.delivered
  pub halted : new.halted ≡ old.halted

abbrev pub EventSends : Type 0
EventSends =
    (objects : List ObjectDecl) (taken : ℕ → Bool) (old new : Standing) (e : Event)
    (net : List InFlightFields)
    (sent : List Letter) (halted : List Bool)
    → IsRunTaking objects taken (e ∷ old.running.trace) → HasEvent e old new
    → AreSent objects (e ∷ old.running.trace) sent (ids_from (length old.running.trace) 0 e.sent)
    → IsNetworkOf objects old net [] halted → IsNetworkOf objects new net sent halted

-- A letter that is still to be put may be written, and has a spelling;
abbrev pub UnputMayBeWritten : Type 0
UnputMayBeWritten =
    (objects : List ObjectDecl) (taken : ℕ → Bool) (st : Standing) (net : List InFlightFields)
    (letter : Letter)
    (unput : List Letter) (halted : List Bool)
    → IsRunTaking objects taken st.running.trace → length objects ≤ 64
    → length st.running.trace < 1000000000
    → IsNetworkOf objects st net (letter ∷ unput) halted → IsWritable letter × HasOneSetEach letter

-- so it is put as its bytes.
abbrev pub PutStands : Type 0
PutStands =
    (objects : List ObjectDecl) (st : Standing) (net : List InFlightFields) (letter : Letter)
    (unput : List Letter)
    (halted : List Bool)
    → IsSpelled letter (spelled letter) → IsNetworkOf objects st net (letter ∷ unput) halted
    → IsNetworkOf objects st (net ++ put_as letter ∷ []) unput halted

-- A letter that the network has is lost.
abbrev pub LoseStands : Type 0
LoseStands =
    (objects : List ObjectDecl) (st : Standing) (net : List InFlightFields) (halted : List Bool)
    (number : ℕ)
    → has_letter net number ≡ true → IsNetworkOf objects st net [] halted
    → IsNetworkOf objects (lose st number) (changed as_lost net number) [] halted

-- A letter that was handed over counts as delivered.
abbrev pub has_delivered : ℕ → Standing → Standing
has_delivered number st = record st {
  running =
      record st.running { delivered = number ∷ st.running.delivered };
}

abbrev pub DeliveredStands : Type 0
DeliveredStands =
    (objects : List ObjectDecl) (st : Standing) (net : List InFlightFields) (unput : List Letter)
    (halted : List Bool)
    (number : ℕ) → 1 ≤ number → number ≤ length net → IsNetworkOf objects st net unput halted
    → IsNetworkOf objects (has_delivered number st) (changed as_delivered net number) unput halted

-- Other nodes are halted than before, and all else of the run stays.
pub record IsSameFlight (old new : Standing) : Type 0 where
  pub trace : new.running.trace ≡ old.running.trace
  pub lost : new.running.lost ≡ old.running.lost
  pub delivered : new.running.delivered ≡ old.running.delivered

abbrev pub HaltsStand : Type 0
HaltsStand =
    (objects : List ObjectDecl) (old new : Standing) (net : List InFlightFields)
    (unput : List Letter)
    (halted again : List Bool) → IsSameFlight old new
    → ((node : ℕ) → 1 ≤ node → node ≤ 8 → is_halted again node ≡ has_number new.halted node)
    → IsNetworkOf objects old net unput halted → IsNetworkOf objects new net unput again

-- Of each letter that can be delivered the network has the bytes that spell it, whole or cut;
abbrev pub BytesAreSpellings : Type 0
BytesAreSpellings =
    (objects : List ObjectDecl) (st : Standing) (net : List InFlightFields) (halted : List Bool)
    (number : ℕ)
    → IsNetworkOf objects st net [] halted
    → whole_of net number
    ≡ option_map (spelling_of (by_knowledge objects) st.running.trace)
    (run_letter st.running number)

abbrev pub CutsAreFronts : Type 0
CutsAreFronts =
    (objects : List ObjectDecl) (st : Standing) (net : List InFlightFields) (halted : List Bool)
    (number bytes : ℕ)
    → IsNetworkOf objects st net [] halted
    → cut_of net number bytes
    ≡ option_map (λ id. take bytes (spelling_of (by_knowledge objects) st.running.trace id))
    (run_letter st.running number)

-- All letters that are put next may be written, and have a spelling; so once some of them are put
-- the network stands as before.
abbrev pub AllMayBeWritten : Type 0
AllMayBeWritten =
    (objects : List ObjectDecl) (taken : ℕ → Bool) (st : Standing) (net : List InFlightFields)
    (unput : List Letter) (halted : List Bool)
    → IsRunTaking objects taken st.running.trace → length objects ≤ 64
    → length st.running.trace < 1000000000 → IsNetworkOf objects st net unput halted
    → AllByRecursion IsWritable unput × AllByRecursion HasOneSetEach unput

abbrev pub SomePutStand : Type 0
SomePutStand =
    (objects : List ObjectDecl) (st : Standing) (old new : OutboxFields) (halted : List Bool)
    → AllByRecursion HasOneSetEach old.unput → HasPutSome old new
    → IsNetworkOf objects st old.net old.unput halted
    → IsNetworkOf objects st new.net new.unput halted
