-- One more event of a node, and what its log recovers: with the event's entry, what the longer history keeps.
use Rattle.std.specs.Prelude.{◌≡◌, ℕ, ◌+◌, ◌≤◌, List, [], ◌∷◌, map}
use Rattle.cam_type.specs.declared.ObjectDecl.{ObjectDecl}
use Rattle.cam_event.specs.HeldSites.{site}
use Rattle.cam_event.specs.Carried.{deeds_of}
use Rattle.cam_know.specs.Known.{with_count}
use Rattle.cam_event.specs.Loads.{with_load}
use Rattle.cam_event.specs.ByDeltas.{Received, as_carried, known}
use Rattle.cam_recman.specs.declared.Record.TheVariants as records
use Rattle.cam_recman.specs.declared.Recovered.{Recovered}
use Rattle.cam_recman.specs.Migrating.{version_entry}
use Rattle.cam_recman.specs.Recovery.{fresh, with_records}
use Rattle.cam_node.specs.Log.{KeepsLog}
use Rattle.cam_node.specs.Lawful.{IsStepOf}
use Rattle.cam_node.specs.Entries.{Holding, entry_records, AreHoldings, AreOwn}
use Rattle.cam_recman.specs.Says.{Says}
use Rattle.cam_node.specs.Opened.{IsKnowledge, logged_of, raised}
use Rattle.cam_node.specs.Halting.{taken, restarted}

-- A log that was formatted has the Version record alone, and keeps the empty history.
abbrev pub FormattedKeeps : Type 0
FormattedKeeps = (objects : List ObjectDecl) (s : ℕ) → 1 ≤ s → s ≤ 8 → Says (version_entry ∷ []) fresh × KeepsLog objects s [] (logged_of fresh)

-- What is known before an event and after its letter, and what the log recovers, are knowledge; the event is the node's own; and what is
-- held of its Secures stands for the live operations.
pub record MayBeLogged (holds : Holding) (objects : List ObjectDecl) (s : ℕ) (history : List Received) (c : Received) (r : Recovered) : Type 0 where
  pub node : (1 ≤ s) × (s ≤ 8)
  pub recovered : IsKnowledge r.know
  pub before : IsKnowledge (known objects history)
  pub learnt : IsKnowledge (with_load (known objects history) c.load)
  pub own : AreOwn s c.event.deeds
  pub holdings : AreHoldings holds (deeds_of (map as_carried history)) c.mail (site (map as_carried history)) r.held c.event.deeds

-- With the records of an event the log keeps the longer history,
abbrev pub EntryKeeps : Type 0
EntryKeeps =
    (holds : Holding) (objects : List ObjectDecl) (s : ℕ) (history : List Received) (c : Received) (r : Recovered)
    → MayBeLogged holds objects s history c r → KeepsLog objects s history (logged_of r)
    → KeepsLog objects s (c ∷ history) (logged_of (with_records r (entry_records holds objects history c)))

-- and so where the event has none, and nothing is appended.
abbrev pub NoEntryKeeps : Type 0
NoEntryKeeps =
    (holds : Holding) (objects : List ObjectDecl) (s : ℕ) (history : List Received) (c : Received) (r : Recovered)
    → MayBeLogged holds objects s history c r → entry_records holds objects history c ≡ [] → KeepsLog objects s history (logged_of r)
    → KeepsLog objects s (c ∷ history) (logged_of r)

-- What was taken of an event has the same records,
abbrev pub TakenIsTheSame : Type 0
TakenIsTheSame =
    (holds : Holding) (objects : List ObjectDecl) (history : List Received) (c : Received)
    → entry_records holds objects history (taken c) ≡ entry_records holds objects history c

-- and where the definition's step may be logged, so may what is taken of it.
abbrev pub TakenMayBeLogged : Type 0
TakenMayBeLogged =
    (holds : Holding) (objects : List ObjectDecl) (s : ℕ) (history : List Received) (c : Received) (r : Recovered) → IsStepOf objects s history c
    → MayBeLogged holds objects s history c r → MayBeLogged holds objects s history (taken c) r

-- The definition's step is the node's own.
abbrev pub StepsAreOwn : Type 0
StepsAreOwn = (objects : List ObjectDecl) (s : ℕ) (history : List Received) (c : Received) → IsStepOf objects s history c → AreOwn s c.event.deeds

-- After a restart the log keeps the history with it, by the entry of all that is kept or by the raised count;
abbrev pub RestartKeeps : Type 0
RestartKeeps =
    (objects : List ObjectDecl) (s : ℕ) (history : List Received) (r : Recovered) → 1 ≤ s → s ≤ 8
    → IsKnowledge r.know → IsKnowledge (known objects history) → KeepsLog objects s history (logged_of r)
    → KeepsLog objects s (restarted objects s history ∷ history) (logged_of (raised s r))
    × KeepsLog objects s (restarted objects s history ∷ history) (logged_of (with_records r (records.Count (r.count + 1) ∷ [])))

-- and what it recovers with the raised count is what the node knows then.
abbrev pub RestartKnows : Type 0
RestartKnows =
    (objects : List ObjectDecl) (s : ℕ) (history : List Received) (r : Recovered) → 1 ≤ s → s ≤ 8
    → IsKnowledge r.know → IsKnowledge (known objects history) → KeepsLog objects s history (logged_of r)
    → with_count s (r.count + 1) r.know ≡ known objects (restarted objects s history ∷ history)
