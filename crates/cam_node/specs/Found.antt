-- What a restart finds of the halt before it: whether the log that it read has what was taken of
-- the event of the halt, and how many restarts that failed had reached the log before.
--
-- A node that halts keeps what its log may have of the event. It still knows what it knew with that
-- event until a restart comes to its end. So a restart tells by what the log holds which of the two
-- it read: the log has the event where it tells all outcomes and counts that the node knows, and
-- holds each family that the event secures.
use Rattle.std.specs.Prelude.{◌≡◌, ◌≢◌, ◌⊎◌, ◌≤◌, ℕ, zero, suc, ◌-◌, eqb, nat_lt, Bool, true, false, ◌&&◌, if◌then◌else◌, List, ◌∷◌, map, length, Option, Some, None}
use Rattle.std.specs.List.{list_any, list_all}
use Rattle.cam_names.specs.Names.{name_eq}
use Rattle.cam_type.specs.declared.ObjectDecl.{ObjectDecl}
use Rattle.cam_type.specs.declared.Held.{Held}
use Rattle.cam_know.specs.Known.{counts_eq, counts_raised, known_count}
use Rattle.cam_event.specs.declared.Deed.{Deed}
use Rattle.cam_event.specs.declared.Deed.TheVariants.{Secure}
use Rattle.cam_event.specs.declared.Event.{Event}
use Rattle.cam_event.specs.History.{count, is_crash}
use Rattle.cam_event.specs.Inputs.{Input, Mail}
use Rattle.cam_event.specs.ByKnowledge.{node_step}
use Rattle.cam_event.specs.Carried.{deeds_of}
use Rattle.cam_event.specs.Loads.{Load}
use Rattle.cam_event.specs.ByDeltas.{Received, as_carried, known}
use Rattle.cam_know.specs.Order.{told_in_order}
use Rattle.cam_log.specs.Moments.{Opened}
use Rattle.cam_recman.specs.declared.Recovered.{Recovered}
use Rattle.cam_node.specs.declared.found.Found.{Found}
use Rattle.cam_node.specs.declared.found.Restarted.{Restarted}
use Rattle.cam_node.specs.declared.restart.Reread.{Reread}
use Rattle.cam_node.specs.Appending.{OpensAs}
use Rattle.cam_node.specs.Halting.{IsThrough, restarted, taken}
use Rattle.cam_node.specs.Keeping.{IsLogOf, IsRestart, KeepsNode, MayBePutThen}
use Rattle.cam_node.specs.Lawful.{IsStepOf}
use Rattle.cam_node.specs.Log.{Logged}
use Rattle.cam_node.specs.LogOrder.{is_any_secure}
use Rattle.cam_node.specs.Opened.{IsKnowledge, IsRestarted, logged_of}
use Rattle.cam_node.specs.Renewed.{IsRenewed, crash_of}
use Rattle.cam_node.specs.Represents.{Node, Represents}

-- THE TEST. What the node's counts are where restarts have raised its own to this one.
abbrev pub counts_at : ℕ → Node → List ℕ
counts_at own node =
    if nat_lt node.count own then counts_raised node.know.counts node.number own
    else node.know.counts

-- the log holds each family that is secured
abbrev pub is_held : List Held → Deed → Bool
is_held held (Secure f s c) = list_any (λ (h : Held). name_eq f h.family) held
is_held held _ = true

-- The log that was read has the event, which the node knows.
abbrev pub has_event : Node → Event → Reread → Bool
has_event node event reread =
    (eqb (length reread.kept.know.outcomes) (length node.know.outcomes)
    && counts_eq reread.counts (counts_at (reread.kept.count - 1) node))
    && list_all (is_held reread.kept.held) event.deeds

abbrev pub has_halted_at : Node → Option Event → Reread → Bool
has_halted_at node None reread = false
has_halted_at node (Some event) reread = has_event node event reread

-- what a restart answers: the event, where the log has it
abbrev pub found_by : Node → Option Event → Reread → Found
found_by node halted_at reread =
    record {
      event = if has_halted_at node halted_at reread then halted_at else None;
      restarts = reread.kept.count - 1 - node.count;
    }

-- WHAT IT TELLS. A history, and after it so many restarts.
abbrev pub after_restarts : List ObjectDecl → ℕ → ℕ → List Received → List Received
after_restarts objects s zero history = history
after_restarts objects s (suc n) history =
    restarted objects s (after_restarts objects s n history) ∷ after_restarts objects s n history

-- A node that halted in a step after a history: it knows what it knew with the event, and this is
-- what its log may have of that.
pub record IsHaltedAt (objects : List ObjectDecl) (history : List Received) (whole : Received)
    (node : Node) (event : Event) : Type 0 where
  pub through : IsThrough objects node.number history
  pub step : IsStepOf objects node.number history whole
  -- the step is no restart
  pub goes_on : list_any (is_crash node.number) whole.event.deeds ≡ false
  pub count : node.count ≡ count (deeds_of (map as_carried history)) node.number
  pub before : IsKnowledge (known objects history)
  pub know : node.know ≡ known objects (whole ∷ history)
  pub knows : IsKnowledge node.know
  pub is_taken : event ≡ (taken whole).event

-- The log that was read keeps this history, or that with the taken event besides, and so many
-- restarts after it.
abbrev pub IsLogOfOneOf : List ObjectDecl → ℕ → List Received → Received → ℕ → Logged → Type 0
IsLogOfOneOf objects s history whole n logged =
    IsLogOf objects s (after_restarts objects s n history) logged
    ⊎ IsLogOf objects s (after_restarts objects s n (taken whole ∷ history)) logged

-- Which of the two it keeps.
abbrev pub IsFoundEvent : List ObjectDecl → ℕ → List Received → Received → ℕ → Logged
    → Option Event → Type 0
IsFoundEvent objects s history whole n logged None =
    IsLogOf objects s (after_restarts objects s n history) logged
IsFoundEvent objects s history whole n logged (Some event) =
    (event ≡ (taken whole).event)
    × IsLogOf objects s (after_restarts objects s n (taken whole ∷ history)) logged

pub record IsFound (objects : List ObjectDecl) (s : ℕ) (history : List Received) (whole : Received)
    (n : ℕ) (logged : Logged) (found : Found) : Type 0 where
  pub restarts : found.restarts ≡ n
  pub event : IsFoundEvent objects s history whole n logged found.event

-- A node that keeps no event found none. It tells how many restarts the log has after the history
-- that the node represents.
pub record FindsNone (objects : List ObjectDecl) (s : ℕ) (node : Node) (logged : Logged)
    (found : Found) : Type 0 where
  pub none : found.event ≡ None
  pub restarts :
      (history : List Received) (n : ℕ) → Represents objects history node
      → IsLogOf objects s (after_restarts objects s n history) logged → found.restarts ≡ n

-- THE ANSWER IS RIGHT, whichever history it is in which the node halted.
abbrev pub TellsWhich : List ObjectDecl → ℕ → Node → Option Event → Logged → Found → Type 0
TellsWhich objects s node None logged found = FindsNone objects s node logged found
TellsWhich objects s node (Some event) logged found =
    (history : List Received) (whole : Received) (n : ℕ)
    → IsHaltedAt objects history whole node event
    → IsLogOfOneOf objects s history whole n logged
    → IsFound objects s history whole n logged found

-- The event adds to what a log keeps: with it the node knows other outcomes or another count of
-- some node, or it secures a family.
pub data Adds (objects : List ObjectDecl) (history : List Received) (whole : Received) : Type 0 where
  Decides :
      (known objects (whole ∷ history)).outcomes ≢ (known objects history).outcomes
      → Adds objects history whole
  Counts :
      (m : ℕ) → 1 ≤ m → m ≤ 8
      → known_count (known objects (whole ∷ history)) m ≢ known_count (known objects history) m
      → Adds objects history whole
  Secures : list_any is_any_secure (taken whole).event.deeds ≡ true → Adds objects history whole

-- BY WHAT THE LOG READS the event is found exactly if that has it: where it keeps the history with
-- the taken event, restarts after it or not. Where it keeps the history before, and the event adds
-- to it, none is found.
abbrev pub FindsBy : List ObjectDecl → ℕ → Node → Option Event → Opened → Found → Type 0
FindsBy objects s node None reads found = found.event ≡ None
FindsBy objects s node (Some event) reads found =
    (history : List Received) (whole : Received) → IsHaltedAt objects history whole node event
    → ((n : ℕ)
    → OpensAs objects s (after_restarts objects s n (taken whole ∷ history)) reads
    → found.event ≡ Some event)
    × (OpensAs objects s history reads → Adds objects history whole → found.event ≡ None)

-- A HALT keeps the event: after each history for which the node and its log stood, that of the
-- rule.
abbrev pub whole_step : List ObjectDecl → ℕ → List Received → Input → Option Mail → Load → Received
whole_step objects s history input mail load =
    record {
      event = node_step objects s (map as_carried history) input mail (told_in_order load.know);
      mail = mail;
      load = load;
    }

abbrev pub HaltsAt : List ObjectDecl → Node → List (List ℕ) → Input → Option Mail → Load → Node
    → Option Event → Type 0
HaltsAt objects old before input mail load new None = ⊥
HaltsAt objects old before input mail load new (Some event) =
    (history : List Received) → KeepsNode objects history old before
    → MayBePutThen objects old.number history input mail load
    → IsHaltedAt objects history (whole_step objects old.number history input mail load) new event

-- A RESTART that comes to its end. Whatever the disk: it read these entries, the log has then what
-- it keeps of them, the node is made of that, and the event is the restart. Where the disk tells
-- what it holds, they might be read before. And it tells which event it found there.
pub record HasRestarted (objects : List ObjectDecl) (s : ℕ) (tells : Bool)
    (might_read : Logged → Type 0) (old : Node) (halted_at : Option Event) (new : Node)
    (now : List (List ℕ)) (restarted : Restarted) : Type 0 where
  pub read : List (List ℕ)
  pub kept : Recovered
  pub left : IsRestarted objects s read now kept
  pub renewed : IsRenewed objects s kept new
  pub event : restarted.stepped.event ≡ crash_of s
  pub was : tells ≡ true → might_read (logged_of left.recovered)
  pub restart : IsRestart objects s (logged_of left.recovered) new now restarted.stepped.event
  pub tells_which : TellsWhich objects s old halted_at (logged_of left.recovered) restarted.found
