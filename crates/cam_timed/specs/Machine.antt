-- When a machine keeps a run by time: its tables have what the events say.
use Rattle.std.specs.Prelude.{◌≡◌, ℕ, ◌+◌, if◌then◌else◌, List, [], ◌∷◌, length, map, reverse, Option, Some, option_map, slice_get}
use Rattle.std.specs.List.{AllByRecursion}
use Rattle.cam_type.specs.declared.ObjectDecl.{ObjectDecl}
use Rattle.cam_event.specs.declared.Event.{Event}
use Rattle.cam_event.specs.declared.Body.{Body}
use Rattle.cam_event.specs.declared.Deed.{Deed}
use Rattle.cam_event.specs.declared.LetterId.{LetterId}
use Rattle.cam_event.specs.declared.Sent.{Sent}
use Rattle.cam_event.specs.Inputs.{Mail, letter_at}
use Rattle.cam_event.specs.Pasts.{plain_all}
use Rattle.cam_event.specs.Runs.{IsNode}
use Rattle.cam_event.specs.Sights.{entries, own_deeds}
use Rattle.cam_own.specs.Own.{KeepsOwn}
use Rattle.cam_own.specs.Informed.{commits_of, aborts_of}
use Rattle.cam_own.specs.AllNodes.{KeepsAllNodes}
use Rattle.cam_timed.specs.declared.TimedEvent.{TimedEvent}
use Rattle.cam_timed.specs.declared.machine.Letter.{Letter}
use Rattle.cam_timed.specs.declared.machine.Machine.{Machine}
use Rattle.cam_timed.specs.declared.machine.Node.{Node}
use Rattle.cam_timed.specs.declared.machine.Shared.{Shared}
use Rattle.cam_timed.specs.declared.machine.posting.Sender.{Sender}
use Rattle.cam_timed.specs.Held.{own_until}
use Rattle.cam_timed.specs.Moments.{events, moment_of, moment_at}
use Rattle.cam_timed.specs.Reaches.{KeepsHeard}
use Rattle.cam_timed.specs.Travelling.{brings_aborts}
use Rattle.cam_timed.specs.TimedRunning.{letters}
use Rattle.cam_timed.specs.TimedRuns.{IsTimedRun}
use Rattle.cam_timed.specs.Untils.{TellsUntils}

-- the events, the newest first
abbrev pub trace_of : Shared → List TimedEvent
trace_of shared = reverse shared.trace

abbrev pub run_of : Machine → List TimedEvent
run_of machine = trace_of machine.shared

-- the deeds of a node's own events
abbrev pub deeds_of : List Event → ℕ → List Deed
deeds_of t s = own_deeds (entries t s)

-- what is kept of a node is what its own events say
pub record KeepsNode (objects : List ObjectDecl) (t : List TimedEvent) (s : ℕ)
    (node : Node) : Type 0 where
  pub own : KeepsOwn objects s (deeds_of (events t) s) (entries (events t) s) node.own
  pub moment : node.moment ≡ moment_of t s

-- how many aborts a letter brings
abbrev pub aborts_brought : Body → ℕ → ℕ
aborts_brought body aborts = if brings_aborts body then aborts else 0

-- A letter has what was sent, its sender's moment then, and of how many commits and aborts that it
-- brings the sender was informed then.
pub record KeepsLetter (t : List TimedEvent) (letter : Letter) : Type 0 where
  pub mail : letter_at (events t) letter.id ≡ Some letter.mail
  pub from : IsNode letter.mail.from
  pub to : IsNode letter.mail.to
  pub moment : letter.moment ≡ moment_at t letter.id.event
  pub commits :
      letter.commits
      ≡ length (commits_of (own_until (events t) letter.id.event) letter.mail.from)
  pub aborts :
      letter.aborts
      ≡ aborts_brought letter.mail.body
      (length (aborts_of (own_until (events t) letter.id.event) letter.mail.from))

-- the letters are in order of their numbers
pub record KeepsLetters (t : List TimedEvent) (kept : List Letter) : Type 0 where
  pub ids : map (λ (l : Letter). l.id) kept ≡ letters t
  pub each : AllByRecursion (KeepsLetter t) kept

-- what is kept of all nodes together
pub record KeepsShared (objects : List ObjectDecl) (t : List TimedEvent)
    (shared : Shared) : Type 0 where
  pub all_nodes : KeepsAllNodes objects (plain_all (events t)) shared.all_nodes
  pub untils : TellsUntils t shared.untils
  pub letters : KeepsLetters t shared.letters

-- The machine keeps the run by time whose events these are, the newest first.
pub record KeepsTimedRun (objects : List ObjectDecl) (t : List TimedEvent)
    (machine : Machine) : Type 0 where
  pub run : IsTimedRun objects t
  pub trace : run_of machine ≡ t
  pub eight : length machine.nodes.items ≡ 8
  pub nodes :
      (place : ℕ) (node : Node) → slice_get machine.nodes.items place ≡ Some node
      → KeepsNode objects t (place + 1) node
  pub heard : KeepsHeard (events t) machine.heard
  pub shared : KeepsShared objects t machine.shared

-- the letter at a place of an event, and the letters from a place on
abbrev pub posted_at : Sender → ℕ → Sent → Letter
posted_at sender place sent =
    record {
      id = record { event = sender.event; place = place };
      mail = record { from = sender.node; to = sent.to; body = sent.body };
      moment = sender.moment;
      commits = sender.commits;
      aborts = aborts_brought sent.body sender.aborts;
    }

abbrev pub posted : Sender → ℕ → List Sent → List Letter
posted sender place [] = []
posted sender place (one ∷ more) = posted_at sender place one ∷ posted sender (place + 1) more

-- the letter that an event receives, and what it says
abbrev pub id_of : Option Letter → Option LetterId
id_of letter = option_map (λ (l : Letter). l.id) letter

abbrev pub mail_of : Option Letter → Option Mail
mail_of letter = option_map (λ (l : Letter). l.mail) letter
