-- What a node goes by, if tables have it: its own deeds and events; which outcomes it was informed of; and of the deeds of all nodes
-- the live operations of its site, and on which nodes an action depends. No node crashes, so each count is 1.
use Rattle.std.specs.Prelude.{◌≡◌, ℕ, true, false, List, None}
use Rattle.cam_type.specs.declared.ObjectDecl.{ObjectDecl}
use Rattle.cam_event.specs.declared.Event.{Event}
use Rattle.cam_event.specs.declared.Deed.{Deed}
use Rattle.cam_event.specs.History.{after, informed}
use Rattle.cam_event.specs.Live.{live_at}
use Rattle.cam_event.specs.Gained.{deps}
use Rattle.cam_event.specs.Pasts.{plain_all}
use Rattle.cam_event.specs.Inputs.{mail_got}
use Rattle.cam_event.specs.Sights.{Sight, Entry, entries, own_deeds}
use Rattle.cam_own.specs.Depending.{nodes_of}
use Rattle.cam_timed.specs.declared.TimedEvent.{TimedEvent}
use Rattle.cam_timed.specs.Moments.{events}
use Rattle.cam_timed.specs.Travelling.{timed_informs}
use Rattle.cam_timed.specs.TimedRules.{TimedInput, timed_node_of, timed_got_of, timed_rule, timed_did}
use Rattle.cam_timed.specs.TimedRuns.{TimedMayCome, IsTimedRun}

-- by these deeds and events of the node, and these deeds of all nodes
abbrev pub kept_by : List ObjectDecl → ℕ → List Deed → List Entry → List Deed → Sight
kept_by objects s own entries all =
    record {
      node = s;
      deeds = own;
      events = entries;
      live = live_at objects all s;
      knows_abort = λ a. informed own s a false;
      knows_commit = λ a. informed own s a true;
      known_count = λ m. 1;
      orphan = λ a visited. None;
      deps = λ a. nodes_of (deps objects all a);
    }

-- at an event of a node with these first Informs
abbrev pub kept_sight : List ObjectDecl → List Event → ℕ → List Deed → Sight
kept_sight objects t s first =
    kept_by objects s (after (own_deeds (entries t s)) first) (entries t s)
    (after (plain_all t) first)

-- What a rule makes of an input that may come is what it makes by the tables.
abbrev pub TablesTellTheRule : Type 0
TablesTellTheRule =
    (objects : List ObjectDecl) (t : List TimedEvent) (input : TimedInput)
    → IsTimedRun objects t → TimedMayCome objects t input
    → timed_did objects t input (timed_node_of t input) (timed_got_of input)
    ≡ timed_rule objects
    (kept_sight objects (events t) (timed_node_of t input)
    (timed_informs (events t) (timed_node_of t input) (timed_got_of input)))
    (mail_got (events t) (timed_got_of input)) input
