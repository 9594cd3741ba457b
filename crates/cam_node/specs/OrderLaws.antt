-- The order of what a log holds and of what is live goes on over each event of a node: at first there is nothing.
use Rattle.std.specs.Prelude.{◌≡◌, ℕ, false, List, [], ◌∷◌, ◌++◌, map, reverse, Some}
use Rattle.std.specs.List.{list_any}
use Rattle.cam_names.specs.declared.name.Name.{Name}
use Rattle.cam_type.specs.declared.ObjectDecl.{ObjectDecl}
use Rattle.cam_type.specs.declared.Held.{Held}
use Rattle.cam_know.specs.Knowledge.{Knowledge}
use Rattle.cam_know.specs.Order.{told_in_order}
use Rattle.cam_event.specs.declared.Deed.{Deed}
use Rattle.cam_event.specs.declared.Deed.TheVariants.{Secure, Crash}
use Rattle.cam_event.specs.declared.Event.{Event}
use Rattle.cam_event.specs.declared.LetterId.{LetterId}
use Rattle.cam_event.specs.Inputs.{Mail}
use Rattle.cam_event.specs.ByPast.{event_of}
use Rattle.cam_event.specs.ByKnowledge.{new_informs}
use Rattle.cam_event.specs.HeldSites.{site}
use Rattle.cam_event.specs.Carried.{deeds_of}
use Rattle.cam_event.specs.Loads.{Load}
use Rattle.cam_event.specs.ByDeltas.{Received, as_carried}
use Rattle.cam_locks.specs.Site as locks
use Rattle.cam_locks.specs.Calls.{held}
use Rattle.cam_locks.specs.Restored.{restored}
use Rattle.cam_server.specs.declared.Performed.{Performed}
use Rattle.cam_server.specs.Server.{Server, ServesSite}
use Rattle.cam_server.specs.Calls.{Asked}
use Rattle.cam_server.specs.Events.{AreQuiet, informs_abort, IsLogged}
use Rattle.cam_server.specs.Recovered.{AreHeld}
use Rattle.cam_server.specs.Steps.{did_performed}
use Rattle.cam_node.specs.Entries.{Holding, AreHoldings}
use Rattle.cam_node.specs.Halting.{IsThrough}
use Rattle.cam_node.specs.LogOrder.{IsInOrder, HasDropped, is_any_secure, left_live}
use Rattle.cam_node.specs.Represents.{Node, Represents}
use Rattle.cam_node.specs.Served.{CallStands}

-- A log without a family is in order with the table of a node to which nothing has happened.
abbrev pub NothingIsInOrder : Type 0
NothingIsInOrder = (table : locks.Site) → table.next ≡ 0 → IsInOrder [] [] table

-- An event that performs and secures nothing, and is no crash: the table may have dropped operations.
abbrev pub DroppingKeepsOrder : Type 0
DroppingKeepsOrder =
    (objects : List ObjectDecl) (s : ℕ) (history : List Received) (c : Received)
    (logged : List Held) (old new : Server)
    → AreQuiet s c.event.deeds → list_any is_any_secure c.event.deeds ≡ false
    → HasDropped old.table.site new.table.site
    → ServesSite objects s (map as_carried history) old
    → ServesSite objects s (map as_carried (c ∷ history)) new
    → IsInOrder history logged old.table.site → IsInOrder (c ∷ history) logged new.table.site

-- An event that secures a family after its first Informs. The log has the family then, as it stands in the table without what the first
-- Informs drop; and what is held of it stands for the live operations.
abbrev pub SecuringKeepsOrder : Type 0
SecuringKeepsOrder =
    (holds : Holding) (objects : List ObjectDecl) (s : ℕ) (history : List Received) (c : Received)
    (first : List Deed) (f : Name) (n : ℕ) (logged : List Held) (old : Server) (new : locks.Site)
    → c.event.deeds ≡ first ++ Secure f s n ∷ [] → AreQuiet s first
    → list_any is_any_secure first ≡ false
    → new.live ≡ left_live (informs_abort s first) old.table.site.live
    → new.next ≡ old.table.site.next
    → ServesSite objects s (map as_carried history) old
    → AreHeld logged (reverse (site (map as_carried history)).secured) → holds f n ≡ held new f n
    → IsInOrder history logged old.table.site
    → AreHoldings holds (deeds_of (map as_carried history)) c.mail
    (site (map as_carried history)) logged
    c.event.deeds
    × IsInOrder (c ∷ history) (logged ++ holds f n ∷ []) new

-- A call that came to its site: an operation that is performed has the next index, above all that
-- the log holds, and is the last of those that are live.
abbrev pub CallsKeepOrder : Type 0
CallsKeepOrder =
    (objects : List ObjectDecl) (old new : Node) (id : LetterId) (mail : Mail) (load : Load)
    (asked : Asked) (done : Performed) (event : Event) (history : List Received)
    (logged : List Held)
    → event ≡ event_of old.number (Some id)
    (new_informs old.number (told_in_order load.know) old.know) (did_performed asked done)
    → CallStands mail load asked done old new
    → IsThrough objects old.number history → Represents objects history old
    → IsInOrder history logged old.server.table.site
    → IsInOrder (record { event = event; mail = Some mail; load = load } ∷ history) logged
    new.server.table.site

-- A restart, with the table that is restored from what the log held.
abbrev pub RestartKeepsOrder : Type 0
RestartKeepsOrder =
    (objects : List ObjectDecl) (s : ℕ) (history : List Received) (c : Received) (know : Knowledge)
    (logged : List Held)
    → c.event.deeds ≡ Crash s ∷ [] → IsLogged objects s (map as_carried history) know logged
    → IsInOrder (c ∷ history) logged (restored objects s logged know)
