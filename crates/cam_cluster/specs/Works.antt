-- The nodes of a cluster, the letters between them and what they did, as they stand for a run.
use Rattle.std.specs.Prelude.{◌≡◌, ◌<◌, ℕ, zero, ◌+◌, ◌-◌, Bool, true, false, List, length, map, reverse}
use Rattle.std.specs.Prelude.{Option, Some, None, slice_get}
use Rattle.std.specs.List.{AllByRecursion}
use Rattle.cam_type.specs.declared.ObjectDecl.{ObjectDecl}
use Rattle.cam_event.specs.declared.Event.{Event}
use Rattle.cam_event.specs.declared.LetterId.{LetterId}
use Rattle.cam_event.specs.declared.Mark.{Mark}
use Rattle.cam_event.specs.ByDeltas.{Received}
use Rattle.cam_log.specs.Moments.{Opened}
use Rattle.cam_net.specs.Outbox.{OutboxFields}
use Rattle.cam_net.specs.Waiting.{is_halted}
use Rattle.cam_node.specs.Found.{IsHaltedAt, IsLogOfOneOf}
use Rattle.cam_node.specs.Halting.{taken}
use Rattle.cam_node.specs.Log.{Logged}
use Rattle.cam_runs.specs.Running.{has_number}
use Rattle.cam_runs.specs.Halts.{Turn}
use Rattle.cam_runs.specs.Standing.{Standing, Undecided, undecided_of}
use Rattle.cam_runs.specs.UnderHalts.{IsUnderHalts}
use Rattle.cam_script.specs.declared.Script.{Script}
use Rattle.cam_histories.specs.Laws.{history_of}
use Rattle.cam_histories.specs.PutIn.{nameless}
use Rattle.cam_histories.specs.Undecided.{received_at}
use Rattle.cam_histories.specs.Whole.{Site, IsWhole}
use Rattle.cam_cluster.specs.Stopped.{IsStoppedAs}
use Rattle.cam_cluster.specs.Stopping.{IsAsStopped}
use Rattle.cam_cluster.specs.declared.works.failing.Failed.{Failed}
use Rattle.cam_cluster.specs.declared.works.failing.Ending.TheVariants as endings
use Rattle.cam_cluster.specs.declared.works.undecided.OpenHalt.{OpenHalt}

-- a node with what its log lists, over these objects, halted or not; and what its log may have of
-- the event at which it halted
pub record NodeFields : Type 0 where
  pub site : Site
  pub objects : List ObjectDecl
  pub halted : Bool
  pub halted_at : Option Event
  -- how many calls its disk does more, where it is stopped, and what its log opens as now
  pub passes : Option ℕ
  pub reads : Opened
  -- whether the disk tells what it holds, and how many calls of it that were done have failed
  pub tells : Bool
  pub failures : ℕ

pub record WorksFields : Type 0 where
  pub nodes : List NodeFields
  -- the letters that the network has, and those of the newest event that are put next
  pub outbox : OutboxFields
  -- of each of the eight nodes whether it is halted
  pub halted : List Bool
  -- what has failed by itself
  pub failed : Failed
  -- the halts of which no restart has told yet whether they are taken, the newest first
  pub undecided : List OpenHalt
  -- the events, the oldest first, and the marks
  pub events : List Event
  pub marks : List Mark

abbrev pub sites_of : List NodeFields → List Site
sites_of nodes = map (λ (n : NodeFields). n.site) nodes

-- A node of a script, of this number: it is over the script's objects, and the list of halted nodes
-- says whether it is halted.
pub record IsNodeOf (objects : List ObjectDecl) (halted : List Bool) (s : ℕ)
    (node : NodeFields) : Type 0 where
  pub over : node.objects ≡ objects
  pub is_halted : node.halted ≡ is_halted halted s

-- what the works keep of a halt that is undecided
abbrev pub open_halt : Undecided → OpenHalt
open_halt u = record { node = u.node; before = u.before; got = u.event.got }

-- the letter was sent by one of so many events
abbrev pub IsSentBefore : ℕ → Option LetterId → Type 0
IsSentBefore n None = Unit {0}
IsSentBefore n (Some letter) = letter.event < n

-- A node that is halted, of this number: it halted in a step after its history of the run, and
-- keeps what its log may have of the event. What may be read has that or not. With it the history
-- would be the one that the run has yet to decide on, but for the number of the letter.
pub record IsHaltOf (objects : List ObjectDecl) (trace : List Event) (undecided : List Undecided)
    (s : ℕ) (node : NodeFields) (may_read : Logged → Type 0) : Type 0 where
  pub whole : Received
  pub event : Event
  pub kept : node.halted_at ≡ Some event
  pub halted : IsHaltedAt objects (history_of objects trace s) whole node.site.node event
  pub either :
      (logged : Logged) → may_read logged
      → IsLogOfOneOf objects s (history_of objects trace s) whole zero logged
  pub halt : Undecided
  pub newest : undecided_of s undecided ≡ Some halt
  pub alike : nameless (taken whole) ≡ nameless (received_at objects trace halt)

-- the node's disk tells what it holds
abbrev pub HasTellingDisk : NodeFields → Type 0
HasTellingDisk node = node.tells ≡ true

-- the disk of the node of this number has failed by itself
abbrev pub has_failed : Failed → ℕ → Bool
has_failed known s = is_halted known.disks s

-- The run does not have to end, and the disks tell what they hold.
abbrev pub MayGoOn : Failed → List NodeFields → Type 0
MayGoOn known nodes =
    (known.ends ≡ endings.Nothing) × AllByRecursion HasTellingDisk nodes

-- So it is, and the disk of the node of this number has not failed by itself.
abbrev pub IsUnfailing : Failed → List NodeFields → ℕ → Type 0
IsUnfailing known nodes s = (has_failed known s ≡ false) × MayGoOn known nodes

-- Each node of which this is so is by the lines that stop its disk.
pub record AreStoppedIf (so : ℕ → Type 0) (objects : List ObjectDecl) (trace : List Event)
    (halted : List ℕ) (turns : List Turn) (nodes : List NodeFields) : Type 0 where
  pub said : (s : ℕ) → so s → IsAsStopped (has_number halted s) turns s
  pub each :
      (place : ℕ) (node : NodeFields) → slice_get nodes place ≡ Some node → so (place + 1)
      → IsStoppedAs objects trace halted turns (place + 1) node.site.node node.halted_at
      node.passes node.reads

-- They stand for what is under way; `may_read` is what may be read from the disk of each node. The
-- events are few enough that each number of a letter is in its range.
pub record KeepsRun (script : Script) (st : Standing) (works : WorksFields)
    (may_read : ℕ → Logged → Type 0) : Type 0 where
  pub under : IsUnderHalts script st
  pub one_each : length works.nodes ≡ script.nodes
  pub eight : length works.halted ≡ 8
  pub nodes :
      (place : ℕ) (node : NodeFields) → slice_get works.nodes place ≡ Some node
      → IsNodeOf script.objects works.halted (place + 1) node
  pub whole :
      IsWhole script.objects st (sites_of works.nodes) works.outbox.net works.outbox.unput
      works.halted
  pub halts :
      (place : ℕ) (node : NodeFields) → slice_get works.nodes place ≡ Some node
      → has_number st.halted (place + 1) ≡ true
      → IsHaltOf script.objects st.running.trace st.undecided (place + 1) node
      (may_read (place + 1))
  pub undecided : works.undecided ≡ map open_halt st.undecided
  pub sent :
      AllByRecursion (λ (u : Undecided). IsSentBefore (length st.running.trace) u.event.got)
      st.undecided
  pub events : works.events ≡ reverse st.running.trace
  pub all_marks : works.marks ≡ st.running.marks
  pub few : length works.events < 1000000000
  pub stops :
      AreStoppedIf (IsUnfailing works.failed works.nodes) script.objects st.running.trace st.halted
      st.turns works.nodes

-- what may be read from the disk of a node of a list, where its disk tells what it holds
pub record MayReadAt {N : Type 0} (tells : N → Bool) (may_read : N → Logged → Type 0)
    (nodes : List N) (s : ℕ) (logged : Logged) : Type 0 where
  pub node : N
  pub at : slice_get nodes (s - 1) ≡ Some node
  pub told : tells node ≡ true
  pub reads : may_read node logged
