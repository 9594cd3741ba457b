-- The parts of a run in which a halt is found to be taken: nodes, logs, network, views and stops;
-- and the restart that finds it.
use Rattle.std.specs.Prelude.{◌≡◌, ℕ, Bool, true, List, [], ◌∷◌, length, None}
use Rattle.std.specs.List.{list_any}
use Rattle.cam_names.specs.declared.name.Name.{Name}
use Rattle.cam_names.specs.Names.{is_ancestor, home_node}
use Rattle.cam_type.specs.declared.ObjectDecl.{ObjectDecl}
use Rattle.cam_event.specs.declared.Event.{Event}
use Rattle.cam_event.specs.declared.Letter.{Letter}
use Rattle.cam_event.specs.ByDeltas.{received, received_of}
use Rattle.cam_event.specs.Inputs.{Restarts, mail_got, got_of}
use Rattle.cam_event.specs.Pasts.{plain_all}
use Rattle.cam_event.specs.Runs.{IsNode}
use Rattle.cam_event.specs.Views.{view}
use Rattle.cam_net.specs.Letters.{InFlightFields}
use Rattle.cam_node.specs.Halting.{taken_step}
use Rattle.cam_node.specs.Keeping.{IsLogOf, IsRestart}
use Rattle.cam_node.specs.Log.{Logged}
use Rattle.cam_script.specs.declared.Script.{Script}
use Rattle.cam_runs.specs.Halts.{Halting}
use Rattle.cam_runs.specs.Playing.{is_stop_of}
use Rattle.cam_runs.specs.Standing.{Standing, ended_halt}
use Rattle.cam_runs.specs.UnderHalts.{IsUnderHalts}
use Rattle.cam_histories.specs.Found.{IsFound, IsBeyond}
use Rattle.cam_histories.specs.InputLaws.{held_setting, halt_of}
use Rattle.cam_histories.specs.Laws.{history_of, load_of_input}
use Rattle.cam_histories.specs.LineLaws.{HasRestarted}
use Rattle.cam_histories.specs.Whole.{Site, IsWhole}

-- Nodes, logs and network that stand for the run in which the event is lost stand for the one in
-- which it is taken: the halted node is asked nothing, and the others learnt nothing of it.
abbrev pub WholesStand : Type 0
WholesStand =
    (objects : List ObjectDecl) (s : ℕ) (before : List Event) (e : Event) (lost found : Standing)
    (sites : List Site) (net : List InFlightFields) (unput : List Letter) (halted : List Bool)
    → IsFound s before e lost found → IsWhole objects lost sites net unput halted
    → IsWhole objects found sites net unput halted

-- The history of the halted node is then what it was, and the taken event,
abbrev pub HistoriesHaveTheEvent : Type 0
HistoriesHaveTheEvent =
    (objects : List ObjectDecl) (s : ℕ) (before : List Event) (e : Event) (lost found : Standing)
    → IsFound s before e lost found
    → history_of objects found.running.trace s
    ≡ received objects (received_of objects before) e (mail_got before e.got)
    ∷ history_of objects lost.running.trace s

-- which is what a fault leaves of the node's step for its last input.
abbrev pub LogsHaveTheEvent : Type 0
LogsHaveTheEvent =
    (objects : List ObjectDecl) (k s : ℕ) (before : List Event) (e : Event) (lost found : Standing)
    (beyond : IsBeyond objects k s before e lost found)
    → history_of objects found.running.trace s
    ≡ taken_step objects s (history_of objects lost.running.trace s) beyond.input
    (mail_got before (got_of beyond.input)) (load_of_input objects before beyond.input)
    ∷ history_of objects lost.running.trace s

-- The actions of the other nodes have the same views,
abbrev pub ViewsStay : Type 0
ViewsStay =
    (script : Script) (k s : ℕ) (before : List Event) (e : Event) (lost found : Standing) (a : Name)
    → IsUnderHalts script found → IsBeyond script.objects k s before e lost found
    → is_ancestor a a ≡ true → (s ≡ home_node a → ⊥)
    → view (plain_all found.running.trace) a ≡ view (plain_all lost.running.trace) a

-- and the same actions were stopped.
abbrev pub StopsStay : Type 0
StopsStay =
    (objects : List ObjectDecl) (k s : ℕ) (before : List Event) (e : Event) (lost found : Standing)
    (a : Name) → IsBeyond objects k s before e lost found
    → list_any (is_stop_of a) found.running.trace ≡ list_any (is_stop_of a) lost.running.trace

-- So a restart that finds the event in the log goes on from the run in which it is taken.
abbrev pub RestartsFindTheEvent : Type 0
RestartsFindTheEvent =
    (script : Script) (halts : Halting) (line : ℕ) (restarted : ℕ → Bool) (s : ℕ)
    (before : List Event) (e : Event) (lost found : Standing) (sites : List Site)
    (net : List InFlightFields) (halted : List Bool) (logged : Logged) (new : Site) (event : Event)
    → IsFound s before e lost found → IsUnderHalts script found → IsNode s → length halted ≡ 8
    → halt_of (held_setting script.objects halts line restarted) (ended_halt found s) (Restarts s)
    ≡ None
    → IsWhole script.objects lost sites net [] halted
    → IsLogOf script.objects s (history_of script.objects found.running.trace s) logged
    → IsRestart script.objects s logged new.node new.entries event
    → HasRestarted script (held_setting script.objects halts line restarted) found s sites net
    halted
    new event
