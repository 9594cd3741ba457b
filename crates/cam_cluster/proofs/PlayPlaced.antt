-- The actions that work at bodies are at nodes of the script after a round of a play too, and the
-- workers stay while letters are handed over.
use Rattle.std.proofs.Common.{ℕ, zero, suc, Bool, true, false, if◌then◌else◌, List, [], ◌∷◌}
use Rattle.std.proofs.Common.{Option, Some, None, refl}
use Rattle.std.specs.List.{AllByRecursion}
use Rattle.cam_names.specs.declared.name.Name.{Name}
use Rattle.cam_names.specs.Names.{name_lt}
use Rattle.cam_event.specs.declared.LetterId.{LetterId}
use Rattle.cam_event.specs.Inputs.{Receives, node_of}
use Rattle.cam_runs.specs.Halts.{Halting, appends}
use Rattle.cam_runs.specs.HaltedPlaying.{round}
use Rattle.cam_runs.specs.Playing.{in_order, put}
use Rattle.cam_runs.specs.Standing as runs
use Rattle.cam_runs.specs.Standing.{Setting, Standing, deliver, deliver_waiting, deliveries}
use Rattle.cam_runs.specs.Standing.{waiting}
use Rattle.cam_script.specs.declared.Script.{Script}
use Rattle.cam_script.specs.Law.{IsScript}
use Rattle.cam_histories.specs.InputLaws.{halt_of, held_setting}
use Rattle.cam_cluster.specs.declared.workers.Workers.{Workers}
use Rattle.cam_cluster.specs.BodiesAtNodes.{BodiesAreAtNodes}
use Rattle.cam_cluster.specs.VariableLines.{IsAtNode}
use Rattle.cam_cluster.specs.Workers.{AreWorkers}
use Rattle.cam_cluster.proofs.Bindings.{held_asked_at}
use Rattle.cam_cluster.proofs.BodiesPlaced.{HasPlaced, round_placed}
use Rattle.cam_cluster.proofs.BodyGoes.{after_stays}
use Rattle.cam_cluster.proofs.WorkersStand.{workers_stay}

-- The names of actions at nodes are at nodes in order too.
put_placed : (nodes : ℕ) (a : Name) (names : List Name) → IsAtNode nodes a
    → AllByRecursion (IsAtNode nodes) names → AllByRecursion (IsAtNode nodes) (put a names)
put_placed nodes a [] at all = (at, tt)
put_placed nodes a (b ∷ names) at all = by (name_lt a b) (put_placed nodes a names at all.1)
  where
    by : (t : Bool) → AllByRecursion (IsAtNode nodes) (put a names)
        → AllByRecursion (IsAtNode nodes) (if t then a ∷ b ∷ names else b ∷ put a names)
    by true rest = (at, all)
    by false rest = (all.0, rest)

pub in_order_placed : (nodes : ℕ) (given : List (Name × ℕ)) → BodiesAreAtNodes nodes given
    → AllByRecursion (IsAtNode nodes) (in_order given)
in_order_placed nodes [] placed = tt
in_order_placed nodes (p ∷ given) placed =
    put_placed _ _ _ placed.0 (in_order_placed nodes given placed.1)

-- So they are after a round, by what nodes hold.
pub held_round_placed : (script : Script) (halts : Halting) (line : ℕ) (restarted : ℕ → Bool)
    (st : Standing) → IsScript script → HasPlaced script.nodes st
    → HasPlaced script.nodes
    (round (held_setting script.objects halts line restarted) script.bodies st)
held_round_placed script halts line restarted st is placed =
    let c = held_setting script.objects halts line restarted in
    round_placed script is c (λ z a want b. held_asked_at script c z a want b) st placed

-- The workers stay while letters are handed over.
next_stays : (c : Setting) (st : Standing) (o : Option (ℕ × LetterId)) (workers : Workers)
    → AreWorkers st workers → AreWorkers (deliver_waiting c st o) workers
next_stays c st None workers are = are
next_stays c st (Some w) workers are =
    let t = st.running.trace in
    let s : ℕ = node_of t (Receives w.1) in
    workers_stay (runs.put c st (Receives w.1)) (deliver c st w.0 w.1) workers [] refl refl
    (after_stays c.line (c.restarted s) st s (c.reading.next t (Receives w.1))
    (appends c.reading t (Receives w.1)) (halt_of c st (Receives w.1)) workers are)

pub deliveries_stay : (c : Setting) (n : ℕ) (st : Standing) (workers : Workers)
    → AreWorkers st workers → AreWorkers (deliveries c n st) workers
deliveries_stay c zero st workers are = are
deliveries_stay c (suc n) st workers are =
    deliveries_stay c n (deliver_waiting c st (waiting st)) workers
    (next_stays c st (waiting st) workers are)
