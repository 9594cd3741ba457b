-- Deliveries of the letters that wait, one after another, each of which may be a halt.
use Rattle.std.specs.Prelude.{◌≡◌, ℕ, ◌+◌, Bool, true, ◌||◌, if◌then◌else◌, List, [], ◌∷◌}
use Rattle.std.specs.Prelude.{length, reverse, Option, Some, None, is_some}
use Rattle.cam_event.specs.declared.Event.{Event}
use Rattle.cam_event.specs.declared.LetterId.{LetterId}
use Rattle.cam_event.specs.Inputs.{Receives}
use Rattle.cam_event.specs.Readings.{by_knowledge}
use Rattle.cam_net.specs.Letters.{InFlightFields}
use Rattle.cam_node.specs.Log.{Logged}
use Rattle.cam_runs.specs.Halts.{Halting}
use Rattle.cam_runs.specs.HaltedLines.{act, after_line, setting}
use Rattle.cam_runs.specs.Running.{letters, weight_of}
use Rattle.cam_runs.specs.Standing.{Standing, Setting, deliver, deliver_waiting, deliveries, drain}
use Rattle.cam_runs.specs.Standing.{waiting}
use Rattle.cam_runs.specs.UnderHalts.{IsNextStep}
use Rattle.cam_script.specs.declared.Act.TheVariants as acts
use Rattle.cam_script.specs.declared.Script.{Script}
use Rattle.cam_script.specs.declared.Step.{Step}
use Rattle.cam_script.specs.Law.{IsScript}
use Rattle.cam_histories.specs.Flight.{with_put}
use Rattle.cam_histories.specs.InputLaws.{held_setting, halt_of}
use Rattle.cam_cluster.specs.declared.works.Put.{Put}
use Rattle.cam_cluster.specs.Puts.{as_halt}
use Rattle.cam_cluster.specs.SoFar.{KeepsLines, LinesFields}
use Rattle.cam_cluster.specs.Works.{WorksFields, KeepsRun}

-- The letter that waits was handed over.
pub record IsNextDelivered (script : Script) (c : Setting) (st : Standing) (done : Put)
    (new : WorksFields) (may_read : ℕ → Logged → Type 0) : Type 0 where
  pub next : ℕ × LetterId
  pub waits : waiting st ≡ Some next
  pub stands :
      halt_of c st (Receives next.1) ≡ as_halt done
      → KeepsRun script (deliver c st next.0 next.1) new may_read

-- None waits, or the one that does was handed over.
abbrev pub HasNextDelivered : ℕ → WorksFields → (ℕ → Logged → Type 0) → WorksFields
    → (ℕ → Logged → Type 0) → Option Put → Type 0
HasNextDelivered line old might_read new may_read None =
    (script : Script) (st : Standing) → IsScript script → KeepsRun script st old might_read
    → (waiting st ≡ None) × KeepsRun script st new may_read
HasNextDelivered line old might_read new may_read (Some done) =
    (script : Script) (st : Standing) (halts : Halting) (restarted : ℕ → Bool)
    → IsScript script → KeepsRun script st old might_read
    → IsNextDelivered script (held_setting script.objects halts line restarted) st done new
    may_read

-- It is said of the delivery of the letter that waits, where one does, that it ends so: by whether
-- it is a halt.
abbrev pub IsSaid : Setting → Standing → Option (ℕ × LetterId) → Put → Type 0
IsSaid c st None end = Unit {0}
IsSaid c st (Some next) end = halt_of c st (Receives next.1) ≡ as_halt end

-- and of so many deliveries, one after another
abbrev pub AreSaid : Setting → List Put → Standing → Type 0
AreSaid c [] st = Unit {0}
AreSaid c (end ∷ ends) st =
    IsSaid c st (waiting st) end × AreSaid c ends (deliver_waiting c st (waiting st))

-- A letter waits at each of them.
abbrev pub AreDue : Setting → List Put → Standing → Type 0
AreDue c [] st = Unit {0}
AreDue c (end ∷ ends) st =
    (is_some (waiting st) ≡ true) × AreDue c ends (deliver_waiting c st (waiting st))

-- So many letters were handed over, one after another, and these are the ends: of each run, with
-- halts that say so, the deliveries stand.
pub record AreDelivered (script : Script) (c : Setting) (ends : List Put) (st : Standing)
    (new : WorksFields) (may_read : ℕ → Logged → Type 0) : Type 0 where
  pub due : AreDue c ends st
  pub stands : KeepsRun script (deliveries c (length ends) st) new may_read

pub record HasDeliveredSome (line : ℕ) (old : WorksFields) (might_read : ℕ → Logged → Type 0)
    (new : WorksFields) (may_read : ℕ → Logged → Type 0) : Type 0 where
  pub ends : List Put
  pub delivered :
      (script : Script) (st : Standing) (halts : Halting) (restarted : ℕ → Bool)
      → IsScript script → KeepsRun script st old might_read
      → AreSaid (held_setting script.objects halts line restarted) ends st
      → AreDelivered script (held_setting script.objects halts line restarted) ends st new may_read

-- Letters were handed over until none waits: the drain stands.
pub record IsDrained (script : Script) (c : Setting) (ends : List Put) (st : Standing)
    (new : WorksFields) (may_read : ℕ → Logged → Type 0) : Type 0 where
  pub due : AreDue c ends st
  pub over : waiting (deliveries c (length ends) st) ≡ None
  pub stands : KeepsRun script (drain c st) new may_read

pub record HasDrained (line : ℕ) (old : WorksFields) (might_read : ℕ → Logged → Type 0)
    (new : WorksFields) (may_read : ℕ → Logged → Type 0) : Type 0 where
  pub ends : List Put
  pub drained :
      (script : Script) (st : Standing) (halts : Halting) (restarted : ℕ → Bool)
      → IsScript script → KeepsRun script st old might_read
      → AreSaid (held_setting script.objects halts line restarted) ends st
      → IsDrained script (held_setting script.objects halts line restarted) ends st new may_read

-- What the letters weigh that wait, those for a halted node too: of a network with its letters.
abbrev pub net_weight : List Event → List LetterId → List InFlightFields → ℕ
net_weight t [] net = 0
net_weight t (id ∷ ids) [] = weight_of t id + net_weight t ids []
net_weight t (id ∷ ids) (kept ∷ net) =
    (if kept.delivered || kept.lost then 0 else weight_of t id) + net_weight t ids net

abbrev pub works_weight : WorksFields → ℕ
works_weight works =
    net_weight (reverse works.events) (letters (reverse works.events))
    (with_put works.outbox.net works.outbox.unput)

-- THE CLAUSES of the line `drain`, over what nodes hold: for each run whose next step it is, with
-- halts that say so of its inputs.
pub record IsDrainedLine (script : Script) (c : Setting) (ends : List Put) (st : Standing)
    (new : LinesFields) (may_read : ℕ → Logged → Type 0) : Type 0 where
  pub due : AreDue c ends st
  pub over : waiting (deliveries c (length ends) st) ≡ None
  pub stands :
      KeepsLines script (after_line st c.line (act c script.bodies st acts.Drain)) new may_read

pub record IsLineOfDrain (line : ℕ) (old : LinesFields) (might_read : ℕ → Logged → Type 0)
    (new : LinesFields) (may_read : ℕ → Logged → Type 0) : Type 0 where
  pub ends : List Put
  pub drained :
      (script : Script) (st : Standing) (halts : Halting) (later : List Step)
      → IsScript script → KeepsLines script st old might_read
      → IsNextStep script st (record { line = line; act = acts.Drain })
      → AreSaid (setting (by_knowledge script.objects) halts
      (record { line = line; act = acts.Drain }) later) ends st
      → IsDrainedLine script (setting (by_knowledge script.objects) halts
      (record { line = line; act = acts.Drain }) later) ends st new may_read

-- Memory ran out after some of its inputs.
pub record AreDeliveredLines (script : Script) (c : Setting) (ends : List Put) (st : Standing)
    (new : LinesFields) (may_read : ℕ → Logged → Type 0) : Type 0 where
  pub due : AreDue c ends st
  pub stands : KeepsLines script (deliveries c (length ends) st) new may_read

pub record IsPartOfDrain (line : ℕ) (old : LinesFields) (might_read : ℕ → Logged → Type 0)
    (new : LinesFields) (may_read : ℕ → Logged → Type 0) : Type 0 where
  pub ends : List Put
  pub delivered :
      (script : Script) (st : Standing) (halts : Halting) (restarted : ℕ → Bool)
      → IsScript script → KeepsLines script st old might_read
      → AreSaid (held_setting script.objects halts line restarted) ends st
      → AreDeliveredLines script (held_setting script.objects halts line restarted) ends st new
      may_read
