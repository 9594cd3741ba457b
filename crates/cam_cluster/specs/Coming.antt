-- The letters of works: one is found by its number, read from its bytes, and handed to its node; and
-- so on, until none waits.
use Rattle.std.specs.Prelude.{◌≡◌, ℕ, ◌+◌, ◌-◌, eqb, Bool, true, false}
use Rattle.std.specs.Prelude.{if◌then◌else◌, List, length, reverse, slice_get}
use Rattle.std.specs.Prelude.{Option, Some, None, nat_lt}
use Rattle.cam_bytes.specs.declared.WireFault.TheVariants.{Short}
use Rattle.cam_event.specs.declared.Event.{Event}
use Rattle.cam_event.specs.declared.Letter.{Letter}
use Rattle.cam_event.specs.declared.LetterId.{LetterId}
use Rattle.cam_event.specs.Inputs.{Mail, Receives, letter_at}
use Rattle.cam_event.specs.Readings.{by_knowledge}
use Rattle.cam_node.specs.Log.{Logged}
use Rattle.cam_runs.specs.Halts.{Halting}
use Rattle.cam_runs.specs.Running.{letters, letter_of}
use Rattle.cam_runs.specs.Standing.{Standing, addressee, deliver}
use Rattle.cam_script.specs.declared.Script.{Script}
use Rattle.cam_script.specs.Law.{IsScript}
use Rattle.cam_wire.specs.OfTrace.{spelling_of}
use Rattle.cam_histories.specs.InputLaws.{held_setting, halt_of}
use Rattle.cam_histories.specs.ReadBack.{IsReadBack}
use Rattle.cam_cluster.specs.declared.arrival.Arrival.{Arrival}
use Rattle.cam_cluster.specs.declared.arrival.Arrival.TheVariants.{Whole, Cut}
use Rattle.cam_cluster.specs.declared.works.Put.{Put}
use Rattle.cam_cluster.specs.declared.works.letters.Coming.{Coming}
use Rattle.cam_cluster.specs.Puts.{as_halt}
use Rattle.cam_cluster.specs.Works.{WorksFields, KeepsRun}

-- Some run of a script is kept.
pub record AreWorksOfSome (works : WorksFields) (may_read : ℕ → Logged → Type 0) : Type 0 where
  pub script : Script
  pub standing : Standing
  pub is_script : IsScript script
  pub keeps : KeepsRun script standing works may_read

-- the letter of this number among those that events sent, the oldest event first; the first is 1
abbrev pub numbered : List Event → ℕ → Option LetterId
numbered events number =
    if eqb number 0 then None else slice_get (letters (reverse events)) (number - 1)

-- What is found under a number: nothing where no such letter was sent or it is lost; else the letter
-- and the place of the node to which it was sent.
abbrev pub IsFound : ℕ → Standing → Option Coming → Type 0
IsFound number st None = letter_of st.running number ≡ None
IsFound number st (Some coming) = (letter_of st.running number ≡ Some coming.letter)
    × (addressee st coming.letter ≡ coming.place + 1)

abbrev pub HasFound : ℕ → WorksFields → (ℕ → Logged → Type 0) → Option Coming → Type 0
HasFound number works may_read found =
    (script : Script) (st : Standing) → IsScript script → KeepsRun script st works may_read
    → IsFound number st found

-- The letter was sent, and this is what may be put of it.
pub record IsReadOf (script : Script) (st : Standing) (id : LetterId) (letter : Letter) : Type 0 where
  pub mail : Mail
  pub sent : letter_at st.running.trace id ≡ Some mail
  pub read : IsReadBack script.objects st.running.trace id mail letter

-- What arrives where so many bytes are left of it: the letter, if these are all; else a fault, at
-- the place where it was cut.
abbrev pub IsArrived : ℕ → Script → Standing → LetterId → Arrival → Type 0
IsArrived bytes script st id (Whole letter) =
    (nat_lt bytes (length (spelling_of (by_knowledge script.objects) st.running.trace id)) ≡ false)
    × IsReadOf script st id letter
IsArrived bytes script st id (Cut fault) =
    (nat_lt bytes (length (spelling_of (by_knowledge script.objects) st.running.trace id)) ≡ true)
    × (fault ≡ Short bytes)

abbrev pub HasArrived : ℕ → LetterId → WorksFields → (ℕ → Logged → Type 0) → Arrival → Type 0
HasArrived bytes id works may_read arrival =
    (script : Script) (st : Standing) → IsScript script → KeepsRun script st works may_read
    → IsArrived bytes script st id arrival

abbrev pub HasRead : LetterId → WorksFields → (ℕ → Logged → Type 0) → Letter → Type 0
HasRead id works may_read letter =
    (script : Script) (st : Standing) → IsScript script → KeepsRun script st works may_read
    → IsReadOf script st id letter

-- A letter was handed over. Of each run of which the works kept it before, they keep the run with
-- the delivery after it.
abbrev pub HasDelivered : ℕ → ℕ → WorksFields → (ℕ → Logged → Type 0) → Put
    → WorksFields → (ℕ → Logged → Type 0) → Type 0
HasDelivered line number old might_read done new may_read =
    (script : Script) (st : Standing) (halts : Halting) (restarted : ℕ → Bool) (id : LetterId)
    → IsScript script → KeepsRun script st old might_read
    → letter_of st.running number ≡ Some id
    → halt_of (held_setting script.objects halts line restarted) st (Receives id) ≡ as_halt done
    → KeepsRun script
    (deliver (held_setting script.objects halts line restarted) st number id) new may_read
