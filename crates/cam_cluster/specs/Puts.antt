-- One input put to one node of a cluster: what it makes of the works.
use Rattle.std.specs.Prelude.{◌≡◌, ℕ, ◌+◌, ◌∷◌, Bool, false, Option, Some, None}
use Rattle.cam_event.specs.declared.LetterId.{LetterId}
use Rattle.cam_event.specs.Inputs.{Input, Mail, node_of}
use Rattle.cam_event.specs.Loads.{Load}
use Rattle.cam_node.specs.declared.Input.{Input as NodeInput}
use Rattle.cam_node.specs.declared.Input.TheVariants as inputs
use Rattle.cam_node.specs.Calls.{input_of, mail_of, load_of}
use Rattle.cam_node.specs.Log.{Logged}
use Rattle.cam_runs.specs.Halts.{Halting, Stop}
use Rattle.cam_runs.specs.Standing.{Standing, put}
use Rattle.cam_script.specs.declared.Script.{Script}
use Rattle.cam_script.specs.Law.{IsScript}
use Rattle.cam_histories.specs.InputLaws.{IsComing, held_setting, halt_of}
use Rattle.cam_histories.specs.Stepping.{IsPut}
use Rattle.cam_cluster.specs.declared.works.Put.{Put}
use Rattle.cam_cluster.specs.declared.works.Put.TheVariants as puts
use Rattle.cam_cluster.specs.Works.{WorksFields, KeepsRun}

-- The input comes to the node at a place, and is put there with its letter as it was read.
pub record IsPutAt (script : Script) (st : Standing) (place : ℕ) (input : Input)
    (mail : Option Mail) (load : Load) : Type 0 where
  pub coming : IsComing script st input
  pub at : node_of st.running.trace input ≡ place + 1
  pub is_put : IsPut script.objects st.running.trace input mail load

-- the letter that a node receives in an input
abbrev pub letter_of : NodeInput → Option LetterId
letter_of (inputs.Letter letter mail) = Some letter
letter_of _ = None

-- whether the input is a halt: its event stands, or its node halted and the event is lost so far
abbrev pub as_halt : Put → Option Bool
as_halt puts.Stood = None
as_halt puts.Halted = Some false

-- Of each run of which the works keep it before, they keep the run with the input after it.
abbrev pub HasPut : ℕ → ℕ → NodeInput → WorksFields → (ℕ → Logged → Type 0) → Put
    → WorksFields → (ℕ → Logged → Type 0) → Type 0
HasPut line place input old might_read done new may_read =
    (script : Script) (st : Standing) (halts : Halting) (restarted : ℕ → Bool)
    → IsScript script → KeepsRun script st old might_read
    → IsPutAt script st place (input_of (place + 1) input) (mail_of input) (load_of input)
    → halt_of (held_setting script.objects halts line restarted) st (input_of (place + 1) input)
    ≡ as_halt done
    → KeepsRun script
    (put (held_setting script.objects halts line restarted) st (input_of (place + 1) input)) new
    may_read

-- A node's disk does so many calls more: they keep each run that they kept, with that after it.
abbrev pub HasStopped : ℕ → ℕ → WorksFields → (ℕ → Logged → Type 0) → WorksFields
    → (ℕ → Logged → Type 0) → Type 0
HasStopped place calls old might_read new may_read =
    (script : Script) (st : Standing) → IsScript script → KeepsRun script st old might_read
    → KeepsRun script (record st { turns = Stop (place + 1) calls ∷ st.turns }) new may_read

-- They keep each run that they kept before.
abbrev pub KeepsAsBefore : WorksFields → (ℕ → Logged → Type 0) → WorksFields
    → (ℕ → Logged → Type 0) → Type 0
KeepsAsBefore old might_read new may_read =
    (script : Script) (st : Standing) → IsScript script → KeepsRun script st old might_read
    → KeepsRun script st new may_read
