-- What the parser's calls answer.
use Rattle.std.specs.Prelude.{◌≡◌, ◌≤◌, Bool, true, false, length, IfSome, Result, Ok, Err}
use Rattle.cam_words.specs.declared.fault.ScriptFault.{ScriptFault}
use Rattle.cam_words.specs.declared.fault.ScriptFault.TheVariants.{Bad, NoMemory}
use Rattle.cam_script.specs.declared.Form.{Form}
use Rattle.cam_script.specs.declared.Form.TheVariants as forms
use Rattle.cam_script.specs.SoFar.{SoFar}

-- What a call answered is what was read, unless memory ran out.
abbrev pub Gives : {A : Type 0} → Result A ScriptFault → Result A ScriptFault → Type 0
Gives (Ok x) read = read ≡ Ok x
Gives (Err (Bad line column cause)) read = read ≡ Err (Bad line column cause)
Gives (Err NoMemory) read = Unit {0}

-- The same of a call after which `next` is what stands after some lines.
abbrev pub Leads : {A : Type 0} → Result (Unit {0}) ScriptFault → A → Result A ScriptFault → Type 0
Leads (Ok done) next read = read ≡ Ok next
Leads (Err (Bad line column cause)) next read = read ≡ Err (Bad line column cause)
Leads (Err NoMemory) next read = Unit {0}

-- A step of this line costs 1: each but `start`.
abbrev pub costs_one : Form → Bool
costs_one forms.Begin = true
costs_one forms.Ask = true
costs_one forms.Call = true
costs_one forms.Commit = true
costs_one forms.Abort = true
costs_one forms.GiveUp = true
costs_one forms.Go = true
costs_one forms.Deliver = true
costs_one forms.Cut = true
costs_one forms.Lose = true
costs_one forms.Restart = true
costs_one forms.Drain = true
costs_one forms.Play = true
costs_one forms.Tell = true
costs_one forms.Query = true
costs_one forms.Stop = true
costs_one _ = false

-- What is declared so far is within the limits of a script.
pub record IsWithin (d : SoFar) : Type 0 where
  pub labels : length d.script.labels ≤ 64
  pub steps : length d.script.steps ≤ 512
  pub spent : d.spent ≤ 512
  pub bodies : length d.body_names ≤ 32
  pub names : length d.body_names ≡ length d.script.bodies
  pub statements : IfSome d.writing (λ w. length w.statements ≤ 32)
