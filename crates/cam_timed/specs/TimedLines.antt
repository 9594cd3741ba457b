-- The lines of a script by time that are not read as without time. Each is read after its first word.
-- A line that binds a variable gives the word of its name too.
use Rattle.std.specs.Prelude.{ℕ, List, Option, Some, None, Result, Ok}
use Rattle.cam_words.specs.declared.fault.ScriptFault.{ScriptFault}
use Rattle.cam_words.specs.declared.cause.Cause.TheVariants as causes
use Rattle.cam_words.specs.declared.word.Word.{Word}
use Rattle.cam_words.specs.Words.{◌>>=◌, refuse, or_refuse, end_at}
use Rattle.cam_words.specs.Numbers.{number_at, node_at, new_name_at}
use Rattle.cam_script.specs.declared.Act.{Act}
use Rattle.cam_script.specs.declared.Act.TheVariants as untimed
use Rattle.cam_script.specs.declared.Form.{Form}
use Rattle.cam_script.specs.declared.Use.TheVariants as uses
use Rattle.cam_script.specs.SoFar.{SoFar, variable_names}
use Rattle.cam_script.specs.Variables.{variable_at}
use Rattle.cam_script.specs.Grammar.{act_line}
use Rattle.cam_timed.specs.declared.TimedAct.{TimedAct}
use Rattle.cam_timed.specs.declared.TimedAct.TheVariants as acts
use Rattle.cam_timed.specs.declared.forms.TimedForm.{TimedForm}
use Rattle.cam_timed.specs.declared.forms.TimedForm.TheVariants as forms

-- a moment, 1 to 1,000,000,000, and the place after it
abbrev pub moment_word : ℕ → ℕ → List ℕ → Result (ℕ × ℕ) ScriptFault
moment_word number at line = number_at 1 1000000000 number at line

-- `begin A NODE UNTIL`
unfoldable pub begin_by_time : SoFar → ℕ → ℕ → List ℕ → Result (Word × TimedAct) ScriptFault
begin_by_time d number at line = do
  name ← new_name_at (variable_names d.variables) number at line
  node ← node_at d.script.nodes number name.end line
  until ← moment_word number node.1 line
  end ← end_at number until.1 line
  Ok (name, acts.Begin node.0 until.0)

-- `ask A B NODE UNTIL`
unfoldable pub ask_by_time : SoFar → ℕ → ℕ → List ℕ → Result (Word × TimedAct) ScriptFault
ask_by_time d number at line = do
  parent ← variable_at uses.Request d.variables number at line
  name ← new_name_at (variable_names d.variables) number parent.1 line
  node ← node_at d.script.nodes number name.end line
  until ← moment_word number node.1 line
  end ← end_at number until.1 line
  Ok (name, acts.Ask parent.0 node.0 until.0)

-- `tick NODE MOMENT`
unfoldable pub tick_line : SoFar → ℕ → ℕ → List ℕ → Result TimedAct ScriptFault
tick_line d number at line = do
  node ← node_at d.script.nodes number at line
  moment ← moment_word number node.1 line
  end ← end_at number moment.1 line
  Ok (acts.Tick node.0 moment.0)

-- `expire A`, A a variable of `begin`
unfoldable pub expire_line : SoFar → ℕ → ℕ → List ℕ → Result TimedAct ScriptFault
expire_line d number at line = do
  action ← variable_at uses.Begun d.variables number at line
  end ← end_at number action.1 line
  Ok (acts.Expire action.0)

-- a step without time, if scripts by time have it
abbrev pub with_time : Act → Option TimedAct
with_time (untimed.Call action object op) = Some (acts.Call action object op)
with_time (untimed.Commit action value) = Some (acts.Commit action value)
with_time (untimed.Abort action) = Some (acts.Abort action)
with_time (untimed.GiveUp action child) = Some (acts.GiveUp action child)
with_time (untimed.Deliver letter) = Some (acts.Deliver letter)
with_time (untimed.Lose letter) = Some (acts.Lose letter)
with_time untimed.Drain = Some acts.Drain
with_time (untimed.Tell node to) = Some (acts.Tell node to)
with_time (untimed.Query node action) = Some (acts.Query node action)
with_time _ = None

-- the other steps, which are read as without time
unfoldable pub untimed_line : SoFar → Form → ℕ → ℕ → List ℕ → Result TimedAct ScriptFault
untimed_line d form number at line = do
  act ← act_line d form number at line
  or_refuse (with_time act) number 0 causes.Misplaced

-- the step of a line that binds no variable
abbrev pub timed_act_line : SoFar → TimedForm → ℕ → ℕ → List ℕ → Result TimedAct ScriptFault
timed_act_line d forms.Tick number at line = tick_line d number at line
timed_act_line d forms.Expire number at line = expire_line d number at line
timed_act_line d (forms.Untimed form) number at line = untimed_line d form number at line
-- no other line is such a step
timed_act_line d _ number at line = refuse number 0 causes.Misplaced
