-- The worked answers, as the checker computes them.
use Rattle.std.proofs.Common.{◌≡◌, ℕ, List, [], ◌∷◌, ◌++◌, Ok, Err, refl, sym, subst, ◌∙◌, inr, pos}
use Rattle.std.specs.Prelude.{Result, codes}
use Rattle.std.specs.Fmt.{digits}
use Rattle.cam_type.specs.declared.State.TheVariants.{Register}
use Rattle.cam_type.specs.declared.Op.TheVariants as ops
use Rattle.cam_script.specs.declared.Script.{Script}
use Rattle.cam_words.specs.declared.fault.ScriptFault.{ScriptFault}
use Rattle.cam_words.specs.declared.fault.ScriptFault.TheVariants.{Bad}
use Rattle.cam_words.specs.declared.cause.Cause.TheVariants as causes
use Rattle.cam_script.specs.declared.Step.{Step}
use Rattle.cam_script.specs.declared.Act.TheVariants as acts
use Rattle.cam_script.specs.Grammar.{read_script}
use Rattle.cam_script.proofs.Read.{read}
use Rattle.cam_run.specs.Texts.{refused_text}
use Rattle.cam_run.specs.declared.question.Question.TheVariants.{Report}
use Rattle.cam_runs.specs.Halts.{by_stops}
use Rattle.cam_headline.specs.Headline.{events, one_run}
use Rattle.cam_run.specs.Told.{report_of}
use Rattle.cam_run.specs.Answer.{IsOfScript, IsToldRun}
use Rattle.cam_run.specs.Worked.{open_call, open_call_report, refused_call, refused_call_report, repeated_letter, repeated_letter_report, stopped_commit, stopped_commit_report, unknown_line, unknown_line_text, none, AreWorked}

-- the grammar with its definitions opened
opened : (bytes : List ℕ) → read_script bytes ≡ read bytes
unfolding read
opened bytes = refl

-- the answer to an input, by what is read of it
answers : (input : List ℕ) (is : Result Script ScriptFault) (status : ℕ) (text : List ℕ) → read input ≡ is → IsOfScript Report is none status text → IsOfScript Report (read_script input) none status text
answers input is status text spelled answer =
    subst (λ r. IsOfScript Report r none status text) (sym (opened input ∙ spelled)) answer

-- the report of the one run of a script
abbrev one_report : Script → List ℕ
one_report script = report_of script (events script) (one_run script).marks

-- what is told of that run: its halts are those that its stop lines make
of_one : (script : Script) (text : List ℕ) → text ≡ one_report script
    → IsToldRun Report script none 0 text
of_one script text told = record {
  halts = by_stops;
  known = record {
    stops = λ s low never more before line appends restarted is. refl;
    one = λ never. refl;
  };
  told = (refl, told);
  kept = tt;
}

-- one node and the register x, which holds this number
abbrev script : ℕ → List Step → Script
script value steps =
    record { nodes = 1; objects = record { node = 1; start = Register (pos value) } ∷ []; labels = codes "x" ∷ []; bodies = []; steps = steps }

abbrev busy_steps : List Step
busy_steps =
    record { line = 3; act = acts.Begin 1 }
    ∷ record { line = 4; act = acts.Begin 1 }
    ∷ record { line = 5; act = acts.Call 0 0 (ops.Write (pos 5)) }
    ∷ record { line = 6; act = acts.Deliver 1 }
    ∷ record { line = 7; act = acts.Deliver 2 }
    ∷ record { line = 8; act = acts.Call 1 0 ops.Read }
    ∷ record { line = 9; act = acts.Deliver 3 }
    ∷ record { line = 10; act = acts.Deliver 4 }
    ∷ []

abbrev open_steps : List Step
open_steps = busy_steps ++ record { line = 11; act = acts.Call 0 0 ops.Read } ∷ []

abbrev refused_steps : List Step
refused_steps = busy_steps ++ record { line = 11; act = acts.Call 1 0 ops.Read } ∷ record { line = 12; act = acts.Call 1 0 ops.Read } ∷ []

abbrev repeated_steps : List Step
repeated_steps =
    record { line = 3; act = acts.Begin 1 }
    ∷ record { line = 4; act = acts.Call 0 0 (ops.Swap (pos 5)) }
    ∷ record { line = 5; act = acts.Deliver 1 }
    ∷ record { line = 6; act = acts.Deliver 1 }
    ∷ record { line = 7; act = acts.Deliver 3 }
    ∷ record { line = 8; act = acts.Deliver 2 }
    ∷ record { line = 9; act = acts.Call 0 0 ops.Read }
    ∷ record { line = 10; act = acts.Deliver 4 }
    ∷ record { line = 11; act = acts.Deliver 5 }
    ∷ []

open_spelled : read open_call ≡ Ok (script 0 open_steps)
unfolding read
open_spelled = refl

open_reported : one_report (script 0 open_steps) ≡ open_call_report
unfolding digits
open_reported = refl

refused_spelled : read refused_call ≡ Ok (script 0 refused_steps)
unfolding read
refused_spelled = refl

refused_reported : one_report (script 0 refused_steps) ≡ refused_call_report
unfolding digits
refused_reported = refl

repeated_spelled : read repeated_letter ≡ Ok (script 7 repeated_steps)
unfolding read
repeated_spelled = refl

repeated_reported : one_report (script 7 repeated_steps) ≡ repeated_letter_report
unfolding digits
repeated_reported = refl

-- two nodes, and the register x at the second
abbrev stopped_script : Script
stopped_script =
    record {
      nodes = 2;
      objects = record { node = 2; start = Register (pos 0) } ∷ [];
      labels = codes "x" ∷ [];
      bodies = [];
      steps = record { line = 3; act = acts.Begin 1 }
          ∷ record { line = 4; act = acts.Call 0 0 (ops.Write (pos 5)) }
          ∷ record { line = 5; act = acts.Drain }
          ∷ record { line = 6; act = acts.Commit 0 (pos 0) }
          ∷ record { line = 7; act = acts.Deliver 3 }
          ∷ record { line = 8; act = acts.Deliver 4 }
          ∷ record { line = 9; act = acts.Deliver 5 }
          ∷ record { line = 10; act = acts.Deliver 6 }
          ∷ record { line = 11; act = acts.Stop 1 3 }
          ∷ record { line = 12; act = acts.Deliver 7 }
          ∷ record { line = 13; act = acts.Restart 1 }
          ∷ record { line = 14; act = acts.Query 2 0 }
          ∷ record { line = 15; act = acts.Drain }
          ∷ [];
    }

stopped_spelled : read stopped_commit ≡ Ok stopped_script
unfolding read
stopped_spelled = refl

stopped_reported : one_report stopped_script ≡ stopped_commit_report
unfolding digits
stopped_reported = refl

unknown_read : read unknown_line ≡ Err (Bad 3 1 causes.UnknownWord)
unfolding read
unknown_read = refl

unknown_told : refused_text 3 1 3 ≡ unknown_line_text
unfolding digits
unknown_told = refl

pub are_worked : AreWorked
are_worked =
    record {
      open_call_is_shown = answers open_call (Ok (script 0 open_steps)) 0 open_call_report open_spelled (inr (of_one _ _ (sym open_reported)));
      refused_call_is_marked = answers refused_call (Ok (script 0 refused_steps)) 0 refused_call_report refused_spelled (inr (of_one _ _ (sym refused_reported)));
      repeated_letter_is_performed_once = answers repeated_letter (Ok (script 7 repeated_steps)) 0 repeated_letter_report repeated_spelled (inr (of_one _ _ (sym repeated_reported)));
      stopped_commit_is_taken = answers stopped_commit (Ok stopped_script) 0 stopped_commit_report stopped_spelled (inr (of_one _ _ (sym stopped_reported)));
      unknown_line_is_refused = answers unknown_line (Err (Bad 3 1 causes.UnknownWord)) 3 unknown_line_text unknown_read (refl, sym unknown_told);
    }
