-- What a line of a script needs before it leads on: its tests in their order, and what the first of
-- them that fails says.
use Rattle.std.specs.Prelude.{◌≡◌, List, Option, Some, None}
use Rattle.cam_names.specs.declared.name.Name.{Name}
use Rattle.cam_names.specs.Names.{home_node, family}
use Rattle.cam_event.specs.declared.LetterId.{LetterId}
use Rattle.cam_event.specs.declared.LineRefusal.{LineRefusal}
use Rattle.cam_event.specs.declared.LineRefusal.TheVariants as refusals
use Rattle.cam_event.specs.declared.Want.{Want}
use Rattle.cam_event.specs.declared.Want.TheVariants as wants
use Rattle.cam_event.specs.Refusals.{refusal, tell_refusal, query_refusal}
use Rattle.cam_event.specs.Readings.{Reading}
use Rattle.cam_script.specs.declared.Act.{Act}
use Rattle.cam_script.specs.declared.Act.TheVariants as acts
use Rattle.cam_script.specs.declared.Statement.{Statement}
use Rattle.cam_runs.specs.Running.{letter_of}
use Rattle.cam_runs.specs.Requests.{home_sight, variable}
use Rattle.cam_runs.specs.Playing.{go_refusal}
use Rattle.cam_runs.specs.Standing.{Standing, Setting, addressee}
use Rattle.cam_runs.specs.HaltedLines.{Passed, Refused, Led, is_halted, halted_or, act}

-- the refusal of a line, where it is refused
abbrev pub refused_by : Passed → Option LineRefusal
refused_by (Refused refusal) = Some refusal
refused_by (Led standing binds) = None

-- the variable is bound, or it says so
abbrev pub test_variable : Option Name → (Name → Option LineRefusal) → Option LineRefusal
test_variable None test = Some refusals.Unbound
test_variable (Some a) test = test a

-- the letter was sent and is not lost, or it says so
abbrev pub test_letter : Option LetterId → (LetterId → Option LineRefusal) → Option LineRefusal
test_letter None test = Some refusals.NoLetter
test_letter (Some letter) test = test letter

-- a request of an action, by what its home holds
abbrev pub test_request : Reading → Standing → Name → Want → Option LineRefusal
test_request reading st a want = halted_or st (home_node a)
    (refusal (home_sight reading st.running a) a want)

-- the first test of the line that fails
abbrev pub line_refusal : Reading → Standing → Act → Option LineRefusal
line_refusal reading st (acts.Begin s) = is_halted st s
line_refusal reading st (acts.Start s body) = is_halted st s
line_refusal reading st (acts.Ask p m) = test_variable (variable st.running p)
    (λ a. test_request reading st a (wants.Ask m))
line_refusal reading st (acts.Call v x op) = test_variable (variable st.running v)
    (λ a. test_request reading st a (wants.Call x op))
line_refusal reading st (acts.Commit v value) =
    test_variable (variable st.running v) (λ a. test_request reading st a (wants.Commit value))
line_refusal reading st (acts.Abort v) = test_variable (variable st.running v)
    (λ a. test_request reading st a wants.Abort)
line_refusal reading st (acts.GiveUp v w) =
    test_variable (variable st.running v) (λ a.
    test_variable (variable st.running w) (λ b. test_request reading st a (wants.GiveUp b)))
line_refusal reading st (acts.Go v) =
    test_variable (variable st.running v) (λ a.
    halted_or st (home_node a) (go_refusal (home_sight reading st.running a) a))
line_refusal reading st (acts.Deliver k) = test_letter (letter_of st.running k)
    (λ letter. is_halted st (addressee st letter))
line_refusal reading st (acts.Cut k bytes) = test_letter (letter_of st.running k)
    (λ letter. is_halted st (addressee st letter))
line_refusal reading st (acts.Lose k) = test_letter (letter_of st.running k) (λ letter. None)
line_refusal reading st (acts.Restart s) = None
line_refusal reading st acts.Drain = None
line_refusal reading st acts.Play = None
line_refusal reading st (acts.Tell s to) = halted_or st s (tell_refusal s to)
line_refusal reading st (acts.Query s v) =
    test_variable (variable st.running v) (λ a.
    halted_or st s (query_refusal (reading.sight st.running.trace s) (family a)))
line_refusal reading st (acts.Stop s calls) = is_halted st s

-- It is the line's refusal, in every run, whichever inputs are halts.
abbrev pub LinesAreTested : Type 0
LinesAreTested =
    (c : Setting) (bodies : List (List Statement)) (st : Standing) (a : Act)
    → refused_by (act c bodies st a) ≡ line_refusal c.reading st a
