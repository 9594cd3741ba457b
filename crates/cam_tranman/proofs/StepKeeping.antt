-- After each step the actions answer as the longer history, where they did what its deeds do.
use Rattle.std.proofs.Common.{◌≡◌, ℕ, ◌+◌, List, [], ◌∷◌, ap, subst, ◌∙◌}
use Rattle.cam_type.specs.declared.ObjectDecl.{ObjectDecl}
use Rattle.cam_event.specs.declared.Deed.{Deed}
use Rattle.cam_event.specs.declared.Deed.TheVariants.{Create, Ask, Call, Perform, Bounce, Got, AskCommit, AskAbort, Commit, Abort, Secure, Inform, Crash}
use Rattle.cam_event.specs.Carried.{Carried}
use Rattle.cam_event.specs.NextStep.{stepped}
use Rattle.cam_tranman.specs.Actions.{Actions, RunsActions}
use Rattle.cam_tranman.specs.Calls.{AreSame, none_run}
use Rattle.cam_tranman.specs.Events.{at_home, after_deed}
use Rattle.cam_tranman.specs.Orderly.{IsOrderly}
use Rattle.cam_tranman.specs.Keeping.{home_deeds, IsCrashOrMayCome, OneMayCome, after_deeds, StepKeeps}
use Rattle.cam_tranman.proofs.Keeping.{quiet_keeps, deed_keeps}
use Rattle.cam_tranman.proofs.StepDeeds.{rules_make_them}
use Rattle.cam_tranman.proofs.Restarting.{restart_keeps}
use Rattle.cam_tranman.proofs.ComesOne.{deeds_may_come}

-- ONE STEP, whatever it is.
crash_keeps : (objects : List ObjectDecl) (s : ℕ) (before : List Carried) (c : Carried) (m : ℕ) (old new : Actions) → m ≡ s → at_home c ≡ Crash m ∷ []
    → AreSame (none_run old.node (old.count + 1)) new → RunsActions objects s before old → IsOrderly s before → RunsActions objects s (c ∷ before) new
crash_keeps objects s before c m old new is one same runs ord =
    restart_keeps objects s before c new ord (one ∙ ap (λ (k : ℕ). Crash k ∷ []) is)
    (subst (λ (p : ℕ × ℕ). AreSame (none_run p.0 (p.1 + 1)) new) (λ i. (runs.node i, runs.count i)) same)

deed_step : (objects : List ObjectDecl) (s : ℕ) (before : List Carried) (c : Carried) (d : Deed) (old new : Actions) → at_home c ≡ d ∷ [] → IsCrashOrMayCome s c.mail d old
    → AreSame (after_deed objects c.mail d old) new → RunsActions objects s before old → IsOrderly s before → RunsActions objects s (c ∷ before) new
deed_step objects s before c (Crash m) old new one may same runs ord = crash_keeps objects s before c m old new may one same runs ord
deed_step objects s before c (Create a) old new one may same runs ord = deed_keeps objects s before c (Create a) old new one may same runs
deed_step objects s before c (Ask a b) old new one may same runs ord = deed_keeps objects s before c (Ask a b) old new one may same runs
deed_step objects s before c (Call a n x op k) old new one may same runs ord = deed_keeps objects s before c (Call a n x op k) old new one may same runs
deed_step objects s before c (Got a n seen) old new one may same runs ord = deed_keeps objects s before c (Got a n seen) old new one may same runs
deed_step objects s before c (AskCommit a v) old new one may same runs ord = deed_keeps objects s before c (AskCommit a v) old new one may same runs
deed_step objects s before c (AskAbort a) old new one may same runs ord = deed_keeps objects s before c (AskAbort a) old new one may same runs
deed_step objects s before c (Commit b) old new one may same runs ord = deed_keeps objects s before c (Commit b) old new one may same runs
deed_step objects s before c (Abort b) old new one may same runs ord = deed_keeps objects s before c (Abort b) old new one may same runs
deed_step objects s before c (Perform a n answer) old new one may same runs ord = absurd may
deed_step objects s before c (Bounce a n u) old new one may same runs ord = absurd may
deed_step objects s before c (Secure f site k) old new one may same runs ord = absurd may
deed_step objects s before c (Inform site a committed) old new one may same runs ord = absurd may

deeds_step : (objects : List ObjectDecl) (s : ℕ) (before : List Carried) (c : Carried) (hs : List Deed) (old new : Actions) → at_home c ≡ hs → OneMayCome s c.mail hs old
    → AreSame (after_deeds objects c.mail hs old) new → RunsActions objects s before old → IsOrderly s before → RunsActions objects s (c ∷ before) new
deeds_step objects s before c [] old new is may same runs ord = quiet_keeps objects s before c old new is same runs
deeds_step objects s before c (d ∷ []) old new is may same runs ord = deed_step objects s before c d old new is may same runs ord
deeds_step objects s before c (d ∷ e ∷ hs) old new is may same runs ord = absurd may

pub step_keeps : StepKeeps
step_keeps objects s before input mail brought old new runs ord may whole same =
    deeds_step objects s before (stepped objects s before input mail brought) (home_deeds objects s before input mail brought) old new
    (rules_make_them objects s before input mail brought) (deeds_may_come objects s before input mail brought old runs ord may whole) same runs ord
