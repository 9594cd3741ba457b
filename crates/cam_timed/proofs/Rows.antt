-- The worked runs, as the checker computes them.
use Rattle.std.proofs.Common.{◌≡◌, Bool, true, false, ◌&&◌, List, [], ◌∷◌, refl, sym, ◌∙◌}
use Rattle.std.specs.Fmt.{digits}
use Rattle.std.proofs.lemmas.Bool.{and_from, true≢false}
use Rattle.cam_type.specs.declared.ObjectDecl.{ObjectDecl}
use Rattle.cam_event.specs.declared.Deed.{Deed}
use Rattle.cam_event.specs.Pasts.{plain_all}
use Rattle.cam_plain.specs.Legal.{Legal}
use Rattle.cam_plain.specs.Tests.{meets}
use Rattle.cam_plain.proofs.Deciders.{meets_decides}
use Rattle.cam_timed.specs.Moments.{events}
use Rattle.cam_timed.specs.TimedReport.{timed_text_of}
use Rattle.cam_timed.specs.Rows.{QuietAnswer, TopExpires, LateGrandchild, grandchild_script}
use Rattle.cam_timed.specs.WrongFinish.{FinishMustBringAborts, wrong_run, wrong_text}

pub quiet_answer : QuietAnswer
unfolding digits
quiet_answer = refl

pub top_expires : TopExpires
unfolding digits
top_expires = refl

pub late_grandchild : LateGrandchild
unfolding digits
late_grandchild = refl

-- whether each deed meets its line
abbrev all_meet : List ObjectDecl → List Deed → Bool
all_meet objects [] = true
all_meet objects (d ∷ L) = meets objects L d && all_meet objects L

-- in a legal history each does
legal_meets : (objects : List ObjectDecl) (L : List Deed) → Legal objects L → all_meet objects L ≡ true
legal_meets objects [] legal = refl
legal_meets objects (d ∷ L) legal = and_from (meets objects L d) (all_meet objects L) ((meets_decides objects L d).1 legal.0) (legal_meets objects L legal.1)

busy_then : timed_text_of grandchild_script wrong_run ≡ wrong_text
unfolding digits
busy_then = refl

some_fails : all_meet grandchild_script.script.objects (plain_all (events wrong_run.trace)) ≡ false
some_fails = refl

pub finish_must_bring_aborts : FinishMustBringAborts
finish_must_bring_aborts = record {
  busy = busy_then;
  illegal = λ legal. true≢false (sym (legal_meets grandchild_script.script.objects (plain_all (events wrong_run.trace)) legal) ∙ some_fails);
}
