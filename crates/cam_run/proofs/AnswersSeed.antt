-- Words that are a form of `gen`: the answer by the script of a seed.
use Rattle.std.proofs.Common.{◌≡◌, ◌≤◌, ◌⊎◌, inl, inr, ℕ, List, Option, Result, Ok, Err, IfOk, sym}
use Rattle.std.proofs.Common.{subst}
use Rattle.std.specs.Prelude.{IsOk}
use Rattle.std.proofs.lemmas.Result.{IfOk-weaker}
use Rattle.cam_base.specs.Told.{IfTold}
use Rattle.cam_args.specs.declared.Command.{Command}
use Rattle.cam_args.specs.declared.Command.TheVariants.{Gen}
use Rattle.cam_args.specs.Forms.{IsForm, Finds}
use Rattle.cam_script.specs.declared.Script.{Script}
use Rattle.cam_script.specs.Grammar.{read_script}
use Rattle.cam_words.specs.declared.fault.ScriptFault.{ScriptFault}
use Rattle.cam_event.specs.declared.Event.{Event}
use Rattle.cam_gen.specs.Script.{script_of as generated}
use Rattle.cam_gen.specs.Storms.{Words}
use Rattle.cam_gen.proofs.AllAccepted.{each_is_accepted}
use Rattle.cam_run.specs.declared.answer.Answer.{Answer}
use Rattle.cam_run.specs.Status.{number}
use Rattle.cam_run.specs.declared.question.Question.TheVariants.{Summary}
use Rattle.cam_run.specs.Answer.{IsOfCommand, IsOfScript, Outcome}
use Rattle.cam_run.specs.Disks.{DisksLeft}
use Rattle.cam_run.proofs.Commanded.{same_command, of_unread}

-- `gen` answers by the script of its seed, and leaves the source as it is
pub answers_seed : {E : Type 0} (command : Command) (seed size : ℕ) (outcome : Outcome)
    (left : Option (List ℕ)) (r : Result Answer E)
    → command ≡ Gen seed size
    → IfOk r
    (λ a. IsOfScript (Summary size) (read_script (generated seed size)) outcome.disks
    (number a.status) a.text.items)
    → IfTold left left
    (λ input _.
    IfOk r (λ a. IsOfCommand command outcome input (number a.status) a.text.items))
answers_seed command seed size outcome left r is told =
    subst
    (λ (c : Command).
    IfTold left left
    (λ input _. IfOk r (λ a. IsOfCommand c outcome input (number a.status) a.text.items)))
    (sym is)
    (of_unread left
    (λ (input : List ℕ).
    IfOk r (λ a. IsOfCommand (Gen seed size) outcome input (number a.status) a.text.items))
    (λ input. IfOk-weaker r _ _ (λ a answer. inr answer) told))

-- the script of a seed is accepted, so its summary is answered, or a disk failed
pub seed_is_done : {E : Type 0} (seed size : ℕ) (disks : DisksLeft) (r : Result Answer E)
    → size ≤ 400
    → IfOk r
    (λ a. IsOfScript (Summary size) (read_script (generated seed size)) disks (number a.status)
    a.text.items)
    → IfOk r (λ a. (number a.status ≡ 0) ⊎ (number a.status ≡ 6))
seed_is_done seed size disks r few told =
    IfOk-weaker r _ _
    (λ a is.
    by (number a.status) a.text.items (read_script (generated seed size))
    (each_is_accepted seed size few) is)
    told
  where
    by : (status : ℕ) (text : List ℕ) (read : Result Script ScriptFault) → IsOk read
        → IsOfScript (Summary size) read disks status text
        → (status ≡ 0) ⊎ (status ≡ 6)
    by status text (Ok script) ok (inl of_disk) = inr of_disk.is
    by status text (Ok script) ok (inr of) = inl of.told.0
    by status text (Err fault) ok told = absurd cc

-- words that are the form of `gen` are those of the command that was read
pub generated_words : {E : Type 0} (words : List (List ℕ)) (command : Command) (r : Result Answer E)
    → Finds words (Ok command)
    → ((seed size : ℕ) → command ≡ Gen seed size → size ≤ 400
    → IfOk r (λ a. (number a.status ≡ 0) ⊎ (number a.status ≡ 6)))
    → (seed size : ℕ) → IsForm words (Gen seed size)
    → IfOk r (λ a. (number a.status ≡ 0) ⊎ (number a.status ≡ 6))
generated_words words command r finds done seed size form =
    done seed size (same_command words command (Gen seed size) finds form) form.is.1.1
