-- The script of a seed is accepted.
use Rattle.std.proofs.Common.{◌∙◌, ℕ, List, IfOk, subst}
use Rattle.cam_run.specs.declared.question.Question.TheVariants.{Summary}
use Rattle.cam_run.specs.Status.{number}
use Rattle.cam_script.specs.Grammar.{read_script}
use Rattle.cam_run.specs.Disks.{disks_left}
use Rattle.cam_run.specs.Answer.{IsOfScript}
use Rattle.cam_run.proofs.AnswersSeed.{seed_is_done}
use Rattle.cam_run.proofs.script.of_seed.Goals as goal

pub returns-clause-accepted : goal.returns-clause-accepted
returns-clause-accepted g c = λ few.
    seed_is_done c.args.seed c.args.size
    (disks_left g.D.Disk.tells g.D.Disk.faults g.D.Disk.moment g.D.Disk.left_since
    c.args.disks.now.items c.of_bytes.new.disks.items)
    c.of_bytes.result few
    (subst
    (λ (bytes : List ℕ).
    IfOk c.of_bytes.result
    (λ a. IsOfScript (Summary c.args.size) (read_script bytes)
    (disks_left g.D.Disk.tells g.D.Disk.faults g.D.Disk.moment g.D.Disk.left_since
    c.args.disks.now.items c.of_bytes.new.disks.items)
    (number a.status) a.text.items))
    (c.as_bytes.ensures.value ∙ c.in_ok-script.ensures) c.of_bytes.ensures.answer)
