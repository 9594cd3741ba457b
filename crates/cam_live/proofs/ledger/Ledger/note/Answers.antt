use Rattle.std.proofs.Common.{◌∙◌}
use Rattle.std.proofs.lemmas.Result.{on_ok_weaker, on_err_weaker}
use Rattle.cam_live.proofs.Noting.{other_performed}
use Rattle.cam_live.proofs.ledger.Ledger.note.Goals as goal

pub returns-in_default : goal.returns-in_default
returns-in_default c =
    record {
      noted = on_ok_weaker c.note.result
          (λ noted. λ L keeps.
          record {
            tells = noted L keeps.tells;
            performed = keeps.performed ∙ other_performed c.args.objects.now L c.args.deed.now c.in_default.not-Perform;
          })
          c.note.ensures.noted;
      failed = on_err_weaker c.note.result
          (λ failed. λ L keeps. record { tells = failed L keeps.tells; performed = keeps.performed })
          c.note.ensures.failed;
    }
