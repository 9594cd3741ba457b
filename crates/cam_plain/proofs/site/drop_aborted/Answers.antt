use Rattle.std.proofs.Common.{ap, ◌∙◌}
use Rattle.std.proofs.lemmas.Result.{on_ok_weaker}
use Rattle.cam_plain.specs.Sites.{with_abort_of}
use Rattle.cam_plain.proofs.site.drop_aborted.Goals as goal

pub returns-in-Some : goal.returns-in-Some
returns-in-Some c =
    on_ok_weaker c.abort.result (λ done. λ objects L keeps. done ∙ ap (λ o. with_abort_of o c.args.locks.now.site) (c.in-Some.ensures objects L keeps)) c.abort.ensures

pub returns-in-None : goal.returns-in-None
returns-in-None c = λ objects L keeps. ap (λ o. with_abort_of o c.args.locks.now.site) (c.in-None.ensures objects L keeps)
