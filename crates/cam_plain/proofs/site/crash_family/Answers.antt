use Rattle.std.proofs.Common.{Bool, if◌then◌else◌, sym, ap, ◌∙◌}
use Rattle.std.proofs.lemmas.Result.{on_ok_weaker}
use Rattle.cam_locks.specs.Calls.{with_abort}
use Rattle.cam_plain.proofs.site.crash_family.Goals as goal

pub returns-then-is_secured : goal.returns-then-is_secured
returns-then-is_secured c = λ objects L keeps.
    let old = c.args.locks.now.site in
    sym (ap (λ (b : Bool). if b then old else with_abort old c.args.family.now) (sym (c.is_secured.ensures objects L keeps) ∙ c.if-is_secured.true))

pub returns : goal.returns
returns c =
    let old = c.args.locks.now.site in
    on_ok_weaker c.abort.result
    (λ done. λ objects L keeps.
    done ∙ sym (ap (λ (b : Bool). if b then old else with_abort old c.args.family.now) (sym (c.is_secured.ensures objects L keeps) ∙ c.if-is_secured.false)))
    c.abort.ensures
