-- What was done with a call is taken back.
use Rattle.std.proofs.Common.{◌≡◌, refl, sym, ap, ◌∙◌, subst}
use Rattle.cam_locks.specs.Site.{TableView}
use Rattle.cam_server.specs.declared.Performed.{Performed}
use Rattle.cam_server.specs.declared.Performed.TheVariants as performed
use Rattle.cam_server.specs.Calls.{answers, performed_by, AfterPerformed}
use Rattle.cam_server.proofs.TakenBack.{same_again, done_site, busy_site}
use Rattle.cam_server.proofs.server.Server.take_back.Goals as goal

pub returns-in-Done-clause-back : goal.returns-in-Done-clause-back
returns-in-Done-clause-back c = λ k asked before action number is after.
    let old = answers c.args.self.now in
    let done = performed.Done c.in-Done.field-0 in
    let done_is : done ≡ performed_by k before asked = sym c.in-Done.is ∙ is in
    let then : AfterPerformed asked done before old =
    subst (λ (p : Performed). AfterPerformed asked p before old) c.in-Done.is after in
    same_again k asked done before old (answers c.forget.new.self)
    (record { action = c.args.action.now; number = c.args.number }) action number done_is refl
    then c.forget.ensures.rest.0
    (ap (λ (t : TableView). t.site) c.forget.ensures.rest.1
    ∙ c.take_back.ensures.site before.table.site asked.action asked.object asked.op
    (done_site k asked c.in-Done.field-0 before old done_is then))
    (λ a n. c.forget.ensures.replies (record { action = a; number = n }))

pub returns-in-Busy-clause-back : goal.returns-in-Busy-clause-back
returns-in-Busy-clause-back c = λ k asked before action number is after.
    let old = answers c.args.self.now in
    let done = performed.Busy c.in-Busy.field-0 in
    let done_is : done ≡ performed_by k before asked = sym c.in-Busy.is ∙ is in
    let then : AfterPerformed asked done before old =
    subst (λ (p : Performed). AfterPerformed asked p before old) c.in-Busy.is after in
    same_again k asked done before old (answers c.forget-in-Busy.new.self)
    (record { action = c.args.action.now; number = c.args.number }) action number done_is
    refl then c.forget-in-Busy.ensures.rest.0
    (ap (λ (t : TableView). t.site) c.forget-in-Busy.ensures.rest.1 ∙ busy_site k asked
    c.in-Busy.field-0 before old done_is then)
    (λ a n. c.forget-in-Busy.ensures.replies (record { action = a; number = n }))
