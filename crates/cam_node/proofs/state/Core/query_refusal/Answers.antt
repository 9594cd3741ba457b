-- What stands against a query.
use Rattle.std.proofs.Common.{Bool, sym, ap, ◌∙◌}
use Rattle.cam_event.specs.declared.LineRefusal.TheVariants as refusals
use Rattle.cam_event.specs.Refusals.{where_so}
use Rattle.cam_node.specs.Calls.{answers}
use Rattle.cam_node.proofs.QueryRefused.{query_is_rule, told, held, none_held}
use Rattle.cam_node.proofs.state.Core.query_refusal.Goals as goal

pub returns-then-tells-clause-value : goal.returns-then-tells-clause-value
returns-then-tells-clause-value c =
    ap (λ (b : Bool). where_so b refusals.NothingToDo)
    (told _ _ c.tells.result c.tells.ensures c.if-tells.true)

pub returns-then-tells-clause-rule : goal.returns-then-tells-clause-rule
returns-then-tells-clause-rule c = λ objects history through rep.
    returns-then-tells-clause-value c
    ∙ sym (query_is_rule objects (answers c.args.self.now) history c.args.family.now rep)

pub returns-then-has_something_of-clause-value : goal.returns-then-has_something_of-clause-value
returns-then-has_something_of-clause-value c =
    ap (λ (b : Bool). where_so b refusals.NothingToDo)
    (held _ _ c.tells.result c.has_something_of.result c.tells.ensures c.if-tells.false
    c.has_something_of.ensures c.if-has_something_of.true)

pub returns-then-has_something_of-clause-rule : goal.returns-then-has_something_of-clause-rule
returns-then-has_something_of-clause-rule c = λ objects history through rep.
    returns-then-has_something_of-clause-value c
    ∙ sym (query_is_rule objects (answers c.args.self.now) history c.args.family.now rep)

pub returns-else-has_something_of-clause-value : goal.returns-else-has_something_of-clause-value
returns-else-has_something_of-clause-value c =
    ap (λ (b : Bool). where_so b refusals.NothingToDo)
    (none_held _ _ c.tells.result c.has_something_of.result c.tells.ensures c.if-tells.false
    c.has_something_of.ensures c.if-has_something_of.false)

pub returns-else-has_something_of-clause-rule : goal.returns-else-has_something_of-clause-rule
returns-else-has_something_of-clause-rule c = λ objects history through rep.
    returns-else-has_something_of-clause-value c
    ∙ sym (query_is_rule objects (answers c.args.self.now) history c.args.family.now rep)
