use Rattle.std.proofs.Common.{◌≡◌, ◌+◌, [], ◌∷◌, ◌++◌, Option, IfSome, subst, sym, ◌∙◌}
use Rattle.std.specs.HashMap.{get}
use Rattle.cam_names.specs.declared.name.Name.{Name}
use Rattle.cam_names.specs.Names.{name_eq}
use Rattle.cam_tranman.specs.Tables.{answers}
use Rattle.cam_tranman.specs.Calls.{with_ask}
use Rattle.cam_tranman.proofs.Changing.{changed_there, changed_same, child_is, or_among}
use Rattle.cam_tranman.proofs.homed.Homed.ask.Goals as goal

pub returns-clause-ok : goal.returns-clause-ok
returns-clause-ok c =
    let a = c.args.action.now in
    let kept = c.unwrap-kept.result in
    let same = c.reserve.ensures.same in
    let named =
    child_is a c.unwrap-child.result c.args.node c.args.count kept (answers c.args.self.now) (sym (same.action a) ∙ sym c.kept_in.ensures ∙ c.unwrap-kept.ensures)
    (subst
    (λ (o : Option Name). IfSome o (λ name. name ≡ a ++ record { node = c.args.node; count = c.args.count; number = kept.asks + 1 } ∷ []))
    c.unwrap-child.ensures c.child.ensures.value)
    in
    record {
      node = same.node;
      count = same.count;
      tops = same.tops;
      action = λ q.
          changed_there a kept c.with_ask.result with_ask (get name_eq c.reserve.new.self.actions) (get name_eq c.keep.new.actions)
          (sym c.kept_in.ensures ∙ c.unwrap-kept.ensures) c.with_ask.ensures c.keep.ensures q
          ∙ changed_same a with_ask (get name_eq c.args.self.now.actions) (get name_eq c.reserve.new.self.actions) same.action q;
      call = same.call;
      children = λ q. c.insert.ensures q ∙ or_among _ _ q _ _ named (same.children q);
    }
