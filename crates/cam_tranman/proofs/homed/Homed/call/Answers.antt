use Rattle.std.proofs.Common.{◌+◌, Option, Some, if◌then◌else◌, sym, ap, ◌∙◌}
use Rattle.std.specs.HashMap.{get}
use Rattle.cam_names.specs.Names.{name_eq}
use Rattle.cam_tranman.specs.declared.call.OpenCall.{OpenCall}
use Rattle.cam_tranman.specs.Calls.{one_call_more}
use Rattle.cam_tranman.proofs.Changing.{changed_there, changed_same}
use Rattle.cam_tranman.proofs.homed.Homed.call.Goals as goal

pub returns-clause-ok : goal.returns-clause-ok
returns-clause-ok c =
    let a = c.args.action.now in
    let kept = c.unwrap-kept.result in
    let same = c.reserve.ensures.same in
    let call : OpenCall = record { number = kept.calls + 1; object = c.args.object; op = c.args.op.now; site = c.args.site; count = c.args.count } in
    record {
      node = same.node;
      count = same.count;
      tops = same.tops;
      action = λ q.
          changed_there a kept c.with_call.result one_call_more (get name_eq c.reserve.new.self.actions) (get name_eq c.keep.new.actions)
          (sym c.kept_in.ensures ∙ c.unwrap-kept.ensures) c.with_call.ensures c.keep.ensures q
          ∙ changed_same a one_call_more (get name_eq c.args.self.now.actions) (get name_eq c.reserve.new.self.actions) same.action q;
      call = λ q. c.open_call.ensures q ∙ ap (λ (o : Option OpenCall). if name_eq a q then Some call else o) (same.call q);
      children = same.children;
    }
