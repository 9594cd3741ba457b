use Rattle.std.proofs.Common.{[], refl, rules}
use Rattle.cam_own.specs.Actions.{KeepsActions}
use Rattle.cam_own.specs.Tops.{KeepsTops}
use Rattle.cam_own.specs.Children.{KeepsChildren}
use Rattle.cam_own.specs.Replies.{KeepsReplies}
use Rattle.cam_own.specs.Votes.{KeepsVotes}
use Rattle.cam_own.proofs.own.Own.new.Goals as goal

pub returns : goal.returns
returns c = λ objects.
    let actions : KeepsActions [] c.new-2.result = search rules in
    let tops : KeepsTops [] c.new-3.result = search rules in
    let children : KeepsChildren [] c.new-4.result = search rules in
    let replies : KeepsReplies [] c.new-5.result = search rules in
    let votes : KeepsVotes [] c.new-7.result = search rules in
    record {
      node = refl;
      ledger = c.new.ensures objects;
      actions = actions;
      tops = tops;
      children = children;
      replies = replies;
      informed = c.new-6.ensures c.args.node;
      votes = votes;
    }
