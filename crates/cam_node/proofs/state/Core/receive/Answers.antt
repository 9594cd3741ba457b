-- A letter is learnt, and there is room for its news.
use Rattle.std.proofs.Common.{ℕ, ◌≤◌, ap, subst}
use Rattle.cam_server.specs.Calls as server
use Rattle.cam_node.specs.Represents.{Node}
use Rattle.cam_node.specs.Calls.{answers}
use Rattle.cam_node.proofs.Idle.{same_of}
use Rattle.cam_node.proofs.Steps.{with_server}
use Rattle.cam_node.proofs.state.Core.receive.Goals as goal

pub returns-in_err-learnt-clause-same : goal.returns-in_err-learnt-clause-same
returns-in_err-learnt-clause-same c = same_of (answers c.args.self.now) (answers c.learn.new.self)
    c.learn.ensures.same

pub returns-in_err-reserve-clause-same : goal.returns-in_err-reserve-clause-same
returns-in_err-reserve-clause-same c =
    with_server (answers c.args.self.now) (answers c.learn.new.self)
    (server.answers c.reserve.new.self) c.learn.ensures.same
    c.reserve.ensures.same

pub returns-clause-same : goal.returns-clause-same
returns-clause-same c =
    with_server (answers c.args.self.now) (answers c.learn.new.self)
    (server.answers c.reserve.new.self) c.learn.ensures.same
    c.reserve.ensures.same

pub returns-clause-received : goal.returns-clause-received
returns-clause-received c = record {
  same =
      with_server (answers c.args.self.now) (answers c.learn.new.self)
      (server.answers c.reserve.new.self) c.learn.ensures.same
      c.reserve.ensures.same;
  actions = ap (λ (n : Node). n.actions) c.learn.ensures.same;
  families = ap (λ (n : Node). n.families) c.learn.ensures.same;
  before = c.in_ok-learnt.ensures.before;
  after = c.in_ok-learnt.ensures.learnt;
  known = c.in_ok-learnt.ensures.known;
  informs = c.in_ok-learnt.ensures.informs;
  news = c.in_ok-learnt.ensures.news;
  places = c.in_ok-learnt.ensures.places;
  within = c.in_ok-learnt.ensures.within;
  room =
      subst (λ (n : ℕ). n ≤ (server.answers c.reserve.new.self).table.spare) c.len.ensures.value
      c.in_ok-reserve.ensures.ok;
}
