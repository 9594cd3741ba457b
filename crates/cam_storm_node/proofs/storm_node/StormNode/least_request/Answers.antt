-- The actions that may have a request are gone over in order of their names, up to the first that
-- has one.
use Rattle.std.proofs.Common.{◌≡◌, List, sym, ◌∙◌, subst}
use Rattle.std.specs.List.Sorted.{IsStrictlySortedBy}
use Rattle.cam_names.specs.declared.name.Name.{Name}
use Rattle.cam_names.specs.Names.{name_cmp}
use Rattle.cam_storm.specs.Own.{OwnRequest}
use Rattle.cam_storm_node.proofs.Least.{Remain, least_request, rest_remain, sorted_rest}
use Rattle.cam_storm_node.proofs.Requested.{has_asked}
use Rattle.cam_storm_node.proofs.storm_node.StormNode.least_request.Goals as goal

pub loop-name-init : goal.loop-name-init
loop-name-init g c =
    let works = c.args.self.now.works in
    let is : c.into_iter-name-iterator.result ≡ works.asking.keys =
    c.into_iter-name-iterator.ensures.into_iter_gives ∙ c.iter-name-items.ensures.rest in record {
      sorted =
          subst (λ (names : List Name). IsStrictlySortedBy name_cmp names) (sym is)
          c.iter-name-items.ensures.ordered;
      remain = λ words s own knows.
          subst (Remain words s own) (sym is)
          (λ b want request. has_asked words s own b want _ knows request);
    }

pub returns-in-Some-request_of-clause-least : goal.returns-in-Some-request_of-clause-least
returns-in-Some-request_of-clause-least g c words s own knows =
    let step = c.in-Some.ensures.steps in
    least_request words s own c.in-Some.name.now c.next.new.self
    (subst (Remain words s own) step (c.loop-name.invariant.remain words s own knows))
    (subst (λ (names : List Name). IsStrictlySortedBy name_cmp names) step
    c.loop-name.invariant.sorted) c.in-Some-request_of.request
    (c.in-Some-request_of.ensures words s own knows)

pub returns-in-Some-request_of-clause-request : goal.returns-in-Some-request_of-clause-request
returns-in-Some-request_of-clause-request g c words s own knows =
    let is = c.in-Some-request_of.ensures words s own knows in
    subst (λ (n : Name). OwnRequest words s own n c.in-Some-request_of.request.want) (sym is.0) is.1

pub loop-name-preserved : goal.loop-name-preserved
loop-name-preserved g c =
    let step = c.in-Some.ensures.steps in record {
      sorted =
          sorted_rest c.in-Some.name.now c.next.new.self
          (subst (λ (names : List Name). IsStrictlySortedBy name_cmp names) step
          c.loop-name.invariant.sorted);
      remain = λ words s own knows.
          rest_remain words s own c.in-Some.name.now c.next.new.self
          (subst (Remain words s own) step (c.loop-name.invariant.remain words s own knows))
          (c.in_default.ensures words s own knows);
    }
