use Rattle.std.proofs.Common.{◌≡◌, ◌+◌, ℕ, List, [], length, refl, sym, ap, ◌∙◌, subst, arith, rules}
use Rattle.std.specs.Prelude.{slice_get, reverse}
use Rattle.std.proofs.lemmas.List.{length_push}
use Rattle.cam_timed.specs.declared.machine.Letter.{Letter}
use Rattle.cam_timed.specs.declared.machine.Node.{Node}
use Rattle.cam_timed.specs.Machine.{KeepsLetters, KeepsNode}
use Rattle.cam_timed.specs.Reaches.{nowhere, reach_in}
use Rattle.cam_timed.proofs.Beginning.{each_push, none_named}
use Rattle.cam_timed.proofs.Hearing.{none_heard}
use Rattle.cam_timed.proofs.machine.Machine.new.Goals as goal

pub loop-place-preserved : goal.loop-place-preserved
loop-place-preserved c =
    let nodes = c.loop-place.nodes.items in
    let node : Node = record { own = c.new.result; moment = 0 } in
    let many = c.loop-place.invariant.many in
    let items = c.in_ok-push.ensures.items in
    record {
      many = ap length items ∙ length_push nodes node ∙ ap (λ (n : ℕ). n + 1) many;
      each = λ objects p other at.
          each_push (λ (k : ℕ) (n : Node). KeepsNode objects [] (k + 1) n) nodes node
          (c.loop-place.invariant.each objects)
          (subst (λ (k : ℕ). KeepsNode objects [] (k + 1) node) (sym many)
          (record { own = c.new.ensures objects; moment = refl }))
          p other (sym (ap (λ (xs : List Node). slice_get xs p) items) ∙ at);
    }

pub returns : goal.returns
returns c = λ objects.
    let full : c.loop-place.place ≡ 8 =
    omega (arith, c.loop-place-test.false, c.loop-place.auto.place-end) in
    let nothing : (m s : ℕ) → reach_in c.new-2.result m s ≡ nowhere = search rules in
    record {
      run = tt;
      trace = ap reverse c.new-6.ensures;
      eight = c.loop-place.invariant.many ∙ full;
      nodes = c.loop-place.invariant.each objects;
      heard = none_heard c.new-2.result nothing;
      shared = record {
        all_nodes = c.new-3.ensures objects;
        untils = none_named c.new-4.result c.new-4.ensures.empty;
        letters =
            subst (λ (kept : List Letter). KeepsLetters [] kept) (sym c.new-5.ensures)
            (record { ids = refl; each = tt });
      };
    }
