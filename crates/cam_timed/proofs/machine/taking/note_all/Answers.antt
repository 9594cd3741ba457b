use Rattle.std.proofs.Common.{List, take, sym, ◌∙◌, subst, arith}
use Rattle.std.proofs.lemmas.List.{take_all}
use Rattle.cam_event.specs.declared.Deed.{Deed as DeedValue}
use Rattle.cam_event.specs.History.{after}
use Rattle.cam_own.specs.Own.{KeepsOwn}
use Rattle.cam_own.specs.AllNodes.{KeepsAllNodes}
use Rattle.cam_timed.proofs.TakenOver.{one_more}
use Rattle.cam_timed.proofs.machine.taking.note_all.Goals as goal

pub loop-deed-preserved : goal.loop-deed-preserved
loop-deed-preserved c =
    let ds = c.as_slice-deed-items.result.now in
    let i = c.loop-deed.deed-index in
    record {
      own = λ s L E keeps.
          subst (λ (M : List DeedValue). KeepsOwn c.args.objects.now s M E c.note.new.self)
          (sym (one_more L ds i c.deed-item.result c.loop-deed-test.true c.deed-item.is))
          (c.in_ok-note.ensures s (after L (take i ds)) E (c.loop-deed.invariant.own s L E keeps));
      all_nodes = λ L keeps.
          subst (λ (M : List DeedValue). KeepsAllNodes c.args.objects.now M c.note-in-loop-deed.new.self)
          (sym (one_more L ds i c.deed-item.result c.loop-deed-test.true c.deed-item.is))
          (c.in_ok-note-2.ensures (after L (take i ds)) (c.loop-deed.invariant.all_nodes L keeps));
    }

pub returns-clause-own : goal.returns-clause-own
returns-clause-own c = λ s L E keeps.
    let past = c.loop-deed-test.false in
    subst (λ (ds : List DeedValue). KeepsOwn c.args.objects.now s (after L ds) E c.loop-deed.own)
    (take_all c.loop-deed.deed-index c.as_slice-deed-items.result.now (omega (arith, past)) ∙ c.as_slice-deed-items.ensures)
    (c.loop-deed.invariant.own s L E keeps)
