use Rattle.std.proofs.Common.{◌≡◌, List, [], take, sym, ◌∙◌, subst}
use Rattle.std.proofs.lemmas.List.{take_all}
use Rattle.cam_event.specs.declared.Deed.{Deed}
use Rattle.cam_event.specs.History.{after}
use Rattle.cam_event.proofs.Snoc.{further}
use Rattle.cam_live.specs.Ledger.{Keeps}
use Rattle.cam_live.proofs.ledger.ledger_of.Goals as goal

pub loop-deed-preserved : goal.loop-deed-preserved
loop-deed-preserved c =
    let L = after [] (take c.loop-deed.deed-index c.as_slice-deed-items.result.now) in
    let more = further c.as_slice-deed-items.result.now c.loop-deed.deed-index c.deed-item.result c.loop-deed-test.true c.deed-item.is in
    subst (λ (M : List Deed). Keeps c.args.objects.now M c.note.new.self) (sym more) (c.in_ok-note.ensures.noted L c.loop-deed.invariant)

pub returns : goal.returns
returns c =
    let ds = c.as_slice-deed-items.result.now in
    let all : take c.loop-deed.deed-index ds ≡ c.args.deeds.now = take_all c.loop-deed.deed-index ds c.loop-deed-test.false ∙ c.as_slice-deed-items.ensures in
    subst (λ (es : List Deed). Keeps c.args.objects.now (after [] es) c.loop-deed.ledger) all c.loop-deed.invariant

pub loop-deed-init : goal.loop-deed-init
loop-deed-init c = c.new-ledger.ensures c.args.objects.now
