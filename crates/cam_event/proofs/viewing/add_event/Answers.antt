use Rattle.std.proofs.Common.{◌≡◌, ◌+◌, List, [], ◌∷◌, ◌++◌, take, sym, ap, ◌∙◌, subst}
use Rattle.std.proofs.lemmas.List.{take_more, take_all}
use Rattle.cam_event.specs.declared.Deed.{Deed}
use Rattle.cam_event.specs.History.{after}
use Rattle.cam_event.specs.Views.{view}
use Rattle.cam_event.specs.Values.{HasValues}
use Rattle.cam_event.proofs.Snoc.{after_more}
use Rattle.cam_event.proofs.viewing.add_event.Goals as goal

pub loop-deed-preserved : goal.loop-deed-preserved
loop-deed-preserved c = λ L has is.
    let ds = c.as_slice-deed-items.result.now in
    let i = c.loop-deed.deed-index in
    let d = c.deed-item.result in
    let a = c.args.name.now in
    let before = c.loop-deed.invariant L has is in
    let split : take (i + 1) ds ≡ take i ds ++ d ∷ [] = take_more ds i d c.loop-deed-test.true ∙ ap (λ (e : Deed). take i ds ++ e ∷ []) (sym c.deed-item.is) in
    subst (λ (es : List Deed). HasValues (after L es) c.add_deed.new.values × (c.add_deed.new.steps ≡ view (after L es) a)) (sym split)
    (subst (λ (N : List Deed). HasValues N c.add_deed.new.values × (c.add_deed.new.steps ≡ view N a)) (sym (after_more L (take i ds) d))
    (c.in_ok-add_deed.ensures (after L (take i ds)) before.0 before.1))

pub returns : goal.returns
returns c = λ L has is.
    let ds = c.as_slice-deed-items.result.now in
    let all : take c.loop-deed.deed-index ds ≡ c.args.deeds.now = take_all c.loop-deed.deed-index ds c.loop-deed-test.false ∙ c.as_slice-deed-items.ensures in
    subst (λ (es : List Deed). HasValues (after L es) c.loop-deed.values × (c.loop-deed.steps ≡ view (after L es) c.args.name.now)) all (c.loop-deed.invariant L has is)
