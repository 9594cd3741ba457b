use Rattle.std.proofs.Common.{◌≡◌, ◌+◌, ◌||◌, List, [], ◌∷◌, ◌++◌, take, sym, ap, ◌∙◌, subst}
use Rattle.std.proofs.lemmas.List.{take_more, take_all}
use Rattle.cam_event.specs.declared.Deed.{Deed}
use Rattle.cam_event.specs.History.{after}
use Rattle.cam_event.proofs.Snoc.{after_more}
use Rattle.cam_cut.specs.Watched.{Watches}
use Rattle.cam_cut.specs.Witness.{gives_step}
use Rattle.cam_cut.proofs.Watching.{gives_more}
use Rattle.cam_cut.proofs.watch.Watch.go_over.Goals.{then-gives, else-gives}
use Rattle.cam_cut.proofs.watch.Watch.go_over.Goals as goal

pub loop-deed-preserved : goal.loop-deed-preserved
loop-deed-preserved c = λ L a has.
    let ds = c.as_slice-deed-items.result.now in
    let i = c.loop-deed.deed-index in
    let d = c.deed-item.result in
    let new = c.note.new.self in
    let before = c.loop-deed.invariant L a has in
    let M = after L (take i ds) in
    let split : take (i + 1) ds ≡ take i ds ++ d ∷ [] = take_more ds i d c.loop-deed-test.true ∙ ap (λ (e : Deed). take i ds ++ e ∷ []) (sym c.deed-item.is) in
    let either : c.if-gives.gives ≡ (c.loop-deed.gives || c.gives_step-step.result) =
    elim c.if-gives.branch [
      | then-gives w ↦ w.gives-is ∙ w.if-gives.true ∙ sym (ap (λ b. b || c.gives_step-step.result) w.if-gives.true)
      | else-gives w ↦ w.gives-is ∙ sym (ap (λ b. b || c.gives_step-step.result) w.if-gives.false)
    ]
    in (
      either ∙ (λ k. before.0 k || c.gives_step-step.ensures M a before.1 k) ∙ sym (gives_more L (take i ds) d a) ∙ ap (λ (es : List Deed). gives_step L es a) (sym split),
      subst (λ (es : List Deed). Watches (after L es) a new) (sym split) (subst (λ (N : List Deed). Watches N a new) (sym (after_more L (take i ds) d)) (c.in_ok-note.ensures M a before.1)),
    )

pub returns : goal.returns
returns c = λ L a has.
    let ds = c.as_slice-deed-items.result.now in
    let all : take c.loop-deed.deed-index ds ≡ c.args.deeds.now = take_all c.loop-deed.deed-index ds c.loop-deed-test.false ∙ c.as_slice-deed-items.ensures in
    subst (λ (es : List Deed). (c.loop-deed.gives ≡ gives_step L es a) × Watches (after L es) a c.loop-deed.self) all (c.loop-deed.invariant L a has)
