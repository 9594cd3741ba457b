use Rattle.std.proofs.Common.{◌≡◌, ◌||◌, Bool, true, false, refl, sym, ap, ◌∙◌}
use Rattle.std.specs.List.{list_any}
use Rattle.std.proofs.lemmas.Bool.{or_right}
use Rattle.cam_names.specs.declared.name.Name.{Name}
use Rattle.cam_names.specs.Names.{ancestors}
use Rattle.cam_names.proofs.Any.{any_last}
use Rattle.cam_know.proofs.Climbs.{ancestors_parent}
use Rattle.cam_event.specs.History.{informed}
use Rattle.cam_own.proofs.live.+is_lost.Goals as goal

pub returns-then-has_abort : goal.returns-then-has_abort
returns-then-has_abort t c = λ objects L keeps.
    let T = λ (u : Name). informed L c.args.site u false in
    let a = c.args.action.now in
    let p = c.in-Some.parent in
    let own : T a ≡ true = sym (c.has_abort-in-Some.ensures objects L keeps) ∙ c.if-has_abort.true in
    c.if-has_abort.true
    ∙ sym (ap (list_any T) (ancestors_parent a p c.in-Some.ensures.value)
    ∙ any_last T (ancestors p) a ∙ or_right (list_any T (ancestors p)) (T a) own)

pub returns-else-has_abort : goal.returns-else-has_abort
returns-else-has_abort t c = λ objects L keeps.
    let T = λ (u : Name). informed L c.args.site u false in
    let a = c.args.action.now in
    let p = c.in-Some.parent in
    let own : T a ≡ false = sym (c.has_abort-in-Some.ensures objects L keeps) ∙ c.if-has_abort.false in
    c.is_lost.ensures objects L keeps
    ∙ sym (ap (list_any T) (ancestors_parent a p c.in-Some.ensures.value)
    ∙ any_last T (ancestors p) a ∙ ap (λ (b : Bool). list_any T (ancestors p) || b) own
    ∙ or_none (list_any T (ancestors p)))
  where
    or_none : (b : Bool) → (b || false) ≡ b
    or_none true = refl
    or_none false = refl
