use Rattle.std.proofs.Common.{◌≡◌, ℕ, ◌-◌, Bool, true, false, cond, not, ◌&&◌, if◌then◌else◌, ◌∙◌, refl, ap, sym, arith}
use Rattle.std.specs.List.{list_any}
use Rattle.cam_names.specs.Names.{name_eq}
use Rattle.cam_tranman.specs.Children.{ChildrenView, noted}
use Rattle.cam_tranman.proofs.Counting.{has_one, less_counted, less_uncounted, parent_named}
use Rattle.cam_tranman.proofs.children.Children.remove.Goals as goal

without : (t u : Bool) → cond t false u ≡ (not t && u)
without true u = refl
without false u = refl

-- the parent has one at least
pub overflow_sub-number : goal.overflow_sub-number
overflow_sub-number c =
    let is = sym c.parent.ensures.value ∙ c.in-Some.is in
    let e = has_one c.args.child.now c.in-Some.parent c.self.inside.names.keys c.remove.new.self.keys (noted c.self.inside.counts) is (parent_named c.args.child.now c.in-Some.parent is) c.self.invariant (sym c.if-not-remove.ensures.test) c.remove.ensures.keys in
    omega (arith, e, c.number_in-number.ensures)

pub set_number-requires : goal.set_number-requires
set_number-requires c none =
    let is = sym c.parent.ensures.value ∙ c.in-Some.is in
    let e = has_one c.args.child.now c.in-Some.parent c.self.inside.names.keys c.remove.new.self.keys (noted c.self.inside.counts) is (parent_named c.args.child.now c.in-Some.parent is) c.self.invariant (sym c.if-not-remove.ensures.test) c.remove.ensures.keys in
    absurd (omega (arith, e, none))

pub invariant_of-self-in-Some : goal.invariant_of-self-in-Some
invariant_of-self-in-Some c =
    less_counted c.args.child.now c.in-Some.parent c.self.inside.names.keys c.remove.new.self.keys (noted c.self.inside.counts)
    (noted c.set_number.new.counts) (sym c.parent.ensures.value ∙ c.in-Some.is) c.self.invariant (sym c.if-not-remove.ensures.test) c.remove.ensures.keys
    (λ a. c.set_number.ensures a ∙ ap (λ (n : ℕ). if name_eq c.in-Some.parent a then n - 1 else noted c.self.inside.counts a) c.number_in-number.ensures)

pub invariant_of-self-in_default : goal.invariant_of-self-in_default
invariant_of-self-in_default c =
    less_uncounted c.args.child.now c.self.inside.names.keys c.remove.new.self.keys (noted c.self.inside.counts)
    (sym c.parent.ensures.value ∙ c.in_default.is) c.self.invariant (sym c.if-not-remove.ensures.test) c.remove.ensures.keys

pub returns-in-Some : goal.returns-in-Some
returns-in-Some c b =
    c.remove.ensures.updates.0 b ∙ without (name_eq c.args.child.now b) (list_any (name_eq b) c.self.inside.names.keys)
    ∙ ap (λ (v : ChildrenView). not (name_eq c.args.child.now b) && list_any (name_eq b) v.names) c.self.view_is
