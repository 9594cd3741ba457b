use Rattle.std.proofs.Common.{◌≡◌, ℕ, ◌+◌, true, ◌||◌, if◌then◌else◌, List, ◌∷◌, ◌∙◌, ap, sym, arith}
use Rattle.std.specs.List.{list_any}
use Rattle.std.specs.List.Sorted.{IsPermutation}
use Rattle.cam_names.specs.declared.name.Name.{Name}
use Rattle.cam_names.specs.Names.{name_eq}
use Rattle.cam_tranman.specs.Children.{ChildrenView, noted}
use Rattle.cam_tranman.proofs.Counting.{one_more_of, more_counted, more_uncounted, parent_named, put_among, was_among, number_small}
use Rattle.cam_tranman.proofs.children.Children.insert.Goals as goal

pub overflow_add-number : goal.overflow_add-number
overflow_add-number c =
    let p = c.in-Some.parent in
    let is = sym c.parent.ensures.value ∙ c.in-Some.is in
    let e = one_more_of c.args.child.now p c.self.inside.names.keys c.put-len.new.names.keys is (parent_named c.args.child.now p is) c.put-len.ensures.keys in
    let f = number_small p c.put-len.new.names.keys in
    let g = c.number_in-number.ensures ∙ c.self.invariant p (parent_named c.args.child.now p is) in
    omega (arith, e, f, g, c.put-len.ensures.len, c.put-len.ensures.small)

pub invariant_of-self : goal.invariant_of-self
invariant_of-self c =
    more_counted c.args.child.now c.in-Some.parent c.self.inside.names.keys c.put-len.new.names.keys (noted c.self.inside.counts)
    (noted c.set_number.new.counts) (sym c.parent.ensures.value ∙ c.in-Some.is) c.self.invariant c.put-len.ensures.keys
    (λ a. c.set_number.ensures a ∙ ap (λ (n : ℕ). if name_eq c.in-Some.parent a then n + 1 else noted c.self.inside.counts a) c.number_in-number.ensures)

pub invariant_of-self-in_default : goal.invariant_of-self-in_default
invariant_of-self-in_default c =
    more_uncounted c.args.child.now c.self.inside.names.keys c.put-len.new.names.keys (noted c.self.inside.counts)
    (sym c.parent.ensures.value ∙ c.in_default.is) c.self.invariant c.put-len.ensures.keys

put_here : (b : Name) (view : ChildrenView) (keys more : List Name) → view.names ≡ keys → IsPermutation (b ∷ keys) more → (q : Name)
    → list_any (name_eq q) more ≡ (name_eq b q || list_any (name_eq q) view.names)
put_here b view keys more is put q = put_among b keys more put q ∙ ap (λ (xs : List Name). name_eq b q || list_any (name_eq q) xs) (sym is)

pub returns-in-Some : goal.returns-in-Some
returns-in-Some c =
    put_here c.args.child.now c.args.self.now c.self.inside.names.keys c.put-len.new.names.keys (ap (λ (v : ChildrenView). v.names) (sym c.self.view_is)) c.put-len.ensures.keys

pub returns-in_default : goal.returns-in_default
returns-in_default c =
    put_here c.args.child.now c.args.self.now c.self.inside.names.keys c.put-len.new.names.keys (ap (λ (v : ChildrenView). v.names) (sym c.self.view_is)) c.put-len.ensures.keys

here : (b : Name) (view : ChildrenView) (keys : List Name) → view.names ≡ keys → list_any (name_eq b) keys ≡ true → (q : Name)
    → list_any (name_eq q) view.names ≡ (name_eq b q || list_any (name_eq q) view.names)
here b view keys is among = was_among b view.names (ap (λ (xs : List Name). list_any (name_eq b) xs) is ∙ among)

pub returns-then-contains : goal.returns-then-contains
returns-then-contains c =
    here c.args.child.now c.args.self.now c.self.inside.names.keys (ap (λ (v : ChildrenView). v.names) (sym c.self.view_is))
    (sym c.contains.ensures ∙ c.if-contains.true)
