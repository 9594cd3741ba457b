use Rattle.std.proofs.Common.{◌≤◌, ◌<◌, true, if◌then◌else◌, Bool, List, ap, sym, ◌∙◌, subst, arith, Result, Ok, Err}
use Rattle.std.specs.Prelude.{IsOk, OnOk}
use Rattle.std.specs.HashSet.{spare}
use Rattle.cam_names.specs.declared.name.Name.{Name}
use Rattle.cam_names.specs.Names.{name_eq}
use Rattle.cam_locks.specs.Names.{NamesView, has_name}
use Rattle.cam_locks.proofs.ClimbingLifts.{more_has}
use Rattle.cam_locks.proofs.names.Names.put.Goals as goal

on_ok : {T E : Type 0} (r : Result T E) (P : Type 0) → IsOk r → OnOk r P → P
on_ok (Ok x) P is h = h
on_ok (Err e) P is h = cc

pub invariant_of-self : goal.invariant_of-self
invariant_of-self c = λ a.
    let room = subst (λ (v : NamesView). 1 ≤ v.spare) (sym c.self.view_is) c.requires in
    let free : 0 < spare c.self.inside.keys = omega (arith, room) in
    let updates = on_ok c.insert.result _ (c.insert.ensures.succeeds free) c.insert.ensures.updates in
    updates.0 a
    ∙ ap (λ (b : Bool). if name_eq c.args.name.now a then true else b) (c.self.invariant a)
    ∙ more_has c.self.inside.names.items c.args.name.now a ∙ ap (λ (ns : List Name). has_name ns a) (sym c.push_reserved.ensures.items)
