use Rattle.std.proofs.Common.{◌≢◌, ◌+◌, List, ℕ, length, Some, sym, ap, ◌∙◌, subst, arith}
use Rattle.std.specs.Prelude.{All}
use Rattle.std.proofs.lemmas.List.{length-map, map-set}
use Rattle.std.proofs.lemmas.List.Elements.{All-map}
use Rattle.std.proofs.lemmas.Option.{slice_get_within}
use Rattle.cam_journal.specs.Gathered.{front_of, IsLeft}
use Rattle.cam_journal.proofs.Handing.{take_none, handed}
use Rattle.cam_journal.proofs.gathered.Gathered.take.Goals as goal

pub returns-in_default : goal.returns-in_default
returns-in_default g c =
    let lists = c.as_slice.ensures.value in
    let inside = c.self.inside in
    let none = take_none inside.next _ inside.token.me.0 c.self.invariant
    (All-map (λ (list : List (ℕ × g.row.C-Event.Denot)). front_of list ≢ Some inside.next) (λ list. list.items) inside.lists.items (subst (λ ls. All (λ list. front_of list.items ≢ Some inside.next) ls) lists c.in_default.ensures)) in
    let empty = sym c.self.view_is ∙ none in
    (empty, empty)

pub index_mut-list-requires : goal.index_mut-list-requires
index_mut-list-requires g c =
    let there = slice_get_within _ c.in-Some.at (Some c.self.inside.next) c.in-Some.ensures in
    let lists = ap length c.as_slice.ensures.value in
    let long = c.self.inside.lists.ok.0 in
    omega (arith, there, lists, long, length-map c.as_slice.result.now (λ list. front_of list.items))

pub overflow_add-self : goal.overflow_add-self
overflow_add-self g c =
    let inside = c.self.inside in
    let first = handed (λ list. list.items) inside.lists.items c.as_slice.result.now inside.next c.in-Some.at inside.token.me.0 c.index_mut-list.result.now c.pop_front-first.new.self c.pop_front-first.result _ _ c.self.invariant c.as_slice.ensures.value c.in-Some.ensures c.index_mut-list.ensures.value c.pop_front-first.ensures.items c.pop_front-first.ensures.cases c.index_mut-list.result.now.ok.0 in
    let small = first.2.0 in
    omega (arith, small)

pub invariant_of-self : goal.invariant_of-self
invariant_of-self g c =
    let inside = c.self.inside in
    let first = handed (λ list. list.items) inside.lists.items c.as_slice.result.now inside.next c.in-Some.at inside.token.me.0 c.index_mut-list.result.now c.pop_front-first.new.self c.pop_front-first.result _ _ c.self.invariant c.as_slice.ensures.value c.in-Some.ensures c.index_mut-list.ensures.value c.pop_front-first.ensures.items c.pop_front-first.ensures.cases c.index_mut-list.result.now.ok.0 in
    subst (λ (lists : List (List (ℕ × g.row.C-Event.Denot))). IsLeft (inside.next + 1) lists inside.token.me.0) (sym (map-set (λ list. list.items) inside.lists.items c.in-Some.at c.pop_front-first.new.self)) first.2.1

pub returns : goal.returns
returns g c =
    let inside = c.self.inside in
    let first = handed (λ list. list.items) inside.lists.items c.as_slice.result.now inside.next c.in-Some.at inside.token.me.0 c.index_mut-list.result.now c.pop_front-first.new.self c.pop_front-first.result _ _ c.self.invariant c.as_slice.ensures.value c.in-Some.ensures c.index_mut-list.ensures.value c.pop_front-first.ensures.items c.pop_front-first.ensures.cases c.index_mut-list.result.now.ok.0 in
    rw first.1 (sym c.self.view_is ∙ first.2.2)
