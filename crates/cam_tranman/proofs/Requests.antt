-- What stands against a request is what the actions answer.
use Rattle.std.proofs.Common.{◌≡◌, ℕ, ◌+◌, Bool, true, false, not, ◌||◌, List, [], ◌∷◌, Option, Some, None, refl, sym, ap, ap₂, ◌∙◌, arith}
use Rattle.std.specs.Prelude.{nat_lt, is_some}
use Rattle.std.proofs.lemmas.Bool.{or_parts, ltb-false}
use borrow.Author.Tests.{eqb-true}
use Rattle.cam_names.specs.declared.name.Name.{Name}
use Rattle.cam_names.specs.Names.{home_node, home_count}
use Rattle.cam_type.specs.declared.ObjectDecl.{ObjectDecl}
use Rattle.cam_event.specs.declared.Want.{Want}
use Rattle.cam_event.specs.declared.Want.TheVariants as wants
use Rattle.cam_event.specs.declared.LineRefusal.{LineRefusal}
use Rattle.cam_event.specs.declared.LineRefusal.TheVariants as refusals
use Rattle.cam_event.specs.declared.Deed.TheVariants.{Create}
use Rattle.cam_event.specs.History as history
use Rattle.cam_event.specs.History.{Addressed, call_of}
use Rattle.cam_event.specs.Sights.{Sight, present, is_present}
use Rattle.cam_event.specs.Refusals as rules
use Rattle.cam_event.specs.Refusals.{first_of_two, where_so, refusal}
use Rattle.cam_event.specs.Rules.{did, one}
use Rattle.cam_tranman.specs.Actions.{Actions, ended, MayRunHere, AnswersSight}
use Rattle.cam_tranman.specs.Calls.{has_ended, has_call, has_child, is_not_open, has_not_open, is_too_deep, refusal_by, IsFree}
use Rattle.cam_tranman.specs.Steps.{BegunIsRule, RefusalIsRule}

-- An action of the node whose count is not older may run there.
pub not_older : (g : Sight) (a : Name) → home_node a ≡ g.node → nat_lt (home_count a) (present g) ≡ false → MayRunHere g.deeds g.node a
not_older g a home not_less = (home, ltb-false (home_count a) (present g) not_less)

pub of_present : (g : Sight) (a : Name) → home_node a ≡ g.node → is_present g a ≡ true → MayRunHere g.deeds g.node a
of_present g a home now = let e = eqb-true (home_count a) (present g) now in (home, omega (arith, e))

pub begun_is_rule : BegunIsRule
begun_is_rule objects g actions is =
    λ i. did (one (Create (record { node = sym is.node i; count = sym is.count i; number = sym is.tops i + 1 } ∷ []))) []

-- what stands against a request, behind the first test
abbrev pub rest_by : Actions → Name → Want → Option LineRefusal
rest_by actions a (wants.Ask m) = first_of_two (has_call actions a) (first_of_two (is_not_open actions a) (is_too_deep a))
rest_by actions a (wants.Call x op) = first_of_two (has_call actions a) (first_of_two (has_child actions a) (is_not_open actions a))
rest_by actions a (wants.Commit v) = first_of_two (has_call actions a) (first_of_two (has_child actions a) (is_not_open actions a))
rest_by actions a wants.Abort = is_not_open actions a
rest_by actions a (wants.GiveUp b) = has_not_open actions a b

pub by_rest : (actions : Actions) (a : Name) (want : Want) → refusal_by actions a want ≡ first_of_two (has_ended actions a) (rest_by actions a want)
by_rest actions a (wants.Ask m) = refl
by_rest actions a (wants.Call x op) = refl
by_rest actions a (wants.Commit v) = refl
by_rest actions a wants.Abort = refl
by_rest actions a (wants.GiveUp b) = refl

abbrev pub rest : Sight → Name → Want → Option LineRefusal
rest g a (wants.Ask m) = first_of_two (rules.has_call g a) (first_of_two (rules.is_not_open g a) (is_too_deep a))
rest g a (wants.Call x op) = first_of_two (rules.has_call g a) (first_of_two (rules.has_child g a) (rules.is_not_open g a))
rest g a (wants.Commit v) = first_of_two (rules.has_call g a) (first_of_two (rules.has_child g a) (rules.is_not_open g a))
rest g a wants.Abort = rules.is_not_open g a
rest g a (wants.GiveUp b) = where_so (not (history.created g.deeds a) || not (history.is_open_child g.deeds a b)) refusals.NotOpen

pub is_rest : (g : Sight) (a : Name) (want : Want) → refusal g a want ≡ first_of_two (rules.has_ended g a) (rest g a want)
is_rest g a (wants.Ask m) = refl
is_rest g a (wants.Call x op) = refl
is_rest g a (wants.Commit v) = refl
is_rest g a wants.Abort = refl
is_rest g a (wants.GiveUp b) = refl

-- where it has ended
so_ended : (e t : Bool) → t ≡ true → where_so (e || t) refusals.Ended ≡ Some refusals.Ended
so_ended true t h = refl
so_ended false t h = ap (λ (b : Bool). where_so b refusals.Ended) h

rest_same : (objects : List ObjectDecl) (g : Sight) (actions : Actions) (a : Name) (want : Want) → AnswersSight objects g actions → MayRunHere g.deeds g.node a
    → rest_by actions a want ≡ rest g a want
rest_same objects g actions a want is here = all want
  where
    call : has_call actions a ≡ rules.has_call g a
    call = ap (λ (o : Option ℕ). where_so (is_some o) refusals.OpenCall) (is.open_call a here)

    child : has_child actions a ≡ rules.has_child g a
    child = ap (λ (b : Bool). where_so b refusals.OpenChild) (is.any_open_child a here)

    away : is_not_open actions a ≡ rules.is_not_open g a
    away = ap (λ (b : Bool). where_so (not b) refusals.NotOpen) (is.created a here)

    all : (want : Want) → rest_by actions a want ≡ rest g a want
    all (wants.Ask m) = ap₂ (λ x y. first_of_two x (first_of_two y (is_too_deep a))) call away
    all (wants.Call x op) = ap₂ first_of_two call (ap₂ first_of_two child away)
    all (wants.Commit v) = ap₂ first_of_two call (ap₂ first_of_two child away)
    all wants.Abort = away
    all (wants.GiveUp b) = ap₂ (λ (c o : Bool). where_so (not c || not o) refusals.NotOpen) (is.created a here) (is.open_child a b here)

pub refusal_is_rule : RefusalIsRule
refusal_is_rule objects g actions a want is home = is_rest g a want ∙ sym (by (nat_lt (home_count a) (present g)) refl) ∙ sym (by_rest actions a want)
  where
    by : (t : Bool) → nat_lt (home_count a) (present g) ≡ t
        → first_of_two (has_ended actions a) (rest_by actions a want) ≡ first_of_two (rules.has_ended g a) (rest g a want)
    by true older =
        ap (λ (r : Option LineRefusal). first_of_two r (rest_by actions a want))
        (so_ended (ended actions a) (nat_lt (home_count a) actions.count) (ap (nat_lt (home_count a)) is.count ∙ older))
        ∙ sym (ap (λ (r : Option LineRefusal). first_of_two r (rest g a want)) (so_ended (history.ended g.deeds a) (nat_lt (home_count a) (present g)) older))
    by false recent =
        let here = not_older g a home recent in
        ap₂ first_of_two (ap₂ (λ (e : Bool) (c : ℕ). where_so (e || nat_lt (home_count a) c) refusals.Ended) (is.ended a here) is.count)
        (rest_same objects g actions a want is here)

-- where nothing stands against a request
pub first_none : (x y : Option LineRefusal) → first_of_two x y ≡ None → x ≡ None
first_none None y h = refl
first_none (Some r) y h = h

pub rest_none : (x y : Option LineRefusal) → first_of_two x y ≡ None → y ≡ None
rest_none None y h = h
rest_none (Some r) y h = cc

pub so_none : (b : Bool) (r : LineRefusal) → where_so b r ≡ None → b ≡ false
so_none true r h = cc
so_none false r h = refl

pub free_here : (objects : List ObjectDecl) (g : Sight) (actions : Actions) (a : Name) (want : Want) → AnswersSight objects g actions → home_node a ≡ g.node
    → IsFree actions a want → MayRunHere g.deeds g.node a
free_here objects g actions a want is home free =
    let first = first_none (has_ended actions a) (rest_by actions a want) (sym (by_rest actions a want) ∙ free) in
    let ends = or_parts (ended actions a) (nat_lt (home_count a) actions.count) (so_none (ended actions a || nat_lt (home_count a) actions.count) refusals.Ended first) in
    not_older g a home (ap (nat_lt (home_count a)) (sym is.count) ∙ ends.1)
