-- An action whose request nothing stands against has run here.
use Rattle.std.proofs.Common.{◌≡◌, Bool, true, not, ◌||◌, length, None, sym, ◌∙◌}
use Rattle.std.specs.Prelude.{nat_lt, nat_le}
use Rattle.std.proofs.lemmas.Bool.{or_parts, not-false, ltb-false}
use Rattle.cam_names.specs.declared.name.Name.{Name}
use Rattle.cam_names.specs.Names.{home_node, home_count}
use Rattle.cam_event.specs.declared.LineRefusal.TheVariants as refusals
use Rattle.cam_event.specs.declared.Want.{Want}
use Rattle.cam_event.specs.declared.Want.TheVariants as wants
use Rattle.cam_event.specs.History.{created, ended, is_open_child}
use Rattle.cam_event.specs.Sights.{Sight, present}
use Rattle.cam_event.specs.Refusals.{first_of_two, where_so, has_ended, has_call, has_child, is_not_open, refusal}
use Rattle.cam_tranman.proofs.Requests.{rest, is_rest, first_none, rest_none, so_none}
use Rattle.cam_tranman.proofs.Ordering.{HasRun}

-- Nothing stands against the request: the action was created, and its count is not older.
not_away : (b : Bool) → where_so (not b) refusals.NotOpen ≡ None → b ≡ true
not_away b h = not-false b (so_none (not b) refusals.NotOpen h)

asks_there : (g : Sight) (a : Name) (want : Want) → rest g a want ≡ None → created g.deeds a ≡ true
asks_there g a (wants.Ask m) h =
    not_away (created g.deeds a)
    (first_none (is_not_open g a) (where_so (nat_le 8 (length a)) refusals.TooDeep)
    (rest_none (has_call g a) (first_of_two (is_not_open g a) (where_so (nat_le 8 (length a)) refusals.TooDeep)) h))
asks_there g a (wants.Call x op) h =
    not_away (created g.deeds a)
    (rest_none (has_child g a) (is_not_open g a) (rest_none (has_call g a) (first_of_two (has_child g a) (is_not_open g a)) h))
asks_there g a (wants.Commit v) h =
    not_away (created g.deeds a)
    (rest_none (has_child g a) (is_not_open g a) (rest_none (has_call g a) (first_of_two (has_child g a) (is_not_open g a)) h))
asks_there g a wants.Abort h = not_away (created g.deeds a) h
asks_there g a (wants.GiveUp b) h =
    let parts =
    or_parts (not (created g.deeds a)) (not (is_open_child g.deeds a b))
    (so_none (not (created g.deeds a) || not (is_open_child g.deeds a b)) refusals.NotOpen h)
    in
    not-false (created g.deeds a) parts.0

pub asks_run : (g : Sight) (a : Name) (want : Want) → home_node a ≡ g.node → refusal g a want ≡ None → HasRun g.node g.deeds a
asks_run g a want home free =
    let whole = sym (is_rest g a want) ∙ free in
    let first = first_none (has_ended g a) (rest g a want) whole in
    let parts = or_parts (ended g.deeds a) (nat_lt (home_count a) (present g)) (so_none (ended g.deeds a || nat_lt (home_count a) (present g)) refusals.Ended first) in
    record { home = home; recent = ltb-false (home_count a) (present g) parts.1; there = asks_there g a want (rest_none (has_ended g a) (rest g a want) whole) }
