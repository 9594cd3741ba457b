-- What the grammar gives of each script: the nodes are 1 to 8; each op is on a declared object of such a node and fits it; bodies nest at
-- most eight deep; and only `go`, `play` and `query` act on a variable of `start`.
--
-- A body nested deeper would ask for an action at a ninth level, which is refused. Another line on a variable of `start` could leave two
-- children open, where a request by the body is refused.
use Rattle.std.specs.Prelude.{◌≡◌, ℕ, zero, suc, nat_le, Bool, true, false, not, ◌&&◌, List, [], Option, Some, None, slice_get, unwrap_or}
use Rattle.std.specs.List.{list_all}
use Rattle.cam_type.specs.declared.ObjectDecl.{ObjectDecl}
use Rattle.cam_type.specs.declared.Op.{Op}
use Rattle.cam_event.specs.Live.{site_of, is_fit}
use Rattle.cam_script.specs.declared.Act.{Act}
use Rattle.cam_script.specs.declared.Act.TheVariants as acts
use Rattle.cam_script.specs.declared.Script.{Script}
use Rattle.cam_script.specs.declared.Step.{Step}
use Rattle.cam_script.specs.declared.Statement.{Statement}
use Rattle.cam_script.specs.declared.Statement.TheVariants as statements
use Rattle.cam_body.specs.Work.{op_of}

-- a node
abbrev pub is_node : ℕ → Bool
is_node s = nat_le 1 s && nat_le s 8

-- an op on an object
abbrev pub is_op : List ObjectDecl → ℕ → Op → Bool
is_op objects x op = is_fit objects x op && is_node (site_of objects x)

-- a body that nests within so many levels
abbrev pub statement_nests : (ℕ → Bool) → Statement → Bool
statement_nests below (statements.Child tries m body) = below body
statement_nests below _ = true

abbrev pub nests_within : List (List Statement) → ℕ → ℕ → Bool
nests_within bodies zero b = false
nests_within bodies (suc n) b = list_all (statement_nests (nests_within bodies n)) (unwrap_or (slice_get bodies b) [])

-- a variable that is not one of `start`
abbrev pub is_start_act : Act → Bool
is_start_act (acts.Start s body) = true
is_start_act _ = false

abbrev pub is_start : Option Step → Bool
is_start None = false
is_start (Some step) = is_start_act step.act

abbrev pub is_free : Script → ℕ → Bool
is_free script v = not (is_start (slice_get script.steps v))

-- a step, and a statement of a body
abbrev pub is_act : Script → Act → Bool
is_act script (acts.Begin s) = is_node s
is_act script (acts.Start s body) = is_node s && nests_within script.bodies 8 body
is_act script (acts.Ask p m) = is_free script p && is_node m
is_act script (acts.Call v x op) = is_free script v && is_op script.objects x op
is_act script (acts.Commit v value) = is_free script v
is_act script (acts.Abort v) = is_free script v
is_act script (acts.GiveUp v w) = is_free script v
is_act script (acts.Restart s) = is_node s
is_act script (acts.Tell s to) = is_node s && is_node to
is_act script (acts.Query s v) = is_node s
is_act script _ = true

abbrev pub is_statement : List ObjectDecl → Statement → Bool
is_statement objects (statements.Call tries x op) = is_op objects x (op_of [] op)
is_statement objects (statements.Child tries m body) = is_node m
is_statement objects _ = true

abbrev pub IsInRange : Script → Type 0
IsInRange script =
    (list_all (λ (step : Step). is_act script step.act) script.steps ≡ true)
    × (list_all (λ body. list_all (is_statement script.objects) body) script.bodies ≡ true)
