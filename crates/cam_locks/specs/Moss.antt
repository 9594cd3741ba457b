-- The rule of nested locks, said of the live operations of a site: a holder is a lift by the commits that the site was informed of.
use Rattle.std.specs.Prelude.{ℕ, eqb, Bool, ◌&&◌, List, filter, Option, is_none}
use Rattle.cam_names.specs.declared.name.Name.{Name}
use Rattle.cam_type.specs.declared.ObjectDecl.{ObjectDecl}
use Rattle.cam_type.specs.declared.State.{State}
use Rattle.cam_type.specs.declared.Op.{Op}
use Rattle.cam_type.specs.Objects.{start_of}
use Rattle.cam_type.specs.Moss as moss
use Rattle.cam_know.specs.Known.{lift_by}
use Rattle.cam_locks.specs.declared.LiveOp.{LiveOp}
use Rattle.cam_locks.specs.Names.{has_name}
use Rattle.cam_locks.specs.Site.{Site}

-- The lift of an action climbs to the parent while the present one is known committed. It may go past the top.
abbrev pub lift_in : List Name → Name → Option Name
lift_in committed a = lift_by (has_name committed) a

-- the lift of the action of an operation, and what it did
abbrev pub lift_of : List Name → LiveOp → Option Name
lift_of committed o = lift_in committed o.action

abbrev pub op_of : LiveOp → Op
op_of o = o.op

-- whether the operation is on the object
abbrev pub is_on : ℕ → LiveOp → Bool
is_on x o = eqb o.object x

-- the lift of the first live operation on the object that conflicts
abbrev pub holder_of : List Name → List LiveOp → Name → ℕ → Op → Option Name
holder_of committed live a x op = moss.holder (lift_of committed) op_of a op (filter (is_on x) live)

-- the state after these operations, in their order
abbrev pub replay : State → List LiveOp → State
replay state os = moss.replay op_of state os

-- the value that an operation meets: the live operations on the object, applied in order from its start state
abbrev pub value_of : List ObjectDecl → List LiveOp → ℕ → State
value_of objects live x = replay (start_of objects x) (filter (is_on x) live)

-- the value that is handed up past the top: of those, the ones whose lift is past the top
abbrev pub is_settled_on : List Name → ℕ → LiveOp → Bool
is_settled_on committed x o = is_on x o && is_none (lift_of committed o)

abbrev pub settled_of : List ObjectDecl → List Name → List LiveOp → ℕ → State
settled_of objects committed live x =
    replay (start_of objects x) (filter (is_settled_on committed x) live)

-- the three of a site: by the commits that it was informed of, and its live operations
abbrev pub holder : Site → Name → ℕ → Op → Option Name
holder site a x op = holder_of site.committed site.live a x op

abbrev pub value : Site → ℕ → State
value site x = value_of site.objects site.live x

abbrev pub settled : Site → ℕ → State
settled site x = settled_of site.objects site.committed site.live x

-- whether an operation is on the object and conflicts
abbrev pub conflicts_on : List Name → Name → ℕ → Op → LiveOp → Bool
conflicts_on committed a x op o = is_on x o && moss.conflicts a op (lift_of committed o) o.op
