-- The objects of a run. An object is named by its place in the list of their declarations, counted from 0.
use Rattle.std.specs.Prelude.{ℕ, pos, Bool, false, List, slice_get}
use Rattle.std.specs.Option.{option_map_or}
use Rattle.cam_type.specs.declared.ObjectDecl.{ObjectDecl}
use Rattle.cam_type.specs.declared.State.{State}
use Rattle.cam_type.specs.declared.State.TheVariants.{Register}
use Rattle.cam_type.specs.declared.Op.{Op}
use Rattle.cam_type.specs.Table.{kind_of, fits}

-- the node of an object, and 0 if it is not declared
abbrev pub site_of : List ObjectDecl → ℕ → ℕ
site_of objects x = option_map_or (λ o. o.node) (slice_get objects x) 0

-- whether the object is declared and the op fits it
abbrev pub is_fit : List ObjectDecl → ℕ → Op → Bool
is_fit objects x op = option_map_or (λ o. fits (kind_of o.start) op) (slice_get objects x) false

-- the start state of an object; what is not declared is a register that starts at 0
abbrev pub start_of : List ObjectDecl → ℕ → State
start_of objects x = option_map_or (λ o. o.start) (slice_get objects x) (Register (pos 0))
