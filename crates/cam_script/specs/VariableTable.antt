-- The variables, kept as their names beside what each stands for.
-- For private functions; the rule itself is in `Variables`.
use Rattle.std.specs.Prelude.{ℕ, List, [], ◌∷◌}
use Rattle.cam_script.specs.declared.variables.Bound.{Bound}
use Rattle.cam_script.specs.SoFar.{Variable}

-- the variable of this name
abbrev pub named : List ℕ → Bound → Variable
named name bound = record { name = name; step = bound.step; binding = bound.binding }

-- what a variable stands for
abbrev pub bound_of : Variable → Bound
bound_of variable = record { step = variable.step; binding = variable.binding }

-- each name with what stands at its place
abbrev pub all_named : List (List ℕ) → List Bound → List Variable
all_named [] bounds = []
all_named (name ∷ names) [] = []
all_named (name ∷ names) (bound ∷ bounds) = named name bound ∷ all_named names bounds
