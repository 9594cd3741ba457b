-- Which actions the lines of a script made.
use Rattle.std.specs.Prelude.{ℕ, Bool, Option}
use Rattle.std.specs.Ordering.{nat_cmp}
use Rattle.std.specs.BTreeMap.{get}
use Rattle.std.specs.BTreeSet.{contains}
use Rattle.cam_names.specs.declared.name.Name.{Name}
use Rattle.cam_names.specs.Names.{name_cmp}
use Rattle.cam_scope.specs.declared.scope.Scope.{Scope}

-- the action that a step made, by the step's place; none if its line was refused
abbrev pub made : Scope → ℕ → Option Name
made scope step = get nat_cmp scope.made step

-- whether a top action was begun by a `start` line
abbrev pub is_started : Scope → Name → Bool
is_started scope top = contains name_cmp scope.started top
