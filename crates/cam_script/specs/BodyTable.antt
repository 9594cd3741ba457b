-- The bodies whose `end` was read, and how their sizes are kept.
-- For private functions; the rule itself is in `SoFar`.
use Rattle.std.specs.Prelude.{ℕ, ◌+◌, ◌*◌, min, max, List, [], ◌∷◌, ◌++◌}
use Rattle.std.specs.Option.{option_map_or}
use Rattle.cam_words.specs.Words.{place_of}
use Rattle.cam_script.specs.declared.Statement.{Statement}
use Rattle.cam_script.specs.declared.Statement.TheVariants as statements
use Rattle.cam_script.specs.SoFar.{Size, Writing, cost_at, cost_of, nesting_at, nesting_of}

-- names, statements and sizes, in order of the declarations
pub record Bodies : Type 0 where
  pub names : List (List ℕ)
  pub bodies : List (List Statement)
  pub sizes : List Size

-- A size up to the first cost and the first nesting that are too many: 513 and 9.
abbrev pub capped : Size → Size
capped size = record { cost = min size.cost 513; nesting = min size.nesting 9 }

abbrev pub size_of : List Size → List Statement → Size
size_of sizes statements = record { cost = cost_of sizes statements; nesting = nesting_of sizes statements }

-- what a statement adds to the cost of its body, and the nesting that it brings
abbrev pub weight : List Size → Statement → ℕ
weight sizes (statements.Call tries object op) = tries
weight sizes (statements.Child tries node body) = tries * (1 + cost_at sizes body)
weight sizes (statements.Commit e) = 0
weight sizes statements.Abort = 0

abbrev pub depth : List Size → Statement → ℕ
depth sizes (statements.Call tries object op) = 0
depth sizes (statements.Child tries node body) = 1 + nesting_at sizes body
depth sizes (statements.Commit e) = 0
depth sizes statements.Abort = 0

abbrev pub size_with : List Size → Size → Statement → Size
size_with sizes size s = record { cost = size.cost + weight sizes s; nesting = max size.nesting (depth sizes s) }

-- the size of the body at this place; 0 if there is none
abbrev pub size_at : List Size → ℕ → Size
size_at sizes body = record { cost = cost_at sizes body; nesting = nesting_at sizes body }

-- the size of the body of this name; 0 if there is none
abbrev pub size_named : Bodies → List ℕ → Size
size_named t name =
    record {
      cost = option_map_or (λ body. cost_at t.sizes body) (place_of t.names name) 0;
      nesting = option_map_or (λ body. nesting_at t.sizes body) (place_of t.names name) 0;
    }

-- after the `end` of a body
abbrev pub with_body_written : Bodies → Writing → Bodies
with_body_written t w =
    record {
      names = t.names ++ w.name ∷ [];
      bodies = t.bodies ++ w.statements ∷ [];
      sizes = t.sizes ++ size_of t.sizes w.statements ∷ [];
    }
