-- What a lock table is seen as: the live operations of its site, and the outcomes that the site was informed of.
use Rattle.std.specs.Prelude.{◌≡◌, ℕ, ◌≤◌, true, eqb, Bool, false, ◌&&◌, List, [], ◌∷◌, slice_get}
use Rattle.std.specs.Option.{option_map_or}
use Rattle.cam_names.specs.declared.name.Name.{Name}
use Rattle.cam_type.specs.declared.ObjectDecl.{ObjectDecl}
use Rattle.cam_type.specs.declared.Op.{Op}
use Rattle.cam_type.specs.Objects.{is_fit}
use Rattle.cam_locks.specs.declared.LiveOp.{LiveOp}

pub record Site : Type 0 where
  -- the declared objects, and the node of the site
  pub objects : List ObjectDecl
  pub node : ℕ
  -- the live operations, in the order in which they were performed
  pub live : List LiveOp
  -- the actions of whose commit, and of whose abort, the site was informed
  pub committed : List Name
  pub aborted : List Name
  -- the index of the next operation
  pub next : ℕ

-- a lock table: its site, and for how many more outcomes it has room
pub record TableView : Type 0 where
  pub site : Site
  pub spare : ℕ

-- whether the object stands at the node, and whether besides the op fits it
abbrev pub is_here : List ObjectDecl → ℕ → ℕ → Bool
is_here objects node x = option_map_or (λ o. eqb o.node node) (slice_get objects x) false

abbrev pub fits_here : List ObjectDecl → ℕ → ℕ → Op → Bool
fits_here objects node x op = is_here objects node x && is_fit objects x op

-- the indices of the operations rise, from `low` on, and stay below the next index
abbrev pub IndicesRise : ℕ → List LiveOp → ℕ → Type 0
IndicesRise low [] next = low ≤ next
IndicesRise low (o ∷ os) next =
    (low ≤ o.index) × IndicesRise (Rattle.std.specs.Prelude.suc o.index) os next

-- each operation is on an object of the node, and fits it
abbrev pub AreFit : List ObjectDecl → ℕ → List LiveOp → Type 0
AreFit objects node [] = Unit {0}
AreFit objects node (o ∷ os) =
    (fits_here objects node o.object o.op ≡ true) × AreFit objects node os
