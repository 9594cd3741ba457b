-- Which performed operations are live, by the count of the site when each was performed.
use Rattle.std.specs.Prelude.{ℕ, eqb, leb, Bool, false, not, ◌&&◌, ◌||◌, List, [], ◌∷◌, ◌++◌, map, filter, Option, Some, None}
use Rattle.cam_names.specs.Names.{family}
use Rattle.cam_type.specs.declared.ObjectDecl.{ObjectDecl}
use Rattle.cam_event.specs.declared.Deed.{Deed}
use Rattle.cam_event.specs.declared.Deed.TheVariants.{Perform}
use Rattle.cam_event.specs.declared.Operation.{Operation}
use Rattle.cam_event.specs.History.{count, call_of}
use Rattle.cam_event.specs.Live.{site_of, of_call, is_dropped}
use Rattle.cam_live.specs.declared.performed.Performed.{Performed}
use Rattle.cam_live.specs.Tables.{first_secured}

-- an operation, with the count of its site
abbrev pub counted : List ObjectDecl → List Deed → Operation → Performed
counted objects L o = record { operation = o; count = count L (site_of objects o.object) }

-- the performed operations, each with the count of its site at that time
abbrev pub performed : List ObjectDecl → List Deed → List Performed
performed objects [] = []
performed objects (Perform a n answer ∷ before) =
    performed objects before
    ++ map (counted objects before) (of_call a n answer (call_of before a n))
performed objects (_ ∷ before) = performed objects before

-- whether a family was first secured at a count that is no later
abbrev pub is_secured_by : Option ℕ → ℕ → Bool
is_secured_by None c = false
is_secured_by (Some first) c = leb first c

-- No crash has removed the operation: the site has not crashed since, or the family was secured there before it did.
abbrev pub stands : List ObjectDecl → List Deed → Performed → Bool
stands objects L p =
    eqb p.count (count L (site_of objects p.operation.object))
    || is_secured_by
    (first_secured L (site_of objects p.operation.object) (family p.operation.action)) p.count

-- It is live where besides the site was not informed of an ancestor's abort.
abbrev pub is_live : List ObjectDecl → List Deed → Performed → Bool
is_live objects L p = stands objects L p && not (is_dropped objects L p.operation)

-- the operations of those of a list that are live
abbrev pub live_of : List ObjectDecl → List Deed → List Performed → List Operation
live_of objects L ps = map (λ p. p.operation) (filter (is_live objects L) ps)
