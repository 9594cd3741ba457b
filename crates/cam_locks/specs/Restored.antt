-- What a restart makes of what was secured.
use Rattle.std.specs.Prelude.{◌≡◌, ℕ, ◌+◌, ◌≤◌, eqb, nat_lt, max, Bool, true, false, if◌then◌else◌, List, [], ◌∷◌, ◌++◌, map, flat_map}
use Rattle.std.specs.List.{list_any}
use Rattle.cam_names.specs.declared.name.Name.{Name}
use Rattle.cam_type.specs.declared.ObjectDecl.{ObjectDecl}
use Rattle.cam_type.specs.declared.HeldOp.{HeldOp}
use Rattle.cam_type.specs.declared.Held.{Held}
use Rattle.cam_know.specs.Knowledge.{Knowledge}
use Rattle.cam_know.specs.declared.Outcome.{Outcome}
use Rattle.cam_know.specs.Known.{knows_abort, committed_name, aborted_name}
use Rattle.cam_locks.specs.declared.LiveOp.{LiveOp}
use Rattle.cam_locks.specs.Names.{once}
use Rattle.cam_locks.specs.Holding.{has_op}
use Rattle.cam_locks.specs.Site.{Site, fits_here}

-- a held operation, with its family as its action
abbrev pub of_family : Name → HeldOp → LiveOp
of_family f h = record { index = h.index; action = f; object = h.object; op = h.op }

-- the operations of a held family, and none if its abort is known
abbrev pub ops_of : Knowledge → Held → List LiveOp
ops_of know held = if knows_abort know held.family then [] else map (of_family held.family) held.ops

-- an operation put before the first whose index is not less
abbrev pub put_in_order : LiveOp → List LiveOp → List LiveOp
put_in_order o [] = o ∷ []
put_in_order o (p ∷ ps) = if nat_lt p.index o.index then p ∷ put_in_order o ps else o ∷ p ∷ ps

-- these operations in the order of their indices
abbrev pub in_order : List LiveOp → List LiveOp
in_order [] = []
in_order (o ∷ os) = put_in_order o (in_order os)

-- each index stands once
abbrev pub EachOnce : List LiveOp → Type 0
EachOnce [] = Unit {0}
EachOnce (o ∷ os) = (has_op os o.index ≡ false) × EachOnce os

-- one above the greatest index of the held operations, and 0 if there is none
abbrev pub next_of : List HeldOp → ℕ
next_of [] = 0
next_of (h ∷ hs) = max (h.index + 1) (next_of hs)

abbrev pub all_held : List Held → List HeldOp
all_held held = flat_map (λ h. h.ops) held

-- no operations, and the site was informed of these outcomes
abbrev pub informed : List ObjectDecl → ℕ → List Outcome → Site
informed objects node outcomes =
    record {
      objects = objects;
      node = node;
      live = [];
      committed = once (flat_map committed_name outcomes);
      aborted = once (flat_map aborted_name outcomes);
      next = 0;
    }

-- The operations of the families whose abort is not known, in order, and what is known; the next index is above all that was held.
abbrev pub restored : List ObjectDecl → ℕ → List Held → Knowledge → Site
restored objects node held know =
    record (informed objects node know.outcomes)
    { live = in_order (flat_map (ops_of know) held); next = next_of (all_held held) }

-- whether one of the held operations has the index
abbrev pub has_index : List HeldOp → ℕ → Bool
has_index hs i = list_any (λ h. eqb h.index i) hs

-- each index is in its range
abbrev pub InRange : List HeldOp → Type 0
InRange [] = Unit {0}
InRange (h ∷ hs) = (h.index ≤ 999999999) × InRange hs

-- Each held operation is on an object of the node, and fits it; its index is in its range, and stands once.
abbrev pub MayBeHeld : List ObjectDecl → ℕ → List HeldOp → Type 0
MayBeHeld objects node [] = Unit {0}
MayBeHeld objects node (h ∷ hs) =
    (fits_here objects node h.object h.op ≡ true) × (h.index ≤ 999999999)
    × (has_index hs h.index ≡ false) × MayBeHeld objects node hs

abbrev pub CanRestore : List ObjectDecl → ℕ → List Held → Type 0
CanRestore objects node held = MayBeHeld objects node (all_held held)

-- the site with one more operation, under its own index
abbrev pub taken_over : Site → LiveOp → Site
taken_over site o = record site { live = site.live ++ o ∷ []; next = o.index + 1 }
