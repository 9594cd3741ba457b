-- What a log held of the families that a site secured, beside the operations for which it stands.
use Rattle.std.specs.Prelude.{◌≡◌, ◌≤◌, nat_lt, List, [], ◌∷◌, ◌++◌, Contains, zip}
use Rattle.cam_names.specs.declared.name.Name.{Name}
use Rattle.cam_type.specs.declared.Held.{Held}
use Rattle.cam_type.specs.declared.HeldOp.{HeldOp}
use Rattle.cam_event.specs.declared.Operation.{Operation}
use Rattle.cam_event.specs.HeldSites.{Placed}

-- a held operation stands for an operation: the same object and op
abbrev pub StandsFor : HeldOp → Operation → Type 0
StandsFor h o = (h.object ≡ o.object) × (h.op ≡ o.op)

-- the operations of a secured family: the same objects and ops as just before its Secure
abbrev pub AreHeldOps : List HeldOp → List Placed → Type 0
AreHeldOps [] [] = Unit {0}
AreHeldOps (h ∷ hs) (p ∷ ps) = StandsFor h p.operation × AreHeldOps hs ps
AreHeldOps [] (p ∷ ps) = ⊥
AreHeldOps (h ∷ hs) [] = ⊥

abbrev pub AreHeld : List Held → List (Name × List Placed) → Type 0
AreHeld [] [] = Unit {0}
AreHeld (g ∷ gs) (p ∷ ps) = (g.family ≡ p.0) × AreHeldOps g.ops p.1 × AreHeld gs ps
AreHeld [] (p ∷ ps) = ⊥
AreHeld (g ∷ gs) [] = ⊥

-- each logged operation beside the one for which it stands
abbrev pub beside : List Held → List (Name × List Placed) → List (HeldOp × Placed)
beside [] ps = []
beside (g ∷ gs) [] = []
beside (g ∷ gs) (p ∷ ps) = zip g.ops p.1 ++ beside gs ps

-- Of two logged operations the one that was performed first has the lesser index. No index is above
-- the number of the operations that were performed before: after a restart the indices go on from
-- what the log holds, and so they may fall behind, and never get ahead.
pub record OrderIsKept (pairs : List (HeldOp × Placed)) : Type 0 where
  pub order :
      (one other : HeldOp × Placed) → Contains pairs one → Contains pairs other
      → nat_lt one.0.index other.0.index ≡ nat_lt one.1.index other.1.index
  pub at_most : (one : HeldOp × Placed) → Contains pairs one → one.0.index ≤ one.1.index
