-- Histories of lists of deeds, and of their beginnings.
use Rattle.std.proofs.Common.{List, [], ◌∷◌}
use Rattle.cam_type.specs.declared.ObjectDecl.{ObjectDecl}
use Rattle.cam_event.specs.declared.Deed.{Deed}
use Rattle.cam_event.specs.History.{after}
use Rattle.cam_plain.specs.Legal.{Legal}

-- what is legal has been legal all along
pub legal_before : (objects : List ObjectDecl) (ds L : List Deed) → Legal objects (after L ds) → Legal objects L
legal_before objects [] L h = h
legal_before objects (d ∷ ds) L h = (legal_before objects ds (d ∷ L) h).1
