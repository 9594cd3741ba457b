-- What a legal history decides it had not decided before.
use Rattle.std.proofs.Common.{◌≡◌, inl, inr, false, List, [], ◌∷◌, sym, subst}
use Rattle.cam_names.specs.declared.name.Name.{Name}
use Rattle.cam_type.specs.declared.ObjectDecl.{ObjectDecl}
use Rattle.cam_event.specs.declared.Deed.{Deed}
use Rattle.cam_event.specs.declared.Deed.TheVariants.{Commit, Abort}
use Rattle.cam_event.specs.History.{after, decided}
use Rattle.cam_event.proofs.Members.{In}
use Rattle.cam_plain.specs.Legal.{Legal}
use Rattle.cam_plain.proofs.Histories.{legal_before}
use Rattle.cam_agree.proofs.OrphanOpen.{undecided_before}

pub committed_first : (objects : List ObjectDecl) (ds L : List Deed) (a : Name)
    → Legal objects (after L ds) → In (Commit a) ds → decided L a ≡ false
committed_first objects [] L a legal i = absurd i
committed_first objects (d ∷ ds) L a legal (inl e) =
    let line = legal_before objects ds (d ∷ L) legal in
    here d e line
  where
    here : (d : Deed) → Commit a ≡ d → Legal objects (d ∷ L) → decided L a ≡ false
    here d e line = (subst (λ x. Legal objects (x ∷ L)) (sym e) line).0.undecided
committed_first objects (d ∷ ds) L a legal (inr i) =
    undecided_before L d a (committed_first objects ds (d ∷ L) a legal i)

pub aborted_first : (objects : List ObjectDecl) (ds L : List Deed) (a : Name)
    → Legal objects (after L ds) → In (Abort a) ds → decided L a ≡ false
aborted_first objects [] L a legal i = absurd i
aborted_first objects (d ∷ ds) L a legal (inl e) =
    let line = legal_before objects ds (d ∷ L) legal in
    here d e line
  where
    here : (d : Deed) → Abort a ≡ d → Legal objects (d ∷ L) → decided L a ≡ false
    here d e line = (subst (λ x. Legal objects (x ∷ L)) (sym e) line).0.undecided
aborted_first objects (d ∷ ds) L a legal (inr i) =
    undecided_before L d a (aborted_first objects ds (d ∷ L) a legal i)
