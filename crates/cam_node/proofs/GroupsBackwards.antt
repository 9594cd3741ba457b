-- What is kept of secured families, backwards.
use Rattle.std.proofs.Common.{◌≡◌, ℕ, false, List, [], ◌∷◌, ◌++◌, reverse, refl, sym, ap, subst, ◌∙◌}
use Rattle.std.specs.List.{list_any}
use Rattle.std.proofs.lemmas.Bool.{or_parts, or_from}
use Rattle.std.proofs.lemmas.List.{reverse-append}
use Rattle.cam_names.specs.declared.name.Name.{Name}
use Rattle.cam_names.specs.Names.{name_eq}
use Rattle.cam_names.proofs.Names.{name_eq_sym}
use Rattle.cam_type.specs.declared.ObjectDecl.{ObjectDecl}
use Rattle.cam_event.specs.HeldSites.{Placed}
use Rattle.cam_node.specs.Restartable.{EachOnce}
use Rattle.cam_node.proofs.PlacedOnce.{AreGroups, names_of}

-- Each is as right as before.
groups_last : (objects : List ObjectDecl) (s n : ℕ) (owner : ℕ → Name)
    (gs : List (Name × List Placed)) (g : Name × List Placed) → AreGroups objects s n owner gs
    → AreGroups objects s n owner (g ∷ []) → AreGroups objects s n owner (gs ++ g ∷ [])
groups_last objects s n owner [] g all one = one
groups_last objects s n owner (h ∷ gs) g all one =
    (all.0, groups_last objects s n owner gs g all.1 one)

pub groups_backwards : (objects : List ObjectDecl) (s n : ℕ) (owner : ℕ → Name)
    (gs : List (Name × List Placed)) → AreGroups objects s n owner gs
    → AreGroups objects s n owner (reverse gs)
groups_backwards objects s n owner [] all = tt
groups_backwards objects s n owner (g ∷ gs) all =
    subst (AreGroups objects s n owner) (sym (reverse-append (g ∷ []) gs))
    (groups_last objects s n owner (reverse gs) g
    (groups_backwards objects s n owner gs all.1) (all.0, tt))

no_name_last : (gs : List (Name × List Placed)) (g : Name × List Placed) (f : Name)
    → list_any (name_eq f) (names_of gs) ≡ false → name_eq f g.0 ≡ false
    → list_any (name_eq f) (names_of (gs ++ g ∷ [])) ≡ false
no_name_last [] g f none apart = or_from (name_eq f g.0) false apart refl
no_name_last (h ∷ gs) g f none apart =
    let parts = or_parts (name_eq f h.0) (list_any (name_eq f) (names_of gs)) none in
    or_from (name_eq f h.0) (list_any (name_eq f) (names_of (gs ++ g ∷ []))) parts.0
    (no_name_last gs g f parts.1 apart)

once_last : (gs : List (Name × List Placed)) (g : Name × List Placed) → EachOnce (names_of gs)
    → list_any (name_eq g.0) (names_of gs) ≡ false → EachOnce (names_of (gs ++ g ∷ []))
once_last [] g once none = (refl, tt)
once_last (h ∷ gs) g once none =
    let parts = or_parts (name_eq g.0 h.0) (list_any (name_eq g.0) (names_of gs)) none in (
      no_name_last gs g h.0 once.0 (name_eq_sym h.0 g.0 ∙ parts.0),
      once_last gs g once.1 parts.1,
    )

no_name_backwards : (gs : List (Name × List Placed)) (f : Name)
    → list_any (name_eq f) (names_of gs) ≡ false
    → list_any (name_eq f) (names_of (reverse gs)) ≡ false
no_name_backwards [] f none = refl
no_name_backwards (g ∷ gs) f none =
    let parts = or_parts (name_eq f g.0) (list_any (name_eq f) (names_of gs)) none in
    ap (λ (hs : List (Name × List Placed)). list_any (name_eq f) (names_of hs))
    (reverse-append (g ∷ []) gs)
    ∙ no_name_last (reverse gs) g f (no_name_backwards gs f parts.1) parts.0

pub once_backwards : (gs : List (Name × List Placed)) → EachOnce (names_of gs)
    → EachOnce (names_of (reverse gs))
once_backwards [] once = tt
once_backwards (g ∷ gs) once =
    subst (λ (hs : List (Name × List Placed)). EachOnce (names_of hs))
    (sym (reverse-append (g ∷ []) gs))
    (once_last (reverse gs) g (once_backwards gs once.1) (no_name_backwards gs g.0 once.0))
