-- Of a committed top action all that it depends on is secured.
use Rattle.std.proofs.Common.{◌≡◌, inl, inr, suc, true, List, [], ◌∷◌, length, None, refl, sym, subst, arith}
use Rattle.std.specs.List.{list_all}
use Rattle.std.proofs.lemmas.Bool.{or_cases, or_right, eqb-true}
use Rattle.cam_names.specs.declared.name.Name.{Name}
use Rattle.cam_names.specs.Part.{PartFields}
use Rattle.cam_names.specs.Names.{name_eq, is_top, parent}
use Rattle.cam_names.proofs.Names.{name_eq_same}
use Rattle.cam_type.specs.declared.ObjectDecl.{ObjectDecl}
use Rattle.cam_event.specs.declared.Deed.{Deed}
use Rattle.cam_event.specs.declared.Deed.TheVariants.{Commit}
use Rattle.cam_event.specs.History.{committed, asked_commit, secured, is_secure}
use Rattle.cam_event.specs.Gained.{deps}
use Rattle.cam_plain.specs.Lines.{MayCommit}
use Rattle.cam_plain.specs.Legal.{Legal}
use Rattle.cam_plain.proofs.Deciding.{committed_asked}
use Rattle.cam_plain.proofs.Searches.{all_weaker}
use Rattle.cam_cut.proofs.DepsFacts.{deps_final}

-- a top action has no parent
no_parent : (f : List PartFields) → is_top f ≡ true → parent f ≡ None
no_parent [] h = cc
no_parent (p ∷ []) h = refl
no_parent (p ∷ q ∷ f) h = absurd (omega (arith, eqb-true (suc (suc (length f))) 1 h))

-- what is secured for each pair stays so after one more deed, where the action depends on no more
still_secured :
    (objects : List ObjectDecl) (L : List Deed) (d : Deed) (f : Name) → Legal objects (d ∷ L)
    → asked_commit L f ≡ true → list_all (λ p. secured L f p.0 p.1) (deps objects L f) ≡ true
    → list_all (λ p. secured (d ∷ L) f p.0 p.1) (deps objects (d ∷ L) f) ≡ true
still_secured objects L d f legal asked h =
    subst (λ ps. list_all (λ p. secured (d ∷ L) f p.0 p.1) ps ≡ true)
    (sym (deps_final objects L d f legal asked))
    (all_weaker (λ p. secured L f p.0 p.1) (λ p. secured (d ∷ L) f p.0 p.1) (deps objects L f)
    (λ p g. or_right (is_secure f p.0 p.1 d) (secured L f p.0 p.1) g) h)

-- A top action commits where each pair on which it depends is secured.
pub commit_needs :
    (objects : List ObjectDecl) (L : List Deed) (f : Name) → Legal objects (Commit f ∷ L)
    → is_top f ≡ true → list_all (λ p. secured L f p.0 p.1) (deps objects L f) ≡ true
commit_needs objects L f legal top =
    let home : MayCommit objects L f None =
    subst (MayCommit objects L f) (no_parent f top) legal.0.may in
    home.1

-- Of a committed top action each pair on which it depends is secured.
pub commit_secured :
    (objects : List ObjectDecl) (L : List Deed) (f : Name) → Legal objects L → is_top f ≡ true
    → committed L f ≡ true → list_all (λ p. secured L f p.0 p.1) (deps objects L f) ≡ true
commit_secured objects [] f legal top h = cc
commit_secured objects (d ∷ L) f legal top h =
    old d legal h (commit_secured objects L f legal.1 top)
  where
    now :
        (b : Name) → Legal objects (Commit b ∷ L) → f ≡ b
        → list_all (λ p. secured (Commit b ∷ L) f p.0 p.1) (deps objects (Commit b ∷ L) f) ≡ true
    now b l same =
        let mine : Legal objects (Commit f ∷ L) =
        subst (λ x. Legal objects (Commit x ∷ L)) (sym same) l in
        still_secured objects L (Commit b) f l mine.0.asked (commit_needs objects L f mine top)

    old :
        (d : Deed) → Legal objects (d ∷ L) → committed (d ∷ L) f ≡ true
        → (committed L f ≡ true → list_all (λ p. secured L f p.0 p.1) (deps objects L f) ≡ true)
        → list_all (λ p. secured (d ∷ L) f p.0 p.1) (deps objects (d ∷ L) f) ≡ true
    old (Commit b) l g rest = elim (or_cases (name_eq f b) (committed L f) g) [
      | inl e ↦ now b l (name_eq_same f b e)
      | inr r ↦ still_secured objects L (Commit b) f l (committed_asked objects L f l.1 r) (rest r)
    ]
    old d l g rest = still_secured objects L d f l (committed_asked objects L f l.1 g) (rest g)
