-- The nodes of a run, one of which has done more.
use Rattle.std.proofs.Common.{◌≡◌, ℕ, zero, suc, ◌+◌, ◌≤◌, List, [], ◌∷◌, set, Some}
use Rattle.std.proofs.Common.{subst, arith}
use Rattle.std.specs.Prelude.{slice_get}
use Rattle.std.proofs.lemmas.Option.{same_Some}
use Rattle.cam_type.specs.declared.ObjectDecl.{ObjectDecl}
use Rattle.cam_runs.specs.Standing.{Standing}
use Rattle.cam_histories.specs.Whole.{Site, IsSiteOf, AreSitesOf}

-- a node of the list
pub site_at : (objects : List ObjectDecl) (st : Standing) (first place : ℕ) (sites : List Site)
    (site : Site) → AreSitesOf objects st first sites → slice_get sites place ≡ Some site
    → IsSiteOf objects st (first + place) site
site_at objects st first place [] site are at = cc
site_at objects st first zero (n ∷ sites) site are at =
    let same : n ≡ site = same_Some n site at in
    subst (λ (s : ℕ). IsSiteOf objects st s site) (omega arith)
    (subst (IsSiteOf objects st first) same are.0)
site_at objects st first (suc place) (n ∷ sites) site are at =
    let next : first + 1 + place ≡ first + suc place = omega arith in
    subst (λ (s : ℕ). IsSiteOf objects st s site) next
    (site_at objects st (first + 1) place sites site are.1 at)

-- one of them has done more, and the others are as they were
module _ (objects : List ObjectDecl) (old new : Standing) (s : ℕ) (site : Site)
    (stands : IsSiteOf objects new s site)
    (others :
    (m : ℕ) (n : Site) → (s ≡ m → ⊥) → IsSiteOf objects old m n → IsSiteOf objects new m n)
  where
    above : (first : ℕ) (sites : List Site) → (first ≤ s → ⊥) → AreSitesOf objects old first sites
        → AreSitesOf objects new first sites
    above first [] low are = tt
    above first (n ∷ sites) low are = (
      others first n (λ e. low (omega (arith, e))) are.0,
      above (first + 1) sites (λ h. low (omega (arith, h))) are.1,
    )

    pub sites_with : (first place : ℕ) (sites : List Site) → first + place ≡ s
        → AreSitesOf objects old first sites → AreSitesOf objects new first (set sites place site)
    sites_with first place [] at are = tt
    sites_with first zero (n ∷ sites) at are =
        let here : s ≡ first = omega (arith, at) in (
          subst (λ (m : ℕ). IsSiteOf objects new m site) here stands,
          above (first + 1) sites (λ h. omega (arith, h, at)) are.1,
        )
    sites_with first (suc place) (n ∷ sites) at are =
        let next : first + 1 + place ≡ s = omega (arith, at) in (
          others first n (λ e. omega (arith, e, at)) are.0,
          sites_with (first + 1) place sites next are.1,
        )
