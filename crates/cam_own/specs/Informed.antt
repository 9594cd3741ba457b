-- The names of whose commit, or of whose abort, a site was informed, in order.
use Rattle.std.specs.Prelude.{◌≡◌, ℕ, eqb, true, false, if◌then◌else◌, List, [], ◌∷◌, ◌++◌}
use Rattle.cam_names.specs.declared.name.Name.{Name}
use Rattle.cam_event.specs.declared.Deed.{Deed}
use Rattle.cam_event.specs.declared.Deed.TheVariants.{Inform}
use Rattle.cam_own.specs.declared.informed.Informed.{Informed}

abbrev pub commits_of : List Deed → ℕ → List Name
commits_of [] s = []
commits_of (Inform site b true ∷ before) s =
    if eqb site s then commits_of before s ++ b ∷ [] else commits_of before s
commits_of (_ ∷ before) s = commits_of before s

abbrev pub aborts_of : List Deed → ℕ → List Name
aborts_of [] s = []
aborts_of (Inform site b false ∷ before) s =
    if eqb site s then aborts_of before s ++ b ∷ [] else aborts_of before s
aborts_of (_ ∷ before) s = aborts_of before s

-- the lists have them
pub record KeepsInformed (L : List Deed) (s : ℕ) (informed : Informed) : Type 0 where
  pub commits : informed.commits ≡ commits_of L s
  pub aborts : informed.aborts ≡ aborts_of L s
