-- How many top actions were created, as it is kept.
use Rattle.std.specs.Prelude.{◌≡◌, ℕ, eqb, Bool, ◌&&◌, List, unwrap_or}
use Rattle.std.specs.HashMap.{HashMap, get}
use Rattle.cam_event.specs.declared.Deed.{Deed}
use Rattle.cam_event.specs.History.{tops}
use Rattle.cam_own.specs.declared.tops.Home.{Home}

abbrev pub home_eq : Home → Home → Bool
home_eq x y = eqb x.node y.node && eqb x.count y.count

abbrev pub home_at : ℕ → ℕ → Home
home_at s c = record { node = s; count = c }

abbrev pub tops_in : {S : Type 0} → HashMap Home ℕ S → ℕ → ℕ → ℕ
tops_in table s c = unwrap_or (get home_eq table (home_at s c)) 0

-- The table has how many there are of each node in each of its counts.
abbrev pub KeepsTops : {S : Type 0} → List Deed → HashMap Home ℕ S → Type 0
KeepsTops L table = (s c : ℕ) → tops_in table s c ≡ tops L s c
