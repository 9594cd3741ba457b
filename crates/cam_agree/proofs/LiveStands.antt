-- What a node keeps of its site's operations, beside those that stand by the definition.
use Rattle.std.proofs.Common.{◌≡◌, ℕ, ◌<◌, ◌≤◌, Bool, true, false, not, if◌then◌else◌, List, [], ◌∷◌, ◌++◌, map, filter}
use Rattle.std.specs.Prelude.{nat_lt}
use Rattle.std.specs.List.{list_any}
use Rattle.cam_names.specs.declared.name.Name.{Name}
use Rattle.cam_names.specs.Names.{name_eq, is_ancestor, ancestors, family}
use Rattle.cam_event.specs.declared.Deed.{Deed}
use Rattle.cam_event.specs.declared.Deed.TheVariants.{Perform, Crash}
use Rattle.cam_event.specs.History.{call_of, informed, secured_at, number_of}
use Rattle.cam_event.specs.Live.{of_call}
use Rattle.cam_event.specs.HeldSites.{Placed, Site, for_family, is_any_perform}
use Rattle.cam_names.proofs.Every.{Every, Pairs}
use Rattle.cam_agree.proofs.LiveOrder.{IsBefore, Distinct, of_family}

-- The operations of a site that no crash has removed, each with its place: the number of Performs before it. The history is the site's
-- own; the call of a Perform is looked up in another history.
abbrev pub standing : List Deed → List Deed → ℕ → List Placed
standing H [] s = []
standing H (Perform a n answer ∷ before) s = standing H before s ++ map (λ o. record { index = number_of is_any_perform before; operation = o }) (of_call a n answer (call_of H a n))
standing H (Crash r ∷ before) s = filter (λ p. secured_at before (family p.operation.action) s) (standing H before s)
standing H (_ ∷ before) s = standing H before s

-- the number of Performs before the last crash
abbrev pub crashed : List Deed → ℕ
crashed [] = 0
crashed (Crash r ∷ before) = number_of is_any_perform before
crashed (_ ∷ before) = crashed before

-- An operation is dropped where its site was informed of the abort of an ancestor of its action.
abbrev pub dropped : (Name → Bool) → Placed → Bool
dropped down p = list_any down (ancestors p.operation.action)

abbrev pub alive : (Name → Bool) → List Placed → List Placed
alive down st = filter (λ p. not (dropped down p)) st

-- the operation with its family in place of its action
abbrev pub handed : Placed → Placed
handed p = for_family (family p.operation.action) p

-- The family takes over an operation from before the last crash.
abbrev pub take_over : ℕ → Placed → Placed
take_over c p = if nat_lt p.index c then handed p else p

-- the site was informed of the commit of each ancestor of the action but the top one
abbrev pub HandedUp : (Name → Bool) → Name → Type 0
HandedUp up a = (u : Name) → is_ancestor u a ≡ true → name_eq u (family a) ≡ false → up u ≡ true

-- the names of the secured families
abbrev pub names_of : List (Name × List Placed) → List Name
names_of gs = map (λ g. g.0) gs

abbrev pub IsKept : (Name → Bool) → List Placed → Name × List Placed → Type 0
IsKept down st g = down g.0 ≡ false → map (for_family g.0) g.1 ≡ map handed (filter (of_family g.0) (alive down st))

-- What a node keeps of its site (S), where the site's own deeds have n Performs, c of them before the last crash, the standing operations st,
-- the secured families sec, and where the site was informed of the aborts down and the commits up.
pub record Stands (c n : ℕ) (st : List Placed) (sec down up : Name → Bool) (S : Site) : Type 0 where
  -- it keeps the live operations, those from before the crash for their families
  pub kept_live : S.live ≡ map (take_over c) (alive down st)
  -- and those of each secured family
  pub groups : Every (IsKept down st) S.secured
  pub names : (f : Name) → list_any (name_eq f) (names_of S.secured) ≡ sec f
  pub distinct : Distinct (names_of S.secured)
  -- places rise, and stay below the number of Performs
  pub rising : Pairs IsBefore st
  pub below : Every (λ p. p.index < n) st
  pub crash_below : c ≤ n
  -- actions have names of one part at least
  pub named : Every (λ p. is_ancestor p.operation.action p.operation.action ≡ true) st
  -- what stands of a secured family was handed up to it
  pub up_to : Every (λ p. sec (family p.operation.action) ≡ true → HandedUp up p.operation.action) (alive down st)
  -- what is left from before the crash is of secured families
  pub old : Every (λ p. p.index < c → sec (family p.operation.action) ≡ true) st

-- it stands so after these deeds of the site
abbrev pub StandsAt : List Deed → List Deed → ℕ → Site → Type 0
StandsAt H L s S = Stands (crashed L) (number_of is_any_perform L) (standing H L s) (λ f. secured_at L f s) (λ u. informed L s u false) (λ u. informed L s u true) S
