-- What is secured can be restored: at one moment, and along the run of a site.
use Rattle.std.specs.Prelude.{◌≡◌, ◌⊎◌, ℕ, ◌≤◌, Bool, false, List, [], ◌∷◌, map}
use Rattle.std.specs.List.{list_any}
use Rattle.cam_names.specs.declared.name.Name.{Name}
use Rattle.cam_names.specs.Names.{name_eq}
use Rattle.cam_type.specs.declared.Op.{Op}
use Rattle.cam_type.specs.declared.Held.{Held}
use Rattle.cam_locks.specs.declared.LiveOp.{LiveOp}
use Rattle.cam_locks.specs.Members.{In}
use Rattle.cam_locks.specs.Site.{Site, IndicesRise, AreFit}
use Rattle.cam_locks.specs.Calls.{held, after_grant, with_commit, with_abort}
use Rattle.cam_locks.specs.Restored.{CanRestore}

-- whether something is held of the family
abbrev pub has_held : List Held → Name → Bool
has_held hs f = list_any (λ h. name_eq f h.family) hs

-- Each of these is what is secured of its family at this moment, under some count, and no family stands twice.
abbrev pub AreSecured : Site → List Held → Type 0
AreSecured site [] = Unit {0}
AreSecured site (h ∷ hs) =
    (h ≡ held site h.family h.count) × (has_held hs h.family ≡ false) × AreSecured site hs

-- such a list can be restored at the node of the site
abbrev pub SecuredCanBeRestored : Site → Type 0
SecuredCanBeRestored site =
    (hs : List Held) → AreSecured site hs → CanRestore site.objects site.node hs

-- Indices rise, up to a limit, and each operation fits its object.
pub record IsWellFormed (site : Site) : Type 0 where
  pub rising : IndicesRise 0 site.live site.next
  pub range : site.next ≤ 1000000000
  pub fits : AreFit site.objects site.node site.live

-- A later moment of a site's run: what is live was live before, or was done since.
pub record IsLater (before after : Site) : Type 0 where
  pub objects : after.objects ≡ before.objects
  pub node : after.node ≡ before.node
  pub next : before.next ≤ after.next
  pub live : (o : LiveOp) → In o after.live → In o before.live ⊎ (before.next ≤ o.index)

-- a grant leads to a later moment
abbrev pub GrantsLeadOn : Type 0
GrantsLeadOn = (site : Site) (a : Name) (x : ℕ) (op : Op) → IsLater site (after_grant site a x op)

-- so do a commit and an abort of which the site is informed
abbrev pub OutcomesLeadOn : Type 0
OutcomesLeadOn =
    (site : Site) (a : Name) → IsLater site (with_commit site a) × IsLater site (with_abort site a)

-- and what is later than a later moment is later
abbrev pub LaterLeadsOn : Type 0
LaterLeadsOn = (site mid end : Site) → IsLater site mid → IsLater mid end → IsLater site end

-- what was secured at a moment, and the site as it was then
pub record Secured : Type 0 where
  pub site : Site
  pub held : Held

abbrev pub all_secured : List Secured → List Held
all_secured ms = map (λ m. m.held) ms

-- Of a moment and each of these one is the later.
abbrev pub AreOfRun : Site → List Secured → Type 0
AreOfRun site [] = Unit {0}
AreOfRun site (m ∷ ms) = (IsLater site m.site ⊎ IsLater m.site site) × AreOfRun site ms

-- Each was secured of its family at a moment of one run, and no family stands twice.
abbrev pub WereSecured : List Secured → Type 0
WereSecured [] = Unit {0}
WereSecured (m ∷ ms) =
    IsWellFormed m.site × (m.held ≡ held m.site m.held.family m.held.count)
    × (has_held (all_secured ms) m.held.family ≡ false) × AreOfRun m.site ms × WereSecured ms

-- such a list can be restored at the node of the run
abbrev pub SecuredAlongCanBeRestored : Type 0
SecuredAlongCanBeRestored =
    (site : Site) (ms : List Secured) → AreOfRun site ms → WereSecured ms
    → CanRestore site.objects site.node (all_secured ms)
