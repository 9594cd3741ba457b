-- What is kept of the sites: the live operations of each, in its lock table, and the commits that it was informed of.
use Rattle.std.specs.Prelude.{◌≡◌, ℕ, eqb, Bool, true, false, ◌&&◌, ◌||◌, if◌then◌else◌, List, [], ◌∷◌, Option, Some, None}
use Rattle.std.specs.HashMap.{HashMap, get}
use Rattle.std.specs.List.{list_all}
use Rattle.cam_names.specs.declared.name.Name.{Name}
use Rattle.cam_names.specs.Names.{family, is_top, is_ancestor}
use Rattle.cam_type.specs.declared.ObjectDecl.{ObjectDecl}
use Rattle.cam_type.specs.declared.Answer.{Answer}
use Rattle.cam_locks.specs.declared.LiveOp.{LiveOp}
use Rattle.cam_locks.specs.Names.{has_name}
use Rattle.cam_locks.specs.Site as locks
use Rattle.cam_locks.specs.Calls.{with_abort}
use Rattle.cam_event.specs.declared.Operation.{Operation}
use Rattle.cam_event.specs.declared.Deed.{Deed}
use Rattle.cam_event.specs.declared.Deed.TheVariants.{Perform}
use Rattle.cam_event.specs.History.{informed, secured_at}
use Rattle.cam_event.specs.Live.{live_at}
use Rattle.cam_plain.specs.declared.site.Site.{Site}

-- A live operation of a lock table stands for one of the site: the same action, object and op.
pub record IsLiveOp (kept : LiveOp) (o : Operation) : Type 0 where
  pub action : kept.action ≡ o.action
  pub object : kept.object ≡ o.object
  pub op : kept.op ≡ o.op

abbrev pub AreLiveOps : List LiveOp → List Operation → Type 0
AreLiveOps [] [] = Unit {0}
AreLiveOps (k ∷ ks) (o ∷ os) = IsLiveOp k o × AreLiveOps ks os
AreLiveOps [] (o ∷ os) = ⊥
AreLiveOps (k ∷ ks) [] = ⊥

-- the family of the operation is among these, or is secured at the site; and an operation is of its family
abbrev pub is_noted : List Deed → ℕ → List Name → Operation → Bool
is_noted L s families o =
    is_ancestor (family o.action) o.action
    && (has_name families (family o.action) || secured_at L (family o.action) s)

-- What is kept of a site: its live operations, and the commits that it was informed of. Each family that a crash would drop is noted.
pub record KeepsSite (objects : List ObjectDecl) (L : List Deed) (s : ℕ) (site : Site) : Type 0
  where
    pub objects_are : site.locks.site.objects ≡ objects
    pub node : site.locks.site.node ≡ s
    pub operations : AreLiveOps site.locks.site.live (live_at objects L s)
    pub commits : (u : Name) → has_name site.locks.site.committed u ≡ informed L s u true
    pub tops : list_all is_top site.families ≡ true
    pub families : list_all (is_noted L s site.families) (live_at objects L s) ≡ true

-- of a site without live operations that was informed of no commit, nothing need be kept
pub record IsUntouched (objects : List ObjectDecl) (L : List Deed) (s : ℕ) : Type 0 where
  pub none : live_at objects L s ≡ []
  pub commits : (u : Name) → false ≡ informed L s u true

abbrev pub KeepsIfSome : List ObjectDecl → List Deed → ℕ → Option Site → Type 0
KeepsIfSome objects L s None = IsUntouched objects L s
KeepsIfSome objects L s (Some site) = KeepsSite objects L s site

abbrev pub site_in : {S : Type 0} → HashMap ℕ Site S → ℕ → Option Site
site_in sites s = get eqb sites s

abbrev pub KeepsSites : {S : Type 0} → List ObjectDecl → List Deed → HashMap ℕ Site S → Type 0
KeepsSites objects L sites = (s : ℕ) → KeepsIfSome objects L s (site_in sites s)

-- what a site keeps after the call number n of an action came to it: where someone stands in the way it keeps what it kept
abbrev pub AfterAttempt : List ObjectDecl → List Deed → ℕ → Name → ℕ → Answer → Option Name → Site
    → Type 0
AfterAttempt objects L s a n answer None site = KeepsSite objects (Perform a n answer ∷ L) s site
AfterAttempt objects L s a n answer (Some u) site = KeepsSite objects L s site

-- the operations of an action, if there is one, and of all below it are dropped
abbrev pub with_abort_of : Option Name → locks.Site → locks.Site
with_abort_of None site = site
with_abort_of (Some u) site = with_abort site u

-- a crash of the site drops a family, unless it is secured there
abbrev pub crashed_family : List Deed → ℕ → Name → locks.Site → locks.Site
crashed_family L s f site = if secured_at L f s then site else with_abort site f

abbrev pub crashed_families : List Deed → ℕ → List Name → locks.Site → locks.Site
crashed_families L s [] site = site
crashed_families L s (f ∷ fs) site = crashed_families L s fs (crashed_family L s f site)

abbrev pub Attempted : {S : Type 0} → List ObjectDecl → List Deed → Name → ℕ → Answer → Option Name
    → HashMap ℕ Site S → Type 0
Attempted objects L a n answer None sites = KeepsSites objects (Perform a n answer ∷ L) sites
Attempted objects L a n answer (Some u) sites = KeepsSites objects L sites

-- What the sites keep once a deed was found to meet its line: that of a Perform is kept already.
abbrev pub Between : {S : Type 0} → List ObjectDecl → List Deed → Deed → HashMap ℕ Site S → Type 0
Between objects L (Perform a n answer) sites = KeepsSites objects (Perform a n answer ∷ L) sites
Between objects L _ sites = KeepsSites objects L sites
