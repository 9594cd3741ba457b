-- What the tables have of the deeds so far: calls, counts of sites, secured families and informs.
use Rattle.std.specs.Prelude.{◌≡◌, ℕ, eqb, Bool, true, false, ◌&&◌, ◌||◌, if◌then◌else◌, List, [], ◌∷◌, Option, Some, None, option_map, unwrap_or}
use Rattle.std.specs.Option.{option_or}
use Rattle.std.specs.Ordering.{nat_cmp, ordering_then}
use Rattle.std.specs.declared.cmp.Ordering.{Ordering}
use Rattle.std.specs.BTreeMap.{BTreeMap, get}
use Rattle.std.specs.BTreeSet.{BTreeSet, contains}
use Rattle.cam_names.specs.declared.name.Name.{Name}
use Rattle.cam_names.specs.Names.{name_cmp, name_eq}
use Rattle.cam_event.specs.declared.Deed.{Deed}
use Rattle.cam_event.specs.declared.Deed.TheVariants.{Secure}
use Rattle.cam_event.specs.History.{count, Addressed, call_of, informed}
use Rattle.cam_live.specs.declared.tables.AddressedCall.{AddressedCall}
use Rattle.cam_live.specs.declared.tables.Tables.{Tables}

-- the order of names at sites, and of calls
abbrev pub site_name_cmp : ℕ × Name → ℕ × Name → Ordering
site_name_cmp x y = ordering_then (nat_cmp x.0 y.0) (name_cmp x.1 y.1)

abbrev pub call_cmp : Name × ℕ → Name × ℕ → Ordering
call_cmp x y = ordering_then (name_cmp x.0 y.0) (nat_cmp x.1 y.1)

-- what a call asked, as the table has it
abbrev pub asked_of : Addressed → AddressedCall
asked_of call = record { object = call.object; op = call.op; count = call.count }

abbrev pub TellsCalls : List Deed → BTreeMap (Name × ℕ) AddressedCall → Type 0
TellsCalls L calls =
    (a : Name) (n : ℕ) → get call_cmp calls (a, n) ≡ option_map asked_of (call_of L a n)

-- the count of a site, as the table has it: a site that it has not has never crashed
abbrev pub count_in : BTreeMap ℕ ℕ → ℕ → ℕ
count_in counts s = unwrap_or (get nat_cmp counts s) 1

abbrev pub TellsCounts : List Deed → BTreeMap ℕ ℕ → Type 0
TellsCounts L counts = (s : ℕ) → count_in counts s ≡ count L s

-- the count of the site when the family was first secured there
abbrev pub first_secured : List Deed → ℕ → Name → Option ℕ
first_secured [] s f = None
first_secured (Secure g site c ∷ before) s f =
    option_or (first_secured before s f)
    (if eqb s site && name_eq f g then Some (count before s) else None)
first_secured (_ ∷ before) s f = first_secured before s f

abbrev pub TellsSecured : List Deed → BTreeMap (ℕ × Name) ℕ → Type 0
TellsSecured L secured = (s : ℕ) (f : Name) → get site_name_cmp secured (s, f) ≡ first_secured L s f

-- the new set has this name at this site besides
abbrev pub AddsName : ℕ → Name → BTreeSet (ℕ × Name) → BTreeSet (ℕ × Name) → Type 0
AddsName site b old new =
    (s : ℕ) (a : Name)
    → contains site_name_cmp new (s, a)
    ≡ ((eqb s site && name_eq a b) || contains site_name_cmp old (s, a))

abbrev pub HasSameNames : BTreeSet (ℕ × Name) → BTreeSet (ℕ × Name) → Type 0
HasSameNames old new =
    (s : ℕ) (a : Name) → contains site_name_cmp new (s, a) ≡ contains site_name_cmp old (s, a)

-- the names at the sites that were informed of their commit, or of their abort
abbrev pub TellsInforms : Bool → List Deed → BTreeSet (ℕ × Name) → Type 0
TellsInforms outcome L names =
    (s : ℕ) (a : Name) → contains site_name_cmp names (s, a) ≡ informed L s a outcome

-- The tables have what the deeds say.
pub record Tells (L : List Deed) (tables : Tables) : Type 0 where
  pub calls : TellsCalls L tables.calls
  pub counts : TellsCounts L tables.counts
  pub secured : TellsSecured L tables.secured
  pub aborted : TellsInforms false L tables.aborted
  pub committed : TellsInforms true L tables.committed
