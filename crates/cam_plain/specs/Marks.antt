-- The operations of each family at each site, as they are kept.
use Rattle.std.specs.Prelude.{◌≡◌, ℕ, eqb, Bool, false, not, ◌&&◌, ◌||◌, List, [], map, filter, unwrap_or}
use Rattle.std.specs.HashMap.{HashMap, get}
use Rattle.std.specs.List.{list_any}
use Rattle.cam_names.specs.declared.name.Name.{Name}
use Rattle.cam_names.specs.Names.{name_eq, ancestors, family}
use Rattle.cam_type.specs.declared.ObjectDecl.{ObjectDecl}
use Rattle.cam_event.specs.declared.Deed.{Deed}
use Rattle.cam_event.specs.History.{count, informed}
use Rattle.cam_event.specs.Live.{site_of, lift}
use Rattle.cam_live.specs.declared.performed.Performed.{Performed}
use Rattle.cam_live.specs.Counted.{performed}
use Rattle.cam_plain.specs.declared.marks.Place.{Place}
use Rattle.cam_plain.specs.declared.marks.Mark.{Mark}
use Rattle.cam_plain.specs.Lines.{is_lift}

abbrev pub place_eq : Place → Place → Bool
place_eq p q = eqb p.site q.site && name_eq p.family q.family

abbrev pub place_at : ℕ → Name → Place
place_at s f = record { site = s; family = f }

abbrev pub marks_in : {S : Type 0} → HashMap Place (List Mark) S → Place → List Mark
marks_in table q = unwrap_or (get place_eq table q) []

-- whose operation it was, and the count of its site then
abbrev pub mark_of : Performed → Mark
mark_of p = record { action = p.operation.action; count = p.count }

-- an operation of the family at the site
abbrev pub is_of : List ObjectDecl → ℕ → Name → Performed → Bool
is_of objects s f p =
    eqb (site_of objects p.operation.object) s && name_eq f (family p.operation.action)

abbrev pub marks_of : List ObjectDecl → List Deed → ℕ → Name → List Mark
marks_of objects L s f = map mark_of (filter (is_of objects s f) (performed objects L))

-- The table has the performed operations of each family at each site.
abbrev pub KeepsMarks : {S : Type 0} → List ObjectDecl → List Deed → HashMap Place (List Mark) S
    → Type 0
KeepsMarks objects L table =
    (s : ℕ) (f : Name) → marks_in table (place_at s f) ≡ marks_of objects L s f

-- of a family that is not secured at the site: the operation is gone, by a crash or an abort, or has been handed up to the family
abbrev pub is_clear : List Deed → ℕ → Name → Mark → Bool
is_clear L s f m =
    not (eqb m.count (count L s))
    || (list_any (λ u. informed L s u false) (ancestors m.action) || is_lift f (lift L s m.action))
