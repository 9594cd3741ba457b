-- What a site keeps after each history of its node: each operation is on an object of the node and fits it, no place stands twice, and no
-- family is secured twice.
use Rattle.std.proofs.Common.{◌≡◌, ℕ, eqb, true, false, List, [], ◌∷◌, Option, Some, None, eq-eqb}
use Rattle.std.specs.Prelude.{slice_get}
use Rattle.std.specs.Option.{option_map_or}
use Rattle.std.specs.List.{list_any}
use Rattle.std.proofs.lemmas.Bool.{and_from}
use Rattle.cam_names.specs.declared.name.Name.{Name}
use Rattle.cam_names.specs.Names.{name_eq, family}
use Rattle.cam_type.specs.declared.ObjectDecl.{ObjectDecl}
use Rattle.cam_type.specs.declared.Answer.{Answer}
use Rattle.cam_type.specs.declared.Op.{Op}
use Rattle.cam_type.specs.Objects.{site_of, is_fit}
use Rattle.cam_type.specs.Table.{kind_of, fits}
use Rattle.cam_event.specs.declared.Body.{Body}
use Rattle.cam_event.specs.declared.Body.TheVariants as bodies
use Rattle.cam_event.specs.declared.Operation.{Operation}
use Rattle.cam_event.specs.declared.Deed.{Deed}
use Rattle.cam_event.specs.History.{secured_at}
use Rattle.cam_event.specs.Inputs.{Mail}
use Rattle.cam_event.specs.HeldSites.{Site, called_op, performed_op}
use Rattle.cam_locks.specs.Site.{fits_here, is_here}
use Rattle.cam_node.specs.Lawful.{IsForNode}
use Rattle.cam_node.specs.Restartable.{EachOnce}
use Rattle.cam_node.proofs.PlacedOnce.{AreApart, AreRight, AreGroups, names_of}

-- n operations were performed, and these deeds done
pub record IsSound (objects : List ObjectDecl) (s n : ℕ) (L : List Deed) (site : Site) : Type 0
  where
    pub owner : ℕ → Name
    pub live : AreRight objects s n owner site.live
    pub apart : AreApart site.live
    pub groups : AreGroups objects s n owner site.secured
    pub once : EachOnce (names_of site.secured)
    pub among : (f : Name) → list_any (name_eq f) (names_of site.secured) ≡ true
        → secured_at L f s ≡ true

pub moved : (objects : List ObjectDecl) (s n : ℕ) (L M : List Deed) (site : Site)
    → ((f : Name) → secured_at L f s ≡ true → secured_at M f s ≡ true)
    → IsSound objects s n L site → IsSound objects s n M site
moved objects s n L M site more sound =
    record {
      owner = sound.owner;
      live = sound.live;
      apart = sound.apart;
      groups = sound.groups;
      once = sound.once;
      among = λ f is. more f (sound.among f is);
    }

-- The letter of an event is for the node.
abbrev pub IsForIt : List ObjectDecl → ℕ → Option Mail → Type 0
IsForIt objects s None = Unit {0}
IsForIt objects s (Some mail) = IsForNode objects s mail.body

-- an object of the node that an op fits
here_fits : (objects : List ObjectDecl) (s x : ℕ) (op : Op) → site_of objects x ≡ s
    → is_fit objects x op ≡ true → fits_here objects s x op ≡ true
here_fits objects s x op at fit = and_from (is_here objects s x) (is_fit objects x op)
    (by (slice_get objects x) at fit) fit
  where
    by : (o : Option ObjectDecl) → option_map_or (λ (d : ObjectDecl). d.node) o 0 ≡ s
        → option_map_or (λ (d : ObjectDecl). fits (kind_of d.start) op) o false ≡ true
        → option_map_or (λ (d : ObjectDecl). eqb d.node s) o false ≡ true
    by None at fit = cc
    by (Some d) at fit = eq-eqb d.node s at

-- What a call performs: at most one operation, which fits.
abbrev pub AreFit : List ObjectDecl → ℕ → List Operation → Type 0
AreFit objects s [] = Unit {0}
AreFit objects s (o ∷ os) = (fits_here objects s o.object o.op ≡ true) × AreFit objects s os

abbrev pub AtMostOne : List Operation → Type 0
AtMostOne [] = Unit {0}
AtMostOne (o ∷ []) = Unit {0}
AtMostOne (o ∷ p ∷ os) = ⊥

abbrev pub owner_of : List Operation → Name
owner_of [] = []
owner_of (o ∷ os) = family o.action

called_fits : (objects : List ObjectDecl) (s : ℕ) (answer : Answer) (body : Body)
    → IsForNode objects s body
    → AreFit objects s (called_op answer body) × AtMostOne (called_op answer body)
called_fits objects s answer (bodies.Start b counts) is = (tt, tt)
called_fits objects s answer (bodies.Call a n x op c counts) is =
    ((here_fits objects s x op is.0 is.1, tt), tt)
called_fits objects s answer (bodies.Answer a n reply) is = (tt, tt)
called_fits objects s answer (bodies.Finish a v counts) is = (tt, tt)
called_fits objects s answer (bodies.Quit a) is = (tt, tt)
called_fits objects s answer (bodies.Prepare f c) is = (tt, tt)
called_fits objects s answer (bodies.Vote f c agrees) is = (tt, tt)
called_fits objects s answer (bodies.Query f) is = (tt, tt)
called_fits objects s answer bodies.News is = (tt, tt)

pub performed_fits : (objects : List ObjectDecl) (s : ℕ) (answer : Answer) (mail : Option Mail)
    → IsForIt objects s mail
    → AreFit objects s (performed_op answer mail) × AtMostOne (performed_op answer mail)
performed_fits objects s answer None is = (tt, tt)
performed_fits objects s answer (Some mail) is = called_fits objects s answer mail.body is
