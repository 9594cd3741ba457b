-- What a site holds, by its node's own deeds: its live operations, and those of its secured families.
use Rattle.std.specs.Prelude.{ℕ, ◌+◌, nat_lt, Bool, true, false, not, if◌then◌else◌, List, [], ◌∷◌, ◌++◌, map, filter, flat_map, Option, Some, None}
use Rattle.cam_names.specs.declared.name.Name.{Name}
use Rattle.cam_names.specs.Names.{name_eq, is_ancestor, family}
use Rattle.cam_type.specs.declared.Answer.{Answer}
use Rattle.cam_event.specs.declared.Body.{Body}
use Rattle.cam_event.specs.declared.Body.TheVariants as bodies
use Rattle.cam_event.specs.declared.Operation.{Operation}
use Rattle.cam_event.specs.declared.Deed.{Deed}
use Rattle.cam_event.specs.declared.Deed.TheVariants.{Perform, Secure, Inform, Crash}
use Rattle.cam_event.specs.History.{informed, number_of}
use Rattle.cam_event.specs.Inputs.{Mail}
use Rattle.cam_event.specs.Carried.{Carried, deeds_of}

-- an operation with its place in the order of the site
pub record Placed : Type 0 where
  pub index : ℕ
  pub operation : Operation

-- a site's live operations, and those of each secured family as they were just before its Secure
pub record Site : Type 0 where
  pub live : List Placed
  pub secured : List (Name × List Placed)

abbrev pub put_placed : Placed → List Placed → List Placed
put_placed p [] = p ∷ []
put_placed p (q ∷ qs) = if nat_lt p.index q.index then p ∷ q ∷ qs else q ∷ put_placed p qs

abbrev pub in_order : List Placed → List Placed
in_order [] = []
in_order (p ∷ ps) = put_placed p (in_order ps)

-- the family takes over the operation
abbrev pub for_family : Name → Placed → Placed
for_family f p = record p { operation = record p.operation { action = f } }

abbrev pub is_any_perform : Deed → Bool
is_any_perform (Perform a n answer) = true
is_any_perform _ = false

abbrev pub called_op : Answer → Body → List Operation
called_op answer (bodies.Call a n x op c counts) =
    record { action = a; number = n; object = x; op = op; answer = answer } ∷ []
called_op answer _ = []

abbrev pub performed_op : Answer → Option Mail → List Operation
performed_op answer None = []
performed_op answer (Some mail) = called_op answer mail.body

-- What a deed does to the site. A crash leaves the operations of the secured families whose abort the site was not informed of.
abbrev pub site_after : List Deed → Option Mail → Site → Deed → Site
site_after before mail site (Perform a n answer) =
    record site {
      live = site.live
          ++ map (λ o. record { index = number_of is_any_perform before; operation = o })
          (performed_op answer mail);
    }
site_after before mail site (Inform s u false) =
    record site { live = filter (λ p. not (is_ancestor u p.operation.action)) site.live }
site_after before mail site (Secure f s c) =
    record site {
      secured = (f, filter (λ p. name_eq f (family p.operation.action)) site.live) ∷ site.secured;
    }
site_after before mail site (Crash s) =
    record site {
      live = in_order
          (flat_map (λ g. map (for_family g.0) g.1)
          (filter (λ g. not (informed before s g.0 false)) site.secured));
    }
site_after before mail site _ = site

abbrev pub site_after_all : List Deed → Option Mail → Site → List Deed → Site
site_after_all before mail site [] = site
site_after_all before mail site (d ∷ ds) =
    site_after_all (d ∷ before) mail (site_after before mail site d) ds

abbrev pub site : List Carried → Site
site [] = record { live = []; secured = [] }
site (c ∷ before) = site_after_all (deeds_of before) c.mail (site before) c.event.deeds
