use Rattle.std.proofs.Common.{◌≡◌, ◌<◌, ℕ, false}
use Rattle.std.specs.List.{list_any}
use Rattle.cam_names.specs.Names.{family, name_eq}
use Rattle.cam_type.specs.Objects.{site_of}
use Rattle.cam_event.specs.declared.Operation.{Operation}
use Rattle.cam_own.specs.Live.{operations_in}
use Rattle.cam_own.proofs.live.has_live_of.Given as goal

-- none of the site's objects before the place has an operation of the family
abbrev pub invariant-loop-place : goal.invariant-loop-place
invariant-loop-place l =
    (x : ℕ) → x < l.place → site_of l.objects x ≡ l.site
    → list_any (λ (o : Operation). name_eq l.family (family o.action)) (operations_in l.live x) ≡ false
