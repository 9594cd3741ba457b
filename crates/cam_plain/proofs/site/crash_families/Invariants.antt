use Rattle.std.proofs.Common.{◌≡◌, List, take}
use Rattle.cam_type.specs.declared.ObjectDecl.{ObjectDecl}
use Rattle.cam_event.specs.declared.Deed.{Deed}
use Rattle.cam_live.specs.Ledger.{Keeps}
use Rattle.cam_plain.specs.Sites.{crashed_families}
use Rattle.cam_plain.proofs.site.crash_families.Given as goal

abbrev pub invariant-loop-family : goal.invariant-loop-family
invariant-loop-family l =
    (objects : List ObjectDecl) (L : List Deed) → Keeps objects L l.ledger → l.locks.site ≡ crashed_families L l.site (take l.family-index l.family-items) l.initial.locks.site
