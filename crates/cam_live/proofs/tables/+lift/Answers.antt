use Rattle.std.proofs.Common.{◌≡◌, true, false, ◌∙◌, refl, arith}
use Rattle.std.specs.BTreeSet.{contains}
use Rattle.cam_know.proofs.Climbs.{lift_here, lift_above, lift_top}
use Rattle.cam_live.specs.Tables.{site_name_cmp}
use Rattle.cam_live.proofs.tables.+lift.Goals as goal

pub returns-then-not-contains : goal.returns-then-not-contains
returns-then-not-contains t c =
    let open_yet : contains site_name_cmp c.args.names.now (c.args.site, c.args.action.now) ≡ false = grind arith in
    lift_here (λ u. contains site_name_cmp c.args.names.now (c.args.site, u)) c.args.action.now
    (omega (arith, c.depth.ensures.from, c.depth.ensures.value)) open_yet

pub returns-in-Some : goal.returns-in-Some
returns-in-Some t c =
    let done : contains site_name_cmp c.args.names.now (c.args.site, c.args.action.now) ≡ true = grind arith in
    c.lift.ensures ∙ lift_above (λ u. contains site_name_cmp c.args.names.now (c.args.site, u)) c.args.action.now c.in-Some.parent c.in-Some.ensures.value done

pub returns-in-None : goal.returns-in-None
returns-in-None t c =
    let done : contains site_name_cmp c.args.names.now (c.args.site, c.args.action.now) ≡ true = grind arith in
    lift_top (λ u. contains site_name_cmp c.args.names.now (c.args.site, u)) c.args.action.now (c.in-None.ensures.top.0 refl) done
