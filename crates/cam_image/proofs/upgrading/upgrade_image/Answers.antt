use Rattle.std.proofs.Common.{arith, sym}
use Rattle.std.proofs.lemmas.Result.{err_from_is_err_and}
use Rattle.cam_log.specs.Laws.{IsBytes}
use Rattle.cam_image.proofs.Upgraded.{gate_within, upgraded_is, upgraded_refused, written_in_version2}
use Rattle.cam_image.proofs.upgrading.upgrade_image.Goals as goal

pub returns-in_err-version-clause-refused : goal.returns-in_err-version-clause-refused
returns-in_err-version-clause-refused c =
    let p = err_from_is_err_and c.from_residual-in_err-version.result
    c.from_residual-in_err-version.ensures.1 in
    rw (p.1, p.2)
    (upgraded_refused c.args.image.now c.in_ok-found.found.entries c.in_err-version.field-0.0
    c.in_ok-found.ensures.read c.in_err-version.ensures.refused)

pub in_version2-requires : goal.in_version2-requires
in_version2-requires c =
    let bytes : IsBytes c.args.image.now = λ i. omega (arith, c.type_inv.image i) in
    omega (
      arith,
      c.in_ok-found.ensures.gate,
      gate_within c.in_ok-found.found.entries c.args.image.now bytes c.in_ok-found.ensures.log,
    )

pub returns-clause-upgraded : goal.returns-clause-upgraded
returns-clause-upgraded c =
    let bytes : IsBytes c.args.image.now = λ i. omega (arith, c.type_inv.image i) in
    let entries = c.in_ok-found.found.entries in
    upgraded_is c.args.image.now c.in_ok-in_version2.field-0.items entries c.in_ok-version.version
    c.in_ok-found.ensures.read c.in_ok-version.ensures.read
    (written_in_version2 c.in_ok-version.version entries c.args.image.now
    c.in_ok-in_version2.field-0.items bytes c.in_ok-found.ensures.log
    (rw (sym c.in_ok-found.ensures.gate) c.in_ok-in_version2.ensures))
