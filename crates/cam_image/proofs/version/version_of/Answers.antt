use Rattle.std.proofs.Common.{◌≤◌, length, arith, ap, List, ℕ}
use Rattle.cam_image.proofs.Behind.{version_all}
use Rattle.cam_image.proofs.version.version_of.Goals as goal

pub returns-clause-read : goal.returns-clause-read
returns-clause-read c =
    let past : length c.args.entries.now ≤ c.loop-number.number =
    omega (
      arith,
      c.loop-number-test.false,
      ap (λ (es : List (List ℕ)). length es) c.as_slice-entry-items.ensures,
    ) in
    version_all c.loop-number.number c.loop-number.version c.args.entries.now past
    c.loop-number.invariant
