use Rattle.std.proofs.Common.{◌≤◌, length, arith, ap, List, ℕ, string_bytes}
use Rattle.cam_image.proofs.Behind.{shown_all}
use Rattle.cam_image.proofs.inspecting.inspect_text.Goals as goal

pub returns-clause-shown : goal.returns-clause-shown
returns-clause-shown c =
    let past : length c.args.entries.now ≤ c.loop-number.number =
    omega (
      arith,
      c.loop-number-test.false,
      ap (λ (es : List (List ℕ)). length es) c.as_slice-entry-items.ensures,
    ) in
    shown_all c.loop-number.number c.loop-number.version (string_bytes c.loop-number.text)
    c.args.entries.now past c.loop-number.invariant
