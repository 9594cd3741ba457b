-- The last part of a name stands at its last place.
use Rattle.std.proofs.Common.{◌≡◌, ◌≤◌, ◌-◌, ℕ, suc, List, length, take, get_or, sym, ap, ◌∙◌, arith}
use Rattle.std.proofs.lemmas.List.{take_all}
use Rattle.cam_names.specs.Part.{PartFields}
use Rattle.cam_names.specs.Names.{last_part}
use Rattle.cam_names.proofs.Names.{last_part_taken}

pub last_part_at : (a : List PartFields) (p : PartFields) → 1 ≤ length a → p ≡ get_or a (length a - 1) p → p ≡ last_part a
last_part_at a p some at =
    at ∙ sym (last_part_taken a (length a - 1) p (omega (arith, some)))
    ∙ ap last_part (take_all (suc (length a - 1)) a (omega (arith, some)))
