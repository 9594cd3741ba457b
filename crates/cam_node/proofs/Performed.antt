-- With more deeds no fewer operations were performed.
use Rattle.std.proofs.Common.{ℕ, ◌+◌, ◌≤◌, Bool, true, false, if◌then◌else◌, List, [], ◌∷◌, arith}
use Rattle.cam_event.specs.declared.Deed.{Deed}
use Rattle.cam_event.specs.History.{after, number_of}

more_by : (b : Bool) (n : ℕ) → n ≤ (if b then n + 1 else n)
more_by true n = omega arith
more_by false n = omega arith

pub no_fewer : (test : Deed → Bool) (before ds : List Deed)
    → number_of test before ≤ number_of test (after before ds)
no_fewer test before [] = omega arith
no_fewer test before (d ∷ ds) =
    let one = more_by (test d) (number_of test before) in
    let rest = no_fewer test (d ∷ before) ds in
    omega (arith, one, rest)
