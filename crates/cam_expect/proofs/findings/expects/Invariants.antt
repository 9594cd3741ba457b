use Rattle.std.proofs.Common.{◌≡◌, take, false}
use Rattle.std.specs.List.{list_any}
use Rattle.cam_expect.specs.Findings.{is_of}
use Rattle.cam_expect.proofs.findings.expects.Given as goal

abbrev pub invariant-loop-expectation : goal.invariant-loop-expectation
invariant-loop-expectation l = list_any (is_of l.plain l.labelled) (take l.expectation-index l.expectations) ≡ false
