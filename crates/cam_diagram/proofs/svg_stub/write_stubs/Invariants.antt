use Rattle.std.proofs.Common.{◌≡◌, ◌++◌, take}
use Rattle.std.specs.List.{flat_map}
use Rattle.cam_diagram.specs.Stubs.{stub_text}
use Rattle.cam_diagram.proofs.svg_stub.write_stubs.Given as goal

abbrev pub invariant-loop-stub : goal.invariant-loop-stub
invariant-loop-stub l = l.xml ≡ l.fn.xml ++ flat_map (stub_text l.captions) (take l.stub-index l.stub-items)
