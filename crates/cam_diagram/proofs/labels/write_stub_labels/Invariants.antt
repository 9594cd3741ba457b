use Rattle.std.proofs.Common.{◌≡◌, ◌++◌, take}
use Rattle.std.specs.List.{flat_map}
use Rattle.cam_diagram.specs.Labels.{stub_label}
use Rattle.cam_diagram.proofs.labels.write_stub_labels.Given as goal

abbrev pub invariant-loop-stub : goal.invariant-loop-stub
invariant-loop-stub l = l.xml ≡ l.fn.xml ++ flat_map (stub_label l.captions) (take l.stub-index l.stub-items)
