-- Letters go to nodes.
use Rattle.std.specs.Prelude.{List}
use Rattle.std.specs.List.{AllByRecursion}
use Rattle.cam_event.specs.declared.Sent.{Sent}
use Rattle.cam_event.specs.Runs.{IsNode}

-- each of these letters goes to one of the eight nodes
abbrev pub AreAddressed : List Sent → Type 0
AreAddressed sent = AllByRecursion (λ m. IsNode m.to) sent
