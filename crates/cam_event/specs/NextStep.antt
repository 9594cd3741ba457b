-- The step that a node makes next: its event with the letter that it took in.
use Rattle.std.specs.Prelude.{ℕ, List, Option}
use Rattle.cam_type.specs.declared.ObjectDecl.{ObjectDecl}
use Rattle.cam_know.specs.Knowledge.{Knowledge}
use Rattle.cam_event.specs.Inputs.{Input, Mail}
use Rattle.cam_event.specs.ByKnowledge.{node_step}
use Rattle.cam_event.specs.Carried.{Carried}

-- The event that comes next for an input, with its letter and the knowledge that this brought.
abbrev pub stepped : List ObjectDecl → ℕ → List Carried → Input → Option Mail → Knowledge → Carried
stepped objects s before input mail brought =
    record { event = node_step objects s before input mail brought; mail = mail; brought = brought }
