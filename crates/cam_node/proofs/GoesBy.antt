-- What a node goes by with a letter is what its rule goes by.
use Rattle.std.proofs.Common.{◌≡◌, List, ap, ◌∙◌}
use Rattle.cam_know.specs.Knowledge.{Knowledge}
use Rattle.cam_know.specs.Known.{both}
use Rattle.cam_know.specs.Order.{told_in_order}
use Rattle.cam_type.specs.declared.ObjectDecl.{ObjectDecl}
use Rattle.cam_event.specs.declared.Letter.{Letter}
use Rattle.cam_event.specs.Loads.{with_load}
use Rattle.cam_event.specs.ByDeltas.{Received, known}
use Rattle.cam_comman.specs.Letters.{load_on}
use Rattle.cam_node.specs.declared.state.Core.{Core}
use Rattle.cam_node.specs.declared.learning.Learnt.{Learnt}
use Rattle.cam_node.specs.Represents.{Represents}
use Rattle.cam_node.specs.Calls.{answers}
use Rattle.cam_node.specs.Planning.{HasReceived}

pub goes_by : (objects : List ObjectDecl) (history : List Received) (letter : Letter)
    (first core : Core) (learnt : Learnt)
    → HasReceived letter first core learnt → Represents objects history (answers first)
    → core.knowing.known ≡ both (known objects history) (told_in_order letter.know)
goes_by objects history letter first core learnt received rep =
    received.known ∙ ap (λ (k : Knowledge). with_load k (load_on letter)) rep.knowledge
