-- A prepare comes: what its site does is what its families answer.
use Rattle.std.proofs.Common.{◌≡◌, ℕ, List, sym, ap, ◌∙◌}
use Rattle.cam_names.specs.declared.name.Name.{Name}
use Rattle.cam_type.specs.declared.ObjectDecl.{ObjectDecl}
use Rattle.cam_know.specs.Order.{told_in_order}
use Rattle.cam_event.specs.declared.Body.TheVariants as bodies
use Rattle.cam_event.specs.declared.Letter.{Letter}
use Rattle.cam_event.specs.declared.LetterId.{LetterId}
use Rattle.cam_event.specs.Rules.{arrives}
use Rattle.cam_event.specs.ByDeltas.{Received}
use Rattle.cam_commit.specs.declared.Asked.{Asked}
use Rattle.cam_commit.specs.Calls.{is_decided, asked_by, asked_of}
use Rattle.cam_commit.specs.Stepping.{asked_at}
use Rattle.cam_commit.specs.Steps.{did_asked}
use Rattle.cam_node.specs.declared.learning.Learnt.{Learnt}
use Rattle.cam_node.specs.declared.state.Core.{Core}
use Rattle.cam_node.specs.Represents.{Represents}
use Rattle.cam_node.specs.Calls.{answers, mail_on}
use Rattle.cam_node.proofs.Secures.{asked_rule}
use Rattle.cam_node.proofs.GoesOn.{GoesOn, sight_with, knows_as, present_as}

pub asked_as : (objects : List ObjectDecl) (history : List Received) (letter : Letter)
    (first core now : Core)
    (learnt : Learnt) (f : Name) (n : ℕ) → GoesOn letter first core now learnt
    → Represents objects history (answers first)
    → asked_at (sight_with objects history letter first) (answers first).families f n
    ≡ asked_of now.knowing.known (answers now).families f n now.count
asked_as objects history letter first core now learnt f n goes rep = λ i.
    asked_by (is_decided (knows_as objects history letter first core now learnt goes rep i) f)
    (sym (goes.same.families.secured f) i) n
    (present_as objects history letter first core now learnt goes rep i)

-- What the rule of the letter makes.
pub prepare_ruled : (objects : List ObjectDecl) (history : List Received) (id : LetterId)
    (letter : Letter)
    (first core now : Core) (learnt : Learnt) (f : Name) (n : ℕ) (r : Asked)
    → letter.body ≡ bodies.Prepare f n → GoesOn letter first core now learnt
    → Represents objects history (answers first)
    → asked_of now.knowing.known (answers now).families f n now.count ≡ r
    → arrives objects (sight_with objects history letter first) letter.from letter.body
    ≡ did_asked (sight_with objects history letter first) f n r
prepare_ruled objects history id letter first core now learnt f n r body goes rep is =
    asked_rule objects history (answers first).number id (mail_on letter)
    (told_in_order letter.know) f n
    (answers first) body rep.commits
    ∙ ap (did_asked (sight_with objects history letter first) f n)
    (asked_as objects history letter first core now learnt f n goes rep ∙ is)
