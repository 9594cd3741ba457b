-- A letter comes that the actions at home alone have to do with, or none: what is made of it is its
-- plan.
use Rattle.std.proofs.Common.{◌≡◌, ◌≤◌, List, map, refl, sym, ap, subst}
use Rattle.cam_names.specs.Dependencies.{has_pair}
use Rattle.cam_type.specs.declared.ObjectDecl.{ObjectDecl}
use Rattle.cam_know.specs.Order.{told_in_order}
use Rattle.cam_event.specs.declared.Body.{Body}
use Rattle.cam_event.specs.declared.Body.TheVariants as bodies
use Rattle.cam_event.specs.declared.Letter.{Letter}
use Rattle.cam_event.specs.declared.LetterId.{LetterId}
use Rattle.cam_event.specs.declared.Note.TheVariants as notes
use Rattle.cam_event.specs.Rules.{arrives, nothing_but}
use Rattle.cam_event.specs.Sights.{yes_in}
use Rattle.cam_event.specs.ByKnowledge.{held_sight}
use Rattle.cam_event.specs.ByDeltas.{as_carried}
use Rattle.cam_comman.specs.Letters.{load_on}
use Rattle.cam_tranman.specs.Keeping.{HasCounts}
use Rattle.cam_node.specs.declared.did.Doing.{Doing}
use Rattle.cam_node.specs.declared.learning.Learnt.{Learnt}
use Rattle.cam_node.specs.declared.plan.Plan.{Plan}
use Rattle.cam_node.specs.declared.state.Core.{Core}
use Rattle.cam_node.specs.Calls.{answers, mail_on, AreSame}
use Rattle.cam_node.specs.Plans.{IsPlanFor}
use Rattle.cam_node.specs.Standing.{just}
use Rattle.cam_node.specs.Planning.{HasReceived, IsMade}
use Rattle.cam_node.proofs.PlanMade.{home_plan}
use Rattle.cam_node.proofs.Unchanged.{unchanged}

pub news_plan : (objects : List ObjectDecl) (id : LetterId) (letter : Letter) (first core : Core)
    (learnt : Learnt) (doing : Doing) (plan : Plan)
    → (1 ≤ letter.from) × (letter.from ≤ 8) → letter.body ≡ bodies.News
    → HasReceived letter first core learnt
    → AreSame (answers first) (answers core) → doing ≡ just (nothing_but notes.Plain)
    → IsMade core id learnt doing plan
    → IsPlanFor objects id letter first core plan
news_plan objects id letter first core learnt doing plan from body received same is made =
    home_plan objects id letter first core core learnt (just (nothing_but notes.Plain)) plan from
    (subst HasCounts (sym body) tt)
    (λ f m n. ap (λ (b : Body). has_pair (yes_in f letter.from b) m n) body)
    (record { alone = refl; begins = λ f. refl }) refl refl received refl same
    (subst (λ (d : Doing). IsMade core id learnt d plan) is made)
    (λ history through rep may. ap
    (arrives objects (held_sight objects first.number (map as_carried history)
    (told_in_order letter.know)) letter.from) body)
    (λ new has.
    unchanged objects (answers first) (answers core) new id (mail_on letter) (load_on letter)
    learnt.heard core.knowing.known
    (nothing_but notes.Plain) same refl has)
