-- What is made of a start is its plan.
use Rattle.std.proofs.Common.{◌≡◌, ℕ, ◌≤◌, List, length, map, sym, ap, ◌∙◌, subst}
use Rattle.cam_names.specs.declared.name.Name.{Name}
use Rattle.cam_names.specs.Dependencies.{has_pair}
use Rattle.cam_type.specs.declared.ObjectDecl.{ObjectDecl}
use Rattle.cam_know.specs.Knowledge.{Knowledge}
use Rattle.cam_know.specs.Orphans.{known_orphan}
use Rattle.cam_know.specs.Order.{told_in_order}
use Rattle.cam_event.specs.declared.Body.{Body}
use Rattle.cam_event.specs.declared.Body.TheVariants as bodies
use Rattle.cam_event.specs.declared.Letter.{Letter}
use Rattle.cam_event.specs.declared.LetterId.{LetterId}
use Rattle.cam_event.specs.Rules.{arrives}
use Rattle.cam_event.specs.Sights.{Sight, yes_in}
use Rattle.cam_event.specs.ByKnowledge.{held_sight}
use Rattle.cam_event.specs.ByDeltas.{as_carried}
use Rattle.cam_comman.specs.Letters.{load_on}
use Rattle.cam_tranman.specs.Keeping.{HasCounts}
use Rattle.cam_tranman.proofs.Sights.{sight_is_answered}
use Rattle.cam_node.specs.declared.did.Doing.{Doing}
use Rattle.cam_node.specs.declared.learning.Learnt.{Learnt}
use Rattle.cam_node.specs.declared.plan.Plan.{Plan}
use Rattle.cam_node.specs.declared.state.Core.{Core}
use Rattle.cam_node.specs.Represents.{Node}
use Rattle.cam_node.specs.Calls.{answers, mail_on, AreSame}
use Rattle.cam_node.specs.Lawful.{IsForNode}
use Rattle.cam_node.specs.Plans.{IsPlanFor}
use Rattle.cam_node.specs.Planning.{HasReceived, IsMade}
use Rattle.cam_node.specs.Started.{started_by}
use Rattle.cam_node.proofs.GoesBy.{goes_by}
use Rattle.cam_node.proofs.HomePlans.{IsRuled}
use Rattle.cam_node.proofs.PlanMade.{home_plan}
use Rattle.cam_node.proofs.StartComes.{IsHomely, start_rule, starts_at_home}
use Rattle.cam_node.proofs.StartStands.{start_stands}

pub start_plan : (objects : List ObjectDecl) (id : LetterId) (letter : Letter)
    (first core now : Core) (learnt : Learnt) (doing : Doing)
    (plan : Plan) (b : Name) (counts : List ℕ) → (1 ≤ letter.from) × (letter.from ≤ 8)
    → letter.body ≡ bodies.Start b counts
    → length counts ≡ 8 → HasReceived letter first core learnt
    → now.knowing.known ≡ core.knowing.known → AreSame (answers first) (answers now)
    → doing ≡ started_by (answers core).actions core.knowing.known letter.from b counts
    → IsMade now id learnt doing plan
    → IsPlanFor objects id letter first now plan
start_plan objects id letter first core now learnt doing plan b counts from body eight received
    goes_on same is made =
    home_plan objects id letter first core now learnt doing plan from
    (subst HasCounts (sym body) eight)
    (λ f m n. ap (λ (y : Body). has_pair (yes_in f letter.from y) m n) body) quiet.0 quiet.1
    quiet.2 received goes_on same made ruled
    (λ new has.
    start_stands objects old (answers now) new id (mail_on letter) (load_on letter) learnt.heard
    now.knowing.known letter.from b counts doing
    body same does has)
  where
    old : Node
    old = answers first

    does : doing ≡ started_by old.actions now.knowing.known letter.from b counts
    does = is ∙ (λ i. started_by (received.actions i) (sym goes_on i) letter.from b counts)

    quiet : IsHomely doing
    quiet = starts_at_home old.actions now.knowing.known letter.from b counts doing does

    ruled : IsRuled objects old id (mail_on letter) (load_on letter) doing.did
    ruled history through rep may =
        let g : Sight = held_sight objects first.number (map as_carried history)
        (told_in_order letter.know) in
        ap (arrives objects g letter.from) body
        ∙ start_rule objects g old.actions now.knowing.known letter.from b counts
        (sight_is_answered objects first.number (map as_carried history)
        (told_in_order letter.know) old.actions rep.runs)
        (subst (λ (y : Body). IsForNode objects first.number y) body may.for_node).0
        (ap (λ (k : Knowledge). known_orphan k)
        (sym (goes_on ∙ goes_by objects history letter first core learnt received rep)))
        ∙ sym (ap (λ (d : Doing). d.did) does)
