-- What is made of an answer is its plan.
use Rattle.std.proofs.Common.{◌≡◌, ℕ, ◌≤◌, List, map, refl, sym, ap, ◌∙◌, subst}
use Rattle.cam_names.specs.declared.name.Name.{Name}
use Rattle.cam_names.specs.Dependencies.{has_pair}
use Rattle.cam_type.specs.declared.ObjectDecl.{ObjectDecl}
use Rattle.cam_know.specs.Knowledge.{Knowledge}
use Rattle.cam_know.specs.Known.{known_count}
use Rattle.cam_know.specs.Orphans.{known_orphan}
use Rattle.cam_know.specs.Order.{told_in_order}
use Rattle.cam_event.specs.declared.Body.{Body}
use Rattle.cam_event.specs.declared.Body.TheVariants as bodies
use Rattle.cam_event.specs.declared.Letter.{Letter}
use Rattle.cam_event.specs.declared.LetterId.{LetterId}
use Rattle.cam_event.specs.declared.Reply.{Reply}
use Rattle.cam_event.specs.Rules.{arrives}
use Rattle.cam_event.specs.Sights.{Sight, yes_in}
use Rattle.cam_event.specs.ByKnowledge.{held_sight}
use Rattle.cam_event.specs.ByDeltas.{as_carried}
use Rattle.cam_comman.specs.Letters.{load_on}
use Rattle.cam_tranman.specs.Keeping.{HasCounts}
use Rattle.cam_tranman.proofs.Sights.{sight_is_answered}
use Rattle.cam_node.specs.declared.did.Doing.{Doing}
use Rattle.cam_node.specs.declared.learning.Learnt.{Learnt}
use Rattle.cam_node.specs.declared.plan.Plan.{Plan}
use Rattle.cam_node.specs.declared.state.Core.{Core}
use Rattle.cam_node.specs.Represents.{Node}
use Rattle.cam_node.specs.Calls.{answers, mail_on, AreSame}
use Rattle.cam_node.specs.Lawful.{IsForNode}
use Rattle.cam_node.specs.Plans.{IsPlanFor}
use Rattle.cam_node.specs.Planning.{HasReceived, IsMade}
use Rattle.cam_node.specs.Answered.{answered_by}
use Rattle.cam_node.proofs.GoesBy.{goes_by}
use Rattle.cam_node.proofs.HomePlans.{IsRuled}
use Rattle.cam_node.proofs.PlanMade.{home_plan}
use Rattle.cam_node.proofs.AnswerComes.{answer_rule, answer_quiet, IsQuietDoing}
use Rattle.cam_node.proofs.AnswerStands.{answer_stands}

pub answer_plan : (objects : List ObjectDecl) (id : LetterId) (letter : Letter) (first core : Core)
    (learnt : Learnt) (doing : Doing)
    (plan : Plan) (a : Name) (n : ℕ) (reply : Reply) → (1 ≤ letter.from) × (letter.from ≤ 8)
    → letter.body ≡ bodies.Answer a n reply
    → HasReceived letter first core learnt → AreSame (answers first) (answers core)
    → doing ≡ answered_by (answers core).actions core.knowing.known a n reply
    → IsMade core id learnt doing plan
    → IsPlanFor objects id letter first core plan
answer_plan objects id letter first core learnt doing plan a n reply from body received same is made
    =
    home_plan objects id letter first core core learnt doing plan from
    (subst HasCounts (sym body) tt)
    (λ f m k. ap (λ (y : Body). has_pair (yes_in f letter.from y) m k) body) quiet.home quiet.adds
    quiet.unserved received refl same made ruled
    (λ new has.
    answer_stands objects old (answers core) new id (mail_on letter) (load_on letter)
    learnt.heard core.knowing.known a n reply doing
    same received.actions does has)
  where
    old : Node
    old = answers first

    does : doing ≡ answered_by old.actions core.knowing.known a n reply
    does = is ∙ (λ i. answered_by (received.actions i) core.knowing.known a n reply)

    quiet : IsQuietDoing doing
    quiet = subst IsQuietDoing (sym does) (answer_quiet old.actions core.knowing.known a n reply)

    ruled : IsRuled objects old id (mail_on letter) (load_on letter) doing.did
    ruled history through rep may =
        let g : Sight = held_sight objects first.number (map as_carried history)
        (told_in_order letter.know) in
        ap (arrives objects g letter.from) body
        ∙ answer_rule objects g old.actions core.knowing.known a n reply
        (sight_is_answered objects first.number (map as_carried history)
        (told_in_order letter.know) old.actions rep.runs)
        (subst (λ (y : Body). IsForNode objects first.number y) body may.for_node)
        (ap (λ (k : Knowledge). known_orphan k)
        (sym (goes_by objects history letter first core learnt received rep)))
        (ap (λ (k : Knowledge). known_count k)
        (sym (goes_by objects history letter first core learnt received rep)))
        ∙ sym (ap (λ (d : Doing). d.did) does)
