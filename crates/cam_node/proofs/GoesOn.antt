-- A node goes on with what a letter brought: what it knows and its count are those by which the rules go. And a letter whose rule has no deed.
use Rattle.std.proofs.Common.{◌≡◌, ◌≤◌, ℕ, false, List, [], map, refl, sym, ap, ◌∙◌}
use Rattle.cam_names.specs.declared.name.Name.{Name}
use Rattle.cam_type.specs.declared.ObjectDecl.{ObjectDecl}
use Rattle.cam_know.specs.Knowledge.{Knowledge}
use Rattle.cam_know.specs.Known.{both, new_aborts, new_commits}
use Rattle.cam_know.specs.Order.{told_in_order}
use Rattle.cam_event.specs.declared.Letter.{Letter}
use Rattle.cam_event.specs.declared.LetterId.{LetterId}
use Rattle.cam_event.specs.Sights.{Sight, present}
use Rattle.cam_event.specs.ByKnowledge.{held_sight, new_informs}
use Rattle.cam_event.specs.Carried.{deeds_of}
use Rattle.cam_event.specs.Loads.{with_load}
use Rattle.cam_event.specs.ByDeltas.{Received, as_carried, known}
use Rattle.cam_comman.specs.Letters.{load_on}
use Rattle.cam_server.proofs.QuietDeeds.{quiet_count, informs_quiet}
use Rattle.cam_node.specs.declared.learning.Learnt.{Learnt}
use Rattle.cam_node.specs.declared.state.Core.{Core}
use Rattle.cam_node.specs.Represents.{Represents}
use Rattle.cam_node.specs.Calls.{answers, mail_on, AreSame}
use Rattle.cam_node.specs.Planning.{HasReceived}
use Rattle.cam_event.specs.Sights.{is_preparing_note}
use Rattle.cam_event.specs.Rules.{Did}
use Rattle.std.specs.List.{list_all}
use Rattle.cam_tranman.specs.Keeping.{HasCounts}
use Rattle.cam_node.specs.AtHome.{is_at_home_alone, IsNoVote}
use Rattle.cam_node.specs.declared.plan.Plan.{Plan}
use Rattle.cam_node.specs.Plans.{IsPlanFor}
use Rattle.cam_node.specs.Standing.{just}
use Rattle.cam_node.specs.Planning.{IsMade}
use Rattle.cam_node.proofs.HomePlans.{IsRuled}
use Rattle.cam_node.proofs.PlanMade.{home_plan}
use Rattle.cam_node.proofs.Unchanged.{unchanged}
use Rattle.cam_event.specs.declared.Deed.{Deed}

-- a letter was learnt, and the node goes on with what it knows then
pub record GoesOn (letter : Letter) (first core now : Core) (learnt : Learnt) : Type 0 where
  pub received : HasReceived letter first core learnt
  pub knows : now.knowing.known ≡ core.knowing.known
  pub same : AreSame (answers first) (answers now)

abbrev pub sight_with : List ObjectDecl → List Received → Letter → Core → Sight
sight_with objects history letter first =
    held_sight objects (answers first).number (map as_carried history) (told_in_order letter.know)

-- what the node knows is what its rules go by
pub knows_as : (objects : List ObjectDecl) (history : List Received) (letter : Letter)
    (first core now : Core)
    (learnt : Learnt) → GoesOn letter first core now learnt → Represents objects history
    (answers first)
    → both (known objects history) (told_in_order letter.know) ≡ now.knowing.known
knows_as objects history letter first core now learnt goes rep =
    sym (goes.knows ∙ goes.received.known
    ∙ ap (λ (k : Knowledge). with_load k (load_on letter)) rep.knowledge)

-- and its count is the present one
pub present_as : (objects : List ObjectDecl) (history : List Received) (letter : Letter)
    (first core now : Core)
    (learnt : Learnt) → GoesOn letter first core now learnt → Represents objects history
    (answers first)
    → present (sight_with objects history letter first) ≡ now.count
present_as objects history letter first core now learnt goes rep =
    quiet_count s s (new_informs s brought K) (deeds_of (map as_carried history))
    (informs_quiet s (new_aborts brought K) (new_commits brought K))
    ∙ sym rep.own_count ∙ sym goes.same.count
  where
    s : ℕ
    s = (answers first).number

    K : Knowledge
    K = known objects history

    brought : Knowledge
    brought = told_in_order letter.know

-- A letter that is no vote, and whose rule has no deed: what is made of it is its plan.
pub mute_plan : (objects : List ObjectDecl) (id : LetterId) (letter : Letter)
    (first core now : Core) (learnt : Learnt)
    (d : Did) (plan : Plan) → (1 ≤ letter.from) × (letter.from ≤ 8) → HasCounts letter.body
    → IsNoVote (mail_on letter) → GoesOn letter first core now learnt → d.deeds ≡ []
    → ((f : Name) → is_preparing_note f d.note ≡ false)
    → IsRuled objects (answers first) id (mail_on letter) (load_on letter) d
    → IsMade now id learnt (just d) plan → IsPlanFor objects id letter first now plan
mute_plan objects id letter first core now learnt d plan from counts vote goes none begins ruled
    made =
    home_plan objects id letter first core now learnt (just d) plan from counts vote
    (record {
      alone = ap (λ (ds : List Deed). list_all is_at_home_alone ds) none;
      begins = begins;
    }) refl refl
    goes.received goes.knows goes.same made ruled
    (λ new has.
    unchanged objects (answers first) (answers now) new id (mail_on letter)
    (load_on letter) learnt.heard
    now.knowing.known d goes.same none has)
