-- What is made of a request to give up a child is its plan.
use Rattle.std.proofs.Common.{◌≡◌, false, List, [], ◌∷◌, map, Option, None, refl, sym, ap, ◌∙◌, subst, arith}
use Rattle.cam_names.specs.declared.name.Name.{Name}
use Rattle.cam_names.specs.Names.{is_top}
use Rattle.cam_names.specs.Dependencies.{pairs_of}
use Rattle.cam_type.specs.declared.ObjectDecl.{ObjectDecl}
use Rattle.cam_know.specs.Knowledge.{Knowledge}
use Rattle.cam_know.specs.Known.{nothing, with_outcome}
use Rattle.cam_know.specs.Orphans.{known_orphan}
use Rattle.cam_know.specs.declared.Outcome.TheVariants.{Aborted}
use Rattle.cam_know.specs.declared.Reason.{Reason}
use Rattle.cam_event.specs.declared.Event.{Event}
use Rattle.cam_event.specs.declared.Want.TheVariants as wants
use Rattle.cam_event.specs.Rules.{Did, did, request, stopped_by}
use Rattle.cam_event.specs.ByPast.{event_of}
use Rattle.cam_event.specs.ByKnowledge.{node_step}
use Rattle.cam_event.specs.Loads.{no_load}
use Rattle.cam_event.specs.ByDeltas.{Received, as_carried}
use Rattle.cam_tranman.specs.Actions.{Actions, deps}
use Rattle.cam_tranman.specs.Calls as tranman
use Rattle.cam_tranman.specs.Calls.{IsFree, decided}
use Rattle.cam_tranman.specs.Events.{decides}
use Rattle.cam_tranman.proofs.Sights.{sight_is_answered}
use Rattle.cam_tranman.proofs.RuleCalls.{given_up_is_no_top}
use Rattle.cam_commit.specs.Families.{Families}
use Rattle.cam_commit.specs.Calls as commit
use Rattle.cam_commit.proofs.OtherSteps.{other_step_keeps}
use Rattle.cam_server.specs.Server.{Server}
use Rattle.cam_server.specs.Calls as server
use Rattle.cam_server.specs.Calls.{aborts_in, commits_in}
use Rattle.cam_server.specs.Events.{AreQuiet, decision}
use Rattle.cam_server.proofs.NewsInforms.{nothing_informs}
use Rattle.cam_node.specs.declared.knowing.Heard.{Heard}
use Rattle.cam_node.specs.declared.plan.Change.{Change}
use Rattle.cam_node.specs.declared.plan.Plan.{Plan}
use Rattle.cam_node.specs.declared.state.Core.{Core}
use Rattle.cam_node.specs.Represents.{Node, Represents}
use Rattle.cam_node.specs.Halting.{IsThrough}
use Rattle.cam_node.specs.Lawful.{MayBePut}
use Rattle.cam_node.specs.Calls.{answers, letters_of, AreSame}
use Rattle.cam_node.specs.Opened.{IsKnowledge}
use Rattle.cam_node.specs.Requests.{wanted_by}
use Rattle.cam_node.specs.Stepping.{sight_before}
use Rattle.cam_node.specs.Decides.{HasDecided, IsDecided}
use Rattle.cam_node.specs.GivingUp.{giving_up, IsGivenUp}
use Rattle.cam_node.specs.Plans.{IsPlan, held_in}
use Rattle.cam_node.specs.Standing.{HasLearnt, Stands, MayChange, MayStand}
use Rattle.cam_node.specs.PlanOrder.{is_served}
use Rattle.cam_node.proofs.StoppedPlan.{told_nothing}
use Rattle.cam_node.proofs.HomePlans.{informed_before}
use Rattle.cam_node.proofs.Requested.{request_is}
use Rattle.cam_node.proofs.Decides.{decides_keep, decision_quiet}
use Rattle.cam_node.proofs.DecidePlans.{decision_recorded}
use Rattle.cam_node.proofs.PlanOrder.{dropping_plan}

-- What holds of each history that the node stands for, where the request may be put to it.
abbrev AtRequest : List ObjectDecl → Node → Name → Name → (List Received → Type 0) → Type 0
AtRequest objects node a b P =
    (history : List Received) → IsThrough objects node.number history → Represents objects history node
    → MayBePut objects node.number (sight_before objects node.number history) (giving_up a b) None no_load
    → P history

-- ONE THAT GOES ON aborts the child.
given_up_node : (a b : Name) (old core : Node) (known : Knowledge) (mid new : Node)
    → AreSame old core → core.actions ≡ old.actions
    → known ≡ with_outcome (Aborted b) old.know → is_top b ≡ false → HasLearnt None known core mid
    → IsDecided (Aborted b) (decided b None mid.actions) mid new
    → HasDecided (Aborted b) None no_load old new
given_up_node a b old core known mid new same acts knows child has done = record {
  number = done.number ∙ has.number ∙ same.number;
  count = done.count ∙ has.count ∙ same.count;
  know = done.know ∙ has.know ∙ knows;
  noted = done.places ∙ has.places_are ∙ same.places;
  actions =
      subst (λ (actions : Actions). tranman.AreSame actions new.actions)
      (λ i. decides (sym child i) b None ((has.actions ∙ acts) i)) done.acted;
  server = record {
    mid = old.server;
    first = nothing_informs old.number [] old.server refl;
    then_of =
        informed_before (aborts_in (Aborted b ∷ [])) (commits_in (Aborted b ∷ [])) old.server core.server new.server same.server
        (subst (λ (s : Server). server.AreInformed (aborts_in (Aborted b ∷ [])) (commits_in (Aborted b ∷ [])) s new.server) has.server done.server);
  };
}

pub given_up_plan : (objects : List ObjectDecl) (a b : Name) (old : Node) (first core : Core) (plan : Plan)
    → answers first ≡ old → first.knowing.known ≡ (answers first).know → IsKnowledge old.know
    → IsFree old.actions a (wants.GiveUp b)
    → None ≡ known_orphan (answers first).know a (pairs_of (deps (answers first).actions a))
    → AreSame (answers first) (answers core) → IsGivenUp a b first core plan
    → IsPlan objects (giving_up a b) None no_load plan core.knowing.known old (answers core)
given_up_plan objects a b old first core plan is settled knows free alive same made =
    dropping_plan objects (giving_up a b) None no_load plan core.knowing.known old (answers core)
    (ap is_served made.change) (ap held_in made.adds) same_old
    (subst (λ (e : Event). AreQuiet old.number e.deeds) (sym event_is)
    (decision_quiet old.number (Aborted b)))
    (record {
      before = knows;
      learnt = subst IsKnowledge (sym (told_nothing old.know knows)) knows;
      heard = made.heard;
      step = λ new stands.
          let at = as_made new stands in
          record {
            number = at.2.number ∙ at.1.number ∙ same_old.number;
            next = is_next;
            represents = λ history through rep may.
                subst (λ (e : Event). Represents objects (record { event = e; mail = None; load = no_load } ∷ history) new)
                (sym (is_next history through rep may))
                (decides_keep objects history (giving_up a b) None no_load (Aborted b) old new refl (refl, knows.counts) tt tt through may
                (ap (λ (d : Did). d.deeds) (rule_is history through rep may)) tt
                (given_up_node a b old (answers core) core.knowing.known at.0 new same_old acts_old knows_old
                (given_up_is_no_top objects (sight_before objects old.number history) old.actions a b
                (sight_is_answered objects old.number (map as_carried history) nothing old.actions rep.runs) may.0 free)
                at.1 at.2)
                (other_step_keeps objects old.number (map as_carried history) (giving_up a b) None nothing old.families new.families refl refl
                (subst (λ (families : Families). commit.AreSame old.families families) (sym (at.2.families ∙ at.1.families)) same_old.families) rep.commits)
                rep);
          };
      letters = λ new stands. made.letters ∙ ap (λ (e : Event). letters_of new e.sent) (sym event_is);
      recorded = λ history logged holds through rep may keeps given held.
          decision_recorded objects history None logged holds plan old.number nothing old.know (Aborted b) (ap (λ (e : Event). e.deeds) event_is)
          made.adds tt;
    })
  where
    same_old : AreSame old (answers core)
    same_old = subst (λ (n : Node). AreSame n (answers core)) is same

    acts_old : (answers core).actions ≡ old.actions
    acts_old = made.actions ∙ ap (λ (n : Node). n.actions) is

    knows_old : core.knowing.known ≡ with_outcome (Aborted b) old.know
    knows_old = made.knows ∙ ap (with_outcome (Aborted b)) (settled ∙ ap (λ (n : Node). n.know) is)

    event_is : plan.stepped.event ≡ event_of old.number None [] (did (decision old.number (Aborted b)) [])
    event_is = made.event ∙ ap (λ (n : Node). event_of n.number None [] (did (decision n.number (Aborted b)) [])) is

    alive_old : None ≡ known_orphan old.know a (pairs_of (deps old.actions a))
    alive_old = subst (λ (n : Node). None ≡ known_orphan n.know a (pairs_of (deps n.actions a))) is alive

    rule_is : AtRequest objects old a b
        (λ history. request objects (sight_before objects old.number history) a (wants.GiveUp b) ≡ did (decision old.number (Aborted b)) [])
    rule_is history through rep may =
        request_is objects history old a (wants.GiveUp b) rep knows.counts may.0 free
        ∙ ap (λ (r : Option Reason). stopped_by a r (wanted_by objects old.number old.know old.actions a (wants.GiveUp b))) (sym alive_old)

    is_next : AtRequest objects old a b
        (λ history. plan.stepped.event ≡ node_step objects old.number (map as_carried history) (giving_up a b) None nothing)
    is_next history through rep may = event_is ∙ ap (event_of old.number None []) (sym (rule_is history through rep may))

    as_made : (new : Node) → Stands plan.change plan.heard core.knowing.known (answers core) new
        →
        (mid : Node) × HasLearnt None core.knowing.known (answers core) mid × IsDecided (Aborted b) (decided b None mid.actions) mid new
    as_made new stands =
        subst (λ (c : Change). Stands c None core.knowing.known (answers core) new) made.change
        (subst (λ (h : Option Heard). Stands plan.change h core.knowing.known (answers core) new) made.heard stands)

-- It may stand.
pub given_up_may : (a b : Name) (old : Node) (first core : Core) (plan : Plan) → answers first ≡ old
    → IsFree old.actions a (wants.GiveUp b)
    → IsGivenUp a b first core plan → MayStand plan core
given_up_may a b old first core plan is free made = record {
  room = let room = made.room in omega (arith, room);
  within = made.within;
  change =
      subst (λ (c : Change). MayChange c plan.heard core) (sym made.change) (
        made.room,
        subst (λ (actions : Actions). IsFree actions a (wants.GiveUp b)) (sym (made.actions ∙ ap (λ (n : Node). n.actions) is)) free,
      );
}
