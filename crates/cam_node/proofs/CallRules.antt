-- The rule of a call that came is what its site answered, and the site is then served.
use Rattle.std.proofs.Common.{◌≡◌, ℕ, List, ◌∷◌, map, Some, sym, ap, ◌∙◌, subst}
use Rattle.cam_type.specs.declared.ObjectDecl.{ObjectDecl}
use Rattle.cam_know.specs.Knowledge.{Knowledge}
use Rattle.cam_know.specs.Known.{both, news}
use Rattle.cam_know.specs.Order.{told_in_order}
use Rattle.cam_event.specs.declared.LetterId.{LetterId}
use Rattle.cam_event.specs.Inputs.{Receives, Mail}
use Rattle.cam_event.specs.Rules.{rule, arrives}
use Rattle.cam_event.specs.ByKnowledge.{held_sight, new_informs}
use Rattle.cam_event.specs.Carried.{Carried}
use Rattle.cam_event.specs.Loads.{Load, with_load}
use Rattle.cam_event.specs.ByDeltas.{Received, as_carried, known}
use Rattle.cam_server.specs.declared.Performed.{Performed}
use Rattle.cam_server.specs.Server.{Server, ServesSite}
use Rattle.cam_server.specs.Calls.{Asked, performed_by, AfterPerformed, IsInformedOf}
use Rattle.cam_server.specs.Events.{IsInformedBy}
use Rattle.cam_server.specs.Steps.{did_performed}
use Rattle.cam_server.proofs.NewsInforms.{news_inform}
use Rattle.cam_server.proofs.RuleCalls.{performed_is_rule, sight_is_answered}
use Rattle.cam_server.proofs.QuietRules.{calls_are_served}
use Rattle.cam_server.proofs.Performing.{perform_keeps}
use Rattle.cam_node.specs.Represents.{Node, Represents}
use Rattle.cam_node.specs.Halting.{IsThrough}
use Rattle.cam_node.specs.Learning.{stepped}
use Rattle.cam_node.specs.Served.{CallStands}
use Rattle.cam_node.proofs.Informed.{known_is_informed}

-- the server between, and what the node goes by then
pub at_site : (objects : List ObjectDecl) (history : List Received) (mail : Mail) (load : Load)
    (asked : Asked) (done : Performed) (old new : Node)
    (stands : CallStands mail load asked done old new) → IsThrough objects old.number history
    → Represents objects history old
    → IsInformedBy old.number (new_informs old.number (told_in_order load.know)
    (known objects history)) old.server stands.served.server.mid
at_site objects history mail load asked done old new stands through rep =
    news_inform s K brought old.server mid
    (λ u is_known. rep.serves.commits u ∙ sym
    (known_is_informed objects s history through u).1 ∙ is_known)
    (subst (λ (k : Knowledge). IsInformedOf k old.server mid) fresh_is
    stands.served.server.informed)
  where
    s : ℕ
    s = old.number

    K : Knowledge
    K = known objects history

    brought : Knowledge
    brought = told_in_order load.know

    mid : Server
    mid = stands.served.server.mid

    fresh_is : stands.fresh ≡ news (both K brought) K
    fresh_is = stands.fresh_is ∙ (λ i.
        news ((stands.know_is ∙ ap (λ (k : Knowledge). with_load k load) rep.knowledge) i)
        (rep.knowledge i))

-- what the site answered is by what the node knows then
pub answered : (objects : List ObjectDecl) (history : List Received) (mail : Mail) (load : Load)
    (asked : Asked) (done : Performed) (old new : Node)
    (stands : CallStands mail load asked done old new) → Represents objects history old
    → done ≡ performed_by (both (known objects history) (told_in_order load.know))
    stands.served.server.mid asked
answered objects history mail load asked done old new stands rep =
    stands.served.server.value
    ∙ (λ i. performed_by ((stands.know_is ∙ ap (λ (k : Knowledge). with_load k load) rep.knowledge)
    i) stands.served.server.mid asked)

-- THE RULE is what the site answered.
pub rule_is : (objects : List ObjectDecl) (history : List Received) (id : LetterId) (mail : Mail)
    (load : Load) (asked : Asked) (done : Performed) (old new : Node)
    → CallStands mail load asked done old new → IsThrough objects old.number history
    → Represents objects history old
    → rule objects (held_sight objects old.number (map as_carried history)
    (told_in_order load.know)) (Some mail) (Receives id) ≡ did_performed asked done
rule_is objects history id mail load asked done old new stands through rep =
    ap (arrives objects (held_sight objects s H brought) mail.from) stands.call
    ∙ performed_is_rule objects (held_sight objects s H brought)
    (both (known objects history) brought) stands.served.server.mid asked
    (sight_is_answered objects s H brought old.server stands.served.server.mid rep.serves
    (at_site objects history mail load asked done old new stands through rep))
    ∙ ap (did_performed asked) (sym (answered objects history mail load asked done old new stands
    rep))
  where
    s : ℕ
    s = old.number

    H : List Carried
    H = map as_carried history

    brought : Knowledge
    brought = told_in_order load.know

-- the site that is served then
pub serves_then : (objects : List ObjectDecl) (history : List Received) (id : LetterId)
    (mail : Mail) (load : Load) (asked : Asked) (done : Performed) (old new : Node)
    → CallStands mail load asked done old new → IsThrough objects old.number history
    → Represents objects history old
    → ServesSite objects old.number (as_carried
    (stepped objects old.number history (Receives id) (Some mail) load) ∷ map as_carried history)
    new.server
serves_then objects history id mail load asked done old new stands through rep =
    perform_keeps objects s H (as_carried
    (stepped objects s history (Receives id) (Some mail) load))
    (new_informs s brought (known objects history)) asked k old.server mid new.server
    (calls_are_served objects s H id mail brought k mid asked stands.call
    (sight_is_answered objects s H brought old.server mid rep.serves informed))
    informed
    (subst (λ (p : Performed). AfterPerformed asked p mid new.server)
    (answered objects history mail load asked done old new stands rep) stands.served.server.after)
    rep.serves
  where
    s : ℕ
    s = old.number

    H : List Carried
    H = map as_carried history

    brought : Knowledge
    brought = told_in_order load.know

    k : Knowledge
    k = both (known objects history) brought

    mid : Server
    mid = stands.served.server.mid

    informed : IsInformedBy s (new_informs s brought (known objects history)) old.server mid
    informed = at_site objects history mail load asked done old new stands through rep
