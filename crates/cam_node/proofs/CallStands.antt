-- The event of a call stands: what it made of the node, and what the node knows then.
use Rattle.std.proofs.Common.{◌≡◌, Some, inl, inr, sym, ◌∙◌, subst}
use Rattle.cam_know.specs.Knowledge.{Knowledge}
use Rattle.cam_know.specs.Known.{knows_abort, knows_commit}
use Rattle.cam_event.specs.declared.Body.TheVariants as bodies
use Rattle.cam_event.specs.Inputs.{Mail}
use Rattle.cam_event.specs.Loads.{Load, PlacesFields}
use Rattle.cam_tranman.specs.Calls as tranman
use Rattle.cam_commit.specs.Calls as commit
use Rattle.cam_server.specs.declared.Performed.{Performed}
use Rattle.cam_server.specs.Server.{Server}
use Rattle.cam_server.specs.Calls as server
use Rattle.cam_server.specs.Calls.{Asked}
use Rattle.cam_server.specs.Ahead.{CameAfter}
use Rattle.cam_server.proofs.Tested.{tested_came}
use Rattle.cam_node.specs.declared.knowing.Heard.{Heard}
use Rattle.cam_node.specs.declared.plan.Change.{Change}
use Rattle.cam_node.specs.Represents.{Node}
use Rattle.cam_node.specs.Calls.{AreSame}
use Rattle.cam_node.specs.Standing.{Stands}
use Rattle.cam_node.specs.Served.{ChangesTo, CallStands}
use Rattle.cam_node.proofs.HomePlans.{IsLearnt, informed_before}

-- the same from a server that answers the same
pub came_before : (fresh k : Knowledge) (asked : Asked) (done : Performed) (one other new : Server)
    → server.AreSame one other
    → CameAfter fresh k asked done other new → CameAfter fresh k asked done one new
came_before fresh k asked done one other new same came = record {
  mid = came.mid;
  informed = informed_before (knows_abort fresh)
      (knows_commit fresh) one other came.mid same came.informed;
  value = came.value;
  after = came.after;
}

-- The event stands: what it made of the node.
pub call_stands : (mail : Mail) (load : Load) (asked : Asked) (done : Performed)
    (old mid new : Node) (heard : Heard) (known : Knowledge) (change : Change)
    → AreSame old mid → IsLearnt mail load heard known old
    → mail.body ≡ bodies.Call asked.action asked.number asked.object asked.op asked.count
    asked.visited → ChangesTo change heard.news known asked done mid.server
    → Stands change (Some heard) known mid new → CallStands mail load asked done old new
call_stands mail load asked done old mid new heard known change same is call (inl tested) stands =
    let has = subst (λ (c : Change). Stands c (Some heard) known mid new) tested.0 stands in
    record {
      fresh = heard.news;
      know = known;
      places = heard.places;
      call = call;
      know_is = is.knows;
      fresh_is = is.news;
      places_are = is.places;
      served = record {
        number = has.number ∙ same.number;
        count = has.count ∙ same.count;
        know = has.know;
        places_are = has.places_are;
        actions = subst (tranman.AreSame old.actions) (sym has.actions) same.actions;
        families = subst (commit.AreSame old.families) (sym has.families) same.families;
        server = came_before heard.news known asked done old.server mid.server new.server
            same.server
            (tested_came heard.news known asked done mid.server new.server tested.1 has.server);
      };
    }
call_stands mail load asked done old mid new heard known change same is call (inr served) stands =
    let has = subst (λ (c : Change). Stands c (Some heard) known mid new) served.1 stands in
    record {
      fresh = heard.news;
      know = known;
      places = heard.places;
      call = call;
      know_is = is.knows;
      fresh_is = is.news;
      places_are = is.places;
      served = record {
        number = has.number ∙ same.number;
        count = has.count ∙ same.count;
        know = has.know;
        places_are = has.places_are;
        actions = subst (tranman.AreSame old.actions) (sym has.actions) same.actions;
        families = subst (commit.AreSame old.families) (sym has.families) same.families;
        server = came_before heard.news known asked done old.server mid.server new.server
            same.server
            (subst (λ (s : Server). CameAfter heard.news known asked done mid.server s)
            (sym has.server_is) served.2);
      };
    }

-- what it knows then, by which its letters go
pub record KnowsThen (known : Knowledge) (places : PlacesFields) (mid new : Node) : Type 0 where
  pub know : new.know ≡ known
  pub places_are : new.places ≡ places
  pub number : new.number ≡ mid.number
  pub count : new.count ≡ mid.count

pub knows_then : (fresh known : Knowledge) (asked : Asked) (done : Performed) (mid new : Node)
    (heard : Heard) (change : Change)
    → ChangesTo change fresh known asked done mid.server → Stands change (Some heard) known mid new
    → KnowsThen known heard.places mid new
knows_then fresh known asked done mid new heard change (inl tested) stands =
    let has = subst (λ (c : Change). Stands c (Some heard) known mid new) tested.0 stands in
    record { know = has.know; places_are = has.places_are; number = has.number; count = has.count }
knows_then fresh known asked done mid new heard change (inr served) stands =
    let has = subst (λ (c : Change). Stands c (Some heard) known mid new) served.1 stands in
    record { know = has.know; places_are = has.places_are; number = has.number; count = has.count }
