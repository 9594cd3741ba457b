-- An event of a call that does not come to stand can be forgotten: the node then answers as before.
use Rattle.std.proofs.Common.{◌≡◌, Result, Ok, Err, IfOk, OnErr, inl, inr, refl, sym, ◌∙◌, subst}
use Rattle.cam_know.specs.Knowledge.{Knowledge}
use Rattle.cam_event.specs.declared.LetterId.{LetterId}
use Rattle.cam_server.specs.declared.Performed.{Performed}
use Rattle.cam_server.specs.Server.{Server}
use Rattle.cam_server.specs.Calls as server
use Rattle.cam_server.specs.Calls.{Asked}
use Rattle.cam_node.specs.declared.learning.Learnt.{Learnt}
use Rattle.cam_node.specs.declared.plan.Change.{Change}
use Rattle.cam_node.specs.declared.plan.Plan.{Plan}
use Rattle.cam_node.specs.declared.state.Core.{Core}
use Rattle.cam_node.specs.Represents.{Node}
use Rattle.cam_node.specs.Calls.{answers, AreSame}
use Rattle.cam_node.specs.Served.{ChangesTo}
use Rattle.cam_node.specs.Ahead.{HasGoneAhead, IsTakenBack, IsForgotten, MayBeForgotten, ahead_of}

-- a node whose server answers the same
same_but : (first core new : Node) → AreSame first core → new ≡ record core { server = new.server }
    → server.AreSame core.server new.server
    → AreSame first new
same_but first core new same rest served =
    subst (AreSame first) (sym rest)
    (record {
      number = same.number;
      count = same.count;
      know = same.know;
      places = same.places;
      actions = same.actions;
      families = same.families;
      server = record {
        count = served.count ∙ same.server.count;
        site = served.site ∙ same.server.site;
        replies = λ a n. served.replies a n ∙ same.server.replies a n;
      };
    })

-- where memory runs out
pub ahead_err : (first core new : Node) → AreSame first core → server.AreSame core.server new.server
    → new ≡ record core { server = new.server } → AreSame first new
ahead_err first core new same served rest = same_but first core new same rest served

-- It can be forgotten: one that went ahead, and one that did not.
pub ahead_forgotten : (first core now : Core) (id : LetterId) (learnt : Learnt) (asked : Asked)
    (plan : Plan) → AreSame (answers first) (answers core)
    → HasGoneAhead core now id learnt asked plan
    → MayBeForgotten (answers first) (answers now) plan.change
ahead_forgotten first core now id learnt asked plan same gone new forgotten =
    let taken : IsTakenBack (record {
      action = asked.action;
      number = asked.number;
      done = gone.done;
    }) (answers now) new =
    subst (λ (c : Change). IsForgotten (ahead_of c) (answers now) new)
    (gone.planned.made.change ∙ gone.planned.change) forgotten in
    same_but (answers first) (answers core) new same
    (taken.rest ∙ (λ i. record (gone.rest i) { server = new.server }))
    (taken.back core.knowing.known asked (answers core).server refl refl gone.value gone.after)

pub waiting_forgotten : (first now : Core) (fresh known : Knowledge) (asked : Asked)
    (done : Performed) (srv : Server) (change : Change)
    → AreSame (answers first) (answers now) → ChangesTo change fresh known asked done srv
    → MayBeForgotten (answers first) (answers now) change
waiting_forgotten first now fresh known asked done srv change same (inl tested) new forgotten =
    subst (AreSame (answers first)) (sym
    (subst (λ (c : Change). IsForgotten (ahead_of c) (answers now) new) tested.0 forgotten)) same
waiting_forgotten first now fresh known asked done srv change same (inr served) new forgotten =
    subst (AreSame (answers first)) (sym
    (subst (λ (c : Change). IsForgotten (ahead_of c) (answers now) new) served.1 forgotten)) same

-- what two clauses say of an error
pub both_err : {T E : Type 0} (r : Result T E) (P Q R : Type 0) → (P → Q → R) → OnErr r P
    → OnErr r Q → OnErr r R
both_err (Ok x) P Q R f p q = tt
both_err (Err e) P Q R f p q = f p q

pub both_ok : {T E : Type 0} (r : Result T E) (P Q R : T → Type 0) → ((x : T) → P x → Q x → R x)
    → IfOk r P → IfOk r Q → IfOk r R
both_ok (Ok x) P Q R f p q = f x p q
both_ok (Err e) P Q R f p q = tt
