-- What the event of a call that went ahead of its letter's news is, and what it makes of the node.
use Rattle.std.proofs.Common.{◌≡◌, Bool, true, false, ◌||◌, cond, List, [], ◌∷◌, Option, Some, refl, sym, ap, ◌∙◌, subst}
use Rattle.std.specs.Prelude.{filter, not}
use Rattle.std.specs.List.{list_any}
use Rattle.cam_names.specs.declared.name.Name.{Name}
use Rattle.cam_know.specs.declared.Outcome.{Outcome}
use Rattle.cam_know.specs.Knowledge.{Knowledge}
use Rattle.cam_know.specs.Known.{knows, knows_abort, is_abort_of}
use Rattle.cam_event.specs.declared.Letter.{Letter}
use Rattle.cam_event.specs.declared.LetterId.{LetterId}
use Rattle.cam_know.specs.Order.{told_in_order}
use Rattle.cam_event.specs.ByPast.{event_of}
use Rattle.cam_event.specs.ByKnowledge.{new_informs}
use Rattle.cam_comman.specs.Letters.{load_on}
use Rattle.cam_tranman.specs.Calls as tranman
use Rattle.cam_commit.specs.Calls as commit
use Rattle.cam_server.specs.Calls.{Asked}
use Rattle.cam_server.specs.Ahead.{AreApart}
use Rattle.cam_server.specs.Steps.{did_performed}
use Rattle.cam_server.proofs.GoingAhead.{calls_go_ahead}
use Rattle.cam_node.specs.declared.knowing.Heard.{Heard}
use Rattle.cam_node.specs.declared.learning.Learnt.{Learnt}
use Rattle.cam_node.specs.declared.plan.Change.{Change}
use Rattle.cam_node.specs.declared.plan.Plan.{Plan}
use Rattle.cam_node.specs.declared.state.Core.{Core}
use Rattle.cam_node.specs.Represents.{Node}
use Rattle.cam_node.specs.Calls.{answers, mail_on}
use Rattle.cam_node.specs.Standing.{HasLearnt, Stands}
use Rattle.cam_node.specs.Planning.{HasReceived}
use Rattle.cam_node.specs.Served.{IsCallOn, CallStands}
use Rattle.cam_node.specs.Ahead.{HasGoneAhead}
use Rattle.cam_node.proofs.CallStands.{came_before}

-- an abort that is new is known
any_of_left : {X : Type 0} (p q : X → Bool) (xs : List X) → list_any p (filter q xs) ≡ true
    → list_any p xs ≡ true
any_of_left p q [] h = h
any_of_left {X} p q (x ∷ xs) h = by (q x) (any_of_left p q xs) h
  where
    first_or : (c : Bool) → (list_any p (filter q xs) ≡ true → list_any p xs ≡ true)
        → (c || list_any p (filter q xs)) ≡ true → (c || list_any p xs) ≡ true
    first_or true rest k = refl
    first_or false rest k = rest k

    behind : (c : Bool) → list_any p xs ≡ true → (c || list_any p xs) ≡ true
    behind true k = refl
    behind false k = k

    by : (b : Bool) → (list_any p (filter q xs) ≡ true → list_any p xs ≡ true)
        → list_any p (cond b (x ∷ filter q xs) (filter q xs)) ≡ true
        → (p x || list_any p xs) ≡ true
    by true rest k = first_or (p x) rest k
    by false rest k = behind (p x) (rest k)

-- so of the news no abort is that was not known
pub ahead_known : (letter : Letter) (first core : Core) (learnt : Learnt)
    → HasReceived letter first core learnt
    → (u : Name) → knows_abort learnt.heard.news u ≡ true → knows_abort core.knowing.known u ≡ true
ahead_known letter first core learnt received u is =
    any_of_left (is_abort_of u) (λ (o : Outcome). not (knows (answers first).know o))
    core.knowing.known.outcomes
    (subst (λ (k : Knowledge). knows_abort k u ≡ true) received.news is)

-- its event
pub ahead_event : (id : LetterId) (letter : Letter) (first core now : Core) (learnt : Learnt)
    (asked : Asked) (plan : Plan) → HasReceived letter first core learnt
    → (gone : HasGoneAhead core now id learnt asked plan)
    → plan.stepped.event
    ≡ event_of (answers first).number (Some id)
    (new_informs (answers first).number (told_in_order letter.know) (answers first).know)
    (did_performed asked gone.done)
ahead_event id letter first core now learnt asked plan received gone =
    gone.planned.made.event
    ∙ (λ i. event_of ((ap (λ (n : Node). n.number) gone.rest ∙ received.same.number) i)
    (Some id) (received.informs i) (gone.planned.did i))

-- where that stands
pub as_made : (id : LetterId) (core now : Core) (learnt : Learnt) (asked : Asked) (plan : Plan)
    (new : Node) → HasGoneAhead core now id learnt asked plan
    → Stands plan.change plan.heard now.knowing.known (answers now) new
    → HasLearnt (Some learnt.heard) now.knowing.known (answers now) new
as_made id core now learnt asked plan new gone stands =
    subst (λ (c : Change). Stands c (Some learnt.heard) now.knowing.known (answers now) new)
    (gone.planned.made.change ∙ gone.planned.change)
    (subst (λ (h : Option Heard). Stands plan.change h now.knowing.known (answers now) new)
    gone.planned.made.heard stands)

pub ahead_then : (id : LetterId) (letter : Letter) (first core now : Core) (learnt : Learnt)
    (asked : Asked) (plan : Plan) → IsCallOn letter asked → HasReceived letter first core learnt
    → AreApart learnt.heard.news (answers core).server.table.site
    → (gone : HasGoneAhead core now id learnt asked plan)
    → (new : Node) → Stands plan.change plan.heard now.knowing.known (answers now) new
    → CallStands (mail_on letter) (load_on letter) asked gone.done (answers first) new
ahead_then id letter first core now learnt asked plan call received apart gone new stands = record {
  fresh = learnt.heard.news;
  know = core.knowing.known;
  places = learnt.heard.places;
  call = call;
  know_is = received.known;
  fresh_is = received.news;
  places_are = received.places;
  served = record {
    number = has.number ∙ ap (λ (n : Node). n.number) gone.rest ∙ received.same.number;
    count = has.count ∙ ap (λ (n : Node). n.count) gone.rest ∙ received.same.count;
    know = has.know ∙ known_is;
    places_are = has.places_are;
    actions =
        subst (tranman.AreSame old.actions)
        (sym (has.actions ∙ ap (λ (n : Node). n.actions) gone.rest)) received.same.actions;
    families =
        subst (commit.AreSame old.families)
        (sym (has.families ∙ ap (λ (n : Node). n.families) gone.rest)) received.same.families;
    server =
        came_before learnt.heard.news core.knowing.known asked gone.done old.server
        (answers core).server new.server received.same.server
        (calls_go_ahead learnt.heard.news core.knowing.known asked gone.done
        (answers core).server (answers now).server new.server
        (ahead_known letter first core learnt received) apart
        gone.value gone.after has.server);
  };
}
  where
    old : Node
    old = answers first

    has : HasLearnt (Some learnt.heard) now.knowing.known (answers now) new
    has = as_made id core now learnt asked plan new gone stands

    known_is : now.knowing.known ≡ core.knowing.known
    known_is = λ i. (gone.knowing i).known
