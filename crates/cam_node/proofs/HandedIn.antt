-- What a handed-in server holds where the event of a call stands.
use Rattle.std.proofs.Common.{◌≡◌, ℕ, Bool, true, false, ◌||◌, List, [], ◌∷◌, ◌++◌, map, Option, Some, inl, inr, refl, sym, ap, ◌∙◌, subst}
use Rattle.std.specs.Prelude.{if◌then◌else◌}
use Rattle.std.specs.List.{list_any}
use Rattle.std.proofs.lemmas.List.Folds.{list_any-append}
use Rattle.cam_names.specs.declared.name.Name.{Name}
use Rattle.cam_type.specs.declared.State.{State}
use Rattle.cam_know.specs.Knowledge.{Knowledge}
use Rattle.cam_know.specs.Known.{new_aborts, new_commits}
use Rattle.cam_know.specs.Order.{told_in_order}
use Rattle.cam_event.specs.declared.Deed.TheVariants.{Inform}
use Rattle.cam_event.specs.declared.Event.{Event}
use Rattle.cam_event.specs.declared.Letter.{Letter}
use Rattle.cam_event.specs.declared.LetterId.{LetterId}
use Rattle.cam_event.specs.ByKnowledge.{new_informs}
use Rattle.cam_event.specs.HeldSites.{is_any_perform}
use Rattle.cam_event.specs.Rules.{sorted_names, Did}
use Rattle.cam_locks.specs.Moss.{value}
use Rattle.cam_locks.specs.Site.{Site}
use Rattle.cam_server.specs.declared.Performed.{Performed}
use Rattle.cam_server.specs.declared.Performed.TheVariants as performed
use Rattle.cam_server.specs.Ahead.{AreApart}
use Rattle.cam_server.specs.Calls as server
use Rattle.cam_server.specs.Calls.{held_by, Asked}
use Rattle.cam_server.specs.Server.{Server}
use Rattle.cam_server.specs.Steps.{did_performed}
use Rattle.cam_server.proofs.GoingAhead.{value_ahead}
use Rattle.cam_server.proofs.HeldValues.{tested_holds}
use Rattle.cam_node.specs.declared.did.Doing.{Doing}
use Rattle.cam_node.specs.declared.knowing.Heard.{Heard}
use Rattle.cam_node.specs.declared.learning.Learnt.{Learnt}
use Rattle.cam_node.specs.declared.plan.Change.{Change}
use Rattle.cam_node.specs.declared.plan.Plan.{Plan}
use Rattle.cam_node.specs.declared.state.Core.{Core}
use Rattle.cam_node.specs.Ahead.{HasGoneAhead}
use Rattle.cam_node.specs.Calls.{answers}
use Rattle.cam_node.specs.Holdings.{held_ahead, held_then, performs, site_with, HoldsThen}
use Rattle.cam_node.specs.Planning.{HasReceived, IsMade}
use Rattle.cam_node.specs.Represents.{Node}
use Rattle.cam_node.specs.Served.{ChangesTo, IsDone}
use Rattle.cam_node.specs.Standing.{Stands}
use Rattle.cam_node.proofs.AheadStands.{ahead_known, as_made}

-- what the site did with the call
pub did_held : (asked : Asked) (done : Performed) (now old : State)
    → held_then (did_performed asked done).deeds now old ≡ held_by done now old
did_held asked (performed.Done answer) now old = refl
did_held asked (performed.Busy u) now old = refl
did_held asked performed.Missed now old = refl
did_held asked performed.Ended now old = refl
did_held asked (performed.Again reply) now old = refl
did_held asked (performed.Orphan reason) now old = refl

-- The first Informs of an event perform no call,
names_quiet : (s : ℕ) (o : Bool) (names : List Name)
    → performs (map (λ a. Inform s a o) names) ≡ false
names_quiet s o [] = refl
names_quiet s o (a ∷ names) = names_quiet s o names

informs_quiet : (s : ℕ) (brought known : Knowledge)
    → performs (new_informs s brought known) ≡ false
informs_quiet s brought known =
    list_any-append is_any_perform
    (map (λ a. Inform s a false) (sorted_names (new_aborts brought known)))
    (map (λ a. Inform s a true) (sorted_names (new_commits brought known)))
    ∙ ap (λ b. b || performs (map (λ a. Inform s a true) (sorted_names (new_commits brought known))))
    (names_quiet s false (sorted_names (new_aborts brought known)))
    ∙ names_quiet s true (sorted_names (new_commits brought known))

-- so a planned event performs one if what the rule made does.
pub plan_performs : (letter : Letter) (first core now : Core) (learnt : Learnt) (id : LetterId)
    (doing : Doing) (plan : Plan) → HasReceived letter first core learnt
    → IsMade now id learnt doing plan
    → performs plan.stepped.event.deeds ≡ performs doing.did.deeds
plan_performs letter first core now learnt id doing plan received made =
    ap (λ (e : Event). performs e.deeds) made.event
    ∙ list_any-append is_any_perform learnt.informs doing.did.deeds
    ∙ ap (λ b. b || performs doing.did.deeds)
    (ap performs received.informs
    ∙ informs_quiet first.number (told_in_order letter.know) (answers first).know)

-- WHAT THE SITE DID IN A COPY: it is the value at the site where the copy stands.
quiet_held : (k : Knowledge) (srv : Server) (asked : Asked) (done : Performed) (did : Did)
    (now old : State) → did ≡ did_performed asked done
    → Some done ≡ server.tested_by k srv asked.action asked.number asked.count asked.visited
    → old ≡ held_then did.deeds now old
quiet_held k srv asked done did now old is tested =
    tested_holds k srv asked done now old tested ∙ sym (did_held asked done now old)
    ∙ ap (λ (d : Did). held_then d.deeds now old) (sym is)

stood_held : (news known : Knowledge) (asked : Asked) (done : Performed) (mid node : Node)
    (doing : Doing) (heard : Option Heard) (x : ℕ) (old : State)
    → doing.did ≡ did_performed asked done
    → ChangesTo doing.change news known asked done mid.server
    → Stands doing.change heard known mid node
    → held_then doing.did.deeds (value (site_with doing.change mid.server) x) old
    ≡ held_then doing.did.deeds (value node.server.table.site x) old
stood_held news known asked done mid node doing heard x old is (inl tested) stands =
    sym (quiet_held known mid.server asked done doing.did
    (value (site_with doing.change mid.server) x) old is tested.1)
    ∙ quiet_held known mid.server asked done doing.did (value node.server.table.site x) old is
    tested.1
stood_held news known asked done mid node doing heard x old is (inr served) stands =
    let has = subst (λ (c : Change). Stands c heard known mid node) served.1 stands in
    ap (λ (s : Site). held_then doing.did.deeds (value s x) old)
    (ap (λ (c : Change). site_with c mid.server) served.1
    ∙ sym (ap (λ (s : Server). s.table.site) has.server_is))

-- what is held by the deeds of the event
by_deeds : (one other : Bool) (now old : State) → one ≡ other
    → (if other then now else old) ≡ (if one then now else old)
by_deeds one other now old same = ap (λ b. if b then now else old) (sym same)

pub waiting_held : (letter : Letter) (first core : Core) (learnt : Learnt) (id : LetterId)
    (doing : Doing) (plan : Plan) (asked : Asked) (done : Performed) (x : ℕ) (old new : State)
    → HasReceived letter first core learnt → IsMade core id learnt doing plan
    → IsDone learnt.heard.news core.knowing.known asked (answers core).server doing done
    → new ≡ held_then doing.did.deeds (value (site_with doing.change (answers core).server) x) old
    → HoldsThen x plan core.knowing.known (answers core) old new
waiting_held letter first core learnt id doing plan asked done x old new received made is held node
    stands =
    held
    ∙ stood_held learnt.heard.news core.knowing.known asked done (answers core) node doing plan.heard
    x old is.did is.change
    (subst (λ (c : Change). Stands c plan.heard core.knowing.known (answers core) node) made.change
    stands)
    ∙ by_deeds (performs plan.stepped.event.deeds) (performs doing.did.deeds)
    (value node.server.table.site x) old
    (plan_performs letter first core core learnt id doing plan received made)

-- WHAT IT DID ITSELF, ahead of the news: they leave the value as it is.
pub ahead_held : (letter : Letter) (first core now : Core) (learnt : Learnt) (id : LetterId)
    (asked : Asked) (plan : Plan) (x : ℕ) (old new : State)
    → HasReceived letter first core learnt
    → AreApart learnt.heard.news (answers core).server.table.site
    → HasGoneAhead core now id learnt asked plan
    → new ≡ held_ahead plan.change (value (answers now).server.table.site x) old
    → HoldsThen x plan now.knowing.known (answers now) old new
ahead_held letter first core now learnt id asked plan x old new received apart gone held node
    stands =
    let has = as_made id core now learnt asked plan node gone stands in
    held
    ∙ ap (λ (c : Change). held_ahead c (value (answers now).server.table.site x) old)
    (gone.planned.made.change ∙ gone.planned.change)
    ∙ ap (λ (v : State). held_by gone.done v old)
    (sym (value_ahead learnt.heard.news core.knowing.known asked gone.done (answers core).server
    (answers now).server node.server x (ahead_known letter first core learnt received) apart
    gone.value gone.after has.server))
    ∙ sym (did_held asked gone.done (value node.server.table.site x) old)
    ∙ ap (λ (d : Did). held_then d.deeds (value node.server.table.site x) old)
    (sym gone.planned.did)
    ∙ by_deeds (performs plan.stepped.event.deeds) (performs gone.planned.doing.did.deeds)
    (value node.server.table.site x) old
    (plan_performs letter first core now learnt id gone.planned.doing plan received
    gone.planned.made)
