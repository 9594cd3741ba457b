-- What is made of a quit of a top action, and of a finish that comes late or of an orphan, is its
-- plan.
use Rattle.std.proofs.Common.{◌≡◌, ℕ, ◌≤◌, Bool, true, false, ◌||◌, List, length, Option, Some, None, refl, sym, ap, ◌∙◌, subst, true≢false}
use Rattle.cam_names.specs.declared.name.Name.{Name}
use Rattle.cam_names.specs.Names.{is_top, parent}
use Rattle.cam_names.specs.Dependencies.{pairs_of}
use Rattle.cam_type.specs.declared.ObjectDecl.{ObjectDecl}
use Rattle.cam_know.specs.Orphans.{known_orphan}
use Rattle.cam_know.specs.declared.Outcome.{Outcome}
use Rattle.cam_know.specs.declared.Outcome.TheVariants.{Aborted}
use Rattle.cam_know.specs.declared.Reason.{Reason}
use Rattle.cam_event.specs.declared.Body.TheVariants as bodies
use Rattle.cam_event.specs.declared.Letter.{Letter}
use Rattle.cam_event.specs.declared.LetterId.{LetterId}
use Rattle.cam_event.specs.declared.Note.TheVariants as notes
use Rattle.cam_event.specs.declared.Sent.{Sent}
use Rattle.cam_event.specs.Rules.{nothing_but}
use Rattle.cam_event.specs.Loads.{with_load}
use Rattle.cam_comman.specs.Letters.{load_on}
use Rattle.cam_tranman.specs.Actions.{deps}
use Rattle.cam_tranman.specs.Keeping.{HasCounts}
use Rattle.cam_tranman.proofs.RuleCalls.{child_is_no_top}
use Rattle.cam_commit.specs.Stepping.{concerns}
use Rattle.cam_server.specs.Events.{decision}
use Rattle.cam_node.specs.declared.learning.Learnt.{Learnt}
use Rattle.cam_node.specs.declared.plan.Plan.{Plan}
use Rattle.cam_node.specs.declared.state.Core.{Core}
use Rattle.cam_node.specs.Calls.{answers, mail_on, AreSame}
use Rattle.cam_node.specs.DecideRules.{IsFinish, is_closed, news_to}
use Rattle.cam_node.specs.Decides.{MayDecide, decided_action}
use Rattle.cam_node.specs.Plans.{IsPlanFor}
use Rattle.cam_node.specs.Standing.{deciding, just}
use Rattle.cam_node.specs.Planning.{HasReceived, IsMade, IsMadeDeciding}
use Rattle.cam_node.proofs.HomePlans.{IsRuled}
use Rattle.cam_node.proofs.DecidePlans.{decision_plan}
use Rattle.cam_node.proofs.ChildEnds.{families_stay}
use Rattle.cam_node.proofs.LetterPlans.{quiet_plan, no_vote_in, learnt_of, orphan_as}
use Rattle.cam_node.proofs.TopEnds.{quit_of, finish_late, finish_of, orphan_families}

-- a top action has no parent
pub top_parent : (a : Name) → is_top a ≡ true → parent a ≡ None
top_parent a top = by (parent a) refl
  where
    by : (q : Option Name) → parent a ≡ q → parent a ≡ None
    by None is = is
    by (Some p) is = absurd (true≢false (sym top ∙ child_is_no_top p a is))

-- The tests, as the node made them with the letter, are those of what it answered before.
closed_as : (letter : Letter) (first core : Core) (learnt : Learnt) (f : Name) (x : Bool)
    → HasReceived letter first core learnt
    → is_closed core.count core.knowing.known f ≡ x
    → is_closed (answers first).count (with_load (answers first).know (load_on letter)) f ≡ x
closed_as letter first core learnt f x received is = (λ i. is_closed (sym received.same.count i) (sym received.known i) f) ∙ is

pub late_as : (letter : Letter) (first core : Core) (learnt : Learnt) (f : Name) (x : Bool)
    → HasReceived letter first core learnt
    → is_closed core.count core.knowing.known f || (answers core).families.is_preparing f ≡ x
    → is_closed (answers first).count (with_load (answers first).know (load_on letter)) f || (answers first).families.is_preparing f ≡ x
late_as letter first core learnt f x received is =
    (λ i. is_closed (sym received.same.count i) (sym received.known i) f || sym (received.same.families.preparing f) i) ∙ is

-- so are the letters
sent_as : (letter : Letter) (first core : Core) (learnt : Learnt) (f : Name) (sent : List Sent)
    → HasReceived letter first core learnt
    → sent ≡ news_to core.number (deps (answers core).actions f)
    → news_to first.number (deps (answers first).actions f) ≡ sent
sent_as letter first core learnt f sent received is =
    sym (is ∙ (λ i. news_to (received.same.number i) (deps (received.actions i) f)))

pub top_quit_late_plan : (objects : List ObjectDecl) (id : LetterId) (letter : Letter) (first core : Core) (learnt : Learnt) (f : Name) (plan : Plan)
    → (1 ≤ letter.from) × (letter.from ≤ 8) → letter.body ≡ bodies.Quit f → is_top f ≡ true
    → HasReceived letter first core learnt
    → is_closed core.count core.knowing.known f ≡ true
    → IsMade core id learnt (just (nothing_but notes.Late)) plan
    → IsPlanFor objects id letter first core plan
top_quit_late_plan objects id letter first core learnt f plan from is top received closed made =
    quiet_plan objects id letter first core learnt notes.Late plan from (subst HasCounts (sym is) tt)
    (no_vote_in letter (bodies.Quit f) is (λ g m n. refl)) (λ g. refl) received
    (quit_of objects (answers first) id (mail_on letter) (load_on letter) f true is (top_parent f top) top
    (closed_as letter first core learnt f true received closed))
    made

pub top_quit_plan : (objects : List ObjectDecl) (id : LetterId) (letter : Letter) (first core now : Core) (learnt : Learnt) (f : Name) (sent : List Sent) (plan : Plan)
    → (1 ≤ letter.from) × (letter.from ≤ 8) → letter.body ≡ bodies.Quit f → is_top f ≡ true
    → HasReceived letter first core learnt
    → is_closed core.count core.knowing.known f ≡ false
    → sent ≡ news_to core.number (deps (answers core).actions f)
    → AreSame (answers core) (answers now) → (answers now).actions ≡ (answers core).actions
    → IsMadeDeciding core now id learnt (Aborted f) sent notes.Plain plan
    → IsPlanFor objects id letter first now plan
top_quit_plan objects id letter first core now learnt f sent plan from is top received opened letters same acts made =
    decision_plan objects id letter first core now learnt (Aborted f) sent notes.Plain plan from (subst HasCounts (sym is) tt)
    (learnt_of letter first core now id learnt (Aborted f) sent notes.Plain plan received same acts made)
    (subst (λ (s : ℕ). IsMade now id learnt (deciding s (Aborted f) sent notes.Plain) plan) received.same.number made.made)
    (subst (λ (l : List Sent). IsRuled objects (answers first) id (mail_on letter) (load_on letter)
    (record { deeds = decision first.number (Aborted f); sent = l; note = notes.Plain }))
    (sent_as letter first core learnt f sent received letters)
    (quit_of objects (answers first) id (mail_on letter) (load_on letter) f false is (top_parent f top) top
    (closed_as letter first core learnt f false received opened)))
    (λ history through rep may. tt)
    (λ new stay. families_stay objects (answers first) new id (mail_on letter) (load_on letter) (ap concerns is) stay)

pub top_finish_late_plan : (objects : List ObjectDecl) (id : LetterId) (letter : Letter) (first core : Core) (learnt : Learnt) (f : Name) (counts : List ℕ) (plan : Plan)
    → (1 ≤ letter.from) × (letter.from ≤ 8) → IsFinish f counts letter.body → is_top f ≡ true
    → length counts ≡ 8 → HasReceived letter first core learnt
    → is_closed core.count core.knowing.known f || (answers core).families.is_preparing f ≡ true
    → IsMade core id learnt (just (nothing_but notes.Late)) plan
    → IsPlanFor objects id letter first core plan
top_finish_late_plan objects id letter first core learnt f counts plan from is top eight received late made =
    quiet_plan objects id letter first core learnt notes.Late plan from (subst HasCounts (sym is.1) eight)
    (no_vote_in letter (bodies.Finish f is.0 counts) is.1 (λ g m n. refl)) (λ g. refl) received
    (finish_late objects (answers first) id (mail_on letter) (load_on letter) f is.0 counts is.1 (top_parent f top) top
    (late_as letter first core learnt f true received late))
    made

pub top_orphan_plan : (objects : List ObjectDecl) (id : LetterId) (letter : Letter) (first core now : Core) (learnt : Learnt) (f : Name) (counts : List ℕ) (reason : Reason) (sent : List Sent) (plan : Plan)
    → (1 ≤ letter.from) × (letter.from ≤ 8) → IsFinish f counts letter.body → is_top f ≡ true
    → length counts ≡ 8 → HasReceived letter first core learnt
    → is_closed core.count core.knowing.known f || (answers core).families.is_preparing f ≡ false
    → Some reason ≡ known_orphan core.knowing.known f (pairs_of (deps (answers core).actions f))
    → sent ≡ news_to core.number (deps (answers core).actions f)
    → AreSame (answers core) (answers now)
    → (answers now).actions ≡ (answers core).actions
    → IsMadeDeciding core now id learnt (Aborted f) sent (notes.Stopped f reason) plan
    → IsPlanFor objects id letter first now plan
top_orphan_plan objects id letter first core now learnt f counts reason sent plan from is top eight received in_time orphan letters same acts made =
    decision_plan objects id letter first core now learnt (Aborted f) sent (notes.Stopped f reason) plan from (subst HasCounts (sym is.1) eight)
    (learnt_of letter first core now id learnt (Aborted f) sent (notes.Stopped f reason) plan received same acts made)
    (subst (λ (s : ℕ). IsMade now id learnt (deciding s (Aborted f) sent (notes.Stopped f reason)) plan) received.same.number made.made)
    (subst (λ (l : List Sent). IsRuled objects (answers first) id (mail_on letter) (load_on letter)
    (record { deeds = decision first.number (Aborted f); sent = l; note = notes.Stopped f reason }))
    (sent_as letter first core learnt f sent received letters)
    (finish_of objects (answers first) id (mail_on letter) (load_on letter) f is.0 counts (Some reason) is.1 (top_parent f top) top
    (late_as letter first core learnt f false received in_time) (orphan_as letter first core learnt f (Some reason) received orphan)))
    (λ history through rep may. tt)
    (λ new stay.
    orphan_families objects (answers first) new id (mail_on letter) (load_on letter) f is.0 counts reason is.1 (top_parent f top) top
    (late_as letter first core learnt f false received in_time) (orphan_as letter first core learnt f (Some reason) received orphan) stay)

-- A top action is no child that the actions decide.
pub top_may : (o : Outcome) (core : Core) → is_top (decided_action o) ≡ true
    → MayDecide o (answers core).actions
top_may o core top = λ child. absurd (true≢false (sym top ∙ child))
