-- What is made of a finish or a quit of a child is its plan.
use Rattle.std.proofs.Common.{◌≡◌, ℕ, ◌≤◌, Bool, true, false, List, [], length, Option, Some, None, refl, sym, ap, ◌∙◌, subst}
use Rattle.cam_names.specs.declared.name.Name.{Name}
use Rattle.cam_names.specs.Names.{parent}
use Rattle.cam_names.specs.Dependencies.{pairs_of}
use Rattle.cam_type.specs.declared.ObjectDecl.{ObjectDecl}
use Rattle.cam_know.specs.Orphans.{known_orphan}
use Rattle.cam_know.specs.declared.Outcome.{Outcome}
use Rattle.cam_know.specs.declared.Outcome.TheVariants.{Aborted}
use Rattle.cam_know.specs.declared.Reason.{Reason}
use Rattle.cam_event.specs.declared.Body.TheVariants as bodies
use Rattle.cam_event.specs.declared.Letter.{Letter}
use Rattle.cam_event.specs.declared.LetterId.{LetterId}
use Rattle.cam_event.specs.declared.Note.TheVariants as notes
use Rattle.cam_event.specs.Rules.{nothing_but}
use Rattle.cam_event.specs.Loads.{with_load}
use Rattle.cam_comman.specs.Letters.{load_on}
use Rattle.cam_tranman.specs.Actions.{Actions, deps}
use Rattle.cam_tranman.specs.Calls.{decides_by}
use Rattle.cam_tranman.specs.Keeping.{HasCounts}
use Rattle.cam_commit.specs.Stepping.{concerns}
use Rattle.cam_server.specs.Events.{decision}
use Rattle.cam_node.specs.declared.learning.Learnt.{Learnt}
use Rattle.cam_node.specs.declared.plan.Plan.{Plan}
use Rattle.cam_node.specs.declared.state.Core.{Core}
use Rattle.cam_node.specs.Calls.{answers, mail_on, AreSame}
use Rattle.cam_node.specs.DecideRules.{IsFinish, outcome_of, note_of}
use Rattle.cam_node.specs.Decides.{IsOutcomeOf, MayDecide, decided_action}
use Rattle.cam_node.specs.Plans.{IsPlanFor}
use Rattle.cam_node.specs.Standing.{deciding, just}
use Rattle.cam_node.specs.Planning.{HasReceived, IsMade, IsMadeDeciding}
use Rattle.cam_node.proofs.LetterPlans.{quiet_plan, no_vote_in, learnt_of, orphan_as}
use Rattle.cam_node.proofs.HomePlans.{ForEach, IsRuled}
use Rattle.cam_node.proofs.DecidePlans.{decision_plan}
use Rattle.cam_node.proofs.ChildEnds.{families_stay, finish_other, commit_is, finish_is_late, finish_is_stopped, finish_decides, quit_is_late, quit_is_stopped, quit_decides}

-- The tests, as the node made them with the letter, are those of what it answered before.
decides_as : (letter : Letter) (first core : Core) (learnt : Learnt) (b : Name) (x : Bool)
    → HasReceived letter first core learnt
    → decides_by (answers core).actions b ≡ x → decides_by (answers first).actions b ≡ x
decides_as letter first core learnt b x received is = ap (λ (actions : Actions). decides_by actions b) (sym received.actions) ∙ is

orphan_by : (letter : Letter) (first core : Core) (learnt : Learnt) (b : Name) (counts : List ℕ) (r : Option Reason)
    → HasReceived letter first core learnt
    → r ≡ known_orphan core.knowing.known b (pairs_of counts)
    → r ≡ known_orphan (with_load (answers first).know (load_on letter)) b (pairs_of counts)
orphan_by letter first core learnt b counts r received is = is ∙ (λ i. known_orphan (received.known i) b (pairs_of counts))

-- A finish: late, stopped, or decided.
pub finish_late_plan : (objects : List ObjectDecl) (id : LetterId) (letter : Letter) (first core : Core) (learnt : Learnt) (b p : Name) (counts : List ℕ) (plan : Plan)
    → (1 ≤ letter.from) × (letter.from ≤ 8) → IsFinish b counts letter.body → parent b ≡ Some p
    → length counts ≡ 8 → HasReceived letter first core learnt
    → decides_by (answers core).actions b ≡ false
    → IsMade core id learnt (just (nothing_but notes.Late)) plan
    → IsPlanFor objects id letter first core plan
finish_late_plan objects id letter first core learnt b p counts plan from is named eight received shut made =
    quiet_plan objects id letter first core learnt notes.Late plan from (subst HasCounts (sym is.1) eight)
    (no_vote_in letter (bodies.Finish b is.0 counts) is.1 (λ f m n. refl)) (λ f. refl) received
    (finish_is_late objects (answers first) id (mail_on letter) (load_on letter) b p is.0 counts is.1 named
    (decides_as letter first core learnt b false received shut))
    made

pub finish_stopped_plan : (objects : List ObjectDecl) (id : LetterId) (letter : Letter) (first core : Core) (learnt : Learnt) (b p : Name) (counts : List ℕ) (reason : Reason) (plan : Plan)
    → (1 ≤ letter.from) × (letter.from ≤ 8) → IsFinish b counts letter.body → parent b ≡ Some p
    → length counts ≡ 8 → HasReceived letter first core learnt
    → decides_by (answers core).actions b ≡ true
    → Some reason ≡ known_orphan core.knowing.known p (pairs_of (deps (answers core).actions p))
    → IsMade core id learnt (just (nothing_but (notes.Stopped p reason))) plan
    → IsPlanFor objects id letter first core plan
finish_stopped_plan objects id letter first core learnt b p counts reason plan from is named eight received awaited orphan made =
    quiet_plan objects id letter first core learnt (notes.Stopped p reason) plan from (subst HasCounts (sym is.1) eight)
    (no_vote_in letter (bodies.Finish b is.0 counts) is.1 (λ f m n. refl)) (λ f. refl) received
    (finish_is_stopped objects (answers first) id (mail_on letter) (load_on letter) b p is.0 counts reason is.1 named
    (decides_as letter first core learnt b true received awaited) (orphan_as letter first core learnt p (Some reason) received orphan))
    made

pub finish_decided_plan : (objects : List ObjectDecl) (id : LetterId) (letter : Letter) (first core now : Core) (learnt : Learnt) (b p : Name) (counts : List ℕ) (r : Option Reason) (plan : Plan)
    → (1 ≤ letter.from) × (letter.from ≤ 8) → IsFinish b counts letter.body → parent b ≡ Some p
    → length counts ≡ 8 → HasReceived letter first core learnt
    → decides_by (answers core).actions b ≡ true
    → None ≡ known_orphan core.knowing.known p (pairs_of (deps (answers core).actions p))
    → r ≡ known_orphan core.knowing.known b (pairs_of counts) → AreSame (answers core) (answers now)
    → (answers now).actions ≡ (answers core).actions
    → IsMadeDeciding core now id learnt (outcome_of b counts r) [] (note_of b r) plan
    → IsPlanFor objects id letter first now plan
finish_decided_plan objects id letter first core now learnt b p counts r plan from is named eight received awaited alive orphan same acts made =
    decision_plan objects id letter first core now learnt (outcome_of b counts r) [] (note_of b r) plan from (subst HasCounts (sym is.1) eight)
    (learnt_of letter first core now id learnt (outcome_of b counts r) [] (note_of b r) plan received same acts made)
    (subst (λ (s : ℕ). IsMade now id learnt (deciding s (outcome_of b counts r) [] (note_of b r)) plan) (received.same.number) made.made)
    (by r orphan)
    (of r)
    (λ new stay. families_stay objects (answers first) new id (mail_on letter) (load_on letter) (finish_other letter.body b p is.0 counts is.1 named) stay)
  where
    by : (q : Option Reason) → q ≡ known_orphan core.knowing.known b (pairs_of counts)
        → IsRuled objects (answers first) id (mail_on letter) (load_on letter)
        (record { deeds = decision first.number (outcome_of b counts q); sent = []; note = note_of b q })
    by None is_none =
        finish_decides objects (answers first) id (mail_on letter) (load_on letter) b p is.0 counts None is.1 named
        (decides_as letter first core learnt b true received awaited) (orphan_as letter first core learnt p None received alive)
        (orphan_by letter first core learnt b counts None received is_none)
    by (Some reason) is_some =
        finish_decides objects (answers first) id (mail_on letter) (load_on letter) b p is.0 counts (Some reason) is.1 named
        (decides_as letter first core learnt b true received awaited) (orphan_as letter first core learnt p None received alive)
        (orphan_by letter first core learnt b counts (Some reason) received is_some)

    of : (q : Option Reason) → ForEach objects (answers first) id (mail_on letter) (load_on letter)
        (λ history. IsOutcomeOf objects history (Some (mail_on letter)) (outcome_of b counts q))
    of None = commit_is objects (answers first) id (mail_on letter) (load_on letter) b p is.0 counts is.1 named
    of (Some reason) = λ history through rep may. tt

-- A quit: late, stopped, or decided.
pub quit_late_plan : (objects : List ObjectDecl) (id : LetterId) (letter : Letter) (first core : Core) (learnt : Learnt) (b p : Name) (plan : Plan)
    → (1 ≤ letter.from) × (letter.from ≤ 8) → letter.body ≡ bodies.Quit b → parent b ≡ Some p
    → HasReceived letter first core learnt
    → decides_by (answers core).actions b ≡ false
    → IsMade core id learnt (just (nothing_but notes.Late)) plan
    → IsPlanFor objects id letter first core plan
quit_late_plan objects id letter first core learnt b p plan from is named received shut made =
    quiet_plan objects id letter first core learnt notes.Late plan from (subst HasCounts (sym is) tt)
    (no_vote_in letter (bodies.Quit b) is (λ f m n. refl)) (λ f. refl) received
    (quit_is_late objects (answers first) id (mail_on letter) (load_on letter) b p is named (decides_as letter first core learnt b false received shut))
    made

pub quit_stopped_plan : (objects : List ObjectDecl) (id : LetterId) (letter : Letter) (first core : Core) (learnt : Learnt) (b p : Name) (reason : Reason) (plan : Plan)
    → (1 ≤ letter.from) × (letter.from ≤ 8) → letter.body ≡ bodies.Quit b → parent b ≡ Some p
    → HasReceived letter first core learnt
    → decides_by (answers core).actions b ≡ true
    → Some reason ≡ known_orphan core.knowing.known p (pairs_of (deps (answers core).actions p))
    → IsMade core id learnt (just (nothing_but (notes.Stopped p reason))) plan
    → IsPlanFor objects id letter first core plan
quit_stopped_plan objects id letter first core learnt b p reason plan from is named received awaited orphan made =
    quiet_plan objects id letter first core learnt (notes.Stopped p reason) plan from (subst HasCounts (sym is) tt)
    (no_vote_in letter (bodies.Quit b) is (λ f m n. refl)) (λ f. refl) received
    (quit_is_stopped objects (answers first) id (mail_on letter) (load_on letter) b p reason is named
    (decides_as letter first core learnt b true received awaited) (orphan_as letter first core learnt p (Some reason) received orphan))
    made

pub quit_decided_plan : (objects : List ObjectDecl) (id : LetterId) (letter : Letter) (first core now : Core) (learnt : Learnt) (b p : Name) (plan : Plan)
    → (1 ≤ letter.from) × (letter.from ≤ 8) → letter.body ≡ bodies.Quit b → parent b ≡ Some p
    → HasReceived letter first core learnt
    → decides_by (answers core).actions b ≡ true
    → None ≡ known_orphan core.knowing.known p (pairs_of (deps (answers core).actions p))
    → AreSame (answers core) (answers now) → (answers now).actions ≡ (answers core).actions
    → IsMadeDeciding core now id learnt (Aborted b) [] notes.Plain plan
    → IsPlanFor objects id letter first now plan
quit_decided_plan objects id letter first core now learnt b p plan from is named received awaited alive same acts made =
    decision_plan objects id letter first core now learnt (Aborted b) [] notes.Plain plan from (subst HasCounts (sym is) tt)
    (learnt_of letter first core now id learnt (Aborted b) [] notes.Plain plan received same acts made)
    (subst (λ (s : ℕ). IsMade now id learnt (deciding s (Aborted b) [] notes.Plain) plan) (received.same.number) made.made)
    (quit_decides objects (answers first) id (mail_on letter) (load_on letter) b p is named
    (decides_as letter first core learnt b true received awaited) (orphan_as letter first core learnt p None received alive))
    (λ history through rep may. tt)
    (λ new stay. families_stay objects (answers first) new id (mail_on letter) (load_on letter) (ap concerns is) stay)

-- The child that is decided is one that may be.
pub decided_may : (b : Name) (o : Outcome) (core now : Core)
    → decides_by (answers core).actions b ≡ true → (answers now).actions ≡ (answers core).actions
    → decided_action o ≡ b → MayDecide o (answers now).actions
decided_may b o core now awaited acts is = λ child. (λ i. decides_by (acts i) (is i)) ∙ awaited

pub ended_action : (b : Name) (counts : List ℕ) (r : Option Reason)
    → decided_action (outcome_of b counts r) ≡ b
ended_action b counts None = refl
ended_action b counts (Some reason) = refl
