-- A vote that decides its family: what is made of it is its plan.
use Rattle.std.proofs.Common.{◌≡◌, ℕ, ◌≤◌, eqb, Bool, true, false, not, ◌||◌, List, Some, refl, sym, ap, ◌∙◌, subst}
use Rattle.std.proofs.lemmas.Bool.{or_parts, not-false, true≢false}
use borrow.Author.Tests.{eqb-true}
use Rattle.cam_names.specs.declared.name.Name.{Name}
use Rattle.cam_names.specs.Names.{is_top, home_count}
use Rattle.cam_type.specs.declared.ObjectDecl.{ObjectDecl}
use Rattle.cam_know.specs.Known.{knows_abort, knows_commit}
use Rattle.cam_know.specs.declared.Outcome.{Outcome}
use Rattle.cam_know.specs.declared.Outcome.TheVariants.{Aborted, Committed}
use Rattle.cam_event.specs.declared.Body.{Body}
use Rattle.cam_event.specs.declared.Body.TheVariants as bodies
use Rattle.cam_event.specs.declared.Letter.{Letter}
use Rattle.cam_event.specs.declared.LetterId.{LetterId}
use Rattle.cam_event.specs.declared.Note.TheVariants as notes
use Rattle.cam_event.specs.declared.Sent.{Sent}
use Rattle.cam_event.specs.Rules.{Did}
use Rattle.cam_event.specs.Loads.{with_load}
use Rattle.cam_comman.specs.Letters.{load_on}
use Rattle.cam_tranman.specs.Actions.{Actions, deps}
use Rattle.cam_tranman.specs.Keeping.{HasCounts}
use Rattle.cam_commit.specs.declared.Voted.{Voted}
use Rattle.cam_commit.specs.declared.Voted.TheVariants as voted
use Rattle.cam_commit.specs.Calls.{yes, voted_by}
use Rattle.cam_node.specs.declared.learning.Learnt.{Learnt}
use Rattle.cam_node.specs.declared.plan.Plan.{Plan}
use Rattle.cam_node.specs.declared.state.Core.{Core}
use Rattle.cam_node.specs.Represents.{Node}
use Rattle.cam_node.specs.Calls.{answers, mail_on, AreSame}
use Rattle.cam_node.specs.DecideRules.{is_closed, news_to}
use Rattle.cam_node.specs.Decides.{IsOutcomeOf, decided_action}
use Rattle.cam_node.specs.Lawful.{IsForNode}
use Rattle.cam_node.specs.Plans.{IsPlanFor}
use Rattle.cam_node.specs.Standing.{MayStand, deciding}
use Rattle.cam_node.specs.Planning.{HasReceived, IsMade, IsMadeDeciding}
use Rattle.cam_node.specs.Voting.{is_over, weighed}
use Rattle.cam_node.proofs.LetterPlans.{deciding_may, learnt_of}
use Rattle.cam_node.proofs.DecidePlans.{decision_plan}
use Rattle.cam_node.proofs.Decides.{top_is_learnt}
use Rattle.cam_node.proofs.HomePlans.{ForEach, IsRuled}
use Rattle.cam_node.proofs.DecidedFamilies.{decided_families}
use Rattle.cam_node.proofs.VotePlans.{over_as, rule_weighed}

-- the letters, as the node before says them
sent_as : (letter : Letter) (first core : Core) (learnt : Learnt) (f : Name) (sent : List Sent)
    → HasReceived letter first core learnt
    → sent ≡ news_to core.number (deps (answers core).actions f)
    → sent ≡ news_to first.number (deps (answers first).actions f)
sent_as letter first core learnt f sent received is =
    is ∙ (λ i. news_to (received.same.number i) (deps (received.actions i) f))

-- one that is not over is a top action
pub over_top : (present : ℕ) (core : Core) (f : Name) → false ≡ is_over present core.knowing.known f
    → is_top f ≡ true
over_top present core f is =
    not-false (is_top f)
    (or_parts (is_closed present core.knowing.known f) (not (is_top f)) (sym is)).1

-- of the present count
over_present : (present : ℕ) (closed top : Bool) (f : Name)
    → ((not (eqb (home_count f) present) || closed) || top) ≡ false → home_count f ≡ present
over_present present closed top f is =
    eqb-true (home_count f) present
    (not-false (eqb (home_count f) present)
    (or_parts (not (eqb (home_count f) present)) closed
    (or_parts (not (eqb (home_count f) present) || closed) top is).0).0)

decides : (objects : List ObjectDecl) (id : LetterId) (letter : Letter) (first core now : Core)
    (learnt : Learnt) (f : Name) (n : ℕ) (agrees : Bool) (r : Voted) (o : Outcome)
    (sent : List Sent)
    (plan : Plan) → (1 ≤ letter.from) × (letter.from ≤ 8) → letter.body ≡ bodies.Vote f n agrees
    → HasReceived letter first core learnt → false ≡ is_over core.count core.knowing.known f
    → r ≡ voted_by (answers core).families (yes f letter.from n) agrees
    (deps (answers core).actions f)
    → sent ≡ news_to core.number (deps (answers core).actions f)
    → decided_action o ≡ f
    → weighed first.number (deps (answers first).actions f) f r
    ≡ (deciding first.number o (news_to first.number (deps (answers first).actions f))
    notes.Plain).did
    → ForEach objects (answers first) id (mail_on letter) (load_on letter)
    (λ history. IsOutcomeOf objects history (Some (mail_on letter)) o)
    → AreSame (answers core) (answers now) → (answers now).actions ≡ (answers core).actions
    → IsMadeDeciding core now id learnt o sent notes.Plain plan
    → IsPlanFor objects id letter first now plan
decides objects id letter first core now learnt f n agrees r o sent plan from body received in_time
    is letters of ruled_so outcome same acts made =
    decision_plan objects id letter first core now learnt o sent notes.Plain plan from
    (subst HasCounts (sym body) tt)
    (learnt_of letter first core now id learnt o sent notes.Plain plan received same acts made)
    (subst (λ (s : ℕ). IsMade now id learnt (deciding s o sent notes.Plain) plan)
    received.same.number made.made)
    rules outcome
    (λ new stay.
    decided_families objects (answers first) id (mail_on letter) (load_on letter) f n agrees o
    new.families body of
    (λ history through rep may. ap (λ (d : Did). d.deeds) (rules history through rep may)) stay)
  where
    rules : IsRuled objects (answers first) id (mail_on letter) (load_on letter)
        (deciding first.number o sent notes.Plain).did
    rules history through rep may =
        rule_weighed objects id letter first core learnt f n agrees r body received in_time is
        history through rep may
        ∙ ruled_so
        ∙ ap (λ (l : List Sent). (deciding first.number o l notes.Plain).did)
        (sym (sent_as letter first core learnt f sent received letters))

pub no_plan : (objects : List ObjectDecl) (id : LetterId) (letter : Letter) (first core now : Core)
    (learnt : Learnt) (f : Name) (n : ℕ) (agrees : Bool) (sent : List Sent) (plan : Plan)
    → (1 ≤ letter.from) × (letter.from ≤ 8) → letter.body ≡ bodies.Vote f n agrees
    → HasReceived letter first core learnt → false ≡ is_over core.count core.knowing.known f
    → voted.No ≡ voted_by (answers core).families (yes f letter.from n) agrees
    (deps (answers core).actions f)
    → sent ≡ news_to core.number (deps (answers core).actions f)
    → AreSame (answers core) (answers now) → (answers now).actions ≡ (answers core).actions
    → IsMadeDeciding core now id learnt (Aborted f) sent notes.Plain plan
    → IsPlanFor objects id letter first now plan
no_plan objects id letter first core now learnt f n agrees sent plan from body received in_time is
    letters same acts made =
    decides objects id letter first core now learnt f n agrees voted.No (Aborted f) sent plan from
    body received in_time is
    letters refl refl (λ history through rep may. tt) same acts made

pub all_plan : (objects : List ObjectDecl) (id : LetterId) (letter : Letter) (first core now : Core)
    (learnt : Learnt) (f : Name) (n : ℕ) (agrees : Bool) (counts : List ℕ) (sent : List Sent)
    (plan : Plan)
    → (1 ≤ letter.from) × (letter.from ≤ 8) → letter.body ≡ bodies.Vote f n agrees
    → HasReceived letter first core learnt → false ≡ is_over core.count core.knowing.known f
    → voted.All ≡ voted_by (answers core).families (yes f letter.from n) agrees
    (deps (answers core).actions f)
    → sent ≡ news_to core.number (deps (answers core).actions f)
    → counts ≡ deps (answers core).actions f
    → AreSame (answers core) (answers now) → (answers now).actions ≡ (answers core).actions
    → IsMadeDeciding core now id learnt (Committed f counts) sent notes.Plain plan
    → IsPlanFor objects id letter first now plan
all_plan objects id letter first core now learnt f n agrees counts sent plan from body received
    in_time is letters depends same acts made =
    decides objects id letter first core now learnt f n agrees voted.All (Committed f counts) sent
    plan from body received in_time
    is letters refl refl
    (λ history through rep may.
    subst (λ (ds : List ℕ). IsOutcomeOf objects history (Some (mail_on letter))
    (Committed f ds)) (sym counts_are)
    (top_is_learnt objects history (Some (mail_on letter)) old f rep
    (over_top core.count core f in_time)
    (subst (λ (y : Body). IsForNode objects first.number y) body may.for_node) present))
    same acts made
  where
    old : Node
    old = answers first

    counts_are : counts ≡ deps old.actions f
    counts_are = depends ∙ ap (λ (acts : Actions). deps acts f) received.actions

    present : home_count f ≡ first.count
    present =
        over_present first.count
        (knows_commit (with_load old.know (load_on letter)) f || knows_abort
        (with_load old.know (load_on letter)) f)
        (not (is_top f)) f (over_as letter first core learnt f false received in_time)

-- it may stand: a top action is no child
pub vote_may : (before core : Core) (present : ℕ) (id : LetterId) (learnt : Learnt) (o : Outcome)
    (f : Name)
    (sent : List Sent) (plan : Plan) → decided_action o ≡ f
    → false ≡ is_over present before.knowing.known f
    → IsMadeDeciding before core id learnt o sent notes.Plain plan → MayStand plan core
vote_may before core present id learnt o f sent plan of in_time made =
    deciding_may before core id learnt o sent notes.Plain plan
    (λ child. absurd (true≢false (sym (ap is_top of ∙ over_top present before f in_time) ∙ child)))
    made
