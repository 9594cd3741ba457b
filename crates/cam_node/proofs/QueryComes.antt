-- A query comes: what its home does is what its families answer, and that is planned.
use Rattle.std.proofs.Common.{◌≡◌, ◌≤◌, ℕ, Bool, true, false, if◌then◌else◌, List, [], refl, sym, ap, ◌∙◌, subst}
use Rattle.cam_names.specs.declared.name.Name.{Name}
use Rattle.cam_names.specs.Names.{is_top}
use Rattle.cam_names.specs.Dependencies.{has_pair}
use Rattle.cam_type.specs.declared.ObjectDecl.{ObjectDecl}
use Rattle.cam_know.specs.Knowledge.{Knowledge}
use Rattle.cam_know.specs.declared.Outcome.TheVariants.{Aborted}
use Rattle.cam_event.specs.declared.Body.{Body}
use Rattle.cam_event.specs.declared.Body.TheVariants as bodies
use Rattle.cam_event.specs.declared.Letter.{Letter}
use Rattle.cam_event.specs.declared.LetterId.{LetterId}
use Rattle.cam_event.specs.declared.Note.TheVariants as notes
use Rattle.cam_event.specs.declared.Sent.{Sent}
use Rattle.cam_event.specs.Sights.{Sight, yes_in}
use Rattle.cam_event.specs.Rules.{arrives, did, nothing_but, one, send}
use Rattle.cam_event.specs.ByDeltas.{Received}
use Rattle.cam_comman.specs.Letters.{load_on}
use Rattle.cam_tranman.specs.Keeping.{HasCounts}
use Rattle.cam_commit.specs.declared.Queried.{Queried}
use Rattle.cam_commit.specs.declared.Queried.TheVariants as queried
use Rattle.cam_commit.specs.Calls.{is_decided, queried_by, queried_of}
use Rattle.cam_commit.specs.Stepping.{concerns}
use Rattle.cam_commit.specs.Steps.{did_queried}
use Rattle.cam_commit.proofs.RuleCalls.{queried_is_rule}
use Rattle.cam_server.specs.Events.{decision}
use Rattle.cam_node.specs.declared.did.Doing.{Doing}
use Rattle.cam_node.specs.declared.learning.Learnt.{Learnt}
use Rattle.cam_node.specs.declared.plan.Plan.{Plan}
use Rattle.cam_node.specs.declared.state.Core.{Core}
use Rattle.cam_node.specs.Represents.{Represents}
use Rattle.cam_node.specs.AtHome.{IsNoVote}
use Rattle.cam_node.specs.Calls.{answers, mail_on, AreSame}
use Rattle.cam_node.specs.Lawful.{IsForNode, IsLetter}
use Rattle.cam_node.specs.Plans.{IsPlanFor}
use Rattle.cam_node.specs.Standing.{MayStand, deciding, just}
use Rattle.cam_node.specs.Planning.{HasReceived, IsMade, IsMadeDeciding}
use Rattle.cam_node.specs.Queried.{queried_after}
use Rattle.cam_node.proofs.ChildEnds.{families_stay}
use Rattle.cam_node.proofs.DecidePlans.{decision_plan}
use Rattle.cam_node.proofs.GoesOn.{GoesOn, knows_as, mute_plan, present_as, sight_with}
use Rattle.cam_node.proofs.HomePlans.{IsRuled}
use Rattle.cam_node.proofs.LetterPlans.{deciding_may, learnt_of}
use Rattle.cam_node.proofs.TopPlans.{top_may}

-- The rule by what the families answer, where the letter is of a top action.
query_ruled : (objects : List ObjectDecl) (history : List Received) (letter : Letter)
    (first core now : Core) (learnt : Learnt) (f : Name) (r : Queried)
    → letter.body ≡ bodies.Query f → GoesOn letter first core now learnt
    → Represents objects history (answers first) → is_top f ≡ true
    → r ≡ queried_after now.knowing.known f now.count
    → arrives objects (sight_with objects history letter first) letter.from letter.body
    ≡ did_queried (sight_with objects history letter first) letter.from f r
query_ruled objects history letter first core now learnt f r body goes rep top is =
    ap (arrives objects g letter.from) body
    ∙ queried_is_rule g letter.from f
    ∙ ap (did_queried g letter.from f)
    ((λ i. queried_by
    (is_decided (knows_as objects history letter first core now learnt goes rep i) f) f
    (present_as objects history letter first core now learnt goes rep i))
    ∙ ap
    (λ (b : Bool). if b then queried_of now.knowing.known f now.count else queried.StillOpen)
    (sym top)
    ∙ sym is)
  where
    g : Sight
    g = sight_with objects history letter first

-- the letter is of a top action
top_in : (objects : List ObjectDecl) (letter : Letter) (first : Core) (f : Name)
    → letter.body ≡ bodies.Query f
    → IsLetter objects first.number (mail_on letter) (load_on letter) → is_top f ≡ true
top_in objects letter first f body may =
    (subst (λ (y : Body). IsForNode objects first.number y) body may.for_node).1

no_vote : (letter : Letter) (f : Name) → letter.body ≡ bodies.Query f
    → IsNoVote (mail_on letter)
no_vote letter f body g m k = ap (λ (b : Body). has_pair (yes_in g letter.from b) m k) body

goes_as : (letter : Letter) (first core : Core) (learnt : Learnt)
    → HasReceived letter first core learnt → GoesOn letter first core core learnt
goes_as letter first core learnt received = record {
  received = received;
  knows = refl;
  same = received.same;
}

-- The home tells how the family ended;
pub told_plan : (objects : List ObjectDecl) (id : LetterId) (letter : Letter) (first core : Core)
    (learnt : Learnt) (f : Name) (sent : List Sent) (doing : Doing) (plan : Plan)
    → (1 ≤ letter.from) × (letter.from ≤ 8) → letter.body ≡ bodies.Query f
    → HasReceived letter first core learnt
    → queried.Tell ≡ queried_after core.knowing.known f core.count
    → sent ≡ one (send letter.from bodies.News) → doing ≡ just (did [] sent)
    → IsMade core id learnt doing plan
    → IsPlanFor objects id letter first core plan
told_plan objects id letter first core learnt f sent doing plan from body received is letters does
    made =
    mute_plan objects id letter first core core learnt (did [] (one (send letter.from bodies.News)))
    plan from (subst HasCounts (sym body) tt) (no_vote letter f body)
    (goes_as letter first core learnt received) refl (λ g. refl)
    (λ history through rep may.
    query_ruled objects history letter first core core learnt f queried.Tell body
    (goes_as letter first core learnt received) rep (top_in objects letter first f body may) is)
    (subst (λ (d : Doing). IsMade core id learnt d plan)
    (does ∙ ap (λ (l : List Sent). just (did [] l)) letters) made)

-- aborts it;
pub gone_plan : (objects : List ObjectDecl) (id : LetterId) (letter : Letter)
    (first core now : Core)
    (learnt : Learnt) (f : Name) (sent : List Sent) (plan : Plan)
    → (1 ≤ letter.from) × (letter.from ≤ 8) → letter.body ≡ bodies.Query f
    → HasReceived letter first core learnt
    → queried.Abort ≡ queried_after core.knowing.known f core.count
    → sent ≡ one (send letter.from bodies.News)
    → AreSame (answers core) (answers now) → (answers now).actions ≡ (answers core).actions
    → IsMadeDeciding core now id learnt (Aborted f) sent notes.Plain plan
    → IsPlanFor objects id letter first now plan
gone_plan objects id letter first core now learnt f sent plan from body received is letters same acts
    made =
    decision_plan objects id letter first core now learnt (Aborted f) sent notes.Plain plan from
    (subst HasCounts (sym body) tt)
    (learnt_of letter first core now id learnt (Aborted f) sent notes.Plain plan received same acts
    made)
    (subst (λ (s : ℕ). IsMade now id learnt (deciding s (Aborted f) sent notes.Plain) plan)
    received.same.number made.made)
    (subst (λ (l : List Sent). IsRuled objects (answers first) id (mail_on letter) (load_on letter)
    (record { deeds = decision first.number (Aborted f); sent = l; note = notes.Plain }))
    (sym letters)
    (λ history through rep may.
    query_ruled objects history letter first core core learnt f queried.Abort body
    (goes_as letter first core learnt received) rep (top_in objects letter first f body may) is))
    (λ history through rep may. tt)
    (λ new stay.
    families_stay objects (answers first) new id (mail_on letter) (load_on letter)
    (ap concerns body) stay)

-- or it is open.
pub open_plan : (objects : List ObjectDecl) (id : LetterId) (letter : Letter) (first core : Core)
    (learnt : Learnt) (f : Name) (doing : Doing) (plan : Plan)
    → (1 ≤ letter.from) × (letter.from ≤ 8) → letter.body ≡ bodies.Query f
    → HasReceived letter first core learnt
    → queried.StillOpen ≡ queried_after core.knowing.known f core.count
    → doing ≡ just (nothing_but notes.Late) → IsMade core id learnt doing plan
    → IsPlanFor objects id letter first core plan
open_plan objects id letter first core learnt f doing plan from body received is does made =
    mute_plan objects id letter first core core learnt (nothing_but notes.Late) plan from
    (subst HasCounts (sym body) tt) (no_vote letter f body)
    (goes_as letter first core learnt received) refl (λ g. refl)
    (λ history through rep may.
    query_ruled objects history letter first core core learnt f queried.StillOpen body
    (goes_as letter first core learnt received) rep (top_in objects letter first f body may) is)
    (subst (λ (d : Doing). IsMade core id learnt d plan) does made)

-- What is aborted is a top action, so it may stand.
gone_top : (k : Knowledge) (f : Name) (present : ℕ)
    → queried.Abort ≡ queried_after k f present → is_top f ≡ true
gone_top k f present is = by (is_top f) is
  where
    by : (b : Bool)
        → queried.Abort ≡ (if b then queried_of k f present else queried.StillOpen) → b ≡ true
    by true h = refl
    by false h = cc

pub gone_may : (before core : Core) (id : LetterId) (learnt : Learnt) (f : Name)
    (sent : List Sent) (plan : Plan)
    → queried.Abort ≡ queried_after before.knowing.known f before.count
    → IsMadeDeciding before core id learnt (Aborted f) sent notes.Plain plan → MayStand plan core
gone_may before core id learnt f sent plan is made =
    deciding_may before core id learnt (Aborted f) sent notes.Plain plan
    (top_may (Aborted f) core (gone_top before.knowing.known f before.count is)) made
