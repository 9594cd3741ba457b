-- The tests of a vote and what its rule makes; what is made of a vote that is late is its plan.
use Rattle.std.proofs.Common.{inl, inr, ◌⊎◌, ◌≡◌, ℕ, ◌≤◌, Bool, true, false, not, if◌then◌else◌, List, refl, sym, ap, ◌∙◌, subst}
use Rattle.cam_names.specs.declared.name.Name.{Name}
use Rattle.cam_type.specs.declared.ObjectDecl.{ObjectDecl}
use Rattle.cam_event.specs.declared.Body.TheVariants as bodies
use Rattle.cam_event.specs.declared.Letter.{Letter}
use Rattle.cam_event.specs.declared.LetterId.{LetterId}
use Rattle.cam_event.specs.declared.Note.TheVariants as notes
use Rattle.cam_event.specs.Rules.{nothing_but}
use Rattle.cam_event.specs.Loads.{with_load}
use Rattle.cam_comman.specs.Letters.{load_on}
use Rattle.cam_tranman.specs.Actions.{deps}
use Rattle.cam_tranman.specs.Keeping.{HasCounts}
use Rattle.cam_commit.specs.declared.Voted.{Voted}
use Rattle.cam_commit.specs.declared.Voted.TheVariants as voted
use Rattle.cam_commit.specs.Families.{Families}
use Rattle.cam_commit.specs.Calls as commit
use Rattle.cam_commit.specs.Calls.{is_last, yes, voted_by}
use Rattle.cam_node.specs.declared.did.Doing.{Doing}
use Rattle.cam_node.specs.declared.learning.Learnt.{Learnt}
use Rattle.cam_node.specs.declared.plan.Change.TheVariants as changes
use Rattle.cam_node.specs.declared.plan.Plan.{Plan}
use Rattle.cam_node.specs.declared.state.Core.{Core}
use Rattle.cam_node.specs.Represents.{Node}
use Rattle.cam_node.specs.Calls.{answers, mail_on, AreSame}
use Rattle.cam_node.specs.Plans.{IsPlanFor}
use Rattle.cam_node.specs.Standing.{just}
use Rattle.cam_node.specs.Planning.{HasReceived, IsMade}
use Rattle.cam_node.specs.Voting.{is_over, voted_at, weighed}
use Rattle.cam_node.proofs.HomePlans.{IsRuled}
use Rattle.cam_node.proofs.NotePlans.{note_plan, StandsNoted}
use Rattle.cam_node.proofs.VoteFamilies.{late_families}
use Rattle.cam_node.proofs.VoteRule.{vote_is}

-- the tests of the home, as it answered before the letter was learnt
pub over_as : (letter : Letter) (first core : Core) (learnt : Learnt) (f : Name) (t : Bool)
    → HasReceived letter first core learnt → t ≡ is_over core.count core.knowing.known f
    → is_over first.count (with_load (answers first).know (load_on letter)) f ≡ t
over_as letter first core learnt f t received is =
    sym (is ∙ (λ i. is_over (received.same.count i) (received.known i) f))

weighed_as : (letter : Letter) (first core : Core) (learnt : Learnt) (f : Name) (n : ℕ)
    (agrees : Bool)
    (r : Voted) → HasReceived letter first core learnt
    → r ≡ voted_by (answers core).families (yes f letter.from n) agrees
    (deps (answers core).actions f)
    → voted_by (answers first).families (yes f letter.from n) agrees
    (deps (answers first).actions f) ≡ r
weighed_as letter first core learnt f n agrees r received is =
    sym (is ∙ (λ i. voted_by (received.families i) (yes f letter.from n) agrees
    (deps (received.actions i) f)))

-- a node that answers as another but for the room of its families
pub with_families : (old mid : Node) (families : Families) → AreSame old mid
    → commit.AreSame mid.families families → AreSame old (record mid { families = families })
with_families old mid families same room = record {
  number = same.number;
  count = same.count;
  know = same.know;
  places = same.places;
  actions = same.actions;
  families = record {
    preparing = λ f. room.preparing f ∙ same.families.preparing f;
    votes = λ f m c. room.votes f m c ∙ same.families.votes f m c;
    secured = λ f. room.secured f ∙ same.families.secured f;
  };
  server = same.server;
}

-- what the rule makes then
rule_late : (objects : List ObjectDecl) (id : LetterId) (letter : Letter) (first core : Core)
    (learnt : Learnt) (f : Name) (n : ℕ) (agrees : Bool) → letter.body ≡ bodies.Vote f n agrees
    → HasReceived letter first core learnt → true ≡ is_over core.count core.knowing.known f
    → IsRuled objects (answers first) id (mail_on letter) (load_on letter) (nothing_but notes.Late)
rule_late objects id letter first core learnt f n agrees body received over history through rep may
    =
    vote_is objects (answers first) id (mail_on letter) (load_on letter) f n agrees body history
    through rep may
    ∙ ap (λ (t : Bool). voted_at first.number t (deps (answers first).actions f)
    (answers first).families
    letter.from f n agrees) (over_as letter first core learnt f true received over)

pub rule_weighed : (objects : List ObjectDecl) (id : LetterId) (letter : Letter) (first core : Core)
    (learnt : Learnt) (f : Name) (n : ℕ) (agrees : Bool) (r : Voted)
    → letter.body ≡ bodies.Vote f n agrees
    → HasReceived letter first core learnt → false ≡ is_over core.count core.knowing.known f
    → r ≡ voted_by (answers core).families (yes f letter.from n) agrees
    (deps (answers core).actions f)
    → IsRuled objects (answers first) id (mail_on letter) (load_on letter)
    (weighed first.number (deps (answers first).actions f) f r)
rule_weighed objects id letter first core learnt f n agrees r body received in_time is history
    through rep may =
    vote_is objects (answers first) id (mail_on letter) (load_on letter) f n agrees body history
    through rep may
    ∙ ap (λ (t : Bool). voted_at first.number t (deps (answers first).actions f)
    (answers first).families
    letter.from f n agrees) (over_as letter first core learnt f false received in_time)
    ∙ ap (weighed first.number (deps (answers first).actions f) f)
    (weighed_as letter first core learnt f n agrees r received is)

-- the families stay
stays : (objects : List ObjectDecl) (id : LetterId) (letter : Letter) (first core : Core)
    (learnt : Learnt)
    (f : Name) (n : ℕ) (agrees : Bool) → letter.body ≡ bodies.Vote f n agrees
    → HasReceived letter first core learnt
    → (is_over first.count (with_load (answers first).know (load_on letter)) f ≡ true)
    ⊎ ((answers first).families.is_preparing f ≡ false)
    → StandsNoted objects id letter first core learnt changes.Nothing
stays objects id letter first core learnt f n agrees body received late new has = (
  record {
    number = has.number;
    count = has.count;
    know = has.know;
    places_are = has.places_are;
    actions = has.actions;
    families = refl;
    server = has.server;
  },
  late_families objects (answers first) id (mail_on letter) (load_on letter) f n agrees new.families
      body late
      (subst (commit.AreSame (answers first).families) (sym has.families) received.same.families),
)

pub over_plan : (objects : List ObjectDecl) (id : LetterId) (letter : Letter) (first core : Core)
    (learnt : Learnt) (f : Name) (n : ℕ) (agrees : Bool) (doing : Doing) (plan : Plan)
    → (1 ≤ letter.from) × (letter.from ≤ 8) → letter.body ≡ bodies.Vote f n agrees
    → HasReceived letter first core learnt → true ≡ is_over core.count core.knowing.known f
    → doing ≡ just (nothing_but notes.Late) → IsMade core id learnt doing plan
    → IsPlanFor objects id letter first core plan
over_plan objects id letter first core learnt f n agrees doing plan from body received over does
    made =
    note_plan objects id letter first core core learnt notes.Late changes.Nothing plan from
    (subst HasCounts (sym body) tt) refl received refl received.same
    (subst (λ (d : Doing). IsMade core id learnt d plan) does made)
    (rule_late objects id letter first core learnt f n agrees body received over)
    (stays objects id letter first core learnt f n agrees body received
    (inl (over_as letter first core learnt f true received over)))

-- a vote that is late by what the families answer is for one that is not being prepared
not_begun : (p agrees last : Bool)
    → (if not p then voted.Late else if not agrees then voted.No else if last then voted.All else
    voted.Some)
    ≡ voted.Late → p ≡ false
not_begun false agrees last is = refl
not_begun true false last is = cc
not_begun true true true is = cc
not_begun true true false is = cc

pub late_plan : (objects : List ObjectDecl) (id : LetterId) (letter : Letter) (first core : Core)
    (learnt : Learnt) (f : Name) (n : ℕ) (agrees : Bool) (doing : Doing) (plan : Plan)
    → (1 ≤ letter.from) × (letter.from ≤ 8) → letter.body ≡ bodies.Vote f n agrees
    → HasReceived letter first core learnt → false ≡ is_over core.count core.knowing.known f
    → voted.Late ≡ voted_by (answers core).families (yes f letter.from n) agrees
    (deps (answers core).actions f)
    → doing ≡ just (nothing_but notes.Late) → IsMade core id learnt doing plan
    → IsPlanFor objects id letter first core plan
late_plan objects id letter first core learnt f n agrees doing plan from body received in_time is
    does made =
    note_plan objects id letter first core core learnt notes.Late changes.Nothing plan from
    (subst HasCounts (sym body) tt) refl received refl received.same
    (subst (λ (d : Doing). IsMade core id learnt d plan) does made)
    (rule_weighed objects id letter first core learnt f n agrees voted.Late body received in_time
    is)
    (stays objects id letter first core learnt f n agrees body received
    (inr (not_begun ((answers first).families.is_preparing f) agrees
    (is_last (answers first).families (yes f letter.from n) (deps (answers first).actions f))
    (weighed_as letter first core learnt f n agrees voted.Late received is))))
