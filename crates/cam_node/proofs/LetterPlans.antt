-- Plans of letters: one by whose rule nothing happens but a note, and one by whose rule the node decides.
use Rattle.std.proofs.Common.{◌≡◌, ℕ, ◌≤◌, false, List, Option, refl, sym, ap, ◌∙◌, subst, arith}
use Rattle.cam_names.specs.declared.name.Name.{Name}
use Rattle.cam_names.specs.Dependencies.{pairs_of, has_pair}
use Rattle.cam_type.specs.declared.ObjectDecl.{ObjectDecl}
use Rattle.cam_know.specs.Orphans.{known_orphan}
use Rattle.cam_know.specs.declared.Outcome.{Outcome}
use Rattle.cam_know.specs.declared.Reason.{Reason}
use Rattle.cam_event.specs.declared.Body.{Body}
use Rattle.cam_event.specs.declared.Letter.{Letter}
use Rattle.cam_event.specs.declared.LetterId.{LetterId}
use Rattle.cam_event.specs.declared.Note.{Note}
use Rattle.cam_event.specs.declared.Sent.{Sent}
use Rattle.cam_event.specs.Sights.{is_preparing_note, yes_in}
use Rattle.cam_event.specs.Rules.{nothing_but}
use Rattle.cam_event.specs.Loads.{with_load}
use Rattle.cam_comman.specs.Letters.{load_on}
use Rattle.cam_tranman.specs.Actions.{deps}
use Rattle.cam_tranman.specs.Keeping.{HasCounts}
use Rattle.cam_node.specs.declared.learning.Learnt.{Learnt}
use Rattle.cam_node.specs.declared.plan.Change.{Change}
use Rattle.cam_node.specs.declared.plan.Plan.{Plan}
use Rattle.cam_node.specs.declared.state.Core.{Core}
use Rattle.cam_node.specs.Represents.{Node}
use Rattle.cam_node.specs.Calls.{answers, mail_on, AreSame}
use Rattle.cam_node.specs.AtHome.{IsNoVote}
use Rattle.cam_node.specs.Decides.{MayDecide}
use Rattle.cam_node.specs.Plans.{IsPlanFor}
use Rattle.cam_node.specs.Standing.{MayChange, MayStand, just}
use Rattle.cam_node.specs.Planning.{HasReceived, IsMade, IsMadeDeciding}
use Rattle.cam_node.proofs.HomePlans.{IsRuled}
use Rattle.cam_node.proofs.PlanMade.{home_plan}
use Rattle.cam_node.proofs.Unchanged.{same_on, unchanged}
use Rattle.cam_node.proofs.DecidePlans.{HasLearntOf}

-- A letter that is no vote, by whose rule nothing happens but a note that begins no family.
pub quiet_plan : (objects : List ObjectDecl) (id : LetterId) (letter : Letter) (first core : Core) (learnt : Learnt) (note : Note) (plan : Plan)
    → (1 ≤ letter.from) × (letter.from ≤ 8) → HasCounts letter.body → IsNoVote (mail_on letter)
    → ((f : Name) → is_preparing_note f note ≡ false) → HasReceived letter first core learnt
    → IsRuled objects (answers first) id (mail_on letter) (load_on letter) (nothing_but note)
    → IsMade core id learnt (just (nothing_but note)) plan
    → IsPlanFor objects id letter first core plan
quiet_plan objects id letter first core learnt note plan from counts vote begins received ruled made =
    home_plan objects id letter first core core learnt (just (nothing_but note)) plan from counts vote
    (record { alone = refl; begins = begins }) refl refl received refl received.same made ruled
    (λ new has.
    unchanged objects (answers first) (answers core) new id (mail_on letter) (load_on letter) learnt.heard core.knowing.known
    (nothing_but note) received.same refl has)

-- a letter whose body is no vote
pub no_vote_in : (letter : Letter) (body : Body) → letter.body ≡ body
    → ((f : Name) (m n : ℕ) → has_pair (yes_in f letter.from body) m n ≡ false)
    → IsNoVote (mail_on letter)
no_vote_in letter body is none = λ f m n. ap (λ (b : Body). has_pair (yes_in f letter.from b) m n) is ∙ none f m n

-- One that decides may stand.
pub deciding_may : (before core : Core) (id : LetterId) (learnt : Learnt) (o : Outcome) (sent : List Sent) (note : Note) (plan : Plan)
    → MayDecide o (answers core).actions → IsMadeDeciding before core id learnt o sent note plan
    → MayStand plan core
deciding_may before core id learnt o sent note plan may made = record {
  room = let room = made.room in omega (arith, room);
  within = made.within;
  change = subst (λ (c : Change). MayChange c plan.heard core) (sym made.made.change) (made.room, may);
}

-- A node answers as one that answers as the first.
pub same_then : (one two three : Node) → AreSame one two → AreSame two three → AreSame one three
same_then one two three first next = record {
  number = next.number ∙ first.number;
  count = next.count ∙ first.count;
  know = next.know ∙ first.know;
  places = next.places ∙ first.places;
  actions = same_on one.actions two.actions three.actions first.actions next.actions;
  families = record {
    preparing = λ f. next.families.preparing f ∙ first.families.preparing f;
    votes = λ f m c. next.families.votes f m c ∙ first.families.votes f m c;
    secured = λ f. next.families.secured f ∙ first.families.secured f;
  };
  server = record {
    count = next.server.count ∙ first.server.count;
    site = next.server.site ∙ first.server.site;
    replies = λ a n. next.server.replies a n ∙ first.server.replies a n;
  };
}

pub learnt_of : (letter : Letter) (first core now : Core) (id : LetterId) (learnt : Learnt) (o : Outcome) (sent : List Sent) (note : Note) (plan : Plan)
    → HasReceived letter first core learnt → AreSame (answers core) (answers now)
    → (answers now).actions ≡ (answers core).actions
    → IsMadeDeciding core now id learnt o sent note plan
    → HasLearntOf letter o first core now learnt
learnt_of letter first core now id learnt o sent note plan received same acts made = record {
  received = received;
  knows = made.knows;
  same = same_then (answers first) (answers core) (answers now) received.same same;
  acts = acts;
}

-- the same plan, of what the outcome, the letters and the note are
pub made_as : (before core : Core) (id : LetterId) (learnt : Learnt) (o p : Outcome) (sent more : List Sent) (note other : Note) (plan : Plan)
    → o ≡ p → sent ≡ more → note ≡ other → IsMadeDeciding before core id learnt o sent note plan
    → IsMadeDeciding before core id learnt p more other plan
made_as before core id learnt o p sent more note other plan same letters says made =
    subst (λ (q : Outcome). IsMadeDeciding before core id learnt q more other plan) same
    (subst (λ (l : List Sent). IsMadeDeciding before core id learnt o l other plan) letters
    (subst (λ (n : Note). IsMadeDeciding before core id learnt o sent n plan) says made))

-- The orphan test is the same by what the node answered before.
pub orphan_as : (letter : Letter) (first core : Core) (learnt : Learnt) (p : Name) (r : Option Reason)
    → HasReceived letter first core learnt
    → r ≡ known_orphan core.knowing.known p (pairs_of (deps (answers core).actions p))
    → r ≡ known_orphan (with_load (answers first).know (load_on letter)) p (pairs_of (deps (answers first).actions p))
orphan_as letter first core learnt p r received is =
    is ∙ (λ i. known_orphan (received.known i) p (pairs_of (deps (received.actions i) p)))
