-- What is made of a vote that is counted is its plan.
use Rattle.std.proofs.Common.{◌≡◌, ℕ, ◌≤◌, Bool, false, not, ◌&&◌, ◌||◌, if◌then◌else◌, List, [], ◌∷◌, Some, refl, sym, ap, ◌∙◌, subst}
use Rattle.std.specs.List.{list_all}
use Rattle.cam_names.specs.declared.name.Name.{Name}
use Rattle.cam_names.specs.Names.{name_eq}
use Rattle.cam_names.specs.Dependencies.{pairs_of}
use Rattle.cam_type.specs.declared.ObjectDecl.{ObjectDecl}
use Rattle.cam_event.specs.declared.Body.TheVariants as bodies
use Rattle.cam_event.specs.declared.Letter.{Letter}
use Rattle.cam_event.specs.declared.LetterId.{LetterId}
use Rattle.cam_event.specs.declared.Note.TheVariants as notes
use Rattle.cam_comman.specs.Letters.{load_on}
use Rattle.cam_tranman.specs.Actions.{Actions, deps}
use Rattle.cam_tranman.specs.Keeping.{HasCounts}
use Rattle.cam_commit.specs.declared.Voted.TheVariants as voted
use Rattle.cam_commit.specs.Families.{Families}
use Rattle.cam_commit.specs.Calls as commit
use Rattle.cam_commit.specs.Calls.{ends, has_with, yes, yes_eq, voted_by, IsVoted}
use Rattle.cam_node.specs.declared.did.Doing.{Doing}
use Rattle.cam_node.specs.declared.learning.Learnt.{Learnt}
use Rattle.cam_node.specs.declared.plan.Change.TheVariants as changes
use Rattle.cam_node.specs.declared.plan.Plan.{Plan}
use Rattle.cam_node.specs.declared.vote_arrives.Vote.{Vote}
use Rattle.cam_node.specs.declared.state.Core.{Core}
use Rattle.cam_node.specs.Represents.{Node}
use Rattle.cam_node.specs.Calls.{answers, mail_on, AreSame}
use Rattle.cam_node.specs.Plans.{IsPlanFor}
use Rattle.cam_node.specs.Standing.{HasLearnt, Stands, counting}
use Rattle.cam_node.specs.Planning.{HasReceived, IsMade}
use Rattle.cam_node.specs.Voting.{is_over}
use Rattle.cam_node.proofs.NotePlans.{note_plan}
use Rattle.cam_node.proofs.VoteFamilies.{GoOn, counted_families}
use Rattle.cam_node.proofs.VotePlans.{over_as, rule_weighed}

-- families that answer the same weigh and count alike
all_same : (one other : Families) (f : Name) (m n : ℕ) (ps : List (ℕ × ℕ))
    → commit.AreSame one other
    → list_all (λ p. has_with other (yes f m n) p.0 p.1) ps ≡ list_all
    (λ p. has_with one (yes f m n) p.0 p.1) ps
all_same one other f m n [] same = refl
all_same one other f m n (p ∷ ps) same =
    λ i. (yes_eq (yes f m n) (yes f p.0 p.1) || same.votes f p.0 p.1 i) && all_same one other f m n
    ps same i

weigh_same : (one other : Families) (f : Name) (m n : ℕ) (agrees : Bool) (counts : List ℕ)
    → commit.AreSame one other
    → voted_by other (yes f m n) agrees counts ≡ voted_by one (yes f m n) agrees counts
weigh_same one other f m n agrees counts same =
    λ i. if not (same.preparing f i) then voted.Late
    else if not agrees then voted.No
    else if all_same one other f m n (pairs_of counts) same i then voted.All
    else voted.Some

counts_same : (one other new : Families) (f : Name) (m n : ℕ) (agrees : Bool) (counts : List ℕ)
    → commit.AreSame one other
    → IsVoted (yes f m n) agrees (voted_by other (yes f m n) agrees counts) other new
    → IsVoted (yes f m n) agrees (voted_by one (yes f m n) agrees counts) one new
counts_same one other new f m n agrees counts same voted_so = record {
  preparing = λ g.
      voted_so.preparing g
      ∙ (λ i. if ends (weigh_same one other f m n agrees counts same i) && name_eq f g then false
      else same.preparing g i);
  votes = λ g k c.
      voted_so.votes g k c
      ∙ (λ i. (same.preparing f i && (agrees && yes_eq (yes f m n) (yes g k c))) || same.votes g k c
      i);
  secured = λ g. voted_so.secured g ∙ same.secured g;
}

pub counted_plan : (objects : List ObjectDecl) (id : LetterId) (letter : Letter)
    (first core now : Core)
    (learnt : Learnt) (vote : Vote) (doing : Doing) (plan : Plan)
    → (1 ≤ letter.from) × (letter.from ≤ 8)
    → letter.body ≡ bodies.Vote vote.family vote.count vote.yes → vote.node ≡ letter.from
    → vote.deps ≡ deps (answers core).actions vote.family
    → HasReceived letter first core learnt → now.knowing.known ≡ core.knowing.known
    → AreSame (answers first) (answers now)
    → false ≡ is_over core.count core.knowing.known vote.family
    → voted.Some
    ≡ voted_by (answers core).families (yes vote.family letter.from vote.count) vote.yes
    (deps (answers core).actions vote.family)
    → doing ≡ counting vote → IsMade now id learnt doing plan
    → IsPlanFor objects id letter first now plan
counted_plan objects id letter first core now learnt vote doing plan from body node depends received
    goes_on same in_time is does made =
    note_plan objects id letter first core now learnt notes.Voted (changes.Voted vote) plan from
    (subst HasCounts (sym body) tt) refl received goes_on same
    (subst (λ (d : Doing). IsMade now id learnt d plan) does made)
    (rule_weighed objects id letter first core learnt vote.family vote.count vote.yes voted.Some
    body received in_time is)
    (λ new at. (heard new at, counted new at))
  where
    old : Node
    old = answers first

    heard : (new : Node)
        → Stands (changes.Voted vote) (Some learnt.heard) now.knowing.known (answers now) new
        → HasLearnt (Some learnt.heard) now.knowing.known (answers now)
        (record new { families = (answers now).families })
    heard new at =
        subst (λ (x : Node). HasLearnt (Some learnt.heard) now.knowing.known (answers now)
        (record x { families = (answers now).families }))
        (sym at.2.rest)
        (record {
          number = at.1.number;
          count = at.1.count;
          know = at.1.know;
          places_are = at.1.places_are;
          actions = at.1.actions;
          families = refl;
          server = at.1.server;
        })

    counted : (new : Node)
        → Stands (changes.Voted vote) (Some learnt.heard) now.knowing.known (answers now) new
        → GoOn objects old id (mail_on letter) (load_on letter) new.families
    counted new at =
        counted_families objects old id (mail_on letter) (load_on letter) vote.family vote.count
        vote.yes new.families body
        (over_as letter first core learnt vote.family false received in_time)
        (counts_same old.families at.0.families new.families vote.family letter.from vote.count
        vote.yes
        (deps old.actions vote.family)
        (subst (commit.AreSame old.families) (sym at.1.families) same.families)
        (subst (λ (m : ℕ). IsVoted (yes vote.family m vote.count) vote.yes
        (voted_by at.0.families (yes vote.family m vote.count) vote.yes
        (deps old.actions vote.family)) at.0.families new.families) node
        (subst (λ (ds : List ℕ). IsVoted (yes vote.family vote.node vote.count) vote.yes
        (voted_by at.0.families (yes vote.family vote.node vote.count) vote.yes ds) at.0.families
        new.families)
        (depends ∙ ap (λ (acts : Actions). deps acts vote.family) received.actions) at.2.voted)))
