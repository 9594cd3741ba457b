-- The calls are the rules: what a node does with a finish or a quit of a top action, with a
-- prepare, a vote or a query follows from what the families answer; and which kind each event of a
-- node is.
use Rattle.std.specs.Prelude.{◌≡◌, ℕ, ℤ, Bool, true, false, not, ◌||◌, if◌then◌else◌, List, []}
use Rattle.std.specs.Prelude.{Option, Some, None, unwrap_or}
use Rattle.std.specs.List.{list_any}
use Rattle.cam_names.specs.declared.name.Name.{Name}
use Rattle.cam_names.specs.Names.{name_eq, is_top}
use Rattle.cam_names.specs.Dependencies.{pairs_of, has_pair}
use Rattle.cam_type.specs.declared.ObjectDecl.{ObjectDecl}
use Rattle.cam_know.specs.Knowledge.{Knowledge}
use Rattle.cam_event.specs.declared.Body.{Body}
use Rattle.cam_event.specs.declared.Body.TheVariants as bodies
use Rattle.cam_event.specs.declared.Deed.TheVariants.{Secure}
use Rattle.cam_event.specs.declared.Note.TheVariants as notes
use Rattle.cam_event.specs.History.{secured_at, is_secure_at}
use Rattle.cam_event.specs.Inputs.{Input, Receives, Restarts, Mail}
use Rattle.cam_event.specs.Sights.{Sight, votes, present, is_present, is_preparing}
use Rattle.cam_event.specs.Sights.{is_preparing_note, knows_outcome}
use Rattle.cam_event.specs.Rules.{Did, did, one, send, answers, nothing_but, commits, aborts, news}
use Rattle.cam_event.specs.Rules.{prepares, vote, prepare_comes, vote_comes, query_comes, arrives}
use Rattle.cam_event.specs.ByKnowledge.{held_sight}
use Rattle.cam_event.specs.Carried.{Carried}
use Rattle.cam_event.specs.NextStep.{stepped}
use Rattle.cam_commit.specs.declared.Voted.{Voted}
use Rattle.cam_commit.specs.declared.Voted.TheVariants as voted
use Rattle.cam_commit.specs.declared.Asked.{Asked}
use Rattle.cam_commit.specs.declared.Asked.TheVariants as asked
use Rattle.cam_commit.specs.declared.Queried.{Queried}
use Rattle.cam_commit.specs.declared.Queried.TheVariants as queried
use Rattle.cam_commit.specs.Families.{Families, CommitsFamilies}
use Rattle.cam_commit.specs.Calls.{yes, voted_by, asked_by, queried_by}
use Rattle.cam_commit.specs.Events.{is_restart, is_elsewhere}

-- The families answer as what the node goes by, of one family: whether it is preparing, its votes,
-- and whether it is secured here;
pub record AnswersOf (g : Sight) (f : Name) (families : Families) : Type 0 where
  pub preparing : families.is_preparing f ≡ is_preparing g f
  pub voted : (m c : ℕ) → families.has_vote f m c ≡ has_pair (unwrap_or (votes g.events f) []) m c
  pub secured : families.is_secured f ≡ secured_at g.deeds f g.node

-- and of each family whose outcome it does not know.
abbrev pub AnswersSight : Sight → Families → Type 0
AnswersSight g families = (f : Name) → knows_outcome g f ≡ false → AnswersOf g f families

-- Families that answer as a node's history does answer as what the node goes by, whatever a letter
-- brings.
abbrev pub SightIsAnswered : Type 0
SightIsAnswered =
    (objects : List ObjectDecl) (s : ℕ) (before : List Carried) (brought : Knowledge)
    (families : Families)
    → CommitsFamilies objects s before families
    → AnswersSight (held_sight objects s before brought) families

-- A home hears of a family late where it is of another count than the present one, or its outcome
-- is known.
abbrev pub is_late : Sight → Name → Bool
is_late g f = not (is_present g f) || knows_outcome g f

-- A top action finishes: it is prepared at each node on which it depends, or is aborted for an
-- orphan. Once it is preparing that is late.
abbrev pub did_finish : Sight → Families → Name → Did
did_finish g families f =
    if is_late g f || families.is_preparing f then nothing_but notes.Late
    else prepares g f (g.orphan f (pairs_of (g.deps f)))

abbrev pub TopFinishIsRule : Type 0
TopFinishIsRule =
    (objects : List ObjectDecl) (g : Sight) (families : Families) (from : ℕ) (f : Name) (v : ℤ)
    (counts : List ℕ)
    → is_top f ≡ true → AnswersSight g families
    → arrives objects g from (bodies.Finish f v counts) ≡ did_finish g families f

-- A top action quits: it is aborted, also where it is preparing.
abbrev pub did_quit : Sight → Name → Did
did_quit g f = if is_late g f then nothing_but notes.Late else did (aborts g f) (news g f)

abbrev pub TopQuitIsRule : Type 0
TopQuitIsRule =
    (objects : List ObjectDecl) (g : Sight) (from : ℕ) (f : Name)
    → is_top f ≡ true → arrives objects g from (bodies.Quit f) ≡ did_quit g f

-- what a site does by its answer to a prepare
abbrev pub did_asked : Sight → Name → ℕ → Asked → Did
did_asked g f c asked.Late = nothing_but notes.Late
did_asked g f c asked.AlreadyYes = answers notes.Again (vote f c true)
did_asked g f c asked.Refuse = answers notes.Missed (vote f c false)
did_asked g f c asked.Secure = did (one (Secure f g.node c)) (vote f c true)

abbrev pub AskedIsRule : Type 0
AskedIsRule =
    (g : Sight) (families : Families) (f : Name) (c : ℕ) → AnswersSight g families
    → prepare_comes g f c ≡ did_asked g f c (asked_by (knows_outcome g f) (families.is_secured f) c
    (present g))

-- what a home does by what a vote makes of the family
abbrev pub did_voted : Sight → Name → Voted → Did
did_voted g f voted.Late = nothing_but notes.Late
did_voted g f voted.No = did (aborts g f) (news g f)
did_voted g f voted.All = did (commits g f) (news g f)
did_voted g f voted.Some = nothing_but notes.Voted

-- The families are asked of a vote only where it is not late.
abbrev pub did_vote : Sight → Families → ℕ → Name → ℕ → Bool → Did
did_vote g families from f c agrees =
    if is_late g f then nothing_but notes.Late
    else did_voted g f (voted_by families (yes f from c) agrees (g.deps f))

abbrev pub VotedIsRule : Type 0
VotedIsRule =
    (g : Sight) (families : Families) (from : ℕ) (f : Name) (c : ℕ) (agrees : Bool)
    → AnswersSight g families
    → vote_comes g from f c agrees ≡ did_vote g families from f c agrees

-- what a home does by its answer to a query
abbrev pub did_queried : Sight → ℕ → Name → Queried → Did
did_queried g from f queried.Tell = did [] (one (send from bodies.News))
did_queried g from f queried.Abort = did (aborts g f) (one (send from bodies.News))
did_queried g from f queried.StillOpen = nothing_but notes.Late

abbrev pub QueriedIsRule : Type 0
QueriedIsRule = (g : Sight) (from : ℕ) (f : Name)
    → query_comes g from f ≡ did_queried g from f (queried_by (knows_outcome g f) f (present g))

-- the input is a restart
abbrev pub is_restarting : Input → Bool
is_restarting (Restarts m) = true
is_restarting _ = false

-- the body is the finish of this action, or asks to secure this family
abbrev pub is_finish_of : Name → Body → Bool
is_finish_of f (bodies.Finish b v counts) = name_eq f b
is_finish_of f _ = false

abbrev pub is_prepare_of : Name → Body → Bool
is_prepare_of f (bodies.Prepare b c) = name_eq f b
is_prepare_of f _ = false

-- the input brings a letter with such a body
abbrev pub is_mail : (Body → Bool) → Option Mail → Bool
is_mail test None = false
is_mail test (Some mail) = test mail.body

abbrev pub brings : (Body → Bool) → Input → Option Mail → Bool
brings test (Receives letter) mail = is_mail test mail
brings test _ mail = false

-- Of which kind an event of a node is: only a restart crashes it, only a finish of a family begins
-- it, only a prepare secures it; and a node's Secures are its own.
pub record IsOfKind (s : ℕ) (input : Input) (c : Carried) : Type 0 where
  pub restarts : is_restart c ≡ is_restarting input
  pub begins : (f : Name) → is_preparing_note f c.event.note ≡ true
      → brings (is_finish_of f) input c.mail ≡ true
  pub secures : (f : Name) → list_any (is_secure_at f s) c.event.deeds ≡ true
      → brings (is_prepare_of f) input c.mail ≡ true
  pub own : list_any (is_elsewhere s) c.event.deeds ≡ false

abbrev pub StepsAreOfKind : Type 0
StepsAreOfKind =
    (objects : List ObjectDecl) (s : ℕ) (before : List Carried) (input : Input) (mail : Option Mail)
    (brought : Knowledge)
    → IsOfKind s input (stepped objects s before input mail brought)
