-- One more step of a node, by the letter that comes: which call makes the families answer as the
-- longer history does.
use Rattle.std.specs.Prelude.{◌≡◌, ℕ, ℤ, Bool, true, false, not, ◌&&◌, ◌||◌, List, ◌∷◌, map, Option}
use Rattle.std.specs.Prelude.{Some, is_some}
use Rattle.cam_names.specs.declared.name.Name.{Name}
use Rattle.cam_names.specs.Names.{is_top, parent, home_count}
use Rattle.cam_names.specs.Dependencies.{pairs_of}
use Rattle.cam_type.specs.declared.ObjectDecl.{ObjectDecl}
use Rattle.cam_know.specs.Knowledge.{Knowledge}
use Rattle.cam_event.specs.declared.Body.{Body}
use Rattle.cam_event.specs.declared.Body.TheVariants as bodies
use Rattle.cam_event.specs.declared.LetterId.{LetterId}
use Rattle.cam_event.specs.History.{count}
use Rattle.cam_event.specs.Inputs.{Input, Receives, Mail}
use Rattle.cam_event.specs.Sights.{Sight, votes, present, knows_outcome}
use Rattle.cam_event.specs.ByKnowledge.{held_sight}
use Rattle.cam_event.specs.Carried.{Carried, entry_of, deeds_of}
use Rattle.cam_event.specs.NextStep.{stepped}
use Rattle.cam_commit.specs.declared.Asked.{Asked}
use Rattle.cam_commit.specs.declared.Asked.TheVariants as asked
use Rattle.cam_commit.specs.Families.{Families, CommitsFamilies}
use Rattle.cam_commit.specs.Calls.{yes, AreSame, IsPrepared, IsSecured, IsVoted, voted_by, asked_by}
use Rattle.cam_commit.specs.Steps.{is_late, is_restarting, is_mail}

-- What a node is preparing is of its present count.
abbrev pub ArePresent : ℕ → List Carried → Type 0
ArePresent s before = (f : Name) → is_some (votes (map entry_of before) f) ≡ true
    → home_count f ≡ count (deeds_of before) s

-- the event of a letter that comes
abbrev pub received : List ObjectDecl → ℕ → List Carried → LetterId → Mail → Knowledge → Carried
received objects s before letter mail brought =
    stepped objects s before (Receives letter) (Some mail) brought

-- A letter that does not concern the families is no finish of a top action, no prepare and no vote.
-- Without one nothing does but a restart.
abbrev pub concerns : Body → Bool
concerns (bodies.Finish f v counts) = not (is_some (parent f))
concerns (bodies.Prepare f n) = true
concerns (bodies.Vote f n agrees) = true
concerns _ = false

abbrev pub OtherStepKeeps : Type 0
OtherStepKeeps =
    (objects : List ObjectDecl) (s : ℕ) (before : List Carried) (input : Input) (mail : Option Mail)
    (brought : Knowledge)
    (old new : Families)
    → is_restarting input ≡ false → is_mail concerns mail ≡ false → AreSame old new
    → CommitsFamilies objects s before old
    → CommitsFamilies objects s (stepped objects s before input mail brought ∷ before) new

-- A vote comes. Where it is late, as one for a family of another count is, the families stay as
-- they are; else they count it.
pub record TakesVote (g : Sight) (from : ℕ) (f : Name) (n : ℕ) (agrees : Bool)
    (old new : Families) : Type 0 where
  pub late : is_late g f ≡ true → AreSame old new
  pub in_time :
      is_late g f ≡ false → IsVoted (yes f from n) agrees
      (voted_by old (yes f from n) agrees (g.deps f)) old new

abbrev pub VoteStepKeeps : Type 0
VoteStepKeeps =
    (objects : List ObjectDecl) (s : ℕ) (before : List Carried) (letter : LetterId) (mail : Mail)
    (brought : Knowledge)
    (f : Name) (n : ℕ) (agrees : Bool) (old new : Families)
    → mail.body ≡ bodies.Vote f n agrees → ArePresent s before
    → TakesVote (held_sight objects s before brought) mail.from f n agrees old new
    → CommitsFamilies objects s before old
    → CommitsFamilies objects s (received objects s before letter mail brought ∷ before) new

-- A prepare comes. The family is secured where the answer is so.
abbrev pub TakesPrepare : Name → Asked → Families → Families → Type 0
TakesPrepare f asked.Secure old new = IsSecured f old new
TakesPrepare f asked.AlreadyYes old new = AreSame old new
TakesPrepare f asked.Refuse old new = AreSame old new
TakesPrepare f asked.Late old new = AreSame old new

-- the answer, by what the node goes by
abbrev pub asked_at : Sight → Families → Name → ℕ → Asked
asked_at g families f n = asked_by (knows_outcome g f) (families.is_secured f) n (present g)

abbrev pub PrepareStepKeeps : Type 0
PrepareStepKeeps =
    (objects : List ObjectDecl) (s : ℕ) (before : List Carried) (letter : LetterId) (mail : Mail)
    (brought : Knowledge)
    (f : Name) (n : ℕ) (old new : Families)
    → mail.body ≡ bodies.Prepare f n
    → TakesPrepare f (asked_at (held_sight objects s before brought) old f n) old new
    → CommitsFamilies objects s before old
    → CommitsFamilies objects s (received objects s before letter mail brought ∷ before) new

-- A finish of a top action comes. It begins the family where it is not late, and the action is not
-- preparing and no orphan.
abbrev pub is_begun : Sight → Families → Name → Bool
is_begun g families f = not (is_late g f || families.is_preparing f)
    && not (is_some (g.orphan f (pairs_of (g.deps f))))

pub record TakesFinish (g : Sight) (f : Name) (old new : Families) : Type 0 where
  pub begun : is_begun g old f ≡ true → IsPrepared f old new
  pub other : is_begun g old f ≡ false → AreSame old new

abbrev pub FinishStepKeeps : Type 0
FinishStepKeeps =
    (objects : List ObjectDecl) (s : ℕ) (before : List Carried) (letter : LetterId) (mail : Mail)
    (brought : Knowledge)
    (f : Name) (v : ℤ) (counts : List ℕ) (old new : Families)
    → mail.body ≡ bodies.Finish f v counts → is_top f ≡ true
    → TakesFinish (held_sight objects s before brought) f old new
    → CommitsFamilies objects s before old
    → CommitsFamilies objects s (received objects s before letter mail brought ∷ before) new
