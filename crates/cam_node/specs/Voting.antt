-- What a family's home does when a vote comes, by what it knows with the letter and what its
-- families
-- and actions answer.
use Rattle.std.specs.Prelude.{◌≡◌, ℕ, Bool, not, ◌||◌, if◌then◌else◌, List}
use Rattle.cam_names.specs.declared.name.Name.{Name}
use Rattle.cam_names.specs.Names.{is_top}
use Rattle.cam_know.specs.Knowledge.{Knowledge}
use Rattle.cam_event.specs.declared.Note.TheVariants as notes
use Rattle.cam_event.specs.Rules.{Did, did, nothing_but}
use Rattle.cam_commit.specs.declared.Voted.{Voted}
use Rattle.cam_commit.specs.declared.Voted.TheVariants as voted
use Rattle.cam_commit.specs.declared.Yes.{Yes}
use Rattle.cam_commit.specs.Families.{Families}
use Rattle.cam_commit.specs.Calls.{yes, voted_by, IsVoted}
use Rattle.cam_node.specs.DecideRules.{aborts_at, commits_at, is_closed, news_to}
use Rattle.cam_node.specs.Represents.{Node}

-- The first no aborts, the last yes commits; another yes is counted.
abbrev pub weighed : ℕ → List ℕ → Name → Voted → Did
weighed s counts f voted.Late = nothing_but notes.Late
weighed s counts f voted.Some = nothing_but notes.Voted
weighed s counts f voted.No = did (aborts_at s f) (news_to s counts)
weighed s counts f voted.All = did (commits_at s f) (news_to s counts)

-- A vote for a family of another count, or whose outcome is known, or that is no top action, is
-- late.
abbrev pub is_over : ℕ → Knowledge → Name → Bool
is_over present k f = is_closed present k f || not (is_top f)

abbrev pub voted_at : ℕ → Bool → List ℕ → Families → ℕ → Name → ℕ → Bool → Did
voted_at s over counts families from f n agrees =
    if over then nothing_but notes.Late
    else weighed s counts f (voted_by families (yes f from n) agrees counts)

-- The families have counted a vote, and all else is as it was.
pub record HasCounted (v : Yes) (agrees : Bool) (counts : List ℕ) (old new : Node) : Type 0 where
  pub rest : new ≡ record old { families = new.families }
  pub voted : IsVoted v agrees (voted_by old.families v agrees counts) old.families new.families
