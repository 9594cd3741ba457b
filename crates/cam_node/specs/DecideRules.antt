-- What a home does with a finish and a quit, by what it knows with the letter and what its parts
-- answer.
use Rattle.std.specs.Prelude.{◌≡◌, ℕ, ℤ, eqb, Bool, true, false, not, ◌||◌, if◌then◌else◌, List, [], ◌∷◌, map, filter, Option, Some, None}
use Rattle.cam_names.specs.declared.name.Name.{Name}
use Rattle.cam_names.specs.Names.{home_count}
use Rattle.cam_names.specs.Dependencies.{pairs_of}
use Rattle.cam_know.specs.Knowledge.{Knowledge}
use Rattle.cam_know.specs.Known.{knows_abort, knows_commit}
use Rattle.cam_know.specs.Orphans.{known_orphan}
use Rattle.cam_know.specs.declared.Outcome.{Outcome}
use Rattle.cam_know.specs.declared.Outcome.TheVariants.{Aborted, Committed}
use Rattle.cam_know.specs.declared.Reason.{Reason}
use Rattle.cam_event.specs.declared.Body.{Body}
use Rattle.cam_event.specs.declared.Body.TheVariants as bodies
use Rattle.cam_event.specs.declared.Deed.{Deed}
use Rattle.cam_event.specs.declared.Deed.TheVariants.{Commit, Abort, Inform}
use Rattle.cam_event.specs.declared.Note.{Note}
use Rattle.cam_event.specs.declared.Note.TheVariants as notes
use Rattle.cam_event.specs.declared.Sent.{Sent}
use Rattle.cam_event.specs.Rules.{Did, did, answers, nothing_but, send, stopped_by}
use Rattle.cam_tranman.specs.Actions.{Actions, deps}
use Rattle.cam_tranman.specs.Calls.{decides_by}
use Rattle.cam_commit.specs.Families.{Families}

-- a commit and an abort, each with the Inform of it at the node
abbrev pub commits_at : ℕ → Name → List Deed
commits_at s a = Commit a ∷ Inform s a true ∷ []

abbrev pub aborts_at : ℕ → Name → List Deed
aborts_at s a = Abort a ∷ Inform s a false ∷ []

-- A child is decided where its parent runs here and the child is open, unless the parent is an
-- orphan.
abbrev pub where_decided : Knowledge → Actions → Name → Name → Did → Did
where_decided k actions p b other =
    if not (decides_by actions b) then nothing_but notes.Late
    else stopped_by p (known_orphan k p (pairs_of (deps actions p))) other

-- A finish commits it, or aborts it for an orphan;
abbrev pub ended_by : ℕ → Name → Option Reason → Did
ended_by s b None = did (commits_at s b) []
ended_by s b (Some reason) = record { deeds = aborts_at s b; sent = []; note = notes.Stopped b reason }

abbrev pub child_finished : ℕ → Knowledge → Actions → Name → Name → List ℕ → Did
child_finished s k actions p b counts = where_decided k actions p b (ended_by s b (known_orphan k b (pairs_of counts)))

-- a quit aborts it.
abbrev pub child_quit : ℕ → Knowledge → Actions → Name → Name → Did
child_quit s k actions p b = where_decided k actions p b (did (aborts_at s b) [])

-- News goes to each other node on which a top action depends, and a Prepare to each node on which
-- it does, in order of nodes.
abbrev pub news_to : ℕ → List ℕ → List Sent
news_to s counts = map (λ p. send p.0 bodies.News) (filter (λ p. not (eqb p.0 s)) (pairs_of counts))

abbrev pub prepare_to : Name → List ℕ → List Sent
prepare_to a counts = map (λ p. send p.0 (bodies.Prepare a p.1)) (pairs_of counts)

-- A finish or a quit of a top action of another count, or whose outcome is known, is late.
abbrev pub is_closed : ℕ → Knowledge → Name → Bool
is_closed present k a = not (eqb (home_count a) present) || (knows_commit k a || knows_abort k a)

-- At its finish it is prepared, or aborted for an orphan. Once it is preparing that is late.
abbrev pub prepared_by : ℕ → List ℕ → Name → Option Reason → Did
prepared_by s counts a None = answers (notes.Preparing a) (prepare_to a counts)
prepared_by s counts a (Some reason) = record { deeds = aborts_at s a; sent = news_to s counts; note = notes.Stopped a reason }

abbrev pub finished_at : ℕ → Bool → Knowledge → List ℕ → Name → Did
finished_at s late k counts a = if late then nothing_but notes.Late else prepared_by s counts a (known_orphan k a (pairs_of counts))

abbrev pub top_finished : ℕ → ℕ → Knowledge → Actions → Families → Name → Did
top_finished s present k actions families a = finished_at s (is_closed present k a || families.is_preparing a) k (deps actions a) a

-- At its quit it is aborted, also where it is preparing.
abbrev pub quit_at : ℕ → Bool → List ℕ → Name → Did
quit_at s late counts a = if late then nothing_but notes.Late else did (aborts_at s a) (news_to s counts)

abbrev pub top_quit : ℕ → ℕ → Knowledge → Actions → Name → Did
top_quit s present k actions a = quit_at s (is_closed present k a) (deps actions a) a

-- the letter says that the action finishes, and depends on these
abbrev pub IsFinish : Name → List ℕ → Body → Type 0
IsFinish a counts body = (v : ℤ) × (body ≡ bodies.Finish a v counts)

-- what a finish decides, by whether the child is an orphan
abbrev pub outcome_of : Name → List ℕ → Option Reason → Outcome
outcome_of b counts None = Committed b counts
outcome_of b counts (Some reason) = Aborted b

abbrev pub note_of : Name → Option Reason → Note
note_of b None = notes.Plain
note_of b (Some reason) = notes.Stopped b reason
