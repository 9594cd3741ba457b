-- What an action's home does when an answer comes, by what is known and what its actions answer.
use Rattle.std.specs.Prelude.{ℕ, not, if◌then◌else◌, [], Option, Some, None}
use Rattle.cam_names.specs.declared.name.Name.{Name}
use Rattle.cam_names.specs.Dependencies.{pairs_of}
use Rattle.cam_know.specs.Knowledge.{Knowledge}
use Rattle.cam_know.specs.Known.{known_count}
use Rattle.cam_know.specs.Orphans.{known_orphan}
use Rattle.cam_know.specs.declared.Reason.{Reason}
use Rattle.cam_event.specs.declared.Deed.TheVariants.{Got}
use Rattle.cam_event.specs.declared.Note.TheVariants as notes
use Rattle.cam_event.specs.declared.Reply.{Reply}
use Rattle.cam_event.specs.Rules.{did, nothing_but, one}
use Rattle.cam_tranman.specs.Actions.{Actions, deps}
use Rattle.cam_tranman.specs.Calls.{awaits_by, taken_by}
use Rattle.cam_tranman.specs.declared.call.OpenCall.{OpenCall}
use Rattle.cam_tranman.specs.declared.Taken.{Taken}
use Rattle.cam_tranman.specs.declared.Taken.TheVariants as taken
use Rattle.cam_node.specs.declared.did.Doing.{Doing}
use Rattle.cam_node.specs.declared.plan.Change.TheVariants as changes
use Rattle.cam_node.specs.Standing.{just}

abbrev pub late : Doing
late = just (nothing_but notes.Late)

-- It has got what it sees of the answer, where the count of the call's site is known so; or it sees
-- nothing.
abbrev pub got_or_late : Name → ℕ → Reply → ℕ → Taken → Doing
got_or_late a n reply known (taken.Got seen) = record
    { did = did (one (Got a n seen)) []; change = changes.Answered a n reply known; adds = None }
got_or_late a n reply known taken.Late = late

abbrev pub seen_by : Actions → Knowledge → Name → ℕ → Reply → Option OpenCall → Doing
seen_by actions k a n reply None = late
seen_by actions k a n reply (Some call) =
    got_or_late a n reply (known_count k call.site)
    (taken_by actions a n reply (known_count k call.site))

-- An action that is an orphan is stopped.
abbrev pub stopped_or : Name → Option Reason → Doing → Doing
stopped_or a (Some reason) other = just (nothing_but (notes.Stopped a reason))
stopped_or a None other = other

-- An answer that is not awaited is late.
abbrev pub answered_by : Actions → Knowledge → Name → ℕ → Reply → Doing
answered_by actions k a n reply =
    if not (awaits_by actions a n) then late
    else stopped_or a (known_orphan k a (pairs_of (deps actions a)))
    (seen_by actions k a n reply (actions.call a))
