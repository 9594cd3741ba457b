-- What a child's home does when its start comes, by what is known and what its actions answer.
use Rattle.std.specs.Prelude.{ℕ, eqb, Bool, not, ◌&&◌, if◌then◌else◌, List, [], Option, Some, None}
use Rattle.cam_names.specs.declared.name.Name.{Name}
use Rattle.cam_names.specs.Names.{home_node, home_count}
use Rattle.cam_know.specs.Knowledge.{Knowledge}
use Rattle.cam_know.specs.Orphans.{known_orphan}
use Rattle.cam_know.specs.declared.Reason.{Reason}
use Rattle.cam_event.specs.declared.Body.TheVariants as bodies
use Rattle.cam_event.specs.declared.Deed.TheVariants.{Create}
use Rattle.cam_event.specs.declared.Note.TheVariants as notes
use Rattle.cam_event.specs.Rules.{answers, did, nothing_but, one, send, with_home}
use Rattle.cam_tranman.specs.Actions.{Actions, created}
use Rattle.cam_node.specs.declared.did.Doing.{Doing}
use Rattle.cam_node.specs.declared.plan.Change.TheVariants as changes
use Rattle.cam_node.specs.Standing.{just}

-- the node is its home, at the present count
abbrev pub may_start_by : Actions → Name → Bool
may_start_by actions b = eqb (home_node b) actions.node && eqb (home_count b) actions.count

-- An orphan is stopped, another is created.
abbrev pub created_or : Name → List ℕ → Option Reason → Doing
created_or b counts (Some reason) = just (nothing_but (notes.Stopped b reason))
created_or b counts None = record
    { did = did (one (Create b)) []; change = changes.Started b counts; adds = None }

-- One that is not of the present count is missed, and is quit; one that was created before is there
-- again.
abbrev pub started_by : Actions → Knowledge → ℕ → Name → List ℕ → Doing
started_by actions k from b counts =
    if not (may_start_by actions b) then just
    (answers notes.Missed (one (send from (bodies.Quit b))))
    else if created actions b then just (nothing_but notes.Again)
    else created_or b counts (known_orphan k b (with_home counts b))
