-- What a plan adds to the entry may be written: nothing, or a decision.
use Rattle.std.proofs.Common.{List, Some, sym, subst}
use Rattle.cam_know.specs.declared.Outcome.{Outcome}
use Rattle.cam_know.specs.declared.Outcome.TheVariants.{Aborted, Committed}
use Rattle.cam_event.specs.declared.LetterId.{LetterId}
use Rattle.cam_event.specs.declared.Note.{Note}
use Rattle.cam_event.specs.declared.Sent.{Sent}
use Rattle.cam_recman.specs.Snapshot.{outcome_record}
use Rattle.cam_node.specs.declared.did.Doing.{Doing}
use Rattle.cam_node.specs.declared.learning.Learnt.{Learnt}
use Rattle.cam_node.specs.declared.plan.Plan.{Plan}
use Rattle.cam_node.specs.declared.state.Core.{Core}
use Rattle.cam_node.specs.Planned.{MayBeAdded}
use Rattle.cam_node.specs.Planning.{IsMade, IsMadeDeciding}

outcome_added : (o : Outcome) → MayBeAdded (Some (outcome_record o))
outcome_added (Aborted a) = (tt, tt)
outcome_added (Committed a counts) = (tt, tt)

pub made_adds : (core : Core) (id : LetterId) (learnt : Learnt) (doing : Doing) (plan : Plan)
    → IsMade core id learnt doing plan → MayBeAdded doing.adds → MayBeAdded plan.adds
made_adds core id learnt doing plan made may = subst MayBeAdded (sym made.adds) may

pub deciding_adds : (before core : Core) (id : LetterId) (learnt : Learnt) (o : Outcome)
    (sent : List Sent) (note : Note) (plan : Plan)
    → IsMadeDeciding before core id learnt o sent note plan → MayBeAdded plan.adds
deciding_adds before core id learnt o sent note plan made =
    subst MayBeAdded (sym made.made.adds) (outcome_added o)
