-- What a node knows and has noted, and how much of it stands while a step that has learnt something may still fail.
use Rattle.std.specs.Prelude.{◌≤◌, Bool, length, take, Option, Some, None}
use Rattle.cam_names.specs.Dependencies.{AreCounts}
use Rattle.cam_names.specs.declared.name.Name.{Name}
use Rattle.cam_names.specs.Names.{name_eq}
use Rattle.cam_know.specs.Knowledge.{Knowledge}
use Rattle.cam_know.specs.declared.Outcome.{Outcome}
use Rattle.cam_know.specs.declared.Outcome.TheVariants.{Aborted, Committed}
use Rattle.cam_event.specs.Loads.{PlacesFields}
use Rattle.cam_comman.specs.Letters.{IsWithin}
use Rattle.cam_node.specs.declared.knowing.Mark.{Mark}

-- what is known now, what of it stands, and what is noted
pub record KnowingView : Type 0 where
  pub known : Knowledge
  pub stands : Knowledge
  pub places : PlacesFields

-- All stands, or the first outcomes and the counts of a mark.
abbrev pub standing : Option Mark → Knowledge → Knowledge
standing None k = k
standing (Some mark) k = record { outcomes = take mark.outcomes k.outcomes; counts = mark.counts }

-- what a mark may be
abbrev pub IsMark : Option Mark → Knowledge → Type 0
IsMark None k = Unit {0}
IsMark (Some mark) k = (mark.outcomes ≤ length k.outcomes) × AreCounts 1 mark.counts

pub record IsKnowing (mark : Option Mark) (known : Knowledge) (places : PlacesFields) : Type 0 where
  pub marked : IsMark mark known
  pub within : IsWithin (standing mark known) places

-- whether it is the outcome of the action
abbrev pub is_outcome_of : Name → Outcome → Bool
is_outcome_of a (Aborted b) = name_eq a b
is_outcome_of a (Committed b counts) = name_eq a b
