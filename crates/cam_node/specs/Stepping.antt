-- What a node must be after a step, part by part, so that it stands for the longer history:
-- whatever the step is, but a restart.
use Rattle.std.specs.Prelude.{◌≡◌, ℕ, false, List, ◌∷◌, map, length, Option, Some, None}
use Rattle.cam_names.specs.Dependencies.{AreCounts}
use Rattle.cam_type.specs.declared.ObjectDecl.{ObjectDecl}
use Rattle.cam_know.specs.Knowledge.{Knowledge}
use Rattle.cam_know.specs.Known.{nothing, news}
use Rattle.cam_know.specs.Order.{told_in_order}
use Rattle.cam_event.specs.Inputs.{Input, Mail}
use Rattle.cam_event.specs.Sights.{Sight}
use Rattle.cam_event.specs.ByKnowledge.{held_sight, learned_by}
use Rattle.cam_event.specs.Carried.{Carried}
use Rattle.cam_event.specs.Loads.{Load, no_load, PlacesFields, noted_at, with_load}
use Rattle.cam_event.specs.ByDeltas.{Received, as_carried}
use Rattle.cam_tranman.specs.Orderly.{IsOrderly, MayBeAsked}
use Rattle.cam_tranman.specs.Keeping.{MailHasCounts, home_deeds, after_deeds}
use Rattle.cam_tranman.specs.Calls as tranman
use Rattle.cam_commit.specs.Families.{CommitsFamilies}
use Rattle.cam_commit.specs.Steps.{is_restarting}
use Rattle.cam_server.specs.Server.{ServesSite}
use Rattle.cam_node.specs.Represents.{Node, Represents}
use Rattle.cam_node.specs.Learning.{stepped, ruled, IsSentByNode}

-- what is known with what the letter tells, and noted with its places, where one came
abbrev pub known_with : Option Mail → Load → Knowledge → Knowledge
known_with None load k = k
known_with (Some mail) load k = with_load k load

abbrev pub noted_with : Option Mail → Load → Node → PlacesFields
noted_with None load node = node.places
noted_with (Some mail) load node = noted_at node.number (length (with_load node.know load).outcomes) node.places mail.from load

-- what the letter brought, where one came
abbrev pub news_with : Option Mail → Load → Knowledge → Knowledge
news_with None load k = nothing
news_with (Some mail) load k = news (with_load k load) k

-- Where no letter came, none tells anything.
abbrev pub IsCarried : Option Mail → Load → Knowledge → Type 0
IsCarried None load k = (load ≡ no_load) × AreCounts 1 k.counts
IsCarried (Some mail) load k = Unit {0}

-- the longer history, as the parts see it
abbrev pub longer : List ObjectDecl → ℕ → List Received → Input → Option Mail → Load → List Carried
longer objects s history input mail load = map as_carried (stepped objects s history input mail load ∷ history)

-- what the node goes by before a letter is learnt
abbrev pub sight_before : List ObjectDecl → ℕ → List Received → Sight
sight_before objects s history = held_sight objects s (map as_carried history) nothing

-- The node did what the step does: it knows what the deeds teach, has noted the places, its actions
-- did what the deeds do, and its families
-- and its server answer as the longer history does.
pub record HasStepped (objects : List ObjectDecl) (history : List Received) (input : Input) (mail : Option Mail) (load : Load) (old new : Node) : Type 0 where
  pub number : new.number ≡ old.number
  pub count : new.count ≡ old.count
  pub know :
      new.know
      ≡ learned_by objects (map as_carried history) mail (known_with mail load old.know) (ruled objects old.number history input mail load)
  pub noted : new.places ≡ noted_with mail load old
  pub actions :
      tranman.AreSame
      (after_deeds objects mail (home_deeds objects old.number (map as_carried history) input mail (told_in_order load.know)) old.actions)
      new.actions
  pub families : CommitsFamilies objects old.number (longer objects old.number history input mail load) new.families
  pub server : ServesSite objects old.number (longer objects old.number history input mail load) new.server

-- THE LAW. After a step, which is no restart, the node stands for the longer history.
abbrev pub StepStands : Type 0
StepStands =
    (objects : List ObjectDecl) (history : List Received) (input : Input) (mail : Option Mail) (load : Load) (old new : Node)
    → is_restarting input ≡ false → IsCarried mail load old.know → MailHasCounts mail
    → IsSentByNode mail
    → IsOrderly old.number (map as_carried history)
    → MayBeAsked old.number (sight_before objects old.number history) input mail
    → HasStepped objects history input mail load old new → Represents objects history old
    → Represents objects (stepped objects old.number history input mail load ∷ history) new
