-- What a node of a storm says of itself: by its own events, the newest first, with the letters that
-- they received and what those carried.
use Rattle.std.specs.Prelude.{◌≡◌, ℕ, ℤ, ◌+◌, true, if◌then◌else◌, List, [], ◌∷◌, ◌++◌, map, flat_map, length, Option, Some, None}
use Rattle.cam_names.specs.declared.name.Name.{Name}
use Rattle.cam_names.specs.Names.{is_child, home_node}
use Rattle.cam_know.specs.Known.{nothing}
use Rattle.cam_event.specs.declared.Event.{Event}
use Rattle.cam_event.specs.declared.Body.{Body}
use Rattle.cam_event.specs.declared.Body.TheVariants as bodies
use Rattle.cam_event.specs.declared.Want.{Want}
use Rattle.cam_event.specs.declared.Deed.{Deed}
use Rattle.cam_event.specs.declared.Deed.TheVariants.{Commit}
use Rattle.cam_event.specs.declared.ViewStep.{ViewStep}
use Rattle.cam_event.specs.Views.{committed_child, step_of}
use Rattle.cam_event.specs.Inputs.{Mail}
use Rattle.cam_event.specs.Refusals.{refusal}
use Rattle.cam_event.specs.Sights.{Sight}
use Rattle.cam_event.specs.Runs.{IsWant}
use Rattle.cam_event.specs.ByKnowledge.{held_sight}
use Rattle.cam_event.specs.ByDeltas.{Received, as_carried}
use Rattle.cam_body.specs.declared.Next.TheVariants as nexts
use Rattle.cam_body.specs.Work.{next as next_of_body}
use Rattle.cam_runs.specs.Running.{start}
use Rattle.cam_runs.specs.Playing.{may_go}
use Rattle.cam_gen.specs.Storms.{Words, objects_of, body_of}

-- the value on a finish
abbrev pub value_on : Body → Option ℤ
value_on (bodies.Finish b v counts) = Some v
value_on _ = None

abbrev pub finish_value : Option Mail → Option ℤ
finish_value None = None
finish_value (Some mail) = value_on mail.body

-- What a deed gives to the view of an action that runs here. A child that commits does so with the
-- value on the finish that came.
abbrev pub own_step : Option Mail → Name → Deed → List ViewStep
own_step mail a (Commit b) = if is_child a b then committed_child b (finish_value mail) else []
own_step mail a d = step_of [] d a

-- the view of an action that runs here
abbrev pub own_view : List Received → Name → List ViewStep
own_view [] a = []
own_view (c ∷ before) a = own_view before a ++ flat_map (own_step c.mail a) c.event.deeds

abbrev pub event_in : Received → Event
event_in c = c.event

-- how many letters the node has sent
abbrev pub own_sent : List Received → ℕ
own_sent [] = 0
own_sent (c ∷ before) = own_sent before + length c.event.sent

-- what the node goes by
abbrev pub sight_at : Words → ℕ → List Received → Sight
sight_at words s history = held_sight (objects_of words) s (map as_carried history) nothing

-- An action that runs here has a request: the next one of its body, by its view, where `play` would
-- let it make one.
pub record OwnDrives (words : Words) (s : ℕ) (history : List Received) (a : Name)
    (want : Want) : Type 0 where
  pub here : home_node a ≡ s
  pub may :
      may_go (sight_at words s history) (record start { trace = map event_in history }) a ≡ true
  pub next : next_of_body (body_of words a) (own_view history a) ≡ nexts.Request want

-- It may be put to the node: it is not refused, and in range. In the run of a storm each request
-- that an action has may be.
pub record OwnRequest (words : Words) (s : ℕ) (history : List Received) (a : Name)
    (want : Want) : Type 0 where
  pub drives : OwnDrives words s history a want
  pub allowed : refusal (sight_at words s history) a want ≡ None
  pub fits : IsWant (objects_of words) want
