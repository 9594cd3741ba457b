-- What holds of each node's history, and is kept by each step: that what its deeds are of is in
-- order.
use Rattle.std.specs.Prelude.{◌≡◌, ℕ, eqb, nat_lt, Bool, true, false, ◌&&◌, List, [], ◌∷◌, map}
use Rattle.std.specs.Prelude.{Option, Some, None, is_some}
use Rattle.std.specs.List.{list_any}
use Rattle.std.specs.Option.{option_map_or}
use Rattle.cam_names.specs.declared.name.Name.{Name}
use Rattle.cam_names.specs.Names.{is_top, parent, last_part, home_node, home_count}
use Rattle.cam_type.specs.declared.ObjectDecl.{ObjectDecl}
use Rattle.cam_know.specs.Knowledge.{Knowledge}
use Rattle.cam_know.specs.Known.{nothing}
use Rattle.cam_event.specs.declared.Body.{Body}
use Rattle.cam_event.specs.declared.Body.TheVariants as bodies
use Rattle.cam_event.specs.declared.Deed.{Deed}
use Rattle.cam_event.specs.declared.Deed.TheVariants.{Create, Ask, Call, Got, AskCommit, AskAbort}
use Rattle.cam_event.specs.declared.Deed.TheVariants.{Commit}
use Rattle.cam_event.specs.History as history
use Rattle.cam_event.specs.History.{is_ask_of}
use Rattle.cam_event.specs.Inputs.{Input, Begins, Requests, Receives, Tells, Queries, Restarts}
use Rattle.cam_event.specs.Inputs.{Mail, decider}
use Rattle.cam_event.specs.Sights.{Sight, votes}
use Rattle.cam_event.specs.Refusals.{refusal}
use Rattle.cam_event.specs.Taken.{taken_of}
use Rattle.cam_event.specs.ByKnowledge.{held_sight}
use Rattle.cam_event.specs.Carried.{Carried, entry_of, deeds_of}
use Rattle.cam_event.specs.NextStep.{stepped}

-- the action to which a deed gives something, at that action's home
abbrev pub subject : Deed → Option Name
subject (Create a) = Some a
subject (Ask a b) = Some a
subject (Call a n x op c) = Some a
subject (Got a n seen) = Some a
subject (AskCommit a v) = Some a
subject (AskAbort a) = Some a
subject (Commit b) = parent b
subject _ = None

-- The action's home is this node, at a count that is later than this one.
abbrev pub is_later : ℕ → ℕ → Name → Bool
is_later s c a = eqb (home_node a) s && nat_lt c (home_count a)

abbrev pub is_of_later : ℕ → ℕ → Deed → Bool
is_of_later s c d = option_map_or (is_later s c) (subject d) false

-- the creation of a top action of this node and count, whose number is above n
abbrev pub is_numbered_above : ℕ → ℕ → ℕ → Deed → Bool
is_numbered_above s c n (Create a) = is_top a && eqb (home_node a) s && eqb (home_count a) c
    && nat_lt n (last_part a).number
is_numbered_above s c n _ = false

abbrev pub present_count : ℕ → List Carried → ℕ
present_count s before = history.count (deeds_of before) s

abbrev pub present_tops : ℕ → List Carried → ℕ
present_tops s before = history.tops (deeds_of before) s (present_count s before)

-- a top action of this count
abbrev pub IsTopOf : ℕ → Name → Type 0
IsTopOf c f = (is_top f ≡ true) × (home_count f ≡ c)

pub record IsOrderly (s : ℕ) (before : List Carried) : Type 0 where
  -- no deed is of an action of a later count
  pub reached : list_any (is_of_later s (present_count s before)) (deeds_of before) ≡ false
  -- the numbers of the top actions of the present count do not go above how many they are
  pub numbered : list_any (is_numbered_above s (present_count s before) (present_tops s before))
      (deeds_of before) ≡ false
  -- who asked for a child was created
  pub asked : (a : Name) → list_any (is_ask_of a) (deeds_of before) ≡ true
      → history.created (deeds_of before) a ≡ true
  -- what is being prepared is a top action of the present count
  pub prepared : (f : Name) → is_some (votes (map entry_of before) f) ≡ true
      → IsTopOf (present_count s before) f

-- What a letter says is of this node's actions: a start of a child at its home, an answer to an
-- action at its home, a finish or a quit at the node that decides.
abbrev pub IsForHome : ℕ → Body → Type 0
IsForHome s (bodies.Start b counts) = (home_node b ≡ s) × (is_top b ≡ false)
IsForHome s (bodies.Answer a n reply) = home_node a ≡ s
IsForHome s (bodies.Finish b v counts) = decider b ≡ s
IsForHome s (bodies.Quit b) = decider b ≡ s
IsForHome s _ = Unit {0}

abbrev pub MailIsForHome : ℕ → Option Mail → Type 0
MailIsForHome s None = Unit {0}
MailIsForHome s (Some mail) = IsForHome s mail.body

-- What may be put to a node of its actions, where it goes by this. Nothing is asked of what else
-- may be put to it.
abbrev pub MayBeAsked : ℕ → Sight → Input → Option Mail → Type 0
MayBeAsked s g (Begins m) mail = mail ≡ None
MayBeAsked s g (Requests r) mail = (home_node r.action ≡ s) × (refusal g r.action r.want ≡ None)
MayBeAsked s g (Receives letter) mail = MailIsForHome s mail
MayBeAsked s g (Tells m to) mail = Unit {0}
MayBeAsked s g (Queries m f) mail = Unit {0}
MayBeAsked s g (Restarts m) mail = Unit {0}

-- such a step where a halt came and only its log entry was taken
abbrev pub taken : Carried → Carried
taken c = record c { event = taken_of c.event }

-- A history without an event is in order,
abbrev pub NoneIsOrderly : Type 0
NoneIsOrderly = (s : ℕ) → IsOrderly s []

-- each step keeps it so,
abbrev pub StepsStayOrderly : Type 0
StepsStayOrderly =
    (objects : List ObjectDecl) (s : ℕ) (before : List Carried) (input : Input) (mail : Option Mail)
    (brought : Knowledge) → IsOrderly s before
    → MayBeAsked s (held_sight objects s before nothing) input mail
    → IsOrderly s (stepped objects s before input mail brought ∷ before)

-- and so does what was taken of one.
abbrev pub TakenStaysOrderly : Type 0
TakenStaysOrderly =
    (objects : List ObjectDecl) (s : ℕ) (before : List Carried) (input : Input) (mail : Option Mail)
    (brought : Knowledge) → IsOrderly s before
    → MayBeAsked s (held_sight objects s before nothing) input mail
    → IsOrderly s (taken (stepped objects s before input mail brought) ∷ before)
