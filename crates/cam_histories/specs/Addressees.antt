-- The nodes between which the letters of a script's run go.
use Rattle.std.specs.Prelude.{◌≡◌, ◌⊎◌, ℕ, ◌≤◌, ◌<◌, Bool, List, [], ◌∷◌, length, Some}
use Rattle.cam_type.specs.declared.ObjectDecl.{ObjectDecl}
use Rattle.cam_event.specs.declared.LetterId.{LetterId}
use Rattle.cam_event.specs.declared.Event.{Event}
use Rattle.cam_event.specs.declared.Want.{Want}
use Rattle.cam_event.specs.declared.Want.TheVariants as wants
use Rattle.cam_event.specs.ByPast.{next}
use Rattle.cam_event.specs.Inputs.{Input, Begins, Requests, Receives, Tells, Queries, Restarts}
use Rattle.cam_event.specs.Inputs.{Mail, letter_at}
use Rattle.cam_event.specs.Live.{site_of}
use Rattle.cam_event.specs.Readings.{by_pasts}
use Rattle.cam_event.specs.Runs.{MayCome}
use Rattle.cam_event.specs.Taken.{IsRunTaking, taken_of}
use Rattle.cam_runs.specs.Standing.{Setting, Standing, put}

-- one of so many nodes
abbrev pub IsAmong : ℕ → ℕ → Type 0
IsAmong nodes s = (1 ≤ s) × (s ≤ nodes)

-- A request for a child names its node.
abbrev pub WantsAmong : ℕ → Want → Type 0
WantsAmong nodes (wants.Ask m) = IsAmong nodes m
WantsAmong nodes _ = Unit {0}

-- The nodes that an input names are among so many.
abbrev pub NamesAmong : ℕ → Input → Type 0
NamesAmong nodes (Begins s) = IsAmong nodes s
NamesAmong nodes (Requests r) = WantsAmong nodes r.want
NamesAmong nodes (Receives letter) = Unit {0}
NamesAmong nodes (Tells s to) = IsAmong nodes s × IsAmong nodes to
NamesAmong nodes (Queries s f) = IsAmong nodes s
NamesAmong nodes (Restarts s) = IsAmong nodes s

-- The event is that of an input that names no other node, or what was taken of it.
pub record ComesAmong (objects : List ObjectDecl) (nodes : ℕ) (t : List Event) (e : Event) : Type 0 where
  pub input : Input
  pub may : MayCome objects t input
  pub names : NamesAmong nodes input
  pub is_next : (e ≡ next objects t input) ⊎ (e ≡ taken_of (next objects t input))

-- So is each event of a trace, the newest event first.
abbrev pub AllComeAmong : List ObjectDecl → ℕ → List Event → Type 0
AllComeAmong objects nodes [] = Unit {0}
AllComeAmong objects nodes (e ∷ before) =
    ComesAmong objects nodes before e × AllComeAmong objects nodes before

-- The objects' sites are among them.
abbrev pub SitesAmong : List ObjectDecl → ℕ → Type 0
SitesAmong objects nodes = (x : ℕ) → x < length objects → IsAmong nodes (site_of objects x)

-- In a run of such events, over objects at such sites, each letter goes between two of these nodes.
abbrev pub LettersGoAmong : Type 0
LettersGoAmong =
    (objects : List ObjectDecl) (nodes : ℕ) (taken : ℕ → Bool) (t : List Event)
    (letter : LetterId) (mail : Mail)
    → SitesAmong objects nodes → IsRunTaking objects taken t → AllComeAmong objects nodes t
    → letter_at t letter ≡ Some mail
    → IsAmong nodes mail.from × IsAmong nodes mail.to

-- They stay such with one more input of this kind, whether it is a halt or not.
abbrev pub InputsStayAmong : Type 0
InputsStayAmong =
    (objects : List ObjectDecl) (nodes : ℕ) (c : Setting) (st : Standing) (input : Input)
    → MayCome objects st.running.trace input → NamesAmong nodes input
    → AllComeAmong objects nodes st.running.trace
    → AllComeAmong objects nodes
    (put (record c { reading = by_pasts objects }) st input).running.trace
