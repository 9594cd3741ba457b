-- What callers see of a node, and of what its calls are handed and answer.
use Rattle.std.specs.Prelude.{◌≡◌, ℕ, ◌≤◌, List, map, Option, Some, None}
use Rattle.std.specs.List.{AllByRecursion}
use Rattle.cam_event.specs.declared.Letter.{Letter}
use Rattle.cam_event.specs.declared.Sent.{Sent}
use Rattle.cam_event.specs.Inputs as rules
use Rattle.cam_event.specs.Inputs.{Begins, Requests, Receives, Tells, Queries, Mail}
use Rattle.cam_know.specs.Knowledge.{Knowledge}
use Rattle.cam_event.specs.Loads.{Load, no_load, PlacesFields, load_to}
use Rattle.cam_comman.specs.Letters.{letter_with, load_on}
use Rattle.cam_commit.specs.Calls as commit
use Rattle.cam_tranman.specs.Calls as tranman
use Rattle.cam_tranman.specs.Tables as tranman_tables
use Rattle.cam_server.specs.Calls as server
use Rattle.cam_node.specs.declared.Input.{Input}
use Rattle.cam_node.specs.declared.Input.TheVariants as inputs
use Rattle.cam_node.specs.declared.state.Core.{Core}
use Rattle.cam_node.specs.Represents.{Node}

-- what a node answers, by what it holds
abbrev pub answers : Core → Node
answers core =
    record {
      number = core.number;
      count = core.count;
      know = core.knowing.stands;
      places = core.knowing.places;
      actions = tranman_tables.answers core.actions;
      families = commit.answers core.families;
      server = server.answers core.server;
    }

-- Both answer the same.
pub record AreSame (one other : Node) : Type 0 where
  pub number : other.number ≡ one.number
  pub count : other.count ≡ one.count
  pub know : other.know ≡ one.know
  pub places : other.places ≡ one.places
  pub actions : tranman.AreSame one.actions other.actions
  pub families : commit.AreSame one.families other.families
  pub server : server.AreSame one.server other.server

-- the input that is put to a node of this number, as the step rules name it; the letter that it hands over, and what that carries
abbrev pub input_of : ℕ → Input → rules.Input
input_of s inputs.Begin = Begins s
input_of s (inputs.Request request) = Requests request
input_of s (inputs.Letter id letter) = Receives id
input_of s (inputs.Tell to) = Tells s to
input_of s (inputs.Query family) = Queries s family

abbrev pub mail_on : Letter → Mail
mail_on letter = record { from = letter.from; to = letter.to; body = letter.body }

abbrev pub mail_of : Input → Option Mail
mail_of (inputs.Letter id letter) = Some (mail_on letter)
mail_of _ = None

abbrev pub load_of : Input → Load
load_of (inputs.Letter id letter) = load_on letter
load_of _ = no_load

-- a letter as a node sends it, by what it knows and has noted; and the letters of an event, in order, as the node says them after it
abbrev pub letter_as : Knowledge → PlacesFields → ℕ → ℕ → Sent → Letter
letter_as k places from count sent = letter_with (load_to from k places sent.to) from count sent.to sent.body

abbrev pub letters_of : Node → List Sent → List Letter
letters_of node sent = map (letter_as node.know node.places node.number node.count) sent

-- each goes to one of the eight nodes
abbrev pub AreToNodes : List Sent → Type 0
AreToNodes sent = AllByRecursion (λ (one : Sent). (1 ≤ one.to) × (one.to ≤ 8)) sent
