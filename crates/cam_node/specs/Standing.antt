-- An event that is planned: what it makes of the node when it stands, and what it needs then.
use Rattle.std.specs.Prelude.{◌≡◌, ℕ, ◌+◌, ◌≤◌, false, List, length, Option, Some, None}
use Rattle.cam_names.specs.declared.name.Name.{Name}
use Rattle.cam_names.specs.Names.{home_node, home_count}
use Rattle.cam_know.specs.Knowledge.{Knowledge}
use Rattle.cam_know.specs.Known.{knows_abort, knows_commit}
use Rattle.cam_know.specs.declared.Outcome.{Outcome}
use Rattle.cam_know.specs.declared.Outcome.TheVariants.{Aborted}
use Rattle.cam_event.specs.declared.Note.{Note}
use Rattle.cam_event.specs.declared.Reply.{Reply}
use Rattle.cam_event.specs.declared.Sent.{Sent}
use Rattle.cam_event.specs.declared.Want.TheVariants as wants
use Rattle.cam_event.specs.declared.Note.TheVariants as notes
use Rattle.cam_event.specs.Rules as rules
use Rattle.cam_event.specs.Rules.{Did, nothing_but}
use Rattle.cam_commit.specs.Calls.{yes}
use Rattle.cam_event.specs.Loads.{PlacesFields}
use Rattle.cam_comman.specs.Letters.{IsWithin}
use Rattle.cam_recman.specs.Snapshot.{outcome_record}
use Rattle.cam_tranman.specs.Actions.{Actions}
use Rattle.cam_tranman.specs.Calls as tranman
use Rattle.cam_tranman.specs.Calls.{IsFree, after_start, after_taken, decided, taken_by}
use Rattle.cam_commit.specs.Calls as commit
use Rattle.cam_server.specs.declared.server.Server.{Server as Tables}
use Rattle.cam_server.specs.Calls as server
use Rattle.cam_server.specs.Events.{decision}
use Rattle.cam_server.specs.Server.{Server}
use Rattle.cam_node.specs.declared.did.Doing.{Doing}
use Rattle.cam_node.specs.declared.knowing.Heard.{Heard}
use Rattle.cam_node.specs.declared.plan.Change.{Change}
use Rattle.cam_node.specs.declared.plan.Change.TheVariants as changes
use Rattle.cam_node.specs.declared.plan.Plan.{Plan}
use Rattle.cam_node.specs.declared.state.Core.{Core}
use Rattle.cam_node.specs.Represents.{Node}
use Rattle.cam_node.specs.Calls.{answers}
use Rattle.cam_node.specs.Decides.{decided_at_home, IsDecided, MayDecide}
use Rattle.cam_node.specs.Preparing.{HasBegun}
use Rattle.cam_node.specs.Voting.{HasCounted}
use Rattle.cam_node.specs.declared.vote_arrives.Vote.{Vote}

-- what the rule makes, where it changes nothing besides what was learnt, and records nothing
abbrev pub just : Did → Doing
just d = record { did = d; change = changes.Nothing; adds = None }

-- and where it decides, with these letters and this note
abbrev pub deciding : ℕ → Outcome → List Sent → Note → Doing
deciding s o sent note =
    record {
      did = record { deeds = decision s o; sent = sent; note = note };
      change = changes.Decided o;
      adds = Some (outcome_record o);
    }

-- and where it begins to prepare a family, with these letters
abbrev pub preparing : Name → List Sent → Doing
preparing f sent = record { did = rules.answers (notes.Preparing f) sent; change = changes.Prepared f; adds = None }

-- and where it counts a vote
abbrev pub counting : Vote → Doing
counting vote = record { did = nothing_but notes.Voted; change = changes.Voted vote; adds = None }

-- the places that are noted with a letter, and how many outcomes it brought; where no letter came
-- they stay, and there are none
abbrev pub places_heard : Option Heard → PlacesFields → PlacesFields
places_heard None places = places
places_heard (Some heard) places = heard.places

abbrev pub count_heard : Option Heard → ℕ
count_heard None = 0
count_heard (Some heard) = length heard.news.outcomes

-- the site was informed of the letter's news
abbrev pub IsInformed : Option Heard → Server → Server → Type 0
IsInformed None old new = new ≡ old
IsInformed (Some heard) old new = server.AreInformed (knows_abort heard.news)
    (knows_commit heard.news) old new

-- What a node is when what an event learnt stands: it knows this, has noted the letter's places,
-- its site was informed of the letter's news, and
-- all else is as it was.
pub record HasLearnt (heard : Option Heard) (known : Knowledge) (old new : Node) : Type 0 where
  pub number : new.number ≡ old.number
  pub count : new.count ≡ old.count
  pub know : new.know ≡ known
  pub places_are : new.places ≡ places_heard heard old.places
  pub actions : new.actions ≡ old.actions
  pub families : new.families ≡ old.families
  pub server : IsInformed heard old.server new.server

-- The same where its actions have changed besides: they answer as these.
pub record HasActed (heard : Option Heard) (known : Knowledge) (actions : Actions)
    (old new : Node) : Type 0 where
  pub learnt : HasLearnt heard known old (record new { actions = old.actions })
  pub acted : tranman.AreSame actions new.actions

-- The actions alone have changed, to what answers as these.
pub record HaveActed (actions : Actions) (old new : Node) : Type 0 where
  pub rest : new ≡ record old { actions = new.actions }
  pub acted : tranman.AreSame actions new.actions

-- what the actions are after an answer, where the count of the call's site is known as `known`
abbrev pub after_answer : Name → ℕ → Reply → ℕ → Actions → Actions
after_answer a n reply known actions = after_taken a (taken_by actions a n reply known) actions

-- The same where another server stands in the place of its own, which answers so.
pub record HasServer (heard : Option Heard) (known : Knowledge) (server : Server)
    (old new : Node) : Type 0 where
  pub number : new.number ≡ old.number
  pub count : new.count ≡ old.count
  pub know : new.know ≡ known
  pub places_are : new.places ≡ places_heard heard old.places
  pub actions : new.actions ≡ old.actions
  pub families : new.families ≡ old.families
  pub server_is : new.server ≡ server

-- The same where one more family is secured besides.
pub record HasSecured (heard : Option Heard) (known : Knowledge) (f : Name)
    (old new : Node) : Type 0 where
  pub learnt : HasLearnt heard known old (record new { families = old.families })
  pub secured : commit.IsSecured f old.families new.families

-- The families alone have changed: one more is secured.
pub record HaveSecured (f : Name) (old new : Node) : Type 0 where
  pub rest : new ≡ record old { families = new.families }
  pub secured : commit.IsSecured f old.families new.families

-- WHAT A NODE IS WHEN AN EVENT STANDS, by what it changes besides what it learnt.
abbrev pub Stands : Change → Option Heard → Knowledge → Node → Node → Type 0
Stands changes.Nothing heard known old new = HasLearnt heard known old new
Stands (changes.Started b counts) heard known old new =
    HasActed heard known (after_start b counts old.actions) old new
Stands (changes.Answered a n reply count) heard known old new =
    HasActed heard known (after_answer a n reply count old.actions) old new
Stands (changes.Decided o) heard known old new =
    (mid : Node) × HasLearnt heard known old mid × IsDecided o (decided_at_home o mid.actions) mid new
Stands (changes.GaveUp a b) heard known old new =
    (mid : Node) × HasLearnt heard known old mid × IsDecided (Aborted b) (decided b None mid.actions) mid new
Stands (changes.WentAhead ahead) heard known old new = HasLearnt heard known old new
Stands (changes.Served tables) heard known old new = HasServer heard known (server.answers tables) old new
Stands (changes.Prepared f) heard known old new = (mid : Node) × HasLearnt heard known old mid × HasBegun f mid new
Stands (changes.Voted vote) heard known old new =
    (mid : Node) × HasLearnt heard known old mid
    × HasCounted (yes vote.family vote.node vote.count) vote.yes vote.deps mid new
Stands (changes.Secured f) heard known old new = HasSecured heard known f old new

-- What it needs, so that it stands without memory: room for the outcomes at the site, places within
-- what is known, and what the change needs.
abbrev pub HasRoom : Option Heard → Tables → Type 0
HasRoom heard tables = count_heard heard ≤ (server.answers tables).table.spare

abbrev pub HasRoomForOne : Option Heard → Tables → Type 0
HasRoomForOne heard tables = count_heard heard + 1 ≤ (server.answers tables).table.spare

pub record MayStart (b : Name) (actions : Actions) : Type 0 where
  pub home : home_node b ≡ actions.node
  pub count : home_count b ≡ actions.count
  pub room : 1 ≤ actions.room

abbrev pub MayChange : Change → Option Heard → Core → Type 0
MayChange changes.Nothing heard core = Unit {0}
MayChange (changes.Started b counts) heard core = MayStart b (answers core).actions
MayChange (changes.Answered a n reply count) heard core = Unit {0}
MayChange (changes.Decided o) heard core = HasRoomForOne heard core.server × MayDecide o (answers core).actions
MayChange (changes.GaveUp a b) heard core =
    HasRoomForOne heard core.server × IsFree (answers core).actions a (wants.GiveUp b)
MayChange (changes.WentAhead ahead) heard core = Unit {0}
MayChange (changes.Served tables) heard core = Unit {0}
MayChange (changes.Prepared f) heard core =
    (1 ≤ (answers core).families.room) × ((answers core).families.is_preparing f ≡ false)
MayChange (changes.Voted vote) heard core = 1 ≤ (answers core).families.room
MayChange (changes.Secured f) heard core = 1 ≤ (answers core).families.room

pub record MayStand (plan : Plan) (core : Core) : Type 0 where
  pub room : HasRoom plan.heard core.server
  pub within : IsWithin core.knowing.known (places_heard plan.heard core.knowing.places)
  pub change : MayChange plan.change plan.heard core
