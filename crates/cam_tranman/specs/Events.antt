-- One more event of a node: what it does to the actions that run there, so that they go on
-- answering as the node's history does.
use Rattle.std.specs.Prelude.{◌≡◌, ℕ, ◌+◌, Bool, true, false, List, [], ◌∷◌, filter, length, Option}
use Rattle.std.specs.Prelude.{Some, None}
use Rattle.cam_names.specs.declared.name.Name.{Name}
use Rattle.cam_names.specs.Names.{is_top, is_child, parent, home_node, home_count}
use Rattle.cam_type.specs.declared.ObjectDecl.{ObjectDecl}
use Rattle.cam_type.specs.declared.Op.{Op}
use Rattle.cam_event.specs.declared.Deed.{Deed}
use Rattle.cam_event.specs.declared.Deed.TheVariants.{Create, Ask, Call, Got, AskCommit, AskAbort}
use Rattle.cam_event.specs.declared.Deed.TheVariants.{Commit, Abort, Crash}
use Rattle.cam_event.specs.Live.{site_of}
use Rattle.cam_event.specs.Inputs.{Mail}
use Rattle.cam_event.specs.ByKnowledge.{start_counts, finish_counts}
use Rattle.cam_event.specs.Carried.{Carried}
use Rattle.cam_tranman.specs.declared.call.OpenCall.{OpenCall}
use Rattle.cam_tranman.specs.Actions.{Actions, created, open_call, RunsActions}
use Rattle.cam_tranman.specs.Calls.{AreSame, next_top, none_run, begun, begun_child, asked, called}
use Rattle.cam_tranman.specs.Calls.{finished, got, decided}

-- the deeds that concern the actions at home
abbrev pub is_at_home : Deed → Bool
is_at_home (Create a) = true
is_at_home (Ask a b) = true
is_at_home (Call a n x op c) = true
is_at_home (Got a n seen) = true
is_at_home (AskCommit a v) = true
is_at_home (AskAbort a) = true
is_at_home (Commit a) = true
is_at_home (Abort a) = true
is_at_home (Crash s) = true
is_at_home _ = false

abbrev pub at_home : Carried → List Deed
at_home c = filter is_at_home c.event.deeds

-- what a call asks, and where it goes
abbrev pub call_to : List ObjectDecl → ℕ → ℕ → Op → ℕ → OpenCall
call_to objects n x op c = record {
  number = n;
  object = x;
  op = op;
  site = site_of objects x;
  count = c;
}

-- What a deed does: exactly what one call does. The commit or abort of a top action does nothing here.
abbrev pub begins : Bool → Name → Option Mail → Actions → Actions
begins true a mail actions = begun actions
begins false a mail actions = begun_child a (start_counts mail) actions

abbrev pub decides : Bool → Name → Option (List ℕ) → Actions → Actions
decides true b counts actions = actions
decides false b counts actions = decided b counts actions

abbrev pub after_deed : List ObjectDecl → Option Mail → Deed → Actions → Actions
after_deed objects mail (Create a) actions = begins (is_top a) a mail actions
after_deed objects mail (Ask a b) actions = asked a b actions
after_deed objects mail (Call a n x op c) actions = called a (call_to objects n x op c) actions
after_deed objects mail (Got a n seen) actions = got a seen actions
after_deed objects mail (AskCommit a v) actions = finished a actions
after_deed objects mail (AskAbort a) actions = finished a actions
after_deed objects mail (Commit b) actions = decides (is_top b) b
    (Some (finish_counts mail)) actions
after_deed objects mail (Abort b) actions = decides (is_top b) b None actions
after_deed objects mail (Crash s) actions = none_run actions.node (actions.count + 1)
after_deed objects mail _ actions = actions

-- An action comes here new, at the present count.
pub record IsNew (a : Name) (actions : Actions) : Type 0 where
  pub home : home_node a ≡ actions.node
  pub present : home_count a ≡ actions.count
  pub fresh : created actions a ≡ false

-- a top action with the next number and no letter, a child with the dependencies on its start
abbrev pub IsNamed : Bool → Name → Option Mail → Actions → Type 0
IsNamed true a mail actions = (a ≡ next_top actions) × (start_counts mail ≡ [])
IsNamed false a mail actions = length (start_counts mail) ≡ 8

-- the parent, if there is one, was created here
abbrev pub HasParent : Option Name → Actions → Type 0
HasParent None actions = Unit {0}
HasParent (Some p) actions = created actions p ≡ true

-- A child commits with the dependencies on its finish, and its parent was created here; a top
-- action commits by a vote.
abbrev pub CommitMayCome : Bool → Name → Option Mail → Actions → Type 0
CommitMayCome true b mail actions = Unit {0}
CommitMayCome false b mail actions = (length (finish_counts mail) ≡ 8)
    × HasParent (parent b) actions

-- When a deed may come: it is of an action that was created here; an ask is for a child of it, an
-- answer for its open call.
abbrev pub MayCome : Option Mail → Deed → Actions → Type 0
MayCome mail (Create a) actions = IsNew a actions × IsNamed (is_top a) a mail actions
MayCome mail (Ask a b) actions = (created actions a ≡ true) × (is_child a b ≡ true)
MayCome mail (Call a n x op c) actions = created actions a ≡ true
MayCome mail (Got a n seen) actions = (created actions a ≡ true) × (open_call actions a ≡ Some n)
MayCome mail (AskCommit a v) actions = created actions a ≡ true
MayCome mail (AskAbort a) actions = created actions a ≡ true
MayCome mail (Commit b) actions = CommitMayCome (is_top b) b mail actions
MayCome mail (Abort b) actions = Unit {0}
MayCome mail _ actions = ⊥

-- THE LAW. An event without such a deed leaves the actions as they are;
abbrev pub QuietKeeps : Type 0
QuietKeeps =
    (objects : List ObjectDecl) (s : ℕ) (before : List Carried) (c : Carried) (old new : Actions)
    → at_home c ≡ [] → AreSame old new
    → RunsActions objects s before old → RunsActions objects s (c ∷ before) new

-- one with a deed that may come then does what the deed does;
abbrev pub DeedKeeps : Type 0
DeedKeeps =
    (objects : List ObjectDecl) (s : ℕ) (before : List Carried) (c : Carried) (d : Deed)
    (old new : Actions) → at_home c ≡ d ∷ []
    → MayCome c.mail d old → AreSame (after_deed objects c.mail d old) new
    → RunsActions objects s before old → RunsActions objects s (c ∷ before) new
