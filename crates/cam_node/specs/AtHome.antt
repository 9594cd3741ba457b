-- Events that concern a node's actions at home alone: they decide nothing, secure nothing, and the site has no part in them but that it is
-- informed of what a letter brings.
use Rattle.std.specs.Prelude.{◌≡◌, ℕ, Bool, true, false, List, length, filter, Some, None}
use Rattle.std.specs.List.{list_all}
use Rattle.cam_names.specs.declared.name.Name.{Name}
use Rattle.cam_names.specs.Dependencies.{has_pair}
use Rattle.cam_type.specs.declared.ObjectDecl.{ObjectDecl}
use Rattle.cam_know.specs.Known.{knows_abort, knows_commit, news}
use Rattle.cam_event.specs.declared.Deed.{Deed}
use Rattle.cam_event.specs.declared.Deed.TheVariants.{Create, Ask, Call, Got, AskCommit, AskAbort}
use Rattle.cam_event.specs.Inputs.{Mail}
use Rattle.cam_event.specs.Sights.{is_preparing_note, yes_for}
use Rattle.cam_event.specs.Rules.{Did}
use Rattle.cam_event.specs.Loads.{Load, noted_at, with_load}
use Rattle.cam_commit.specs.Calls as commit
use Rattle.cam_server.specs.Calls as server
use Rattle.cam_tranman.specs.Calls as tranman
use Rattle.cam_tranman.specs.Events.{is_at_home}
use Rattle.cam_tranman.specs.Keeping.{after_deeds}
use Rattle.cam_node.specs.Represents.{Node}

abbrev pub is_at_home_alone : Deed → Bool
is_at_home_alone (Create a) = true
is_at_home_alone (Ask a b) = true
is_at_home_alone (Call a n x op c) = true
is_at_home_alone (Got a n seen) = true
is_at_home_alone (AskCommit a v) = true
is_at_home_alone (AskAbort a) = true
is_at_home_alone _ = false

pub record IsAtHome (d : Did) : Type 0 where
  pub alone : list_all is_at_home_alone d.deeds ≡ true
  pub begins : (f : Name) → is_preparing_note f d.note ≡ false

-- No letter came: the actions did what the deeds do, and all else is as it was.
pub record DidAtHome (objects : List ObjectDecl) (d : Did) (old new : Node) : Type 0 where
  pub number : new.number ≡ old.number
  pub count : new.count ≡ old.count
  pub know : new.know ≡ old.know
  pub places : new.places ≡ old.places
  pub actions : tranman.AreSame (after_deeds objects None (filter is_at_home d.deeds) old.actions) new.actions
  pub families : commit.AreSame old.families new.families
  pub server : server.AreSame old.server new.server

-- The same where a letter came: what it tells is known, its places are noted, and the site was informed of its news.
pub record LearntAtHome (objects : List ObjectDecl) (d : Did) (mail : Mail) (load : Load) (old new : Node) : Type 0 where
  pub number : new.number ≡ old.number
  pub count : new.count ≡ old.count
  pub know : new.know ≡ with_load old.know load
  pub places : new.places ≡ noted_at old.number (length new.know.outcomes) old.places mail.from load
  pub actions : tranman.AreSame (after_deeds objects (Some mail) (filter is_at_home d.deeds) old.actions) new.actions
  pub families : commit.AreSame old.families new.families
  pub server : server.AreInformed (knows_abort (news new.know old.know)) (knows_commit (news new.know old.know)) old.server new.server

-- The letter is no vote yes.
abbrev pub IsNoVote : Mail → Type 0
IsNoVote mail = (f : Name) (m n : ℕ) → has_pair (yes_for f (Some mail)) m n ≡ false
