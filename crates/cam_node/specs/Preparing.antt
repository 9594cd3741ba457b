-- A letter makes a home prepare a family: no deed, a Prepare to each node on which the family
-- depends, and the family is preparing.
use Rattle.std.specs.Prelude.{◌≡◌, Some}
use Rattle.cam_names.specs.declared.name.Name.{Name}
use Rattle.cam_know.specs.Known.{knows_abort, knows_commit, news}
use Rattle.cam_event.specs.Inputs.{Mail}
use Rattle.cam_event.specs.Loads.{Load, with_load}
use Rattle.cam_tranman.specs.Calls as tranman
use Rattle.cam_commit.specs.Calls as commit
use Rattle.cam_server.specs.Calls.{AreInformed}
use Rattle.cam_node.specs.Represents.{Node}
use Rattle.cam_node.specs.Stepping.{noted_with}

-- What a letter tells is known, its places are noted, and the site was informed of its news; the
-- family is preparing; all else is as it was.
pub record HasPrepared (f : Name) (mail : Mail) (load : Load) (old new : Node) : Type 0 where
  pub number : new.number ≡ old.number
  pub count : new.count ≡ old.count
  pub know : new.know ≡ with_load old.know load
  pub noted : new.places ≡ noted_with (Some mail) load old
  pub actions : tranman.AreSame old.actions new.actions
  pub families : commit.IsPrepared f old.families new.families
  pub server :
      AreInformed (knows_abort (news (with_load old.know load) old.know)) (knows_commit (news (with_load old.know load) old.know))
      old.server new.server

-- Where what a letter brought stands already: the family is preparing, and all else is as it was.
pub record HasBegun (f : Name) (old new : Node) : Type 0 where
  pub number : new.number ≡ old.number
  pub count : new.count ≡ old.count
  pub know : new.know ≡ old.know
  pub places : new.places ≡ old.places
  pub actions : new.actions ≡ old.actions
  pub families : commit.IsPrepared f old.families new.families
  pub server : new.server ≡ old.server
