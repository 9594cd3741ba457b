-- What is kept of a node's own deeds and events.
use Rattle.std.specs.Prelude.{◌≡◌, ℕ, List}
use Rattle.cam_type.specs.declared.ObjectDecl.{ObjectDecl}
use Rattle.cam_event.specs.declared.Deed.{Deed}
use Rattle.cam_event.specs.Sights.{Entry}
use Rattle.cam_live.specs.Ledger.{Keeps}
use Rattle.cam_own.specs.declared.own.Own.{Own}
use Rattle.cam_own.specs.Actions.{KeepsActions}
use Rattle.cam_own.specs.Tops.{KeepsTops}
use Rattle.cam_own.specs.Children.{KeepsChildren}
use Rattle.cam_own.specs.Replies.{KeepsReplies}
use Rattle.cam_own.specs.Informed.{KeepsInformed}
use Rattle.cam_own.specs.Votes.{KeepsVotes}

-- The tables have what these deeds and events of the node say.
pub record KeepsOwn (objects : List ObjectDecl) (s : ℕ) (L : List Deed) (E : List Entry)
    (own : Own) : Type 0 where
  pub node : own.node ≡ s
  pub ledger : Keeps objects L own.ledger
  pub actions : KeepsActions L own.actions
  pub tops : KeepsTops L own.tops
  pub children : KeepsChildren L own.children
  pub replies : KeepsReplies L own.replies
  pub informed : KeepsInformed L s own.informed
  pub votes : KeepsVotes E own.votes
