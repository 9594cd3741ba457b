-- What is kept of the deeds before one.
use Rattle.std.specs.Prelude.{List}
use Rattle.cam_type.specs.declared.ObjectDecl.{ObjectDecl}
use Rattle.cam_event.specs.declared.Deed.{Deed}
use Rattle.cam_live.specs.Ledger.{Keeps}
use Rattle.cam_plain.specs.declared.tables.Tables.{Tables}
use Rattle.cam_plain.specs.Actions.{KeepsActions}
use Rattle.cam_plain.specs.Marks.{KeepsMarks}
use Rattle.cam_plain.specs.Tops.{KeepsTops}
use Rattle.cam_plain.specs.Replies.{KeepsReplies}
use Rattle.cam_plain.specs.Depending.{DependsOn}
use Rattle.cam_plain.specs.Legal.{Legal}

-- Each table has what the deeds say.
pub record IsKept (objects : List ObjectDecl) (L : List Deed) (tables : Tables) : Type 0 where
  pub ledger : Keeps objects L tables.ledger
  pub marks : KeepsMarks objects L tables.marks
  pub actions : KeepsActions L tables.actions
  pub tops : KeepsTops L tables.tops
  pub replies : KeepsReplies L tables.replies
  pub dependencies : DependsOn objects L tables.dependencies

-- The deeds before one are legal, and kept.
pub record IsKnown (objects : List ObjectDecl) (L : List Deed) (tables : Tables) : Type 0 where
  pub legal : Legal objects L
  pub kept : IsKept objects L tables
