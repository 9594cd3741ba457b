-- What a ledger keeps of the deeds.
use Rattle.std.specs.Prelude.{◌≡◌, List, Option, Some, None}
use Rattle.cam_type.specs.declared.ObjectDecl.{ObjectDecl}
use Rattle.cam_event.specs.declared.Deed.{Deed}
use Rattle.cam_event.specs.History.{Addressed}
use Rattle.cam_live.specs.declared.ledger.Ledger.{Ledger}
use Rattle.cam_live.specs.declared.tables.AddressedCall.{AddressedCall}
use Rattle.cam_live.specs.Counted.{performed}
use Rattle.cam_live.specs.Tables.{Tells}

-- The tables have what the deeds say, and the performed operations stand with the counts of their sites.
pub record Keeps (objects : List ObjectDecl) (L : List Deed) (ledger : Ledger) : Type 0 where
  pub tells : Tells L ledger.tables
  pub performed : ledger.performed ≡ performed objects L

-- what a call asked, as the deeds have it
abbrev pub addressed : Option AddressedCall → Option Addressed
addressed None = None
addressed (Some asked) = Some (record { object = asked.object; op = asked.op; count = asked.count })
