use Rattle.std.proofs.Common.{◌≡◌, take, All}
use Rattle.cam_recman.specs.Records.{entry_bytes}
use Rattle.cam_recman.specs.Ranges.{IsRecord}
use Rattle.cam_recman.proofs.writing.encode_entry.Given as goal

abbrev pub invariant-loop-record : goal.invariant-loop-record
invariant-loop-record l = record {
  text : l.out.items ≡ entry_bytes (take l.record-index l.record-items);
  range : All IsRecord (take l.record-index l.record-items);
}
