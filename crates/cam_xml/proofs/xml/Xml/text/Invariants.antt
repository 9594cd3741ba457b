-- What was written is the front of the text, escaped.
use Rattle.std.proofs.Common.{◌≡◌, ◌++◌, take, string_bytes}
use Rattle.cam_xml.specs.WellFormed.{escaped}
use Rattle.cam_xml.proofs.xml.Xml.text.Given as goal

abbrev pub invariant-loop-byte : goal.invariant-loop-byte
invariant-loop-byte l = string_bytes l.self-inside.written ≡ l.fn.self ++ escaped (take l.byte-index l.byte-items)
