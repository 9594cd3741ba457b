use Rattle.std.proofs.Common.{◌≡◌, ◌++◌, List, length, reverse, take, string_bytes}
use Rattle.std.specs.List.{flat_map}
use Rattle.cam_event.specs.declared.Event.{Event}
use Rattle.cam_report.specs.Numbered.{IsNumbering}
use Rattle.cam_report.specs.Whys.{link_text}
use Rattle.cam_report.proofs.why.write_links.Given as goal

abbrev pub invariant-loop-link : goal.invariant-loop-link
invariant-loop-link l =
    (es : List Event) → IsNumbering (reverse es) l.numbering → l.events ≡ length es
    → string_bytes l.out ≡ string_bytes l.fn.out ++ flat_map (link_text (reverse es)) (take l.link-index l.links)
