use Rattle.std.proofs.Common.{◌≡◌, ◌++◌, take, string_bytes}
use Rattle.std.specs.List.{flat_map}
use Rattle.cam_explain.specs.Stops.{link_text}
use Rattle.cam_explain.proofs.stops.write_links.Given as goal

abbrev pub invariant-loop-link : goal.invariant-loop-link
invariant-loop-link l =
    string_bytes l.out ≡ string_bytes l.fn.out ++ flat_map (link_text l.scope) (take l.link-index l.link-items)
