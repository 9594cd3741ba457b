use Rattle.std.proofs.Common.{◌≡◌, take, string_bytes}
use Rattle.std.specs.List.{flat_map}
use Rattle.cam_explain.specs.Moments.{told_in}
use Rattle.cam_explain.specs.Stories.{moment_text}
use Rattle.cam_explain.proofs.stories.story_of.Given as goal

abbrev pub invariant-loop-moment : goal.invariant-loop-moment
invariant-loop-moment l =
    string_bytes l.text ≡ flat_map (moment_text l.script l.scope (told_in l.course)) (take l.moment-index l.moment-items)
