-- What a home answers a site that asks after a family.
use Rattle.std.specs.Prelude.{ℕ, if◌then◌else◌}
use Rattle.cam_names.specs.declared.name.Name.{Name}
use Rattle.cam_names.specs.Names.{is_top}
use Rattle.cam_know.specs.Knowledge.{Knowledge}
use Rattle.cam_commit.specs.declared.Queried.{Queried}
use Rattle.cam_commit.specs.declared.Queried.TheVariants as queried
use Rattle.cam_commit.specs.Calls.{queried_of}

-- No letter asks after a family that is no top action: that is late.
abbrev pub queried_after : Knowledge → Name → ℕ → Queried
queried_after k f present =
    if is_top f then queried_of k f present else queried.StillOpen
