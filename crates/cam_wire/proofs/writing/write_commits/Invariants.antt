use Rattle.std.proofs.Common.{◌≡◌, ◌++◌, flat_map}
use Rattle.std.specs.List.{AllByRecursion}
use Rattle.cam_bytes.specs.Ranges.{IsName, IsDeps}
use Rattle.cam_wire.specs.Spelling.{commit, commits}
use Rattle.cam_wire.proofs.writing.write_commits.Given as goal

-- with those still to come the text is whole; and where they are in their ranges, all are
abbrev pub invariant-loop-name : goal.invariant-loop-name
invariant-loop-name l = record {
  text : l.out.items ++ flat_map commit l.name-iterator ≡ l.fn.out.items ++ commits l.commits.entries;
  range : AllByRecursion (λ c. IsName c.0 × IsDeps c.1) l.name-iterator → AllByRecursion (λ c. IsName c.0 × IsDeps c.1) l.commits.entries;
}
