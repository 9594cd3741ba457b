-- Dependencies are written as their counts above 0.
use Rattle.std.proofs.Common.{◌≡◌, List, ℕ, ◌++◌, subst, IfOk}
use Rattle.cam_bytes.specs.Fields.{deps}
use Rattle.cam_bytes.specs.Ranges.{IsDeps}
use Rattle.cam_bytes.proofs.pairs.write_deps.Goals as goal

pub returns-clause-ok : goal.returns-clause-ok
returns-clause-ok c = subst (λ (cs : List ℕ). IfOk c.write_counts_above.result (λ text. text.items ≡ c.args.out.items ++ deps cs)) c.counts.ensures.value c.write_counts_above.ensures

pub returns-clause-range : goal.returns-clause-range
returns-clause-range c = subst (λ (cs : List ℕ). IsDeps cs) c.counts.ensures.value c.counts.ensures.range
