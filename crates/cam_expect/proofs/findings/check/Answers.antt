use Rattle.cam_expect.proofs.Holding.{none_found}
use Rattle.cam_expect.proofs.findings.check.Goals as goal

pub returns-clause-none : goal.returns-clause-none
returns-clause-none c =
    none_found c.args.facts.now c.args.expectations.now c.args.marks.now c.in_ok-findings.findings c.in_ok-findings.ensures
