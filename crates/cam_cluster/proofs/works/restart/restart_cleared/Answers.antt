-- A node is restarted.
use Rattle.std.proofs.Common.{ap, ◌∙◌, ◌≤◌, subst}
use Rattle.cam_node.specs.Calls.{answers}
use Rattle.cam_cluster.proofs.LessRead.{stays_reads}
use Rattle.cam_cluster.proofs.RestartReads.{found_was, ok_so, restarted_was}
use Rattle.cam_cluster.proofs.works.restart.restart_cleared.Goals as goal

pub returns-clause-restarted : goal.returns-clause-restarted
returns-clause-restarted g c =
    let is = c.clear.ensures in
    ok_so _ _ _ (λ r has. restarted_was _ _ _ _ _ _ _ _ _ _ _ _ _ _ _ is.objects (ap (λ core.
    core.number) is.core) is.tells (ap answers is.core) is.halted_at (λ logged read. stays_reads _ _
    _ _ _ _ _ _ _ is.stays read) has) c.restart.ensures.restarted

pub returns-clause-letters : goal.returns-clause-letters
returns-clause-letters g c = c.restart.ensures.letters

pub returns-clause-runs : goal.returns-clause-runs
returns-clause-runs g c = c.restart.ensures.runs

pub returns-clause-goes_on : goal.returns-clause-goes_on
returns-clause-goes_on g c = c.restart.ensures.goes_on

pub returns-clause-found : goal.returns-clause-found
returns-clause-found g c = λ told.
    let is = c.clear.ensures in
    found_was _ _ _ _ _ _ _ _ _ _ _ is.objects (ap (λ core. core.number) is.core) (ap answers
    is.core) is.halted_at is.reads (c.restart.ensures.found (is.tells ∙ told))

pub returns-clause-passes : goal.returns-clause-passes
returns-clause-passes g c = c.restart.ensures.unbounded c.clear.ensures.passes

pub returns-clause-faults_within : goal.returns-clause-faults_within
returns-clause-faults_within g c =
    rw (← c.clear.ensures.faults_within) c.restart.ensures.faults_within

pub returns-clause-tells : goal.returns-clause-tells
returns-clause-tells g c = c.restart.ensures.tells ∙ c.clear.ensures.tells

pub returns-clause-objects : goal.returns-clause-objects
returns-clause-objects g c = c.restart.ensures.objects ∙ c.clear.ensures.objects
