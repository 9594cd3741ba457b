-- A node is restarted.
use Rattle.std.proofs.Common.{◌∙◌, ℕ, List, length, IsTrue, sym, ap, subst, rules}
use Rattle.cam_node.specs.Calls.{answers}
use Rattle.cam_node.specs.Keeping.{IsRestartHalt}
use Rattle.cam_node.specs.Opened.{MayRead}
use Rattle.cam_node.proofs.FoundByReads.{finds_by}
use Rattle.cam_node.proofs.Reopened.{one_entry_after}
use Rattle.cam_node.proofs.RestartTaken.{may_restart}
use Rattle.cam_node.proofs.RestartedNodes.{node_restarted, restart_halts, restart_range}
use Rattle.cam_node.proofs.Steps.{failed}
use Rattle.cam_node.proofs.node.Node.restart.Goals as goal

pub renew-requires-clause-count : goal.renew-requires-clause-count
renew-requires-clause-count g c =
    let log = c.args.self.now.log.log in
    (restart_range c.args.self.now.objects c.args.self.now.core.number (g.L.EntryLog.tells log)
    (g.L.EntryLog.opens_since log (g.L.EntryLog.moment log))
    (g.L.EntryLog.listed c.restart.new.self.log) c.in_ok-reread.reread.kept c.in_ok-reread.ensures.restarted.restarts).0

pub renew-requires-clause-held : goal.renew-requires-clause-held
renew-requires-clause-held g c =
    let log = c.args.self.now.log.log in
    (restart_range c.args.self.now.objects c.args.self.now.core.number (g.L.EntryLog.tells log)
    (g.L.EntryLog.opens_since log (g.L.EntryLog.moment log))
    (g.L.EntryLog.listed c.restart.new.self.log) c.in_ok-reread.reread.kept c.in_ok-reread.ensures.restarted.restarts).1

pub returns-in_err-reread-clause-failed : goal.returns-in_err-reread-clause-failed
returns-in_err-reread-clause-failed g c = λ tells.
    let log = c.args.self.now.log.log in
    let after = c.restart.new.self.log in
    let grows = c.restart.ensures.any_moment tells in
    let there : IsTrue (g.L.EntryLog.tells after) = c.restart.ensures.tells ∙ tells in
    failed c.from_residual.result _
    (restart_halts c.args.self.now.objects c.args.self.now.core.number
    (g.L.CheckpointLog.disk_generation log) (g.L.EntryLog.moment log)
    (g.L.EntryLog.moment after) (g.L.EntryLog.opens_since log)
    (g.L.EntryLog.opens_since after) c.args.self.now.numbered grows (λ o is.
    g.met.L.EntryLog.counts_now after (g.L.EntryLog.moment log) o there grows.later is))

pub returns-in-Ok-clause-restarted : goal.returns-in-Ok-clause-restarted
returns-in-Ok-clause-restarted g c =
    let log = c.args.self.now.log.log in
    node_restarted c.args.self.now.objects (answers c.args.self.now.core)
    c.args.self.now.halted_at (g.L.EntryLog.tells log) (g.L.EntryLog.opens_since log)
    (g.L.EntryLog.moment log) (g.L.EntryLog.listed c.restart.new.self.log)
    c.in_ok-reread.reread (answers c.renew.new.self) c.in-Ok.restarted
    c.args.self.now.numbered c.in_ok-reread.ensures.restarted c.in-Ok.ensures.renewed
    c.in-Ok.ensures.event c.in-Ok.ensures.found

pub returns-in-Ok-clause-found : goal.returns-in-Ok-clause-found
returns-in-Ok-clause-found g c = λ tells.
    let log = c.args.self.now.log.log in
    finds_by c.args.self.now.objects (answers c.args.self.now.core) c.args.self.now.halted_at
    (g.L.EntryLog.reads log) (g.L.EntryLog.tells log)
    (g.L.EntryLog.listed c.restart.new.self.log) c.in_ok-reread.reread c.in-Ok.restarted.found
    c.args.self.now.numbered c.in_ok-reread.ensures.read_now tells c.in-Ok.ensures.found

pub returns-in-Err-clause-failed : goal.returns-in-Err-clause-failed
returns-in-Err-clause-failed g c = λ tells.
    let log = c.args.self.now.log.log in
    let after = c.restart.new.self.log in
    let grows = c.restart.ensures.any_moment tells in
    let there : IsTrue (g.L.EntryLog.tells after) = c.restart.ensures.tells ∙ tells in
    subst (λ now. IsRestartHalt c.args.self.now.objects c.args.self.now.core.number (MayRead
    (g.L.EntryLog.opens_since log) (g.L.EntryLog.moment log))
    (MayRead (g.L.EntryLog.opens_since now) (g.L.EntryLog.moment now))) (sym c.halt.ensures.log)
    (restart_halts c.args.self.now.objects c.args.self.now.core.number
    (g.L.CheckpointLog.disk_generation log) (g.L.EntryLog.moment log)
    (g.L.EntryLog.moment after) (g.L.EntryLog.opens_since log)
    (g.L.EntryLog.opens_since after) c.args.self.now.numbered grows (λ o is.
    g.met.L.EntryLog.counts_now after (g.L.EntryLog.moment log) o there grows.later is))

pub returns-in_err-reread-clause-disk_fault : goal.returns-in_err-reread-clause-disk_fault
returns-in_err-reread-clause-disk_fault g c = λ of is.
    let log = c.args.self.now.log.log in
    c.in_err-reread.ensures.disk_fault
    (λ opened tells left. may_restart c.args.self.now.objects c.args.self.now.core.number
    (g.L.EntryLog.opens_since log) (g.L.EntryLog.moment log) opened c.args.self.now.numbered
    (λ logged read. of logged tells read) left)
    (search rules)

-- the log lists the one entry of what is kept
pub returns-in-Ok-clause-one_entry : goal.returns-in-Ok-clause-one_entry
returns-in-Ok-clause-one_entry g c = λ less.
    ap (λ (entries : List (List ℕ)). length entries) (c.in_ok-reread.ensures.replaced less)

-- so it does by the number of the list that was read
pub returns-in-Ok-clause-replaced : goal.returns-in-Ok-clause-replaced
returns-in-Ok-clause-replaced g c = λ tells.
    one_entry_after (g.L.CheckpointLog.disk_generation c.args.self.now.log.log)
    c.in_ok-reread.reread.kept (g.L.EntryLog.listed c.restart.new.self.log)
    (c.in_ok-reread.ensures.replaced_after tells)
