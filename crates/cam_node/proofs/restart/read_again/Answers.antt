use Rattle.std.proofs.Common.{rules, ◌≡◌, ◌∙◌, IsTrue, Ok, Err, sym, ap, subst}
use Rattle.cam_log.specs.declared.fault.LogFault.{LogFault}
use Rattle.cam_log.specs.declared.fault.LogFault.TheVariants.{NotALog}
use Rattle.cam_log.specs.Moments.{AddsNothing}
use Rattle.cam_recman.specs.Recovery.{recover}
use Rattle.cam_recman.proofs.Said.{migrated_says}
use Rattle.cam_node.proofs.Moments.{not_readable}
use Rattle.cam_node.proofs.Reopened.{spoiled_rose}
use Rattle.cam_node.proofs.restart.read_again.Goals as goal

pub returns-in-Err-NotALog-clause-disk_fault : goal.returns-in-Err-NotALog-clause-disk_fault
returns-in-Err-NotALog-clause-disk_fault g c = λ is.
    let old = c.args.log.now in
    let at = c.in-Err-NotALog.field-0-0 in
    spoiled_rose (g.L.EntryLog.tells c.reopen.new.self) (g.L.EntryLog.faults old) (g.L.EntryLog.faults c.reopen.new.self) (g.L.EntryLog.faults c.spoiled.new.log)
    (λ tells. let was : IsTrue (g.L.EntryLog.tells old) = sym c.reopen.ensures.tells ∙ tells in
    not_readable (NotALog at) (c.requires (Err (NotALog at)) was (c.in-Err-NotALog.ensures.refused was at (ap (λ (f : LogFault). Err f) c.in-Err-NotALog.field-0-is))))
    c.reopen.ensures.later c.spoiled.ensures.rose

pub returns-in-Err-DiskFault-clause-any_moment : goal.returns-in-Err-DiskFault-clause-any_moment
returns-in-Err-DiskFault-clause-any_moment g c = λ tells.
    let two = c.requires (Ok (g.L.EntryLog.listed c.reopen.new.self)) tells (c.in-Ok.ensures.read tells) in
    let old = c.args.log.now in
    subst (λ log. AddsNothing (g.L.EntryLog.moment old) (g.L.EntryLog.moment log) (g.L.EntryLog.opens_since old) (g.L.EntryLog.opens_since log)) (sym (c.migrate.ensures.untouched two)) (c.reopen.ensures.any_moment tells)

pub returns-in-Err-NoMemory-clause-any_moment : goal.returns-in-Err-NoMemory-clause-any_moment
returns-in-Err-NoMemory-clause-any_moment g c = λ tells.
    let two = c.requires (Ok (g.L.EntryLog.listed c.reopen.new.self)) tells (c.in-Ok.ensures.read tells) in
    let old = c.args.log.now in
    subst (λ log. AddsNothing (g.L.EntryLog.moment old) (g.L.EntryLog.moment log) (g.L.EntryLog.opens_since old) (g.L.EntryLog.opens_since log)) (sym (c.migrate.ensures.untouched two)) (c.reopen.ensures.any_moment tells)

pub returns-in-Ok-restart-clause-says : goal.returns-in-Ok-restart-clause-says
returns-in-Ok-restart-clause-says g c =
    let is : recover (g.L.EntryLog.listed c.migrate.new.log) ≡ Ok c.in-Ok-restart.recovered = search rules in
    migrated_says (g.L.EntryLog.listed c.reopen.new.self) (g.L.EntryLog.listed c.migrate.new.log) c.in-Ok-migrate.field-0 c.in-Ok-restart.recovered c.in-Ok-migrate.ensures.migrated is
