-- The last disk, and those before it.
use Rattle.std.proofs.Common.{rules, ◌+◌, ◌∙◌, arith}
use Rattle.cam_storm_run.proofs.Founded.{new_last, since_last, since_less}
use Rattle.cam_storm_run.proofs.founding.+found.Goals as goal

pub found_one-requires-clause-floor : goal.found_one-requires-clause-floor
found_one-requires-clause-floor g t c =
    (since_less g.D.Disk.faults g.W.Storming.failures 1 (c.len.result + 1) c.args.disks.now.items
    c.pop.new.self.items c.in-Some.disk c.in-Some.ensures.items
    (let many = c.len.ensures ∙ c.pop.new.self.ok.0 in omega (arith, many)) c.requires.floor).1

pub returns-in-Err-clause-floor : goal.returns-in-Err-clause-floor
returns-in-Err-clause-floor g t c =
    let less =
    since_less g.D.Disk.faults g.W.Storming.failures 1 (c.len.result + 1) c.args.disks.now.items
    c.pop.new.self.items c.in-Some.disk c.in-Some.ensures.items
    (let many = c.len.ensures ∙ c.pop.new.self.ok.0 in omega (arith, many)) c.requires.floor in
    since_last g.D.Disk.faults g.W.Storming.failures 1 (c.len.result + 1)
    c.push_owned.new.list.items c.pop.new.self.items c.in-Err.disk c.push_owned.ensures.items
    (let many = c.len.ensures ∙ c.pop.new.self.ok.0 in omega (arith, many)) less.0
    c.in-Err.ensures.back

pub found-requires : goal.found-requires
found-requires g t c =
    let less =
    since_less g.D.Disk.faults g.W.Storming.failures 1 (c.len.result + 1) c.args.disks.now.items
    c.pop.new.self.items c.in-Some.disk c.in-Some.ensures.items
    (let many = c.len.ensures ∙ c.pop.new.self.ok.0 in omega (arith, many)) c.requires.floor in
    let floor = less.0 in
    search (rules, floor)

pub returns-in-Ok-found-clause-new : goal.returns-in-Ok-found-clause-new
returns-in-Ok-found-clause-new g t c =
    new_last _ 1 (c.len.result + 1) c.found.new.cores.items
    c.push_owned-in-Ok-found.new.list.items c.in-Ok.core c.push_owned-in-Ok-found.ensures.items
    (let many = c.len.ensures ∙ c.pop.new.self.ok.0 in
    let count = c.in-Ok-found.ensures.count in
    omega (arith, many, count))
    c.in-Ok-found.ensures.new c.in-Ok.ensures.new

pub returns-in-Err-found-clause-floor : goal.returns-in-Err-found-clause-floor
returns-in-Err-found-clause-floor g t c =
    let later = c.in-Ok.ensures.new.later in
    let same = c.unboxed_disk.ensures in
    since_last g.D.Disk.faults g.W.Storming.failures 1 (c.len.result + 1)
    c.push_owned-in-Err-found.new.list.items c.found.new.disks.items c.unboxed_disk.result
    c.push_owned-in-Err-found.ensures.items
    (let many = c.len.ensures ∙ c.pop.new.self.ok.0 in
    let back = c.in-Err-found.ensures.back in
    omega (arith, many, back))
    c.in-Err-found.ensures.floor (omega (arith, later, same))
