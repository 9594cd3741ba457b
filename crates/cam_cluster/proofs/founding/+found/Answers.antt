-- The nodes over all disks.
use Rattle.std.proofs.Common.{◌∙◌, ◌≡◌, ◌≤◌, ◌+◌, length, sym, subst, ap, arith}
use Rattle.cam_ckpt.specs.Reading.{read_ckpt}
use Rattle.cam_node.specs.Calls.{answers}
use Rattle.cam_cluster.proofs.BeforeFirst.{new_last}
use Rattle.cam_cluster.proofs.FoundedDisks.{cause_front, cause_last, later_last, refused_back}
use Rattle.cam_cluster.proofs.FoundedDisks.{seen_last}
use Rattle.cam_cluster.proofs.HandedBack.{as_many}
use Rattle.cam_cluster.proofs.founding.+found.Goals as goal

pub returns-in-Err-clause-back : goal.returns-in-Err-clause-back
returns-in-Err-clause-back g t c =
    refused_back _ _ _ _ _ _ _ c.in-Some.ensures.items c.push_owned.ensures.items
    c.in-Err.ensures.back

pub returns-in-Err-clause-cause : goal.returns-in-Err-clause-cause
returns-in-Err-clause-cause g t c =
    cause_last g.D.Disk.tells _ _ _ _ _ _ _ _ _ c.fault_at.ensures (ap (λ n. n + 1)
    (c.len.ensures ∙ c.pop.new.self.ok.0)) c.in-Some.ensures.items c.push_owned.ensures.items
    c.in-Err.ensures.cause

pub push_owned-requires-in-Err-found : goal.push_owned-requires-in-Err-found
push_owned-requires-in-Err-found g t c =
    let many : length c.found.new.disks.items ≡ length c.pop.new.self.items =
    as_many _ _ _ _ _ _ c.in-Err-found.ensures.back in
    let room = c.in-Err-found.ensures.capacity.0 in
    let same = c.in-Some.ensures.capacity in
    let fewer = c.in-Some.ensures.cases in
    let found_len = c.found.new.disks.ok.0 in
    let pop_len = c.pop.new.self.ok.0 in
    let within = c.args.disks.now.ok.1 in
    omega (arith, many, room, same, fewer, found_len, pop_len, within)

pub returns-in-Ok-found-clause-new : goal.returns-in-Ok-found-clause-new
returns-in-Ok-found-clause-new g t c =
    new_last _ _ _ _ _ _ (ap (λ n. n + 1) (c.len.ensures ∙ c.pop.new.self.ok.0 ∙ sym
    c.in-Ok-found.ensures.count)) c.push_owned-in-Ok-found.ensures.items c.in-Ok-found.ensures.new
    c.in-Ok.ensures.new

pub returns-in-Ok-found-clause-later : goal.returns-in-Ok-found-clause-later
returns-in-Ok-found-clause-later g t c =
    later_last _ _ _ _ _ _ _ _ _ _ c.in-Some.ensures.items (seen_last (λ node. record {
      site = record { node = answers node.core; entries = node.log.log.state.entries };
      objects = node.objects;
      halted = node.log.halted;
      halted_at = node.halted_at;
      passes = node.log.log.disk.passes;
      reads = read_ckpt (g.D.Disk.seen node.log.log.disk.inner);
      tells = g.D.Disk.tells node.log.log.disk.inner;
      failures = g.D.Disk.faults node.log.log.disk.inner;
    }) _ _ _ c.push_owned-in-Ok-found.ensures.items) c.in-Ok-found.ensures.later
    c.in-Ok.ensures.later

pub returns-in-Err-found-clause-back : goal.returns-in-Err-found-clause-back
returns-in-Err-found-clause-back g t c =
    later_last _ _ _ _ _ _ _ _ _ _ c.in-Some.ensures.items
    c.push_owned-in-Err-found.ensures.items c.in-Err-found.ensures.back (record {
      told =
          ap g.D.Disk.tells c.into_inner.ensures ∙ c.into_disk.ensures.tells ∙
          c.in-Ok.ensures.later.told;
      later =
          subst (λ n. g.D.Disk.faults c.in-Some.disk ≤ n) (sym c.into_disk.ensures.faults_within ∙
          sym (ap g.D.Disk.faults c.into_inner.ensures)) c.in-Ok.ensures.later.later;
    })

pub returns-in-Err-found-clause-cause : goal.returns-in-Err-found-clause-cause
returns-in-Err-found-clause-cause g t c =
    cause_front g.D.Disk.tells _ _ _ _ _ _ _ _ c.in-Some.ensures.items
    c.push_owned-in-Err-found.ensures.items c.in-Err-found.ensures.cause
