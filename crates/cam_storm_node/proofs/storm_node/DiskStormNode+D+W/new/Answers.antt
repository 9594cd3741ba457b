-- A storm node to which nothing has happened is the replay of the empty history.
use Rattle.std.proofs.Common.{◌≤◌, [], None, false, refl, subst, arith}
use Rattle.cam_node.specs.Calls.{answers}
use Rattle.cam_gen.specs.Storms.{Words}
use Rattle.cam_storm_node.specs.Playing.{StormNodeFields, IsCore}
use Rattle.cam_storm_node.proofs.Played.{begins}
use Rattle.cam_storm_node.proofs.storm_node.DiskStormNode+D+W.new.Goals as goal

pub returns-clause-core : goal.returns-clause-core
returns-clause-core g c =
    let floor = c.requires.floor in
    let more = c.in_ok-node.ensures.later in
    let node = c.in_ok-node.node in
    let new : StormNodeFields = record {
      storm = c.args.storm.now;
      node = answers node.core;
      objects = node.objects;
      entries = node.log.log.state.entries;
      halted = node.log.halted;
      faults = g.D.Disk.faults node.log.log.disk.inner;
      lost = false;
      events = 0;
      tops = c.tops_of.result;
      copies = c.new-4.result;
      works = c.new-5.result;
      next = None;
      receipts = c.new-6.result;
    } in
    let later : g.W.Storming.failures c.args.number ≤ new.faults = omega (arith, floor, more) in
    subst (λ (words : Words). IsCore words g.W.Storming.failures new c.args.number [])
    c.requires.words (record {
      plays =
          begins c.args.storm.now new c.args.number c.requires.number c.requires.few refl
          c.tops_of.ensures c.in_ok-node.ensures.number c.in_ok-node.ensures.keeps
          c.in_ok-node.ensures.objects refl c.new-4.ensures c.new-5.ensures refl c.new-6.ensures;
      later = later;
    })
