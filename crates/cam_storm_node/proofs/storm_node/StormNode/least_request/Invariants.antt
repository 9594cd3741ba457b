-- The names that are left, in order, have each action with a request.
use Rattle.std.proofs.Common.{ℕ, List}
use Rattle.std.specs.List.Sorted.{IsStrictlySortedBy}
use Rattle.cam_names.specs.Names.{name_cmp}
use Rattle.cam_event.specs.ByDeltas.{Received}
use Rattle.cam_node.specs.Calls.{answers}
use Rattle.cam_gen.specs.Storms.{Words}
use Rattle.cam_storm_node.specs.Following.{Knows}
use Rattle.cam_storm_node.proofs.Least.{Remain}
use Rattle.cam_storm_node.proofs.storm_node.StormNode.least_request.Given as goal

abbrev pub invariant-loop-name : goal.invariant-loop-name
invariant-loop-name g l = record {
  sorted : IsStrictlySortedBy name_cmp l.name-iterator;
  remain :
      (words : Words) (s : ℕ) (own : List Received)
      → Knows words s own (record {
        storm = l.self.storm;
        node = answers l.self.node.core;
        objects = l.self.node.objects;
        entries = g.L.EntryLog.listed l.self.node.log.log;
        halted = l.self.node.log.halted;
        faults = g.L.EntryLog.faults_within l.self.node.log.log;
        lost = l.self.lost;
        events = l.self.events;
        tops = l.self.tops;
        copies = l.self.copies;
        works = l.self.works;
        next = l.self.next;
        receipts = l.self.receipts;
      })
      → Remain words s own l.name-iterator;
}
