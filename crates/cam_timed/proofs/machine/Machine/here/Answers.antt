use Rattle.std.proofs.Common.{List, None, subst, sym, ◌∙◌}
use Rattle.cam_event.specs.declared.Deed.{Deed}
use Rattle.cam_event.specs.History.{after}
use Rattle.cam_event.specs.Pasts.{plain_all}
use Rattle.cam_event.specs.Sights.{entries}
use Rattle.cam_own.specs.Own.{KeepsOwn}
use Rattle.cam_own.specs.AllNodes.{KeepsAllNodes}
use Rattle.cam_timed.specs.Machine.{deeds_of, run_of}
use Rattle.cam_timed.specs.Moments.{events}
use Rattle.cam_timed.proofs.Brought.{none_first}
use Rattle.cam_timed.proofs.Machines.{node_there}
use Rattle.cam_timed.proofs.Standing.{stand_here}
use Rattle.cam_timed.proofs.machine.Machine.here.Goals as goal

pub returns-clause-stands : goal.returns-clause-stands
returns-clause-stands c =
    let objects = c.args.objects.now in
    let T = run_of c.args.self.now in
    let s = c.args.node in
    let node =
    node_there objects T c.args.self.now.nodes.items s c.index.result.now c.requires.keeps.eight
    c.requires.keeps.nodes c.requires.node c.index.ensures in
    stand_here objects T s None c.args.none.now c.index.result.now.own c.args.self.now.shared.all_nodes
    c.requires.keeps.run tt c.requires.node (c.requires.none ∙ sym (none_first (events T) s))
    (subst (λ (first : List Deed). KeepsOwn objects s (after (deeds_of (events T) s) first)
    (entries (events T) s) c.index.result.now.own) (sym c.requires.none) node.own)
    (subst (λ (first : List Deed). KeepsAllNodes objects (after (plain_all (events T)) first)
    c.args.self.now.shared.all_nodes) (sym c.requires.none) c.requires.keeps.shared.all_nodes)
