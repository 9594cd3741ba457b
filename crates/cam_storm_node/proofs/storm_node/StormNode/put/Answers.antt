-- The node took a step for an input.
use Rattle.cam_node.specs.Calls.{answers}
use Rattle.cam_node.proofs.MayBePut.{may_be_put_now}
use Rattle.cam_storm_node.proofs.storm_node.StormNode.put.Goals as goal

pub returns-in-Ok-clause-put : goal.returns-in-Ok-clause-put
returns-in-Ok-clause-put g c own keeps =
    let may =
    may_be_put_now (answers c.args.self.now.node.core) c.args.input.now c.requires.may
    c.args.self.now.node.objects own keeps.through keeps.represents c.requires.free in
    record {
      is_next = c.in-Ok.ensures.step.next own keeps.through keeps.represents may;
      stands = c.in-Ok.ensures.keeps own keeps may;
      letters_are = c.in-Ok.ensures.letters;
      finish_is = c.finish_of.ensures;
    }
