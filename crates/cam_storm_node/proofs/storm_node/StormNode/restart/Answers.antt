-- The node restarted.
use Rattle.std.proofs.Common.{refl, sym, ap, ◌∙◌}
use Rattle.cam_event.specs.declared.Event.{Event}
use Rattle.cam_node.specs.Calls.{answers, letters_of}
use Rattle.cam_storm_node.proofs.Restarted.{restart_stands}
use Rattle.cam_storm_node.proofs.storm_node.StormNode.restart.Goals as goal

pub returns-in-Ok-clause-restarted : goal.returns-in-Ok-clause-restarted
returns-in-Ok-clause-restarted g c own keeps =
    let log = c.args.self.now.node.log.log in
    let tells = g.met.L.TellingLog.always log in
    let has = c.in-Ok.ensures.restarted in
    let stands =
    restart_stands c.args.self.now.node.objects c.args.self.now.node.core.number
    (g.L.EntryLog.tells log) (g.L.EntryLog.opens_since log) (g.L.EntryLog.moment log)
    (g.L.EntryLog.listed log) (answers c.args.self.now.node.core) (answers c.restart.new.self.core)
    c.args.self.now.node.halted_at (g.L.EntryLog.listed c.restart.new.self.log.log)
    c.in-Ok.restarted own tells
    (λ opened left. g.met.L.EntryLog.at_rest log opened tells
    (c.args.self.now.node.log.whole c.requires.running) left) refl has keeps in
    record {
      is_next = stands.1;
      stands = stands.2;
      letters_are =
          c.in-Ok.ensures.letters
          ∙ sym (ap (λ (e : Event). letters_of (answers c.restart.new.self.core) e.sent) has.event);
      finish_is = refl;
    }
