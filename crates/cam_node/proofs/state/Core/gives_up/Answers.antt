-- A child is given up.
use Rattle.std.proofs.Common.{List, ◌++◌, Some, None, refl, sym, ap, ◌∙◌, subst, arith}
use Rattle.cam_know.specs.Knowledge.{Knowledge}
use Rattle.cam_know.specs.declared.Outcome.TheVariants.{Aborted}
use Rattle.cam_event.specs.declared.Deed.{Deed}
use Rattle.cam_event.specs.declared.Note.TheVariants as notes
use Rattle.cam_event.specs.Loads.{PlacesFields}
use Rattle.cam_comman.specs.Letters.{IsWithin}
use Rattle.cam_server.specs.Events.{decision}
use Rattle.cam_node.specs.Calls.{answers, letters_of}
use Rattle.cam_node.proofs.DecidePlans.{within_longer}
use Rattle.cam_node.proofs.state.Core.gives_up.Goals as goal

pub returns-clause-given_up : goal.returns-clause-given_up
returns-clause-given_up c =
    let old = c.args.self.now in
    let o = Aborted c.args.child.now in
    let knows = c.in_ok-decide.ensures.known in
    let spare = c.in_ok-reserve.ensures.ok in
    record {
      knows = knows;
      actions = refl;
      event =
          c.in_ok-stepped.ensures.event
          ∙ (λ i.
          record {
            node = old.number;
            got = None;
            deeds = (c.in_ok-add_decision.ensures ∙ ap (λ (ds : List Deed). ds ++ decision old.number o) c.new-deeds.ensures) i;
            sent = c.new.ensures i;
            note = notes.Plain;
          });
      letters = c.in_ok-stepped.ensures.letters ∙ ap (letters_of (answers old)) c.new.ensures;
      heard = refl;
      change = refl;
      adds = ap Some c.record_of.ensures;
      room = omega (arith, spare);
      within =
          subst (λ (places : PlacesFields). IsWithin c.decide.new.self.known places) (sym c.in_ok-decide.ensures.places)
          (subst (λ (k : Knowledge). IsWithin k old.knowing.places) (sym knows)
          (within_longer o old.knowing.known old.knowing.places
          (subst (λ (k : Knowledge). IsWithin k old.knowing.places) (sym c.requires.settled) c.requires.within)));
    }
