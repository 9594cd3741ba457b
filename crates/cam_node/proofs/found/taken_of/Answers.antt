-- What is left of an event's deeds are those that an entry has.
use Rattle.std.proofs.Common.{◌≡◌, ◌∙◌, ap, rules}
use Rattle.std.proofs.lemmas.Fn.{filter_same}
use Rattle.std.specs.Prelude.{filter}
use Rattle.cam_event.specs.declared.Note.TheVariants as notes
use Rattle.cam_event.specs.Taken.{is_entered}
use Rattle.cam_node.proofs.found.taken_of.Goals as goal

pub returns : goal.returns
returns c =
    let deeds : c.from_vec.result ≡ filter is_entered c.args.event.deeds =
    c.from_vec.ensures
    ∙ filter_same _ _ _ (λ x b f' k. search rules) _ _ c.retain.ensures.filtered
    ∙ ap (filter is_entered) c.into_vec-deeds.ensures in
    (λ i. record {
      node = c.args.event.node;
      got = c.args.event.got;
      deeds = deeds i;
      sent = c.new.ensures i;
      note = notes.Plain;
    })
