-- The event is taken in, and its letters have drawn their copies.
use Rattle.std.proofs.Common.{◌∷◌, map, refl, sym, ap, subst}
use Rattle.cam_event.specs.declared.Event.{Event}
use Rattle.cam_storm.specs.Own.{event_in}
use Rattle.cam_storm_node.specs.Works.{HaveSeen}
use Rattle.cam_storm_node.specs.Asking.{HaveAsked}
use Rattle.cam_storm_node.proofs.storm_node.StormNode.follow.Goals as goal

pub returns-clause-followed : goal.returns-clause-followed
returns-clause-followed g c words s sent own k is may =
    let seen : HaveSeen words (k ∷ own) c.take_in-2.new.self =
    subst
    (λ (e : Event).
    HaveSeen words (record { event = e; mail = k.mail; load = k.load } ∷ own) c.take_in-2.new.self)
    (sym is)
    (c.in_ok-take_in-2.ensures.seen words own k.mail k.load may.finish_is may.seen) in
    let asked : HaveAsked s (k ∷ own) c.take_in-2.new.self =
    c.in_ok-take_in-2.ensures.asked s own k is may.ends may.asked in record {
      drawn_are = c.in_ok-letters.ensures.copied words s sent may.copies;
      copies = c.in_ok-letters.ensures.copies words s sent may.copies;
      seen = seen;
      asked = asked;
      receipts =
          c.in_ok-take_in.ensures (map event_in own) k.event (ap (λ (e : Event). e.got) is)
          may.receipts;
      drive = c.least_request-self.ensures.least words s (k ∷ own) (record {
        low = may.low;
        words_are = may.words_are;
        number = may.number;
        node = may.node;
        seen = seen;
        few = may.few;
        asked = asked;
      });
      next = c.least_request-self.ensures.request words s (k ∷ own) (record {
        low = may.low;
        words_are = may.words_are;
        number = may.number;
        node = may.node;
        seen = seen;
        few = may.few;
        asked = asked;
      });
      events = refl;
      node = refl;
      entries = refl;
      objects = refl;
      storm = refl;
      tops = refl;
    }
