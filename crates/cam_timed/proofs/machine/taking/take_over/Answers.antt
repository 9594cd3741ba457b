use Rattle.std.proofs.Common.{◌++◌, if◌then◌else◌, List, ◌∷◌, Option, sym, ap, ◌∙◌, subst}
use Rattle.std.specs.Prelude.{OnOk, Result, Ok, Err}
use Rattle.std.specs.List.{list_any}
use Rattle.std.proofs.lemmas.List.{length-reverse}
use Rattle.cam_event.specs.declared.Deed.{Deed}
use Rattle.cam_event.specs.declared.Sent.{Sent}
use Rattle.cam_event.specs.History.{after}
use Rattle.cam_event.specs.Inputs.{Mail}
use Rattle.cam_event.specs.Pasts.{plain_all}
use Rattle.cam_event.specs.Sights.{entries}
use Rattle.cam_own.specs.Own.{KeepsOwn}
use Rattle.cam_own.specs.AllNodes.{KeepsAllNodes}
use Rattle.cam_timed.specs.declared.TimedEvent.{TimedEvent}
use Rattle.cam_timed.specs.declared.machine.deciding.Decided.{Decided}
use Rattle.cam_timed.specs.Machine.{deeds_of, posted, trace_of}
use Rattle.cam_timed.specs.Moments.{events, names_first}
use Rattle.cam_timed.specs.Turns.{taken}
use Rattle.cam_timed.specs.Untils.{until_in}
use Rattle.cam_timed.proofs.Sending.{letters_kept}
use Rattle.cam_timed.proofs.TakenOver.{moment_taken, node_taken, taken_calm, untils_taken, all_nodes_taken}
use Rattle.cam_timed.proofs.machine.taking.take_over.Goals as goal

on_ok : {T E : Type 0} (result : Result T E) (P : Type 0) → P → OnOk result P
on_ok (Ok x) P holds = holds
on_ok (Err e) P holds = tt

event_of : (c : goal.After-push) → TimedEvent
event_of c = taken c.args.turn.now.node c.args.turn.now.letter.now c.args.first c.args.decided

own_kept : (c : goal.After-push)
    → KeepsOwn c.args.turn.now.objects.now c.args.turn.now.node (deeds_of (events (event_of c ∷ trace_of c.args.shared.now)) c.args.turn.now.node)
    (entries (events (event_of c ∷ trace_of c.args.shared.now)) c.args.turn.now.node) c.note_event.new.self
unfolding event_of
own_kept c =
    let objects = c.args.turn.now.objects.now in
    let s = c.args.turn.now.node in
    let t = events (trace_of c.args.shared.now) in
    let e = event_of c in
    node_taken objects (trace_of c.args.shared.now) s c.args.turn.now.letter.now c.args.first c.args.decided c.note_event.new.self c.requires.mail
    (subst (λ (m : Option Mail). KeepsOwn objects s (after (after (deeds_of t s) c.args.first) c.args.decided.did.deeds) (record { event = e.event; mail = m } ∷ entries t s) c.note_event.new.self) c.mail_of.ensures
    (subst (λ (ds : List Deed). KeepsOwn objects s (after (after (deeds_of t s) c.args.first) ds) (record { event = e.event; mail = c.mail_of.result } ∷ entries t s) c.note_event.new.self)
    (ap (λ (d : Decided). d.did.deeds) c.decided.view_is)
    (c.in_ok-note_event.ensures objects s _ _ e.event
    (taken_calm s c.args.first c.args.decided.did.deeds c.requires.first_calm c.requires.calm) (sym (ap (λ (d : Decided). d.did.note) c.decided.view_is))
    (c.in_ok-note_all.ensures.own s _ _ c.requires.first.own))))

pub returns-clause-node : goal.returns-clause-node
unfolding event_of
returns-clause-node c = on_ok c.push.result _ (record {
  own = own_kept c;
  moment = ap (λ (d : Decided). d.moment) c.decided.view_is ∙ sym (moment_taken (trace_of c.args.shared.now) (event_of c));
})

pub returns-clause-shared : goal.returns-clause-shared
unfolding event_of
returns-clause-shared c = on_ok c.push.result _ (
    let objects = c.args.turn.now.objects.now in
    let s = c.args.turn.now.node in
    let T = trace_of c.args.shared.now in
    let e = event_of c in
    record {
      all_nodes =
          all_nodes_taken objects T s c.args.turn.now.letter.now c.args.first c.args.decided c.note_all.new.all_nodes
          (subst (λ (ds : List Deed). KeepsAllNodes objects (after (after (plain_all (events T)) c.args.first) ds) c.note_all.new.all_nodes)
          (ap (λ (d : Decided). d.did.deeds) c.decided.view_is) (c.in_ok-note_all.ensures.all_nodes _ c.requires.first.all_nodes));
      untils =
          untils_taken T e c.args.shared.now.untils c.note_named.new.untils c.requires.first.untils
          (λ a. c.in_ok-note_named.ensures a
          ∙ ap (λ (x : TimedEvent). if list_any (names_first a) x.event.deeds then x.until else until_in c.args.shared.now.untils a) c.in_ok-event.ensures);
      letters =
          letters_kept T e c.sender_of-sender.result c.args.shared.now.letters c.post.new.letters c.requires.first.letters
          (record {
            event = c.sender_of-sender.ensures.event ∙ sym (length-reverse c.args.shared.now.trace);
            node = c.sender_of-sender.ensures.node;
            range = c.requires.node;
            moment = c.sender_of-sender.ensures.moment ∙ ap (λ (d : Decided). d.moment) c.decided.view_is;
            commits = c.sender_of-sender.ensures.commits objects s _ _ (own_kept c);
            aborts = c.sender_of-sender.ensures.aborts objects s _ _ (own_kept c);
          })
          c.requires.nodes
          (c.in_ok-post.ensures
          ∙ ap (λ (sent : List Sent). c.args.shared.now.letters ++ posted c.sender_of-sender.result 0 sent) (c.as_slice.ensures ∙ ap (λ (d : Decided). d.did.sent) c.decided.view_is));
    })
