-- A letter that was read from its bytes is as good as the one that was sent.
use Rattle.std.proofs.Common.{◌≡◌, ℕ, ◌≤◌, not, ◌&&◌, eqb, max, min, if◌then◌else◌, List, ◌∷◌, map}
use Rattle.std.proofs.Common.{length, reverse, Option, Some, refl, sym, ap, ◌∙◌, subst}
use Rattle.std.proofs.lemmas.Option.{same_Some}
use Rattle.cam_type.specs.declared.Held.{Held}
use Rattle.cam_type.specs.declared.ObjectDecl.{ObjectDecl}
use Rattle.cam_know.specs.Known.{both, known_count}
use Rattle.cam_know.specs.Order.{told_in_order}
use Rattle.cam_event.specs.declared.Event.{Event}
use Rattle.cam_event.specs.declared.Letter.{Letter}
use Rattle.cam_event.specs.History.{count as count_in, number_of}
use Rattle.cam_event.specs.Inputs.{Mail}
use Rattle.cam_event.specs.ByKnowledge.{held}
use Rattle.cam_event.specs.HeldSites.{is_any_perform, site}
use Rattle.cam_event.specs.Carried.{Carried, deeds_of}
use Rattle.cam_event.specs.Loads.{Load, each_node}
use Rattle.cam_event.specs.ByDeltas.{Received, as_carried, known, crashed, is_from, have_of}
use Rattle.cam_event.specs.ByDeltas.{acked_of, places_of, load_at, load_by, received_of}
use Rattle.cam_agree.proofs.Ran.{Ran}
use Rattle.cam_commit.specs.Families.{CommitsFamilies}
use Rattle.cam_delta.proofs.Addressed.{ran_addressed}
use Rattle.cam_delta.proofs.Distinctness.{Distinct, distinct_so_far}
use Rattle.cam_delta.proofs.OneOrder.{none_twice}
use Rattle.cam_delta.proofs.SameHistories.{Alike, same_alike}
use Rattle.cam_server.specs.Recovered.{AreHeld, OrderIsKept, beside}
use Rattle.cam_server.specs.Server.{ServesSite}
use Rattle.cam_tranman.specs.Actions.{RunsActions}
use Rattle.cam_wire.specs.OfTrace.{letter_with}
use Rattle.cam_node.specs.Lawful.{IsLetter, body_counts}
use Rattle.cam_node.specs.Keeping.{IsLogOf}
use Rattle.cam_node.specs.Log.{Logged, secure_counts}
use Rattle.cam_node.specs.LogOrder.{IsInOrder, OrderIsKeptWith}
use Rattle.cam_node.specs.Opened.{IsKnowledge}
use Rattle.cam_node.specs.Represents.{Node}
use Rattle.cam_histories.specs.ReadBack.{IsAsGood, LettersAreReadBack, received_with}
use Rattle.cam_histories.specs.ReadBack.{NodesStandAsGood, LogsKeepAsGood}
use Rattle.cam_histories.proofs.Sent.{ran_letters_put}
use Rattle.cam_histories.proofs.Handing.{SentAs, sent_as}
use Rattle.cam_histories.proofs.KnownAlike.{known_alike, outcomes_alike, order_alike}

pub letters_are_read_back : LettersAreReadBack
letters_are_read_back objects taken t id mail letter found taking at sent same distinct = record {
  is_mail = λ i. record { from = from i; to = to i; body = body i };
  load = record {
    have = same.have ∙ ap (λ (l : Letter). l.have) is;
    place = same.place ∙ ap (λ (l : Letter). l.place) is;
    order = order;
  };
  may = record {
    addressed = refl;
    for_node = put.for_node;
    body_known = known_alike found.know load.know
        (body_counts mail.body) alike.counts ∙ put.body_known;
    outcomes_known = outcomes_alike found.know load.know alike put.outcomes_known;
  };
}
  where
    run : Ran objects t
    run = (taken, taking)

    load : Load
    load = load_at objects t id

    how : SentAs objects t id letter
    how = sent_as objects t id letter sent

    one_mail : how.mail ≡ mail
    one_mail = same_Some how.mail mail (sym how.at ∙ at)

    is : letter ≡ letter_with load mail
    is = sym how.is ∙ ap (letter_with load) one_mail

    from : found.from ≡ mail.from
    from = same.from ∙ ap (λ (l : Letter). l.from) is

    to : found.to ≡ mail.to
    to = same.to ∙ ap (λ (l : Letter). l.to) is

    body : found.body ≡ mail.body
    body = same.body ∙ ap (λ (l : Letter). l.body) is

    alike : Alike found.know load.know
    alike = subst (λ (l : Letter). Alike found.know l.know) is
        (same_alike found.know letter.know (record { outcomes = same.outcomes; counts = same.counts }))

    order : told_in_order found.know ≡ told_in_order load.know
    order =
        order_alike found.know load.know alike (none_twice found.know.outcomes distinct)
        (subst (λ (o : Option Mail). Distinct
        (load_by objects (received_of objects t) (Some id) o).know.outcomes) (sym at)
        ((distinct_so_far objects t (ran_addressed objects t run)).letters id mail at))

    put : IsLetter objects mail.to mail load
    put = ran_letters_put objects t id mail run at

module _ (objects : List ObjectDecl) (history : List Received) (event : Event) (mail : Option Mail)
    (one other : Load) (good : IsAsGood one other) where
  abbrev first : List Carried
  first = map as_carried (received_with event mail one ∷ history)

  abbrev second : List Carried
  second = map as_carried (received_with event mail other ∷ history)

  carried : first ≡ second
  carried = λ i. record { event = event; mail = mail; brought = good.order i }
      ∷ map as_carried history

  have_same : (r : ℕ) → have_of (received_with event mail one ∷ history) r
      ≡ have_of (received_with event mail other ∷ history) r
  have_same r = ap (λ (p : ℕ). if crashed event then 0 else if not (eqb event.node r)
      && is_from r mail then max (have_of history r) p else have_of history r) good.place

  acked_same : (r : ℕ) → acked_of objects (received_with event mail one ∷ history) r
      ≡ acked_of objects (received_with event mail other ∷ history) r
  acked_same r =
      λ i. if crashed event then 0 else if not (eqb event.node r) && is_from r mail
      then max (acked_of objects history r) (min (good.have i)
      (length (both (known objects history) (good.order i)).outcomes))
      else acked_of objects history r

  places_same : places_of objects (received_with event mail one ∷ history)
      ≡ places_of objects (received_with event mail other ∷ history)
  places_same = λ i. record {
    have = map (λ r. have_same r i) each_node;
    acked = map (λ r. acked_same r i) each_node;
  }

pub nodes_stand_as_good : NodesStandAsGood
nodes_stand_as_good objects history event mail one other node good stands =
    let hs = carried objects history event mail one other good in
    record {
      own_count = stands.own_count ∙ ap (λ (h : List Carried). count_in (deeds_of h) node.number)
          hs;
      knowledge = stands.knowledge ∙ ap (held objects) hs;
      places = stands.places ∙ places_same objects history event mail one other good;
      runs = subst (λ (h : List Carried). RunsActions objects node.number h node.actions) hs
          stands.runs;
      commits = subst (λ (h : List Carried). CommitsFamilies objects node.number h node.families) hs
          stands.commits;
      serves = subst (λ (h : List Carried). ServesSite objects node.number h node.server) hs
          stands.serves;
    }

pub logs_keep_as_good : LogsKeepAsGood
logs_keep_as_good objects s history event mail one other logged good keeps =
    let hs = carried objects history event mail one other good in
    record {
      count = keeps.count ∙ ap (λ (h : List Carried). count_in (deeds_of h) s) hs;
      outcomes = keeps.outcomes ∙ ap (λ (h : List Carried). (held objects h).outcomes) hs;
      other_counts = λ m low high off. keeps.other_counts m low high off ∙ ap
          (λ (h : List Carried). known_count (held objects h) m) hs;
      own_known = λ low high. keeps.own_known low high ∙ ap
          (λ (h : List Carried). known_count (held objects h) s) hs;
      secured = subst (λ (h : List Carried). AreHeld logged.held (reverse (site h).secured)) hs
          keeps.secured;
      counts = keeps.counts ∙ ap (λ (h : List Carried). secure_counts s (deeds_of h)) hs;
      order = subst (λ (h : List Carried). OrderIsKept
          (beside logged.held (reverse (site h).secured))) hs keeps.order;
    }

-- the same of a log from which the history goes on
pub logs_go_on : (objects : List ObjectDecl) (s : ℕ) (history : List Received) (event : Event)
    (mail : Option Mail) (one other : Load) (logged : Logged) → IsAsGood one other
    → IsLogOf objects s (received_with event mail one ∷ history) logged
    → IsLogOf objects s (received_with event mail other ∷ history) logged
logs_go_on objects s history event mail one other logged good is = record {
  keeps = logs_keep_as_good objects s history event mail one other logged good is.keeps;
  recovered = is.recovered;
  known =
      subst (λ (h : List Carried). IsKnowledge (held objects h))
      (carried objects history event mail one other good) is.known;
}

-- and the order of what it holds and of what is live
pub in_order_as_good : (objects : List ObjectDecl) (history : List Received) (event : Event)
    (mail : Option Mail) (one other : Load) (hs : List Held) (node : Node)
    → IsAsGood one other
    → IsInOrder (received_with event mail one ∷ history) hs node.server.table.site
    → IsInOrder (received_with event mail other ∷ history) hs node.server.table.site
in_order_as_good objects history event mail one other hs node good is = record {
  kept = subst (λ (h : List Carried). OrderIsKeptWith (site h) hs node.server.table.site.live
      node.server.table.site.next) (carried objects history event mail one other good) is.kept;
  next = subst (λ (h : List Carried). node.server.table.site.next
      ≤ number_of is_any_perform (deeds_of h))
      (carried objects history event mail one other good) is.next;
}
