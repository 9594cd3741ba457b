-- A step that the node of a storm took for an item is one that a storm puts to it: so its letters go
-- to the four nodes, and each action that it created is one of the storm's.
use Rattle.std.proofs.Common.{◌≡◌, ℕ, ℤ, false, List, ◌∷◌, Option, sym, ap, ◌∙◌, subst, arith}
use Rattle.std.specs.Prelude.{reverse, IfSome}
use Rattle.cam_event.specs.declared.Event.{Event}
use Rattle.cam_event.specs.declared.Letter.{Letter as EventLetter}
use Rattle.cam_event.specs.declared.LetterId.{LetterId}
use Rattle.cam_event.specs.declared.Sent.{Sent}
use Rattle.cam_event.specs.ByDeltas.{Received}
use Rattle.cam_event.proofs.Members.{In}
use Rattle.cam_node.specs.Halting.{IsThrough}
use Rattle.cam_node.specs.Lawful.{MayBePut}
use Rattle.cam_node.specs.Represents.{Node}
use Rattle.cam_journal.specs.declared.entry.SentLetter.{SentLetter as Taken}
use Rattle.cam_journal.specs.declared.input.CoreInput.{CoreInput}
use Rattle.cam_journal.specs.Taking.{IsFromLawful, letter_in, received_of}
use Rattle.cam_gen.specs.Storms.{Words, objects_of}
use Rattle.cam_storm.specs.Events.{Copied}
use Rattle.cam_storm.specs.Names.{Near}
use Rattle.cam_storm.specs.Own.{sight_at}
use Rattle.cam_storm.specs.Lawful.{IsPut, SeatHistory, goes_to, lawful, load_in, mail_in, named, own_history, sends}
use Rattle.cam_storm.proofs.Answering.{IsPutFor, answer_put, handed}
use Rattle.cam_storm.proofs.Idle.{histories_lawful}
use Rattle.cam_storm.proofs.Named.{number_high}
use Rattle.cam_storm.proofs.OwnNear.{OwnNear, own_near, own_near_more}
use Rattle.cam_storm.proofs.OwnSends.{create_found, sent_near}
use Rattle.cam_storm.proofs.SoundSteps.{IsPutStep}
use Rattle.cam_storm_node.specs.Asking.{EndsActions}
use Rattle.cam_storm_node.specs.Following.{AreOfFew}
use Rattle.cam_storm_node.specs.Playing.{StormNodeFields, IsPlaying, cell_of, is_idle_by}
use Rattle.cam_storm_node.specs.Taking.{HasTaken}
use Rattle.cam_storm_node.proofs.Crashed.{crash_ends}
use Rattle.cam_storm_node.proofs.Played.{busy_runs, idle_same}

module _ (words : Words) (s : ℕ) (history : SeatHistory) (item : CoreInput Copied)
    (old : StormNodeFields) (plays : IsPlaying words old s history)
    (busy : is_idle_by old item ≡ false)
    (sent : IfSome (letter_in item) (λ sent.
    (goes_to sent.letter ≡ s) × IsFromLawful sends (lawful words) sent)) (event : Event)
    (letters : List EventLetter) (finish : Option ℤ) (node : Node) (entries : List (List ℕ))
    (took : HasTaken words s (own_history history) item event letters finish node entries) where
  abbrev pub own : List Received
  own = own_history history

  abbrev pub put_for : IsPutFor words s own item took.input
  put_for =
      answer_put words (cell_of old plays.sent) s history item took.input plays.few plays.replay
      (busy_runs old item busy) (idle_same words old s history plays item ∙ busy) sent
      took.is_answer

  abbrev pub received : handed item took.input ≡ took.from
  received =
      ap (λ (o : Option LetterId). received_of (named o) (letter_in item))
      (sym (ap (λ (x : Event). x.got) took.is_next))
      ∙ sym took.is_from

  abbrev pub put : IsPutStep words s own took.from event
  put = record {
    input = took.input;
    here = plays.replay.here;
    may =
        subst
        (λ (from : Option (Taken Copied)).
        MayBePut (objects_of words) s (sight_at words s own) took.input (mail_in from)
        (load_in from)) received put_for.may;
    so =
        subst (λ (from : Option (Taken Copied)). IsPut words s own from took.input) received
        put_for.so;
    tops_first = put_for.tops_first;
    is_next = took.is_next;
  }

  kept : OwnNear words s own
  kept = own_near words s (reverse history) plays.replay.lawful

  -- its letters go to the four nodes
  pub goes_near : (m : Sent) → In m event.sent → Near m.to
  goes_near m i =
      sent_near words s own took.from event put kept m
      (subst (λ (x : Event). In m x.sent) took.is_next i)

  -- what it created is of the first 64 top actions
  pub few_more :
      AreOfFew (record { event = event; mail = mail_in took.from; load = load_in took.from } ∷ own)
  few_more a made =
      let all = own_near_more words s own took.from event put
      (histories_lawful words s history plays.replay.lawful) kept in
      let is = all.created a (create_found _ a made) in
      let high = number_high words a is.0 in
      let few = plays.few in
      omega (arith, high, few)

  -- and after a restart none of them may run
  pub ends : IsThrough (objects_of words) s own
      → EndsActions s own
      (record { event = event; mail = mail_in took.from; load = load_in took.from })
  ends through = crash_ends words s own took.from event put through
