-- After a step a storm node is the replay of the history with the event that it made, which answers
-- the item and may come next.
use Rattle.std.proofs.Common.{◌≡◌, inr, ℕ, ℤ, ◌+◌, false, List, [], ◌∷◌, ◌++◌, map, length, Option, sym, ap, ◌∙◌, subst}
use Rattle.std.specs.Prelude.{reverse, IfSome, Ok}
use Rattle.std.proofs.lemmas.List.{reverse-append, length-map}
use Rattle.cam_event.specs.declared.Letter.{Letter as EventLetter}
use Rattle.cam_event.specs.ByDeltas.{Received}
use Rattle.cam_node.specs.Calls.{letter_as}
use Rattle.cam_node.specs.Halting.{IsThrough}
use Rattle.cam_node.specs.Keeping.{KeepsNode}
use Rattle.cam_node.specs.Represents.{Represents}
use Rattle.cam_journal.specs.declared.entry.NumberedEvent.{NumberedEvent}
use Rattle.cam_journal.specs.declared.entry.SentLetter.{SentLetter as Taken}
use Rattle.cam_journal.specs.declared.input.CoreInput.{CoreInput}
use Rattle.cam_journal.specs.Taking.{entry, letter_in, IsFromLawful, IsNext}
use Rattle.cam_gen.specs.Storms.{Words, objects_of}
use Rattle.cam_storm.specs.Events.{Copied, Stepped}
use Rattle.cam_storm.specs.Lawful.{SeatHistory, AreCopied, carried, carried_in, goes_to, lawful, names, own_history, sends, step_at, IsStormHistory, mail_in}
use Rattle.cam_storm.specs.Own.{event_in, own_sent, finish_value}
use Rattle.cam_storm.specs.Core.{Answers, Cell, Keeps, used_by}
use Rattle.cam_storm.proofs.Answering.{answers_lawful}
use Rattle.cam_storm.proofs.Idle.{keeps_of}
use Rattle.cam_storm_node.specs.Copying.{copied_from}
use Rattle.cam_storm_node.specs.Playing.{StormNodeFields, IsPlaying, Runs, cell_of, is_idle_by, is_over}
use Rattle.cam_storm_node.proofs.Copied.{are_copied}
use Rattle.cam_storm_node.specs.Receipts.{AreReceipts}
use Rattle.cam_storm_node.specs.Works.{HaveSeen}
use Rattle.cam_storm_node.specs.Asking.{EndsActions, HaveAsked}
use Rattle.cam_gen.specs.StormDraws.{AreAt}
use Rattle.cam_storm_node.specs.Taking.{HasTaken, OnlyNode}
use Rattle.cam_storm_node.specs.Following.{AreOfFew, HasFollowed, MayFollow}
use Rattle.cam_storm_node.specs.Stepping.{HasStepped}
use Rattle.cam_storm_node.proofs.PutTaken.{ends, few_more, goes_near}
use Rattle.cam_storm_node.proofs.Played.{one_more, idle_same, busy_runs, runs_of, named}

module _ (words : Words) (s : ℕ) (history : SeatHistory) (item : CoreInput Copied)
    (old : StormNodeFields) (plays : IsPlaying words old s history)
    (busy : is_idle_by old item ≡ false)
    (sent : IfSome (letter_in item) (λ sent.
    (goes_to sent.letter ≡ s) × IsFromLawful sends (lawful words) sent))
    (mid : StormNodeFields) (only : OnlyNode old mid) (e : Stepped) (letters : List EventLetter)
    (finish : Option ℤ) where
  abbrev pub own : List Received
  own = own_history history

  abbrev pub cell : Cell
  cell = cell_of old plays.sent

  on : is_over old ≡ false
  on = busy_runs old item busy

  keeps : Keeps words s own cell
  keeps = keeps_of words cell s history plays.replay on

  abbrev pub c : Received
  c = carried e (used_by e item)

  module _ (took : HasTaken words s own item e.event letters finish mid.node mid.entries) where
    stands : KeepsNode (objects_of words) (c ∷ own) mid.node mid.entries
    stands =
        subst (λ (from : Option (Taken Copied)).
        KeepsNode (objects_of words) (carried e from ∷ own) mid.node mid.entries) took.is_from
        took.stands

    -- the storm node may take the step in
    pub may_follow : MayFollow words s plays.sent own c finish mid
    may_follow =
        let runs = runs_of words old s history plays on in record {
          low = plays.replay.here.0;
          words_are = only.storm ∙ plays.words_are;
          number = took.number;
          finish_is =
              ap (λ (from : Option (Taken Copied)). finish_value (mail_in from)) (sym took.is_from)
              ∙ took.finish_is;
          node = stands;
          copies = subst (AreAt words s plays.sent) (sym only.copies) runs.copies;
          seen = subst (HaveSeen words own) (sym only.works) runs.seen;
          receipts = subst (AreReceipts (map event_in own)) (sym only.receipts) keeps.received;
          few =
              subst (λ (from : Option (Taken Copied)). AreOfFew (carried e from ∷ own))
              took.is_from
              (few_more words s history item old plays busy sent e.event letters finish mid.node
              mid.entries took);
          asked = subst (HaveAsked s own) (sym only.works) runs.asked;
          ends =
              subst (λ (from : Option (Taken Copied)). EndsActions s own (carried e from))
              took.is_from
              (ends words s history item old plays busy sent e.event letters finish mid.node
              mid.entries took
              (subst (λ (n : ℕ). IsThrough (objects_of words) n own) plays.replay.number
              runs.node.through));
        }

  module _ (took : HasTaken words s own item e.event letters finish mid.node mid.entries)
      (new : StormNodeFields)
      (followed : HasFollowed words s plays.sent own c letters mid e.letters new) where
    count : length letters ≡ length e.event.sent
    count =
        ap length took.letters_are
        ∙ length-map e.event.sent (letter_as mid.node.know mid.node.places mid.node.number
        mid.node.count)

    are_all : AreCopied words s (c ∷ own) (own_sent own) e.event.sent e.letters
    are_all =
        subst (λ (ds : List Copied). AreCopied words s (c ∷ own) (own_sent own) e.event.sent ds)
        (sym (followed.drawn_are
        ∙ λ i. copied_from words s (keeps.sent i) (took.letters_are i)))
        (are_copied words s (c ∷ own) mid.node took.number (stands took).represents (own_sent own)
        e.event.sent
        (goes_near words s history item old plays busy sent e.event letters finish mid.node
        mid.entries took))

    pub answer : Answers words s history item e
    answer = record {
      input = took.input;
      is_answer = took.is_answer;
      is_next =
          took.is_next
          ∙ ap (λ (from : Option (Taken Copied)). step_at words s own took.input from)
          took.is_from;
      letters = are_all;
    }

    pub next : IsNext names (lawful words) s history (letter_in item) e
    next =
        answers_lawful words cell s history item e plays.few plays.replay on
        (idle_same words old s history plays item ∙ busy) sent answer

    module _ (number : ℕ) where
      abbrev pub x : NumberedEvent Stepped Copied
      x = entry names number (letter_in item) e

      abbrev pub more : SeatHistory
      more = history ++ x ∷ []

      turned : reverse more ≡ x ∷ reverse history
      turned = reverse-append history (x ∷ [])

      own_more : own_history more ≡ c ∷ own
      own_more = ap (map carried_in) turned

      lawful_more : IsStormHistory words s (reverse more)
      lawful_more = subst (IsStormHistory words s) (sym turned)
          (next.allowed.1, plays.replay.lawful)

      abbrev pub sent_now : ℕ
      sent_now = plays.sent + length letters

      sent_is : sent_now ≡ own_sent (c ∷ own)
      sent_is = λ i. keeps.sent i + count i

      keeps_more : Keeps words s (c ∷ own) (cell_of new sent_now)
      keeps_more = record {
        node = subst (Represents (objects_of words) (c ∷ own)) (sym followed.node)
            (stands took).represents;
        events =
            followed.events ∙ ap (λ n. n + 1) (only.events ∙ keeps.events) ∙ one_more (length own);
        sent = sent_is;
        views = λ a here is. followed.seen.views a (named s a here.0 plays.replay.here.0);
        stops = λ a here. followed.seen.stopped a;
        drive = followed.drive;
        received = followed.receipts;
      }

      pub plays_on : IsPlaying words new s more
      plays_on = record {
        words_are = followed.storm ∙ only.storm ∙ plays.words_are;
        tops = followed.tops ∙ only.tops ∙ plays.tops;
        few = plays.few;
        sent = sent_now;
        replay = record {
          number = ap (λ n. n.number) followed.node ∙ took.number;
          here = plays.replay.here;
          lawful = lawful_more;
          keeps = inr (subst (λ h. Keeps words s h (cell_of new sent_now)) (sym own_more)
              keeps_more);
        };
        runs = inr (subst (λ h. Runs words s sent_now h new) (sym own_more) (record {
          node =
              subst (λ n. KeepsNode (objects_of words) (c ∷ own) n new.entries) (sym followed.node)
              (subst (KeepsNode (objects_of words) (c ∷ own) mid.node) (sym followed.entries)
              (stands took));
          objects =
              followed.objects ∙ only.objects
              ∙ (runs_of words old s history plays on).objects;
          copies = followed.copies;
          seen = followed.seen;
          asked = followed.asked;
          next = followed.next;
        }));
      }

    -- THE LEMMA
    pub stepped : HasStepped words s history item new (Ok e)
    stepped = (answer, next, plays_on)
