-- The letters after one more event.
use Rattle.std.proofs.Common.{◌≡◌, ◌<◌, ◌+◌, ℕ, suc, eqb, true, List, [], ◌∷◌, ◌++◌, length, map, Some, refl, sym, ap, ◌∙◌, subst, arith}
use Rattle.std.specs.Prelude.{slice_get, option_map, option_and_then}
use Rattle.std.specs.List.{AllByRecursion}
use Rattle.std.proofs.lemmas.Bool.{eq-eqb, ne_eqb}
use Rattle.std.proofs.lemmas.List.{map-append}
use Rattle.cam_event.specs.declared.Event.{Event}
use Rattle.cam_event.specs.declared.Sent.{Sent}
use Rattle.cam_event.specs.Inputs.{event_at, mail_of, letter_at}
use Rattle.cam_event.specs.Runs.{IsNode}
use Rattle.cam_event.proofs.Members.{event_below}
use Rattle.cam_cut.proofs.Families.{SentBy, sent_by, letter_older}
use Rattle.cam_own.specs.Informed.{commits_of, aborts_of}
use Rattle.cam_rules.specs.Addressed.{AreAddressed}
use Rattle.cam_runs.specs.Running.{ids_from}
use Rattle.cam_timed.specs.declared.TimedEvent.{TimedEvent}
use Rattle.cam_timed.specs.declared.machine.Letter.{Letter}
use Rattle.cam_timed.specs.declared.machine.posting.Sender.{Sender}
use Rattle.cam_timed.specs.Held.{own_until}
use Rattle.cam_timed.specs.Machine.{deeds_of, aborts_brought, KeepsLetter, KeepsLetters, posted_at, posted}
use Rattle.cam_timed.specs.Moments.{events}
use Rattle.cam_timed.proofs.MomentsRise.{events_length, moment_older, moment_newest}

-- what the letters of an event have in common
pub record IsSender (T : List TimedEvent) (e : TimedEvent) (sender : Sender) : Type 0 where
  pub event : sender.event ≡ length T
  pub node : sender.node ≡ e.event.node
  pub range : IsNode e.event.node
  pub moment : sender.moment ≡ e.moment
  pub commits : sender.commits ≡ length (commits_of (deeds_of (events (e ∷ T)) e.event.node) e.event.node)
  pub aborts : sender.aborts ≡ length (aborts_of (deeds_of (events (e ∷ T)) e.event.node) e.event.node)

posted_ids : (sender : Sender) (place : ℕ) (sent : List Sent) → map (λ (l : Letter). l.id) (posted sender place sent) ≡ ids_from sender.event place sent
posted_ids sender place [] = refl
posted_ids sender place (one ∷ more) = ap (λ ids. record { event = sender.event; place = place } ∷ ids) (posted_ids sender (place + 1) more)

-- an older letter
letter_kept : (T : List TimedEvent) (e : TimedEvent) (letter : Letter) → KeepsLetter T letter → KeepsLetter (e ∷ T) letter
letter_kept T e letter keeps = record {
  mail = letter_older e.event t letter.id letter.mail keeps.mail;
  from = keeps.from;
  to = keeps.to;
  moment = keeps.moment ∙ sym (moment_older e T letter.id.event small);
  commits = keeps.commits ∙ ap (λ L. length (commits_of L letter.mail.from)) (sym own);
  aborts = keeps.aborts ∙ ap (λ L. aborts_brought letter.mail.body (length (aborts_of L letter.mail.from))) (sym own);
}
  where
    t : List Event
    t = events T

    from : SentBy t letter.id letter.mail
    from = sent_by t letter.id letter.mail keeps.mail

    small : letter.id.event < length t
    small = event_below t letter.id.event from.event from.at

    own : own_until (e.event ∷ t) letter.id.event ≡ own_until t letter.id.event
    own = rw (ne_eqb letter.id.event (length t) (λ (same : letter.id.event ≡ length t). omega (arith, same, small))) refl

all_kept : (T : List TimedEvent) (e : TimedEvent) (kept new : List Letter) → AllByRecursion (KeepsLetter T) kept → AllByRecursion (KeepsLetter (e ∷ T)) new → AllByRecursion (KeepsLetter (e ∷ T)) (kept ++ new)
all_kept T e [] new old more = more
all_kept T e (letter ∷ kept) new old more = (letter_kept T e letter old.0, all_kept T e kept new old.1 more)

-- a new one
one_new : (T : List TimedEvent) (e : TimedEvent) (sender : Sender) (place : ℕ) (sent : Sent) → IsSender T e sender → IsNode sent.to → slice_get e.event.sent place ≡ Some sent → KeepsLetter (e ∷ T) (posted_at sender place sent)
one_new T e sender place sent is to at = record {
  mail = found;
  from = subst IsNode (sym is.node) is.range;
  to = to;
  moment = is.moment ∙ sym (moment_newest e T sender.event last);
  commits = is.commits ∙ ap length (ap (λ n. commits_of (deeds_of (events (e ∷ T)) e.event.node) n) (sym is.node) ∙ ap (λ L. commits_of L sender.node) (sym own));
  aborts = ap (aborts_brought sent.body) (is.aborts ∙ ap length (ap (λ n. aborts_of (deeds_of (events (e ∷ T)) e.event.node) n) (sym is.node) ∙ ap (λ L. aborts_of L sender.node) (sym own)));
}
  where
    t : List Event
    t = events T

    last : sender.event ≡ length t
    last = is.event ∙ sym (events_length T)

    here : eqb sender.event (length t) ≡ true
    here = eq-eqb sender.event (length t) last

    own : own_until (e.event ∷ t) sender.event ≡ deeds_of (e.event ∷ t) e.event.node
    own = rw here refl

    event : event_at (e.event ∷ t) sender.event ≡ Some e.event
    event = rw here refl

    found : letter_at (e.event ∷ t) (record { event = sender.event; place = place }) ≡ Some (record { from = sender.node; to = sent.to; body = sent.body })
    found =
        ap (option_and_then (λ (x : Event). option_map (mail_of x) (slice_get x.sent place))) event
        ∙ ap (option_map (mail_of e.event)) at
        ∙ ap (λ (n : ℕ). Some (record { from = n; to = sent.to; body = sent.body })) (sym is.node)

all_new : (T : List TimedEvent) (e : TimedEvent) (sender : Sender) (place : ℕ) (sent : List Sent) → IsSender T e sender → AreAddressed sent → ((k : ℕ) → slice_get sent k ≡ slice_get e.event.sent (place + k)) → AllByRecursion (KeepsLetter (e ∷ T)) (posted sender place sent)
all_new T e sender place [] is to at = tt
all_new T e sender place (one ∷ more) is to at = (
  one_new T e sender place one is to.0 (ap (slice_get e.event.sent) (omega arith) ∙ sym (at 0)),
  all_new T e sender (place + 1) more is to.1 (λ k. at (suc k) ∙ ap (slice_get e.event.sent) (omega arith)),
)

-- So all are in order of their numbers.
pub letters_kept : (T : List TimedEvent) (e : TimedEvent) (sender : Sender) (kept new : List Letter) → KeepsLetters T kept → IsSender T e sender → AreAddressed e.event.sent → new ≡ kept ++ posted sender 0 e.event.sent → KeepsLetters (e ∷ T) new
letters_kept T e sender kept new keeps is to made = subst (KeepsLetters (e ∷ T)) (sym made) (record {
  ids = map-append (λ (l : Letter). l.id) kept (posted sender 0 e.event.sent) ∙ (λ i. keeps.ids i ++ (posted_ids sender 0 e.event.sent ∙ ap (λ n. ids_from n 0 e.event.sent) is.event) i);
  each = all_kept T e kept (posted sender 0 e.event.sent) keeps.each (all_new T e sender 0 e.event.sent is to (λ k. ap (slice_get e.event.sent) (omega arith)));
})
