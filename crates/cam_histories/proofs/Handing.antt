-- What a node hands out is what its event sent.
use Rattle.std.proofs.Common.{◌≡◌, ℕ, suc, ◌+◌, ◌-◌, eqb, Bool, true, false, List, [], ◌∷◌, map}
use Rattle.std.proofs.Common.{length, Option, Some, None, refl, sym, ap, ◌∙◌, arith}
use Rattle.std.specs.Prelude.{slice_get, slice_index, option_map}
use Rattle.std.proofs.lemmas.Option.{same_Some}
use Rattle.cam_type.specs.declared.ObjectDecl.{ObjectDecl}
use Rattle.cam_know.specs.Known.{known_count}
use Rattle.cam_event.specs.declared.LetterId.{LetterId}
use Rattle.cam_event.specs.declared.Event.{Event}
use Rattle.cam_event.specs.declared.Letter.{Letter}
use Rattle.cam_event.specs.declared.Sent.{Sent}
use Rattle.cam_event.specs.History.{count}
use Rattle.cam_event.specs.Inputs.{Mail, mail_of, letter_at}
use Rattle.cam_event.specs.ByPast.{own_past}
use Rattle.cam_event.specs.Carried.{deeds_of}
use Rattle.cam_event.specs.Sights.{own_deeds}
use Rattle.cam_event.specs.ByDeltas.{Received, as_carried, known, load_for, load_at}
use Rattle.cam_event.specs.Loads.{Load, load_to}
use Rattle.cam_event.specs.Runs.{IsNode}
use Rattle.cam_event.proofs.Base.{eighth}
use Rattle.cam_event.proofs.ClosedPasts.{last_has_node}
use Rattle.cam_event.proofs.Agree.{same_count}
use Rattle.cam_event.proofs.SameCounts.{held_and_brought_counts}
use Rattle.cam_event.proofs.CountedPasts.{only_own, own_count}
use Rattle.cam_agree.proofs.Ran.{Ran, ran_sent, ran_alone}
use Rattle.cam_delta.proofs.Addressed.{ran_addressed}
use Rattle.cam_delta.proofs.SameHistories.{entries_alike}
use Rattle.cam_delta.proofs.SameKnown.{nodes_know_the_same}
use Rattle.cam_wire.specs.OfTrace.{letter_with}
use Rattle.cam_node.specs.Calls.{letter_as}
use Rattle.cam_node.specs.Represents.{Node, Represents}
use Rattle.cam_node.proofs.Learnt.{loads_go_on}
use Rattle.cam_runs.specs.Running.{ids_from}
use Rattle.cam_histories.specs.Laws.{history_of}
use Rattle.cam_histories.specs.Flight.{IsSent, AreSent}
use Rattle.cam_histories.specs.FlightLaws.{HandedOutAreSent}
use Rattle.cam_histories.specs.Sending.{new_letter}
use Rattle.cam_histories.proofs.Echoing.{Travels}
use Rattle.cam_histories.proofs.InRange.{travels}
use Rattle.cam_histories.proofs.Staying.{letters_are_sent}

-- a node of a run knows its own count
pub knows_own : (objects : List ObjectDecl) (t : List Event) (s : ℕ) → Ran objects t → IsNode s
    → known_count (known objects (history_of objects t s)) s
    ≡ count (deeds_of (map as_carried (history_of objects t s))) s
knows_own objects t s run node =
    ap (λ (cs : List ℕ). slice_index cs (s - 1))
    (nodes_know_the_same objects t s (ran_addressed objects t run)).counts
    ∙ ap (λ (cs : List ℕ). slice_index cs (s - 1))
    ((held_and_brought_counts objects t (ran_sent objects t run) (ran_alone objects t run)).0 s)
    ∙ eighth (count (own_past t s)) s node.0 node.1
    ∙ same_count t _ s (only_own t (ran_alone objects t run) s) (last_has_node t s)
    ∙ sym (own_count objects t s (only_own t (ran_alone objects t run) s))
    ∙ sym (ap (λ ds. count ds s) (ap own_deeds (entries_alike objects t s)))

-- a letter that was sent, as the run has it
pub record SentAs (objects : List ObjectDecl) (t : List Event) (id : LetterId)
    (letter : Letter) : Type 0 where
  pub mail : Mail
  pub at : letter_at t id ≡ Some mail
  pub is : letter_with (load_at objects t id) mail ≡ letter

pub sent_as : (objects : List ObjectDecl) (t : List Event) (id : LetterId) (letter : Letter)
    → IsSent objects t id letter
    → SentAs objects t id letter
sent_as objects t id letter sent = by (letter_at t id) refl sent
  where
    by : (o : Option Mail) → letter_at t id ≡ o
        → option_map (letter_with (load_at objects t id)) o ≡ Some letter → SentAs objects t id letter
    by None at h = cc
    by (Some mail) at h = record {
      mail = mail;
      at = at;
      is = same_Some (letter_with (load_at objects t id) mail) letter h;
    }

pub as_sent : (objects : List ObjectDecl) (t : List Event) (id : LetterId) (mail : Mail)
    → letter_at t id ≡ Some mail
    → IsSent objects t id (letter_with (load_at objects t id) mail)
as_sent objects t id mail at = ap (λ o. option_map (letter_with (load_at objects t id)) o) at

-- to itself a node tells its counts as to others
counts_told : (objects : List ObjectDecl) (s r : ℕ) (history : List Received)
    → (load_for objects s history r).know.counts ≡ (known objects history).counts
counts_told objects s r history = by (eqb s r) refl
  where
    by : (b : Bool) → eqb s r ≡ b → (load_for objects s history r).know.counts
        ≡ (known objects history).counts
    by true e = rw e refl
    by false e = rw e refl

module _ (objects : List ObjectDecl) (t : List Event) (e : Event) (node : Node)
    (run : Ran objects (e ∷ t))
    (number : node.number ≡ e.node) (stands : Represents objects
    (history_of objects (e ∷ t) e.node) node) where
  abbrev history : List Received
  history = history_of objects (e ∷ t) e.node

  -- one letter
  one_sent : (place : ℕ) (sent : Sent) → slice_get e.sent place ≡ Some sent
      → IsSent objects (e ∷ t) (new_letter t place)
      (letter_as node.know node.places node.number node.count sent)
  one_sent place sent at =
      as_sent objects (e ∷ t) (new_letter t place) (mail_of e sent) is.0 ∙ (λ i. Some (same i))
    where
      is : (letter_at (e ∷ t) (new_letter t place) ≡ Some (mail_of e sent))
          × (load_at objects (e ∷ t) (new_letter t place) ≡ load_for objects e.node history sent.to)
      is = letters_are_sent objects t e place sent at

      way : Travels (e ∷ t) (mail_of e sent)
      way = travels objects (e ∷ t) run (new_letter t place) (mail_of e sent) is.0

      load : load_at objects (e ∷ t) (new_letter t place)
          ≡ load_to node.number node.know node.places sent.to
      load =
          is.1 ∙ loads_go_on objects e.node sent.to history way.to.0 way.to.1
          ∙ (λ i. load_to (sym number i) (sym stands.knowledge i) (sym stands.places i) sent.to)

      own : known_count (load_at objects (e ∷ t) (new_letter t place)).know e.node ≡ node.count
      own =
          ap (λ (l : Load). known_count l.know e.node) is.1
          ∙ ap (λ (cs : List ℕ). slice_index cs (e.node - 1))
          (counts_told objects e.node sent.to history)
          ∙ knows_own objects (e ∷ t) e.node run way.from
          ∙ ap (count (deeds_of (map as_carried history))) (sym number)
          ∙ sym stands.own_count

      same : letter_with (load_at objects (e ∷ t) (new_letter t place)) (mail_of e sent)
          ≡ letter_as node.know node.places node.number node.count sent
      same i = record {
        from = sym number i;
        count = own i;
        to = sent.to;
        have = (load i).have;
        place = (load i).place;
        know = (load i).know;
        body = sent.body;
      }

  -- each from a place on
  sent_from : (place : ℕ) (sent : List Sent) →
      ((k : ℕ) → slice_get e.sent (place + k) ≡ slice_get sent k)
      → AreSent objects (e ∷ t) (map (letter_as node.know node.places node.number node.count) sent)
      (ids_from (length t) place sent)
  sent_from place [] at = tt
  sent_from place (one ∷ more) at = (
    one_sent place one (ap (slice_get e.sent) (omega arith) ∙ at 0),
    sent_from (place + 1) more (λ k. ap (slice_get e.sent) (omega arith) ∙ at (suc k)),
  )

plus : (k : ℕ) → 0 + k ≡ k
plus k = omega arith

pub handed_out_are_sent : HandedOutAreSent
handed_out_are_sent objects taken t e node run number stands =
    sent_from objects t e node (taken, run) number stands 0 e.sent
    (λ k. ap (slice_get e.sent) (plus k))
