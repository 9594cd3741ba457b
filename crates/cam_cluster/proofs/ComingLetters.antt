-- A letter of works: what is found of it by its number.
use Rattle.std.proofs.Common.{◌≡◌, ℕ, ◌+◌, ◌-◌, ◌≤◌, eqb, Bool, true, false, ◌||◌, if◌then◌else◌}
use Rattle.std.proofs.Common.{List, [], Option, Some, None, is_some, refl, sym, ap, ◌∙◌, subst}
use Rattle.std.specs.Prelude.{reverse, slice_get, option_map}
use Rattle.std.specs.Option.{option_map_or}
use Rattle.std.proofs.lemmas.Bool.{true≢false}
use Rattle.std.proofs.lemmas.List.{append-nil, reverse-reverse}
use Rattle.std.proofs.lemmas.Option.{same_Some}
use Rattle.cam_event.specs.declared.Event.{Event}
use Rattle.cam_event.specs.declared.Letter.{Letter}
use Rattle.cam_event.specs.declared.LetterId.{LetterId}
use Rattle.cam_event.specs.Inputs.{Mail, letter_at}
use Rattle.cam_net.specs.Letters.{InFlightFields, has_letter, letter_of as kept_of, whole_of}
use Rattle.cam_node.specs.Log.{Logged}
use Rattle.cam_runs.specs.Running.{letters, has_number, letter_of}
use Rattle.cam_runs.specs.Standing.{Standing, addressee}
use Rattle.cam_runs.proofs.Delivering.{letters_sent, letter_numbered}
use Rattle.cam_script.specs.declared.Script.{Script}
use Rattle.cam_histories.specs.Flight.{IsNetworkOf}
use Rattle.cam_histories.specs.Network.{StandsFor}
use Rattle.cam_histories.proofs.Echoing.{Travels}
use Rattle.cam_histories.proofs.InRange.{travels}
use Rattle.cam_histories.proofs.Networks.{has_run_letters}
use Rattle.cam_cluster.specs.Coming.{IsFound, numbered}
use Rattle.cam_cluster.specs.Works.{WorksFields, KeepsRun}

pub none_is : {X : Type 0} (o : Option X) → is_some o ≡ false → o ≡ None
none_is None is = refl
none_is (Some x) is = absurd (true≢false is)

pub some_mapped : {X Y : Type 0} (f : X → Y) (o : Option X) → is_some (option_map f o) ≡ is_some o
some_mapped f None = refl
some_mapped f (Some x) = refl

pub no_some : {X : Type 0} (o : Option X) (x : X) → o ≡ None → o ≡ Some x → ⊥
no_some None x none is = cc
no_some (Some y) x none is = cc

-- whether the network has it, by its bytes
pub has_as : {T : Type 0} (o : Option T) (f : T → List ℕ) (net other : List InFlightFields)
    (number : ℕ) → option_map f o ≡ whole_of other number → other ≡ net
    → has_letter net number ≡ is_some o
has_as o f net other number is same =
    ap (λ (n : List InFlightFields). has_letter n number) (sym same)
    ∙ sym (some_mapped (λ (l : InFlightFields). l.bytes) (kept_of other number))
    ∙ ap is_some (sym is) ∙ some_mapped f o

-- the letter of a number, by whether it is lost
unless_lost_is : (zero_is lost : Bool) (o : Option LetterId)
    → is_some (if zero_is || lost then None else o) ≡ true
    → (if zero_is || lost then None else o) ≡ (if zero_is then None else o)
unless_lost_is true lost o has = refl
unless_lost_is false true o has = absurd (true≢false (sym has))
unless_lost_is false false o has = refl

lost_or_none : (zero_is lost : Bool) (o : Option LetterId) → (if zero_is then None else o) ≡ None
    → (let none : Option LetterId = None in (if zero_is || lost then none else o) ≡ none)
lost_or_none true lost o none = refl
lost_or_none false true o none = refl
lost_or_none false false o none = none

-- a letter that was sent, and its mail
pub record IsThere (st : Standing) (id : LetterId) : Type 0 where
  pub mail : Mail
  pub at : letter_at st.running.trace id ≡ Some mail
  pub travels : Travels st.running.trace mail

-- the events as the run has them
pub trace_is : (script : Script) (st : Standing) (works : WorksFields)
    (may : ℕ → Logged → Type 0) → KeepsRun script st works may
    → reverse works.events ≡ st.running.trace
trace_is script st works may keeps =
    ap (λ (es : List Event). reverse es) keeps.events ∙ reverse-reverse st.running.trace

-- Of works that have put all letters.
module _ (script : Script) (st : Standing) (works : WorksFields) (may : ℕ → Logged → Type 0)
    (keeps : KeepsRun script st works may) (none_left : works.outbox.unput ≡ []) where
  pub network_is : IsNetworkOf script.objects st works.outbox.net [] works.halted
  network_is = rw (← none_left) keeps.whole.network

  stands : StandsFor st works.outbox.net works.halted
  stands = rw (← (append-nil works.outbox.net)) network_is.stands

  pub has_it : (number : ℕ)
      → has_letter works.outbox.net number ≡ is_some (letter_of st.running number)
  has_it number = has_run_letters st works.outbox.net works.halted number stands

  pub there : (number : ℕ) (id : LetterId) → letter_of st.running number ≡ Some id
      → IsThere st id
  there number id is = by (letter_at st.running.trace id) refl (letters_sent st.running.trace id
      (letter_numbered st.running number _ is))
    where
      by : (o : Option Mail) → letter_at st.running.trace id ≡ o → is_some o ≡ true → IsThere st id
      by None at has = absurd (true≢false (sym has))
      by (Some mail) at has = record {
        mail = mail;
        at = at;
        travels = travels _ _ (has_number st.taken, keeps.under.run) _ _ at;
      }

  numbered_in : (number : ℕ)
      → numbered works.events number
      ≡ (if eqb number 0 then None else slice_get (letters st.running.trace) (number - 1))
  numbered_in number =
      ap (λ (t : List Event). if eqb number 0 then None else slice_get (letters t) (number - 1))
      (trace_is _ _ _ _ keeps)

  -- it is the letter of that number, unless it is lost
  pub is_numbered : (number : ℕ) (o : Option LetterId)
      → has_letter works.outbox.net number ≡ true → o ≡ numbered works.events number
      → letter_of st.running number ≡ o
  is_numbered number o has is =
      unless_lost_is (eqb number 0) (has_number st.running.lost number)
      (slice_get (letters st.running.trace) (number - 1)) (sym (has_it number) ∙ has)
      ∙ sym (numbered_in number) ∙ sym is

  pub found_lost : (number : ℕ) → has_letter works.outbox.net number ≡ false
      → IsFound number st None
  found_lost number has = none_is _ (sym (has_it number) ∙ has)

  -- the node to which it was sent
  pub no_receiver : (number : ℕ) (id : LetterId) → letter_of st.running number ≡ Some id
      → None ≡ option_map (λ (m : Mail). m.to) (letter_at (reverse works.events) id) → ⊥
  no_receiver number id is none =
      let here : IsThere st id = there number id is in
      no_some _ _ (sym none) (ap (λ (t : List Event). option_map (λ (m : Mail). m.to) (letter_at t
      id)) (trace_is _ _ _ _ keeps) ∙ ap (option_map (λ (m : Mail). m.to)) here.at)

  pub receiver_is : (number : ℕ) (id : LetterId) (to : ℕ) → letter_of st.running number ≡ Some id
      → Some to ≡ option_map (λ (m : Mail). m.to) (letter_at (reverse works.events) id)
      → (1 ≤ to) × (to ≤ 8) × (addressee st id ≡ to)
  receiver_is number id to is at = (
    rw to_is here.travels.to.0,
    rw to_is here.travels.to.1,
    ap (λ
        (o : Option Mail). option_map_or (λ (m : Mail). m.to) o 0) here.at ∙ sym to_is,
  )
    where
      here : IsThere st id
      here = there number id is

      to_is : to ≡ here.mail.to
      to_is =
          same_Some to here.mail.to (at ∙ ap (λ (t : List Event). option_map (λ (m : Mail). m.to)
          (letter_at t id)) (trace_is _ _ _ _ keeps) ∙ ap (option_map (λ (m : Mail). m.to))
          here.at)

  pub found_there : (number place : ℕ) (id : LetterId) (to : ℕ)
      → has_letter works.outbox.net number ≡ true → Some id ≡ numbered works.events number
      → Some to ≡ option_map (λ (m : Mail). m.to) (letter_at (reverse works.events) id)
      → (1 ≤ to → place + 1 ≡ to)
      → IsFound number st (Some (record { letter = id; place = place }))
  found_there number place id to has is at back =
      let numbered_is : letter_of st.running number ≡ Some id =
      is_numbered number (Some id) has is in
      let received = receiver_is number id to numbered_is at in
      (numbered_is, received.2 ∙ sym (back received.0))
