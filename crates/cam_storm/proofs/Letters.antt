-- In a gathered run each letter is the one that the run's events tell, with what its receiver had not acknowledged, and with its copies.
use Rattle.std.proofs.Common.{◌≡◌, ⊎_elim, ℕ, zero, suc, ◌+◌, ◌<◌, eqb, Bool, true, false, if◌then◌else◌, List, [], ◌∷◌, length, reverse, Option, Some, None, refl, sym, ap, ◌∙◌, subst, arith}
use Rattle.std.specs.Prelude.{slice_get, option_map, option_and_then, IfSome}
use Rattle.std.proofs.lemmas.Bool.{eq-eqb, ne_eqb}
use Rattle.std.proofs.lemmas.List.{length-reverse, length-map}
use Rattle.cam_type.specs.declared.ObjectDecl.{ObjectDecl}
use Rattle.cam_event.specs.declared.LetterId.{LetterId}
use Rattle.cam_event.specs.declared.Event.{Event}
use Rattle.cam_event.specs.declared.Sent.{Sent}
use Rattle.cam_event.specs.Inputs.{mail_of, event_at, letter_at, mail_got}
use Rattle.cam_event.specs.ByDeltas.{Received, load_for, of_node, up_to, load_by, received_of}
use Rattle.cam_cut.proofs.Families.{letter_older}
use Rattle.cam_journal.specs.declared.entry.RunStep.{RunStep}
use Rattle.cam_journal.specs.declared.entry.SentLetter.{SentLetter as Taken}
use Rattle.cam_journal.specs.Trace.{Receives, IsSent}
use Rattle.cam_journal.proofs.Lists.{slice_get-push}
use Rattle.cam_gen.specs.Storms.{Words, objects_of, copies_of}
use Rattle.cam_storm.specs.Events.{Copied}
use Rattle.cam_storm.specs.Events.{Stepped}
use Rattle.cam_storm.specs.Runs.{sent_count, sender_node, letter_number, copies}
use Rattle.cam_storm.specs.Own.{own_sent}
use Rattle.cam_storm.specs.Lawful.{named, sends, letter_mail, mail_in, letter_load, load_in, IsCopied, AreCopied}
use Rattle.cam_delta.proofs.Growing.{history, received_length}
use Rattle.cam_storm.proofs.Turned.{reverse_more, ev, trace_of}

-- what holds of a letter that was sent
pub record LetterHolds (words : Words) (t : List Event) (letter : LetterId) (c : Copied) : Type 0 where
  pub mail : letter_at t letter ≡ Some (letter_mail c.letter)
  pub load : letter_load c.letter ≡ load_by (objects_of words) (received_of (objects_of words) t) (Some letter) (Some (letter_mail c.letter))
  pub copies : c.copies ≡ copies words t letter

abbrev pub id_of : ℕ → ℕ → LetterId
id_of i p = record { event = i; place = p }

abbrev pub LettersHold : Words → List (RunStep Stepped Copied) → Type 0
LettersHold words xs = (i p : ℕ) (y : RunStep Stepped Copied) (c : Copied) → slice_get (reverse xs) i ≡ Some y → slice_get y.event.letters p ≡ Some c → LetterHolds words (trace_of xs) (id_of i p) c

-- the letter at a place is the copy of what was sent there
pub copied_at : (words : Words) (s : ℕ) (h : List Received) (n : ℕ) (sent : List Sent) (letters : List Copied) (p : ℕ) (c : Copied) → AreCopied words s h n sent letters → slice_get letters p ≡ Some c
    → (m : Sent) × (slice_get sent p ≡ Some m) × IsCopied words s h (n + p) m c
copied_at words s h n [] [] p c all at = absurd (cc)
copied_at words s h n (m ∷ sent) (d ∷ letters) zero c all at =
    let same : d ≡ c = cc in
    (m, refl, subst (λ (x : Copied). IsCopied words s h (n + 0) m x) same (subst (λ (k : ℕ). IsCopied words s h k m d) (omega arith) all.0))
copied_at words s h n (m ∷ sent) (d ∷ letters) (suc p) c all at =
    let rest = copied_at words s h (n + 1) sent letters p c all.1 at in
    (rest.0, rest.1, subst (λ (k : ℕ). IsCopied words s h k rest.0 c) (omega arith) rest.2)
copied_at words s h n [] (d ∷ letters) p c all at = absurd all
copied_at words s h n (m ∷ sent) [] p c all at = absurd all

-- the letters of a new event
pub new_letter : (words : Words) (e : Event) (t : List Event) (s : ℕ) (own : List Received) (new : Received) (p : ℕ) (m : Sent) (c : Copied) → e.node ≡ s → own_sent own ≡ sent_count t s
    → new ∷ own ≡ history (objects_of words) (e ∷ t) s → slice_get e.sent p ≡ Some m → IsCopied words s (new ∷ own) (own_sent own + p) m c
    → LetterHolds words (e ∷ t) (id_of (length t) p) c
new_letter words e t s own new p m c node sent same at is = record {
  mail =
      ap (λ (b : Bool). option_and_then (λ (x : Event). option_map (mail_of x) (slice_get x.sent p)) (if b then Some e else event_at t (length t))) here
      ∙ ap (λ (o : Option Sent). option_map (mail_of e) o) at
      ∙ (λ i. Some (record { from = (node ∙ sym is.from) i; to = sym is.to i; body = sym is.body i }));
  load =
      is.load
      ∙ ap (λ (h : List Received). load_for objects s h m.to) same
      ∙ (λ i. load_for objects (sym is.from i) (of_node (sym whole i) (sym is.from i)) (sym is.to i));
  copies =
      is.copies
      ∙ (λ i. copies_of words (sym node i) (sent i + p))
      ∙ ap (λ (n : ℕ). copies_of words e.node (n + p)) (ap (sent_count t) (sym node))
      ∙ (λ i. copies_of words (if sym here i then e.node else sender_node t (id_of (length t) p)) (if sym here i then sent_count t e.node + p else letter_number t (id_of (length t) p)));
}
  where
    objects : List ObjectDecl
    objects = objects_of words

    all : List Received
    all = received_of objects (e ∷ t)

    here : eqb (length t) (length t) ≡ true
    here = eq-eqb (length t) (length t) refl

    whole : up_to all (length t) ≡ all
    whole = ap (λ (b : Bool). if b then all else up_to (received_of objects t) (length t)) (eq-eqb (length t) (length (received_of objects t)) (sym (received_length objects t)))

-- an older letter stays as it was
pub old_letter : (words : Words) (e : Event) (t : List Event) (i p : ℕ) (c : Copied) → i < length t → LetterHolds words t (id_of i p) c → LetterHolds words (e ∷ t) (id_of i p) c
old_letter words e t i p c below h = record {
  mail = letter_older e t (id_of i p) (letter_mail c.letter) h.mail;
  load = h.load ∙ ap (λ (l : List Received). load_for objects c.letter.from (of_node l c.letter.from) c.letter.to) (sym front);
  copies = h.copies ∙ (λ j. copies_of words (if sym other j then e.node else sender_node t (id_of i p)) (if sym other j then sent_count t e.node + p else letter_number t (id_of i p)));
}
  where
    objects : List ObjectDecl
    objects = objects_of words

    other : eqb i (length t) ≡ false
    other = ne_eqb i (length t) (λ (e : i ≡ length t). omega (arith, e, below))

    front : up_to (received_of objects (e ∷ t)) i ≡ up_to (received_of objects t) i
    front = ap (λ (b : Bool). if b then received_of objects (e ∷ t) else up_to (received_of objects t) i) (ap (eqb i) (received_length objects t) ∙ other)

pub trace_length : (xs : List (RunStep Stepped Copied)) → length (trace_of xs) ≡ length (reverse xs)
trace_length xs = length-map xs ev ∙ sym (length-reverse xs)

-- so all letters hold with one more step
pub letters_more : (words : Words) (x : RunStep Stepped Copied) (before : List (RunStep Stepped Copied)) → LettersHold words before
    → ((p : ℕ) (c : Copied) → slice_get x.event.letters p ≡ Some c → LetterHolds words (trace_of (x ∷ before)) (id_of (length (trace_of before)) p) c)
    → LettersHold words (x ∷ before)
letters_more words x before old new i p y c at there =
    let t : List Event = trace_of before in
    let len = trace_length before in
    ⊎_elim
    (λ (l : (i < length (reverse before)) × (slice_get (reverse before) i ≡ Some y)).
    let below = l.0 in
    old_letter words (ev x) t i p c (omega arith) (old i p y c l.1 there))
    (λ (r : (i ≡ length (reverse before)) × (x ≡ y)).
    subst (λ (k : ℕ). LetterHolds words (ev x ∷ t) (id_of k p) c) (len ∙ sym r.0) (new p c (ap (λ (z : RunStep Stepped Copied). slice_get z.event.letters p) r.1 ∙ there)))
    (slice_get-push (reverse before) x y i (subst (λ (l : List (RunStep Stepped Copied)). slice_get l i ≡ Some y) (reverse_more x before) at))

-- what an event received is what its letter says and carries
pub comes : (words : Words) (before : List (RunStep Stepped Copied)) (got : Option LetterId) (taken : Option (Taken Copied)) → LettersHold words before → Receives (named got) taken → IfSome taken (IsSent sends (reverse before))
    → (mail_in taken ≡ mail_got (trace_of before) got) × (load_in taken ≡ load_by (objects_of words) (received_of (objects_of words) (trace_of before)) got (mail_got (trace_of before) got))
comes words before None None holds is sent = (refl, refl)
comes words before None (Some k) holds is sent = absurd is
comes words before (Some l) None holds is sent = absurd is
comes words before (Some l) (Some k) holds is sent =
    let t : List Event = trace_of before in
    let id : LetterId = id_of k.number k.place in
    let h : LetterHolds words t id k.letter = holds k.number k.place sent.sender k.letter sent.event sent.letter in
    let same : id ≡ l = λ i. record { event = sym is.0 i; place = sym is.1 i } in
    let mail : Some (letter_mail k.letter.letter) ≡ letter_at t l = sym h.mail ∙ ap (letter_at t) same in (
      mail,
      h.load ∙ (λ i. load_by (objects_of words) (received_of (objects_of words) t) (Some (same i)) (mail i)),
    )
