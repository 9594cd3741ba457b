-- What an input of a lawful event comes to in a gathered run: a letter that was sent, a request that
-- the action has.
use Rattle.std.proofs.Common.{◌≡◌, inr, ℕ, ◌<◌, ◌≤◌, List, [], ◌∷◌, map, reverse, Option, Some, None, is_some, refl, sym, ap, ◌∙◌, subst, arith}
use Rattle.std.specs.Prelude.{IfSome}
use Rattle.std.specs.Option.{option_map_or}
use Rattle.std.proofs.lemmas.Option.{same_Some}
use Rattle.cam_type.specs.declared.ObjectDecl.{ObjectDecl}
use Rattle.cam_know.specs.Known.{nothing}
use Rattle.cam_event.specs.declared.LetterId.{LetterId}
use Rattle.cam_event.specs.declared.Event.{Event}
use Rattle.cam_event.specs.Inputs.{Input, Begins, Requests, Receives, Tells, Queries, Restarts, Mail, letter_at, node_of, got_of}
use Rattle.cam_event.specs.Refusals.{refusal}
use Rattle.cam_event.specs.ByPast.{sight}
use Rattle.cam_event.specs.ByKnowledge.{held_sight}
use Rattle.cam_event.specs.ByDeltas.{Received, as_carried}
use Rattle.cam_event.specs.Runs.{MayCome, IsRun}
use Rattle.cam_node.specs.Lawful.{MayBePut}
use Rattle.cam_delta.proofs.Growing.{history}
use Rattle.cam_delta.proofs.SameReadings.{refusals_agree}
use Rattle.cam_journal.specs.declared.entry.RunStep.{RunStep}
use Rattle.cam_journal.specs.declared.entry.SentLetter.{SentLetter as Taken}
use Rattle.cam_journal.specs.Trace.{Receives as Named, IsSent}
use Rattle.cam_gen.specs.Storms.{Words, objects_of}
use Rattle.cam_storm.specs.Events.{Copied}
use Rattle.cam_storm.specs.Events.{Stepped}
use Rattle.cam_storm.specs.Runs.{copies, received, IsStormInput, StormRun}
use Rattle.cam_storm.specs.Own.{event_in}
use Rattle.cam_storm.specs.Lawful.{named, sends, letter_mail, mail_in, load_in, IsLeft, IsPut, IsStormStep}
use Rattle.cam_storm.proofs.Counted.{events_own, received_own}
use Rattle.cam_storm.proofs.Driving.{drives_run}
use Rattle.cam_storm.proofs.Letters.{LetterHolds, LettersHold, id_of}
use Rattle.cam_storm.proofs.Turned.{IsTurned, trace_of, own_of, own_turned}

-- a run of a storm is a run
pub storm_is_run : (words : Words) (t : List Event) → StormRun words t → IsRun (objects_of words) t
storm_is_run words [] storm = tt
storm_is_run words (e ∷ t) storm = (record { input = storm.0.input; may = storm.0.may; is_next = storm.0.is_next }, storm_is_run words t storm.1)

-- what holds of the steps of a gathered run
pub record Holds (words : Words) (xs : List (RunStep Stepped Copied)) : Type 0 where
  -- each node's own history is that of the run
  pub own : (s : ℕ) → own_of s xs ≡ history (objects_of words) (trace_of xs) s
  pub letters : LettersHold words xs
  pub storm : StormRun words (trace_of xs)

-- the next step, after the node's own history
pub step_of : (words : Words) (before : List (RunStep Stepped Copied)) (x : RunStep Stepped Copied) → IsTurned words before x → IsStormStep words x.node (own_of x.node before) x.received x.event
step_of words before x is = subst (λ (h : List Received). IsStormStep words x.node h x.received x.event) (own_turned x.node before) is.lawful.allowed.1

-- what an input comes to in the run
pub record Put (words : Words) (t : List Event) (s : ℕ) (input : Input) : Type 0 where
  pub node : node_of t input ≡ s
  pub may : MayCome (objects_of words) t input
  pub so : IsStormInput words t input

-- the copies of the letter that was received
abbrev LetterCopies : Words → List (RunStep Stepped Copied) → LetterId → Option (Taken Copied) → Type 0
LetterCopies words before letter None = Unit {0}
LetterCopies words before letter (Some k) = k.letter.copies ≡ copies words (trace_of before) letter

pub letter_copies : (words : Words) (before : List (RunStep Stepped Copied)) (letter : LetterId) (got : Option LetterId) (taken : Option (Taken Copied)) → LettersHold words before → Named (named got) taken → IfSome taken (IsSent sends (reverse before)) → got ≡ Some letter → LetterCopies words before letter taken
letter_copies words before letter got None holds is sent e = tt
letter_copies words before letter None (Some k) holds is sent e = absurd is
letter_copies words before letter (Some l) (Some k) holds is sent e =
    let h : LetterHolds words (trace_of before) (id_of k.number k.place) k.letter = holds k.number k.place sent.sender k.letter sent.event sent.letter in
    let same : id_of k.number k.place ≡ l = λ i. record { event = sym is.0 i; place = sym is.1 i } in
    h.copies ∙ ap (copies words (trace_of before)) (same ∙ same_Some l letter e)

-- a letter that may be received was sent, to this node, and comes less often so far than it has copies
put_letter : (words : Words) (before : List (RunStep Stepped Copied)) (s : ℕ) (letter : LetterId) (taken : Option (Taken Copied)) → Holds words before
    → ((mail_in taken ≡ letter_at (trace_of before) letter) × LetterCopies words before letter taken)
    → MayBePut (objects_of words) s (held_sight (objects_of words) s (map as_carried (own_of s before)) nothing) (Receives letter) (mail_in taken) (load_in taken)
    → IsLeft (received (map event_in (own_of s before)) letter) taken → Put words (trace_of before) s (Receives letter)
put_letter words before s letter None holds came may left = absurd left
put_letter words before s letter (Some k) holds came may left =
    let objects : List ObjectDecl = objects_of words in
    let t : List Event = trace_of before in
    let run : IsRun objects t = storm_is_run words t holds.storm in
    let at : letter_at t letter ≡ mail_in (Some k) = sym came.0 in
    let own : received (map event_in (own_of s before)) letter ≡ received t letter =
    ap (λ (es : List Event). received es letter) (ap (map event_in) (holds.own s) ∙ events_own objects t s)
    ∙ received_own objects t letter s run (inr (letter_mail k.letter.letter, at, may.addressed)) in
    record {
      node = ap (λ (o : Option Mail). option_map_or (λ (mail : Mail). mail.to) o 0) at ∙ may.addressed;
      may = ap (λ (o : Option Mail). is_some o) at;
      so = subst (λ (n : ℕ). n < copies words t letter) own (subst (λ (n : ℕ). received (map event_in (own_of s before)) letter < n) came.1 left);
    }

-- each input that a lawful event is of
pub put_input : (words : Words) (before : List (RunStep Stepped Copied)) (s : ℕ) (input : Input) (taken : Option (Taken Copied)) → Holds words before → (1 ≤ s) × (s ≤ 4)
    → ((letter : LetterId) → got_of input ≡ Some letter → (mail_in taken ≡ letter_at (trace_of before) letter) × LetterCopies words before letter taken)
    → MayBePut (objects_of words) s (held_sight (objects_of words) s (map as_carried (own_of s before)) nothing) input (mail_in taken) (load_in taken)
    → IsPut words s (own_of s before) taken input → Put words (trace_of before) s input
put_input words before s (Begins m) taken holds near came may so = record {
  node = may.0;
  may = (let e = may.0 in let n = near.0 in omega arith, let e = may.0 in let n = near.1 in omega arith);
  so = tt;
}
put_input words before s (Requests r) taken holds near came may so =
    let objects : List ObjectDecl = objects_of words in
    let t : List Event = trace_of before in
    let run : IsRun objects t = storm_is_run words t holds.storm in
    record {
      node = may.0;
      may = (
        ap (λ (n : ℕ). refusal (sight objects t n None) r.action r.want) may.0
            ∙ sym (refusals_agree objects t s r.action r.want run)
            ∙ ap (λ (h : List Received). refusal (held_sight objects s (map as_carried h) nothing) r.action r.want) (sym (holds.own s))
            ∙ may.1,
        may.2,
      );
      so = drives_run words t (own_of s before) s r.action r.want run near.0 (holds.own s) so;
    }
put_input words before s (Receives letter) taken holds near came may so = put_letter words before s letter taken holds (came letter refl) may so.0
put_input words before s (Tells m to) taken holds near came may so = absurd so
put_input words before s (Queries m f) taken holds near came may so = absurd so
put_input words before s (Restarts m) taken holds near came may so = record {
  node = may.0;
  may = (let e = may.0 in let n = near.0 in omega arith, let e = may.0 in let n = near.1 in omega arith);
  so = tt;
}
