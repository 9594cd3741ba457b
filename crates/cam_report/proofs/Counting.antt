-- How many letters were sent before each event: one event more, and the earlier events alone.
use Rattle.std.proofs.Common.{◌≡◌, inl, inr, ℕ, zero, suc, ◌+◌, ◌-◌, ◌*◌, ◌<◌, ◌≤◌, ◌^◌, min, if◌then◌else◌, List, [], ◌∷◌, ◌++◌, length, take, drop, reverse, get_or, All, Some, length-append, refl, sym, ap, ◌∙◌, arith}
use Rattle.std.proofs.lemmas.Bool.{cases_lt, lt-ltb, le-ltb}
use Rattle.std.proofs.lemmas.Bool.Decides.{eqb_tells}
use Rattle.std.proofs.lemmas.List.{get_or_append_left, get_or_push, length-reverse, length-take-le, reverse-append, take-append-drop}
use Rattle.std.proofs.lemmas.List.Elements.{All-push, All-nil}
use Rattle.cam_event.specs.declared.LetterId.{LetterId}
use Rattle.cam_event.specs.declared.Event.{Event}
use Rattle.cam_report.specs.Traces.{sent_before, letter_number}

-- a letter of the newest event comes after those of all events before
newest : (e : Event) (t : List Event) → sent_before (e ∷ t) (length (e ∷ t)) ≡ sent_before t (length (e ∷ t)) + length e.sent
newest e t =
    ap (λ b. if b then sent_before t (length (e ∷ t)) + length e.sent else sent_before t (length (e ∷ t))) (lt-ltb (length t) (length (e ∷ t)) (omega arith))

-- an event more changes nothing of what was sent before the others
older : (e : Event) (t : List Event) (i : ℕ) → i ≤ length t → sent_before (e ∷ t) i ≡ sent_before t i
older e t i h = ap (λ b. if b then sent_before t i + length e.sent else sent_before t i) (le-ltb (length t) i h)

-- all letters were sent before each event that is yet to come
past_all : (t : List Event) (i : ℕ) → length t ≤ i → sent_before t i ≡ sent_before t (length t)
past_all [] i h = refl
past_all (e ∷ t) i h =
    ap (λ b. if b then sent_before t i + length e.sent else sent_before t i) (lt-ltb (length t) i (omega (arith, h)))
    ∙ ap (λ n. n + length e.sent) (past_all t i (omega (arith, h)) ∙ sym (past_all t (length (e ∷ t)) (omega arith)))
    ∙ sym (newest e t)

-- what was sent before an event, by the events before it alone
older_all : (later t : List Event) (i : ℕ) → i ≤ length t → sent_before (later ++ t) i ≡ sent_before t i
older_all [] t i h = refl
older_all (e ∷ later) t i h = older e (later ++ t) i (omega (arith, h, length-append later t)) ∙ older_all later t i h

-- The counts are those before each event and in all; the last one is kept apart.
pub record IsCounted (t : List Event) (counts : List ℕ) (sent : ℕ) : Type 0 where
  pub long : length counts ≡ length t + 1
  pub counted : (i : ℕ) → i ≤ length t → get_or counts i 0 ≡ sent_before t i
  pub last : sent ≡ sent_before t (length t)
  pub few : sent ≤ 2 ^ 64 * length t
  pub small : All (λ n. n ≤ 2 ^ 127) counts

pub counted_none : IsCounted [] (0 ∷ []) 0
counted_none = record {
  long = refl;
  counted = at_start;
  last = refl;
  few = omega arith;
  small = All-push (λ n. n ≤ 2 ^ 127) [] 0 (All-nil _) (omega arith);
}
  where
    at_start : (i : ℕ) → i ≤ 0 → ◌≡◌ {A = ℕ} (get_or (0 ∷ []) i 0) 0
    at_start zero h = refl
    at_start (suc i) h = absurd (omega (arith, h))

pub counted_more : (t : List Event) (e : Event) (counts : List ℕ) (sent : ℕ) → IsCounted t counts sent → length e.sent < 2 ^ 64 → length t < 2 ^ 63 - 1
    → IsCounted (e ∷ t) (counts ++ (sent + length e.sent) ∷ []) (sent + length e.sent)
counted_more t e counts sent before short room =
    let more = sent + length e.sent in
    let last : more ≡ sent_before (e ∷ t) (length (e ∷ t)) =
    ap (λ n. n + length e.sent) (before.last ∙ sym (past_all t (length (e ∷ t)) (omega arith))) ∙ sym (newest e t)
    in
    let few : more ≤ 2 ^ 64 * length (e ∷ t) = omega (arith, before.few, short) in
    record {
      long = omega (arith, before.long, length-append counts (more ∷ []));
      counted = λ i h. elim (eqb_tells i (length (e ∷ t))) [
        | inl y ↦ ap (λ k. get_or (counts ++ more ∷ []) k 0) y.1 ∙ get_or_push counts more 0 (length (e ∷ t)) (omega (arith, before.long)) ∙ last ∙ ap (sent_before (e ∷ t)) (sym y.1)
        | inr n ↦
            let within : i ≤ length t = omega (arith, h, n.1) in
            get_or_append_left counts (more ∷ []) 0 i (omega (arith, within, before.long)) ∙ before.counted i within ∙ sym (older e t i within)
      ];
      last = last;
      few = few;
      small = All-push (λ n. n ≤ 2 ^ 127) counts more before.small (omega (arith, few, room));
    }

-- the first events of a list, the newest first, are the last of all
front_back : (es : List Event) (n : ℕ) → reverse es ≡ reverse (drop n es) ++ reverse (take n es)
front_back es n = ap reverse (sym (take-append-drop n es)) ∙ reverse-append (take n es) (drop n es)

pub front_length : (es : List Event) (n : ℕ) → n ≤ length es → length (reverse (take n es)) ≡ n
front_length es n h = length-reverse (take n es) ∙ length-take-le n es h

-- what was sent before an event, among so many of the first events
sent_among : (es : List Event) (n i : ℕ) → n ≤ length es → sent_before (reverse es) (min i n) ≡ sent_before (reverse (take n es)) i
sent_among es n i h =
    let long = front_length es n h in
    let t = reverse (take n es) in
    ap (λ r. sent_before r (min i n)) (front_back es n)
    ∙ older_all (reverse (drop n es)) t (min i n) (omega (arith, long))
    ∙ elim (cases_lt i n) [
      | inl y ↦ ap (sent_before t) (omega (arith, y))
      | inr y ↦ past_all t (min i n) (omega (arith, long, y)) ∙ sym (past_all t i (omega (arith, long, y)))
    ]

-- what was sent by so many of the first events
pub all_among : (es : List Event) (n : ℕ) → n ≤ length es → sent_before (reverse es) n ≡ sent_before (reverse (take n es)) (length (reverse (take n es)))
all_among es n h =
    ap (sent_before (reverse es)) (omega arith) ∙ sent_among es n n h
    ∙ ap (sent_before (reverse (take n es))) (sym (front_length es n h))

-- the number of a letter among those of so many of the first events, by the count before its own event
pub number_among : (es : List Event) (n : ℕ) (letter : LetterId) (sent : ℕ) → n ≤ length es
    → sent ≡ sent_before (reverse es) (min letter.event n) → sent + letter.place + 1 ≡ letter_number (reverse (take n es)) (Some letter)
number_among es n letter sent h is = ap (λ k. k + letter.place + 1) (is ∙ sent_among es n letter.event h)
