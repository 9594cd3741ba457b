-- An event that answers an item may come next.
use Rattle.std.proofs.Common.{◌≡◌, inl, inr, ℕ, suc, ◌+◌, ◌-◌, ◌<◌, ◌≤◌, eqb, Bool, true, false, ◌||◌, if◌then◌else◌, List, map, length, Option, Some, None, refl, sym, ap, ◌∙◌, subst, arith}
use Rattle.std.specs.Prelude.{nat_le, nat_lt, IfSome}
use Rattle.std.proofs.Math.Nat.{div-mul-le_self}
use Rattle.std.proofs.lemmas.Bool.{true≢false}
use Rattle.std.proofs.lemmas.Bool.Decides.{leb_tells, eqb_tells}
use Rattle.cam_event.specs.declared.Event.{Event}
use Rattle.cam_event.specs.declared.LetterId.{LetterId}
use Rattle.cam_event.specs.Inputs.{Input, Begins, Requests, Receives, Restarts, got_of}
use Rattle.cam_event.specs.ByDeltas.{Received}
use Rattle.cam_node.specs.Lawful.{MayBePut}
use Rattle.cam_journal.specs.declared.entry.SentLetter.{SentLetter as Taken}
use Rattle.cam_journal.specs.declared.input.CoreInput.{CoreInput}
use Rattle.cam_journal.specs.declared.input.CoreInput.TheVariants.{Letter, Drive}
use Rattle.cam_journal.specs.Trace.{Receives as Named}
use Rattle.cam_journal.specs.Taking.{received_of, letter_in, IsFromLawful}
use Rattle.cam_gen.specs.Storms.{Words, objects_of, tops_of, restarts_at}
use Rattle.cam_storm.specs.Events.{Copied}
use Rattle.cam_storm.specs.Runs.{received, is_begin, is_restart}
use Rattle.cam_storm.specs.Own.{event_in, sight_at}
use Rattle.cam_storm.specs.Lawful.{named, sends, goes_to, mail_in, load_in, own_history, IsPut, SeatHistory, lawful}
use Rattle.cam_storm.specs.Core.{Cell, IsReplay, Keeps, IsDriven, IsAnswer, is_idle, used_by}
use Rattle.cam_storm.specs.Laws.{AnswersAreLawful}
use Rattle.cam_storm.proofs.Idle.{keeps_of}
use Rattle.cam_storm.proofs.SoundLetters.{letters_may_come}

-- no node restarts among its top actions
tops_few : (words : Words) (s : ℕ) → words.actions ≤ 64 → tops_of words s ≤ 17
tops_few words s few = let most = div-mul-le_self (words.actions + 4 - s) 4 in omega (arith, most, few)

none_restarts : (words : Words) (s n : ℕ) → words.actions ≤ 64 → nat_lt n (tops_of words s) ≡ true → restarts_at words n ≡ false
none_restarts words s n few top = by words.calm
  where
    tops : tops_of words s ≤ 17
    tops = tops_few words s few

    low : n < 64
    low = elim (leb_tells (suc n) (tops_of words s)) [
      | inl l ↦ let below = l.1 in omega (arith, below, tops)
      | inr r ↦ absurd (true≢false (sym top ∙ r.0))
    ]

    far : (k : ℕ) → 64 ≤ k → eqb n k ≡ false
    far k high = elim (eqb_tells n k) [
      | inl y ↦ let same = y.1 in absurd (omega (arith, same, low, high))
      | inr other ↦ other.0
    ]

    by : (calm : Bool) → (if calm then false else (eqb n 64 || eqb n 128)) ≡ false
    by true = refl
    by false = (λ i. far 64 (omega arith) i || eqb n 128) ∙ far 128 (omega arith)

-- what an item's answer receives: the letter of the item, where its input names it
abbrev pub handed : CoreInput Copied → Input → Option (Taken Copied)
handed item input = received_of (named (got_of input)) (letter_in item)

-- an input that a storm puts to a node for an item
pub record IsPutFor (words : Words) (s : ℕ) (own : List Received) (item : CoreInput Copied) (input : Input) : Type 0 where
  pub naming : Named (named (got_of input)) (handed item input)
  pub may : MayBePut (objects_of words) s (sight_at words s own) input (mail_in (handed item input)) (load_in (handed item input))
  pub so : IsPut words s own (handed item input) input
  pub tops_first : is_begin input ≡ nat_lt (length own) (tops_of words s)
  pub restarts : is_restart input ≡ restarts_at words (length own)

-- Where the core has something to do with an item, a storm puts the answer to it.
pub answer_put : (words : Words) (cell : Cell) (s : ℕ) (history : SeatHistory) (item : CoreInput Copied) (input : Input) → words.actions ≤ 64 → IsReplay words cell s history → cell.is_halted ≡ false → is_idle words cell item ≡ false
    → IfSome (letter_in item) (λ sent. (goes_to sent.letter ≡ s) × IsFromLawful sends (lawful words) sent) → IsAnswer words s (own_history history) item input → IsPutFor words s (own_history history) item input
answer_put words cell s history item input few replay runs busy sent answers = by item refl
  where
    own : List Received
    own = own_history history

    keeps : Keeps words s own cell
    keeps = keeps_of words cell s history replay runs

    -- what is to be shown of an input, with what it receives
    made : (put : Input) (from : Option (Taken Copied)) → input ≡ put → handed item put ≡ from → Named (named (got_of put)) from
        → MayBePut (objects_of words) s (sight_at words s own) put (mail_in from) (load_in from) → IsPut words s own from put
        → is_begin put ≡ nat_lt (length own) (tops_of words s) → is_restart put ≡ restarts_at words (length own)
        → IsPutFor words s own item input
    made put from is same naming may so tops restarts = subst (IsPutFor words s own item) (sym is) (record {
      naming = subst (Named (named (got_of put))) (sym same) naming;
      may = subst (λ (f : Option (Taken Copied)). MayBePut (objects_of words) s (sight_at words s own) put (mail_in f) (load_in f)) (sym same) may;
      so = subst (λ (f : Option (Taken Copied)). IsPut words s own f put) (sym same) so;
      tops_first = tops;
      restarts = restarts;
    })

    begins : input ≡ Begins s → nat_lt (length own) (tops_of words s) ≡ true → IsPutFor words s own item input
    begins is top = made (Begins s) None is refl tt (refl, (refl, refl)) tt (sym top) (sym (none_restarts words s (length own) few top))

    restarts : input ≡ Restarts s → nat_lt (length own) (tops_of words s) ≡ false → restarts_at words (length own) ≡ true → IsPutFor words s own item input
    restarts is top due = made (Restarts s) None is refl tt (refl, (refl, refl)) tt (sym top) (sym due)

    by : (i : CoreInput Copied) → item ≡ i → IsPutFor words s own item input
    by Drive at = driven (nat_lt (length own) (tops_of words s)) (restarts_at words (length own)) refl refl (subst (λ (i : CoreInput Copied). IsAnswer words s own i input) at answers)
      where
        driven : (top due : Bool) → nat_lt (length own) (tops_of words s) ≡ top → restarts_at words (length own) ≡ due → IsDriven top due words s own input → IsPutFor words s own item input
        driven true due t d is = begins is t
        driven false true t d is = restarts is t d
        driven false false t d is =
            made (Requests (record { action = is.action; want = is.want })) None is.is refl tt (is.request.drives.here, is.request.allowed, is.request.fits, (refl, refl)) is.request.drives (sym t) (sym d)
    by (Letter number place c) at = answered (nat_lt (length own) (tops_of words s)) (restarts_at words (length own)) refl refl (subst (λ (i : CoreInput Copied). IsAnswer words s own i input) at answers)
      where
        letter : LetterId
        letter = record { event = number; place = place }

        k : Taken Copied
        k = record { number = number; place = place; letter = c }

        comes : (goes_to c ≡ s) × IsFromLawful sends (lawful words) k
        comes = subst (λ (i : CoreInput Copied). IfSome (letter_in i) (λ (t : Taken Copied). (goes_to t.letter ≡ s) × IsFromLawful sends (lawful words) t)) at sent

        left : received (map event_in own) letter < c.copies
        left = elim (leb_tells c.copies (cell.received letter)) [
          | inl l ↦ absurd (true≢false (sym (ap (λ (b : Bool). b || nat_le c.copies (cell.received letter)) runs ∙ l.0) ∙ ap (is_idle words cell) (sym at) ∙ busy))
          | inr r ↦ let more = r.1 in let same = keeps.received letter in omega (arith, more, same)
        ]

        receives : input ≡ Receives letter → nat_lt (length own) (tops_of words s) ≡ false → restarts_at words (length own) ≡ false → IsPutFor words s own item input
        receives is t d =
            let whole = letters_may_come words comes.1.node comes.1.history comes.1.received comes.1.event place c comes.1.allowed comes.1.letter in
            made (Receives letter) (Some k) is (ap letter_in at) (refl, refl) (subst (λ (n : ℕ). MayBePut (objects_of words) n (sight_at words s own) (Receives letter) (mail_in (Some k)) (load_in (Some k))) comes.0 whole.0)
            (left, whole.2) (sym t) (sym d)

        answered : (top due : Bool) → nat_lt (length own) (tops_of words s) ≡ top → restarts_at words (length own) ≡ due
            → input ≡ (if top then Begins s else if due then Restarts s else Receives letter) → IsPutFor words s own item input
        answered true due t d is = begins is t
        answered false true t d is = restarts is t d
        answered false false t d is = receives is t d

pub answers_lawful : AnswersAreLawful
answers_lawful words cell s history item e few replay runs busy sent answers =
    let own : List Received = own_history history in
    let put : IsPutFor words s own item answers.input = answer_put words cell s history item answers.input few replay runs busy sent answers.is_answer in
    let got : got_of answers.input ≡ e.event.got = sym (ap (λ (x : Event). x.got) answers.is_next) in
    let same : handed item answers.input ≡ used_by e item = ap (λ (o : Option LetterId). received_of (named o) (letter_in item)) got in
    record {
      named = subst (λ (o : Option LetterId). Named (named o) (received_of (named o) (letter_in item))) got put.naming;
      allowed = (
        replay.lawful,
        record {
          input = answers.input;
          here = replay.here;
          may = subst (λ (f : Option (Taken Copied)). MayBePut (objects_of words) s (sight_at words s own) answers.input (mail_in f) (load_in f)) same put.may;
          so = subst (λ (f : Option (Taken Copied)). IsPut words s own f answers.input) same put.so;
          tops_first = put.tops_first;
          restarts = put.restarts;
          is_next = answers.is_next;
          letters = answers.letters;
        },
      );
    }
