-- The outcomes of which a letter's sender was informed when it sent the letter are the first so many of those of which it was informed.
use Rattle.std.proofs.Common.{◌≡◌, ◌≤◌, ◌+◌, ◌⊎◌, inl, inr, if◌then◌else◌, ℕ, eqb, Bool, true, false, List, [], ◌∷◌, ◌++◌, length, take, Some, refl, sym, ap, ◌∙◌, subst, arith}
use Rattle.std.proofs.lemmas.Bool.Decides.{eqb_tells}
use Rattle.std.proofs.lemmas.List.{length-append, take_at}
use Rattle.std.proofs.lemmas.Option.{same_Some}
use Rattle.cam_names.specs.declared.name.Name.{Name}
use Rattle.cam_event.specs.declared.Event.{Event}
use Rattle.cam_event.specs.declared.Deed.{Deed}
use Rattle.cam_event.specs.History.{after}
use Rattle.cam_event.specs.Inputs.{event_at, Mail, mail_got}
use Rattle.cam_event.specs.Sights.{entries, own_deeds}
use Rattle.cam_cut.proofs.Families.{SentBy, sent_by}
use Rattle.cam_cut.proofs.Informs.{after_append}
use Rattle.cam_own.specs.Informed.{commits_of, aborts_of}
use Rattle.cam_timed.specs.declared.TimedEvent.{TimedEvent}
use Rattle.cam_timed.specs.declared.machine.Letter.{Letter}
use Rattle.cam_timed.specs.Held.{own_until}
use Rattle.cam_timed.specs.Machine.{deeds_of, KeepsLetter}
use Rattle.cam_timed.specs.Moments.{events}
use Rattle.cam_timed.specs.Travelling.{brings_aborts}
use Rattle.cam_timed.proofs.ToldNames.{Grown, commits_after, aborts_after}

-- What a node did comes after what it did before one more event, which may be its own.
pub deeds_grown :
    (e : Event) (t : List Event) (m : ℕ)
    → (ds : List Deed) × (deeds_of (e ∷ t) m ≡ after (deeds_of t m) ds)
deeds_grown e t m = by (eqb e.node m) refl
  where
    with_it : Bool → List Deed
    with_it b = own_deeds
        (if b then record { event = e; mail = mail_got t e.got } ∷ entries t m else entries t m)

    by : (b : Bool) → eqb e.node m ≡ b
        → (ds : List Deed) × (deeds_of (e ∷ t) m ≡ after (deeds_of t m) ds)
    by true mine = (e.deeds, ap with_it mine)
    by false other = ([], ap with_it other)

-- and what it did up to one of its events before what it did since
since :
    (t : List Event) (j : ℕ) (e : Event) → event_at t j ≡ Some e
    → (ds : List Deed) × (deeds_of t e.node ≡ after (own_until t j) ds)
since [] j e at = cc
since (x ∷ t) j e at = by (eqb_tells j (length t)) (since t j e)
  where
    Since : List Event → Type 0
    Since u = (ds : List Deed) × (deeds_of u e.node ≡ after (own_until u j) ds)

    new : eqb j (length t) ≡ true → Since (x ∷ t)
    new y =
        let found : event_at (x ∷ t) j ≡ Some x = rw y refl in
        let own : own_until (x ∷ t) j ≡ deeds_of (x ∷ t) x.node = rw y refl in
        let same : x ≡ e = same_Some x e (sym found ∙ at) in
        ([], ap (λ (z : Event). deeds_of (x ∷ t) z.node) (sym same) ∙ sym own)

    old : eqb j (length t) ≡ false → (event_at t j ≡ Some e → Since t) → Since (x ∷ t)
    old n rest =
        let found : event_at (x ∷ t) j ≡ event_at t j = rw n refl in
        let own : own_until (x ∷ t) j ≡ own_until t j = rw n refl in
        let before = rest (sym found ∙ at) in
        let grown = deeds_grown x t e.node in (
          before.0 ++ grown.0,
          grown.1 ∙ ap (λ (L : List Deed). after L grown.0) before.1
              ∙ sym (after_append (own_until t j) before.0 grown.0)
              ∙ ap (λ (L : List Deed). after L (before.0 ++ grown.0)) (sym own),
        )

    by : ((eqb j (length t) ≡ true) × (j ≡ length t))
        ⊎ ((eqb j (length t) ≡ false) × (j ≡ length t → ⊥))
        → (event_at t j ≡ Some e → Since t) → Since (x ∷ t)
    by (inl y) rest = new y.0
    by (inr n) rest = old n.0 rest

first_so_many : (old new : List Name) → Grown old new → (length old ≤ length new) × (take (length old) new ≡ old)
first_so_many old new g =
    let long : length new ≡ length old + length g.0 = ap length g.1 ∙ length-append old g.0 in
    (omega (arith, long), ap (take (length old)) g.1 ∙ take_at old g.0 (length old) refl)

-- So the outcomes of which a letter's sender was informed then are the first so many.
pub record WereTold (t : List Event) (letter : Letter) : Type 0 where
  pub few_commits : letter.commits ≤ length (commits_of (deeds_of t letter.mail.from) letter.mail.from)
  pub few_aborts : letter.aborts ≤ length (aborts_of (deeds_of t letter.mail.from) letter.mail.from)
  pub commits : take letter.commits (commits_of (deeds_of t letter.mail.from) letter.mail.from) ≡ commits_of (own_until t letter.id.event) letter.mail.from
  pub aborts : take letter.aborts (aborts_of (deeds_of t letter.mail.from) letter.mail.from) ≡ (if brings_aborts letter.mail.body then aborts_of (own_until t letter.id.event) letter.mail.from else [])

pub were_told : (T : List TimedEvent) (letter : Letter) → KeepsLetter T letter → WereTold (events T) letter
were_told T letter keeps = record {
  few_commits = subst (λ n. n ≤ length (commits_of now from)) (sym keeps.commits) commits.0;
  few_aborts = by_few (brings_aborts letter.mail.body) keeps.aborts;
  commits = ap (λ n. take n (commits_of now from)) keeps.commits ∙ commits.1;
  aborts = by_all (brings_aborts letter.mail.body) keeps.aborts;
}
  where
    t : List Event
    t = events T

    from : ℕ
    from = letter.mail.from

    now : List Deed
    now = deeds_of t from

    sent : SentBy t letter.id letter.mail
    sent = sent_by t letter.id letter.mail keeps.mail

    rest : (ds : List Deed) × (now ≡ after (own_until t letter.id.event) ds)
    rest = subst (λ (n : ℕ). (ds : List Deed) × (deeds_of t n ≡ after (own_until t letter.id.event) ds)) (ap (λ (m : Mail). m.from) sent.is) (since t letter.id.event sent.event sent.at)

    commits : (length (commits_of (own_until t letter.id.event) from) ≤ length (commits_of now from)) × (take (length (commits_of (own_until t letter.id.event) from)) (commits_of now from) ≡ commits_of (own_until t letter.id.event) from)
    commits = first_so_many (commits_of (own_until t letter.id.event) from) (commits_of now from)
        (subst (λ L. Grown (commits_of (own_until t letter.id.event) from) (commits_of L from)) (sym rest.1) (commits_after rest.0 (own_until t letter.id.event) from))

    aborts : (length (aborts_of (own_until t letter.id.event) from) ≤ length (aborts_of now from)) × (take (length (aborts_of (own_until t letter.id.event) from)) (aborts_of now from) ≡ aborts_of (own_until t letter.id.event) from)
    aborts = first_so_many (aborts_of (own_until t letter.id.event) from) (aborts_of now from)
        (subst (λ L. Grown (aborts_of (own_until t letter.id.event) from) (aborts_of L from)) (sym rest.1) (aborts_after rest.0 (own_until t letter.id.event) from))

    by_few : (b : Bool) → letter.aborts ≡ (if b then length (aborts_of (own_until t letter.id.event) from) else 0) → letter.aborts ≤ length (aborts_of now from)
    by_few true is = subst (λ n. n ≤ length (aborts_of now from)) (sym is) aborts.0
    by_few false is = omega (arith, is)

    by_all : (b : Bool) → letter.aborts ≡ (if b then length (aborts_of (own_until t letter.id.event) from) else 0) → take letter.aborts (aborts_of now from) ≡ (if b then aborts_of (own_until t letter.id.event) from else [])
    by_all true is = ap (λ n. take n (aborts_of now from)) is ∙ aborts.1
    by_all false is = ap (λ n. take n (aborts_of now from)) is
