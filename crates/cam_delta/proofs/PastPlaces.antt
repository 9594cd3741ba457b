-- On runs what a node has noted is what the definition by pasts says.
use Rattle.std.proofs.Common.{◌≡◌, ◌⊎◌, inl, inr, if◌then◌else◌, ℕ, eqb, eqb-true, min, max, Bool, true, false, not, ◌&&◌, List, [], ◌∷◌, length, Option, Some, None, refl, sym, ap, ◌∙◌, subst}
use Rattle.std.proofs.lemmas.Bool.{and_parts, eq-eqb, true≢false}
use Rattle.std.proofs.lemmas.Bool.Decides.{eqb_tells}
use Rattle.cam_type.specs.declared.ObjectDecl.{ObjectDecl}
use Rattle.cam_event.specs.declared.LetterId.{LetterId}
use Rattle.cam_event.specs.declared.Event.{Event}
use Rattle.cam_event.specs.History.{number_of}
use Rattle.cam_event.specs.Inputs.{Mail, letter_at, mail_got}
use Rattle.cam_event.specs.Loads.{Load}
use Rattle.cam_event.specs.ByDeltas.{is_from, crashed, have_of, acked_of, load_by, received_of}
use Rattle.cam_event.specs.DeltasByPast.{is_outcome, place_at, trace_to, is_of, letter_place, have_in, letter_have, base_in}
use Rattle.cam_agree.proofs.Ran.{Ran, before_it}
use Rattle.cam_delta.specs.Laws.{IsAddressed}
use Rattle.cam_delta.proofs.Addressed.{ran_addressed}
use Rattle.cam_delta.proofs.Growing.{history, newest_load, history_here, history_there, with_news}
use Rattle.cam_delta.proofs.Sound.{load_of, sound, arrived, no_more}
use Rattle.cam_delta.proofs.PastLengths.{listed_length}
use Rattle.cam_delta.proofs.Prefixes.{run_to, load_to, letter_ends, own_to}

-- the place of a letter to another node
letter_place_same : (objects : List ObjectDecl) (t : List Event) (letter : LetterId) (mail : Mail) → Ran objects t → letter_at t letter ≡ Some mail → eqb mail.from mail.to ≡ false
    → (load_of objects t letter mail).place ≡ place_at t letter.event
letter_place_same objects t letter mail run at other =
    ap (λ (d : Load). d.place) (load_to objects t letter mail)
    ∙ rw other refl
    ∙ listed_length objects (trace_to t letter.event) mail.from (run_to objects t letter.event run)
    ∙ ap (number_of is_outcome) (own_to t letter.event mail.from (letter_ends t letter mail at))

-- a letter of another node that came to node s
came_from_other : (t : List Event) (s r : ℕ) (letter : LetterId) (mail : Mail) → letter_at t letter ≡ Some mail → mail.to ≡ s → (not (eqb s r) && is_from r (mail_got t (Some letter))) ≡ true
    → (mail.from ≡ r) × (eqb mail.from mail.to ≡ false)
came_from_other t s r letter mail at to is =
    let parts = and_parts (not (eqb s r)) (is_from r (mail_got t (Some letter))) is in
    let from : r ≡ mail.from = eqb-true r mail.from (sym (ap (is_from r) at) ∙ parts.1) in (
      sym from,
      apart (eqb_tells mail.from mail.to) (λ same. true≢false (sym parts.0 ∙ ap not (eq-eqb s r (sym to ∙ sym same ∙ sym from)))),
    )
  where
    apart : ((eqb mail.from mail.to ≡ true) × (mail.from ≡ mail.to)) ⊎ ((eqb mail.from mail.to ≡ false) × (mail.from ≡ mail.to → ⊥)) → (mail.from ≡ mail.to → ⊥) → eqb mail.from mail.to ≡ false
    apart (inl y) h = absurd (h y.1)
    apart (inr n) h = n.0

came_place : (objects : List ObjectDecl) (t : List Event) (s r : ℕ) (got : Option LetterId) → Ran objects t → IsAddressed t s got → (not (eqb s r) && is_from r (mail_got t got)) ≡ true
    → (load_by objects (received_of objects t) got (mail_got t got)).place ≡ letter_place t got
came_place objects t s r None run to is = absurd (true≢false (sym (and_parts (not (eqb s r)) false is).1))
came_place objects t s r (Some letter) run to is =
    ap (λ o. (load_by objects (received_of objects t) (Some letter) o).place) to.1
    ∙ letter_place_same objects t letter to.0 run to.1 (came_from_other t s r letter to.0 to.1 to.2 is).1

-- what a node has of another's list
have_same_step : (objects : List ObjectDecl) (e : Event) (t : List Event) (s r : ℕ) → Ran objects (e ∷ t) → ((m : ℕ) → have_of (history objects t m) r ≡ have_in t m r) → have_of (history objects (e ∷ t) s) r ≡ have_in (e ∷ t) s r
have_same_step objects e t s r run rest = elim (eqb_tells e.node s) [
  | inl y ↦ subst (λ n. have_of (history objects (e ∷ t) n) r ≡ have_in (e ∷ t) n r) y.1 here
  | inr n ↦ ap (λ h. have_of h r) (history_there objects e t s n.0) ∙ rest s ∙ sym (there n.0)
]
  where
    there : eqb e.node s ≡ false → have_in (e ∷ t) s r ≡ have_in t s r
    there n = rw n refl

    m : ℕ
    m = e.node

    load : Load
    load = newest_load objects e t

    old : have_of (history objects t m) r ≡ have_in t m r
    old = rest m

    by : (b d : Bool) → is_of t e m r ≡ d
        → (if b then 0 else if d then max (have_of (history objects t m) r) load.place else have_of (history objects t m) r)
        ≡ (if b then 0 else if d then max (have_in t m r) (letter_place t e.got) else have_in t m r)
    by true d is = refl
    by false false is = old
    by false true is = λ i. max (old i) (came_place objects t m r e.got (before_it objects e t run) (ran_addressed objects (e ∷ t) run).0 is i)

    itself : have_in (e ∷ t) m r ≡ (if crashed e then 0 else if is_of t e m r then max (have_in t m r) (letter_place t e.got) else have_in t m r)
    itself = rw (eq-eqb m m refl) refl

    here : have_of (history objects (e ∷ t) m) r ≡ have_in (e ∷ t) m r
    here = ap (λ h. have_of h r) (history_here objects e t) ∙ by (crashed e) (is_of t e m r) refl ∙ sym itself

pub have_same : (objects : List ObjectDecl) (t : List Event) (s r : ℕ) → Ran objects t → have_of (history objects t s) r ≡ have_in t s r
have_same objects [] s r run = refl
have_same objects (e ∷ t) s r run = have_same_step objects e t s r run (λ m. have_same objects t m r (before_it objects e t run))

-- the have of a letter that came
came_have : (objects : List ObjectDecl) (t : List Event) (s r : ℕ) (got : Option LetterId) → Ran objects t → IsAddressed t s got → (not (eqb s r) && is_from r (mail_got t got)) ≡ true
    → (load_by objects (received_of objects t) got (mail_got t got)).have ≡ letter_have t got r s
came_have objects t s r None run to is = absurd (true≢false (sym (and_parts (not (eqb s r)) false is).1))
came_have objects t s r (Some letter) run to is =
    let mail : Mail = to.0 in
    let from = came_from_other t s r letter mail to.1 to.2 is in
    let u : List Event = trace_to t letter.event in
    ap (λ o. (load_by objects (received_of objects t) (Some letter) o).have) to.1
    ∙ ap (λ (d : Load). d.have) (load_to objects t letter mail)
    ∙ rw from.1 refl
    ∙ have_same objects u mail.from mail.to (run_to objects t letter.event run)
    ∙ (λ i. have_in u (from.0 i) (to.2 i))

-- what another node has acknowledged
acked_same_step : (objects : List ObjectDecl) (e : Event) (t : List Event) (s r : ℕ) → Ran objects (e ∷ t) → ((m : ℕ) → acked_of objects (history objects t m) r ≡ base_in t m r) → acked_of objects (history objects (e ∷ t) s) r ≡ base_in (e ∷ t) s r
acked_same_step objects e t s r run rest = elim (eqb_tells e.node s) [
  | inl y ↦ subst (λ n. acked_of objects (history objects (e ∷ t) n) r ≡ base_in (e ∷ t) n r) y.1 here
  | inr n ↦ ap (λ h. acked_of objects h r) (history_there objects e t s n.0) ∙ rest s ∙ sym (there n.0)
]
  where
    there : eqb e.node s ≡ false → base_in (e ∷ t) s r ≡ base_in t s r
    there n = rw n refl

    m : ℕ
    m = e.node

    load : Load
    load = newest_load objects e t

    old : acked_of objects (history objects t m) r ≡ base_in t m r
    old = rest m

    to : IsAddressed t m e.got
    to = (ran_addressed objects (e ∷ t) run).0

    least : is_of t e m r ≡ true → min load.have (length (with_news objects e t)) ≡ letter_have t e.got r m
    least is =
        let from = (and_parts (not (eqb m r)) (is_from r (mail_got t e.got)) is).1 in
        no_more objects e t r (arrived objects t m r e.got to (sound objects t (ran_addressed objects t (before_it objects e t run))) from)
        ∙ came_have objects t m r e.got (before_it objects e t run) to is

    by : (b d : Bool) → is_of t e m r ≡ d
        → (if b then 0 else if d then max (acked_of objects (history objects t m) r) (min load.have (length (with_news objects e t))) else acked_of objects (history objects t m) r)
        ≡ (if b then 0 else if d then max (base_in t m r) (letter_have t e.got r m) else base_in t m r)
    by true d is = refl
    by false false is = old
    by false true is = λ i. max (old i) (least is i)

    itself : base_in (e ∷ t) m r ≡ (if crashed e then 0 else if is_of t e m r then max (base_in t m r) (letter_have t e.got r m) else base_in t m r)
    itself = rw (eq-eqb m m refl) refl

    here : acked_of objects (history objects (e ∷ t) m) r ≡ base_in (e ∷ t) m r
    here = ap (λ h. acked_of objects h r) (history_here objects e t) ∙ by (crashed e) (is_of t e m r) refl ∙ sym itself

pub acked_same : (objects : List ObjectDecl) (t : List Event) (s r : ℕ) → Ran objects t → acked_of objects (history objects t s) r ≡ base_in t s r
acked_same objects [] s r run = refl
acked_same objects (e ∷ t) s r run = acked_same_step objects e t s r run (λ m. acked_same objects t m r (before_it objects e t run))
