-- What a storm counts of a trace is counted by each node alone.
use Rattle.std.proofs.Common.{◌≡◌, ◌⊎◌, inl, inr, ℕ, ◌+◌, eqb, Bool, true, false, ◌||◌, if◌then◌else◌, List, [], ◌∷◌, length, map, Option, Some, None, is_some, refl, sym, ap, ◌∙◌, subst, arith}
use Rattle.std.specs.List.{list_any}
use Rattle.std.specs.Option.{option_map_or}
use Rattle.std.proofs.lemmas.Bool.{true≢false, and_parts, eq-eqb, eqb-true}
use Rattle.std.proofs.lemmas.Bool.Decides.{eqb_tells}
use Rattle.std.proofs.lemmas.Option.{same_Some}
use Rattle.cam_names.specs.declared.name.Name.{Name}
use Rattle.cam_names.specs.Names.{home_node}
use Rattle.cam_type.specs.declared.ObjectDecl.{ObjectDecl}
use Rattle.cam_event.specs.declared.LetterId.{LetterId}
use Rattle.cam_event.specs.declared.Event.{Event}
use Rattle.cam_event.specs.Inputs.{Input, Begins, Requests, Receives, Tells, Queries, Restarts, Mail, letter_at, node_of, got_of}
use Rattle.cam_event.specs.Runs.{MayCome, IsRun}
use Rattle.cam_cut.proofs.Families.{letter_older}
use Rattle.cam_delta.proofs.Growing.{history}
use Rattle.cam_runs.specs.Playing.{is_stop_of}
use Rattle.cam_storm.specs.Runs.{own_count, sent_count, is_letter, received}
use Rattle.cam_storm.specs.Own.{event_in, own_sent}

-- the events of a node
abbrev pub own_events : List Event → ℕ → List Event
own_events [] s = []
own_events (e ∷ t) s = if eqb e.node s then e ∷ own_events t s else own_events t s

pub events_own : (objects : List ObjectDecl) (t : List Event) (s : ℕ) → map event_in (history objects t s) ≡ own_events t s
events_own objects [] s = refl
events_own objects (e ∷ t) s = elim (eqb_tells e.node s) [
  | inl y ↦ rw y.0 (ap (λ (es : List Event). e ∷ es) (events_own objects t s))
  | inr n ↦ rw n.0 (events_own objects t s)
]

-- how many events, and how many letters
pub count_own : (objects : List ObjectDecl) (t : List Event) (s : ℕ) → length (history objects t s) ≡ own_count t s
count_own objects [] s = refl
count_own objects (e ∷ t) s = elim (eqb_tells e.node s) [
  | inl y ↦ rw y.0 (let rest = count_own objects t s in omega (arith, rest))
  | inr n ↦ rw n.0 (count_own objects t s)
]

pub sent_own : (objects : List ObjectDecl) (t : List Event) (s : ℕ) → own_sent (history objects t s) ≡ sent_count t s
sent_own objects [] s = refl
sent_own objects (e ∷ t) s = elim (eqb_tells e.node s) [
  | inl y ↦ rw y.0 (ap (λ (n : ℕ). n + length e.sent) (sent_own objects t s))
  | inr n ↦ rw n.0 (sent_own objects t s)
]

-- an action is stopped at its home
pub stops_own : (t : List Event) (a : Name) → list_any (is_stop_of a) (own_events t (home_node a)) ≡ list_any (is_stop_of a) t
stops_own [] a = refl
stops_own (e ∷ t) a = elim (eqb_tells e.node (home_node a)) [
  | inl y ↦
      ap (λ (b : Bool). list_any (is_stop_of a) (if b then e ∷ own_events t (home_node a) else own_events t (home_node a))) y.0
      ∙ ap (λ b. is_stop_of a e || b) (stops_own t a)
  | inr n ↦
      ap (λ (b : Bool). list_any (is_stop_of a) (if b then e ∷ own_events t (home_node a) else own_events t (home_node a))) n.0
      ∙ stops_own t a
      ∙ sym (away n.0)
]
  where
    away : eqb e.node (home_node a) ≡ false → (is_stop_of a e || list_any (is_stop_of a) t) ≡ list_any (is_stop_of a) t
    away other = rw other refl

-- A letter is received where it goes to.
pub letter_same : (letter other : LetterId) → is_letter letter (Some other) ≡ true → letter ≡ other
letter_same letter other h =
    let parts = and_parts (eqb letter.event other.event) (eqb letter.place other.place) h in
    λ i. record { event = eqb-true letter.event other.event parts.0 i; place = eqb-true letter.place other.place parts.1 i }

-- the letter was not sent, or goes to the node
abbrev pub GoesTo : List Event → LetterId → ℕ → Type 0
GoesTo t letter s = (letter_at t letter ≡ None) ⊎ ((mail : Mail) × (letter_at t letter ≡ Some mail) × (mail.to ≡ s))

goes_older : (e : Event) (t : List Event) (letter : LetterId) (s : ℕ) → GoesTo (e ∷ t) letter s → GoesTo t letter s
goes_older e t letter s goes = by (letter_at t letter) refl goes
  where
    by : (o : Option Mail) → letter_at t letter ≡ o → GoesTo (e ∷ t) letter s → GoesTo t letter s
    by None at g = inl at
    by (Some mail) at (inl none) = let now = letter_older e t letter mail at in absurd (not_none mail (sym now ∙ none))
      where
        not_none : (m : Mail) → Some m ≡ None → ⊥
        not_none m e = cc
    by (Some mail) at (inr there) = let now = letter_older e t letter mail at in inr (mail, at, ap (λ (m : Mail). m.to) (same_Some mail there.0 (sym now ∙ there.1)) ∙ there.2)

-- an event that received it is one of the node
receiver : (objects : List ObjectDecl) (t : List Event) (letter : LetterId) (s : ℕ) (input : Input) → MayCome objects t input → is_letter letter (got_of input) ≡ true → GoesTo t letter s → node_of t input ≡ s
receiver objects t letter s (Receives other) may h goes =
    let same : letter ≡ other = letter_same letter other h in
    by goes (subst (λ (l : LetterId). is_some (letter_at t l) ≡ true) (sym same) may) same
  where
    by : GoesTo t letter s → is_some (letter_at t letter) ≡ true → letter ≡ other → option_map_or (λ (mail : Mail). mail.to) (letter_at t other) 0 ≡ s
    by (inl none) sent same = absurd (true≢false (sym sent ∙ ap (λ (o : Option Mail). is_some o) none))
    by (inr there) sent same = ap (λ (l : LetterId). option_map_or (λ (mail : Mail). mail.to) (letter_at t l) 0) (sym same) ∙ ap (λ (o : Option Mail). option_map_or (λ (mail : Mail). mail.to) o 0) there.1 ∙ there.2
receiver objects t letter s (Begins m) may h goes = absurd (true≢false (sym h))
receiver objects t letter s (Requests r) may h goes = absurd (true≢false (sym h))
receiver objects t letter s (Tells m to) may h goes = absurd (true≢false (sym h))
receiver objects t letter s (Queries m f) may h goes = absurd (true≢false (sym h))
receiver objects t letter s (Restarts m) may h goes = absurd (true≢false (sym h))

-- So it was received as often in all as at that node.
pub received_own : (objects : List ObjectDecl) (t : List Event) (letter : LetterId) (s : ℕ) → IsRun objects t → GoesTo t letter s → received (own_events t s) letter ≡ received t letter
received_own objects [] letter s run goes = refl
received_own objects (e ∷ t) letter s run goes = by (is_letter letter e.got) refl (received_own objects t letter s run.1 older)
  where
    older : GoesTo t letter s
    older = goes_older e t letter s goes

    by : (b : Bool) → is_letter letter e.got ≡ b → received (own_events t s) letter ≡ received t letter → received (own_events (e ∷ t) s) letter ≡ received (e ∷ t) letter
    by true h rest =
        let got : e.got ≡ got_of run.0.input = ap (λ (x : Event). x.got) run.0.is_next in
        let node : e.node ≡ s = ap (λ (x : Event). x.node) run.0.is_next ∙ receiver objects t letter s run.0.input run.0.may (subst (λ (g : Option LetterId). is_letter letter g ≡ true) got h) older in
        ap (λ (b : Bool). received (if b then e ∷ own_events t s else own_events t s) letter) (eq-eqb e.node s node)
        ∙ ap (λ (n : ℕ). if is_letter letter e.got then n + 1 else n) rest
    by false h rest =
        elim (eqb e.node s) as (λ (b : Bool). received (if b then e ∷ own_events t s else own_events t s) letter ≡ received (e ∷ t) letter) [
          | true ↦ ap (λ (n : ℕ). if is_letter letter e.got then n + 1 else n) rest
          | false ↦ rest ∙ sym (ap (λ (b : Bool). if b then received t letter + 1 else received t letter) h)
        ]
