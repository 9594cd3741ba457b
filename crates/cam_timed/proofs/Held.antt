-- What nodes hold is what they know, and what they send.
use Rattle.std.proofs.Common.{◌≡◌, ◌⊎◌, inl, inr, if◌then◌else◌, ℕ, ◌<◌, eqb, Bool, true, false, ◌&&◌, List, [], ◌∷◌, length, Some, None, refl, sym, ap, ◌∙◌, subst}
use Rattle.std.proofs.lemmas.Bool.{eq-eqb}
use Rattle.std.proofs.lemmas.Bool.Decides.{eqb_tells}
use Rattle.std.proofs.lemmas.Option.{same_Some}
use Rattle.cam_names.specs.declared.name.Name.{Name}
use Rattle.cam_type.specs.declared.ObjectDecl.{ObjectDecl}
use Rattle.cam_event.specs.declared.Event.{Event}
use Rattle.cam_event.specs.History.{aborted, informed}
use Rattle.cam_event.specs.Pasts.{in_past, plain}
use Rattle.cam_event.specs.Inputs.{event_at, Mail}
use Rattle.cam_event.specs.Sights.{entries, own_deeds}
use Rattle.cam_event.specs.ByPast.{own_past, letter_past}
use Rattle.cam_event.proofs.Members.{event_below}
use Rattle.cam_event.proofs.NewestPasts.{older, plain_none}
use Rattle.cam_cut.proofs.Families.{SentBy, sent_by}
use Rattle.cam_cut.proofs.Sees.{known_in}
use Rattle.cam_timed.specs.declared.TimedEvent.{TimedEvent}
use Rattle.cam_timed.specs.Moments.{events}
use Rattle.cam_timed.specs.Travelling.{brings_aborts, carrier_of, carrier, by_carrier, abort_paths}
use Rattle.cam_timed.specs.TimedRuns.{IsTimedRun}
use Rattle.cam_timed.specs.Held.{own_until, NodesKnowWhatTheyHold, LettersBringWhatWasHeld}
use Rattle.cam_timed.proofs.Paths.{paths_length}
use Rattle.cam_timed.proofs.Told.{first_by_told}
use Rattle.cam_timed.proofs.Holding.{TimedHolds}
use Rattle.cam_timed.proofs.NextTold.{past_mine}
use Rattle.cam_timed.proofs.RuleHolds.{timed_holds}

-- A node knows what it was informed of.
pub nodes_know_what_they_hold : NodesKnowWhatTheyHold
nodes_know_what_they_hold objects T s got a run early =
    let holds : TimedHolds objects (events T) = timed_holds objects T run in
    let told = first_by_told (events T) (abort_paths (events T)) s got (carrier (events T) got) (own_deeds (entries (events T) s)) (holds.told s) a in
    record { commits = sym (told true); aborts = sym (told false) }

-- what is in the past of an event, as commits and as aborts travel
abbrev Told : List Event → ℕ → Name → Bool → Bool
Told t j a o = known_in (plain t (λ i. in_past t i j)) (plain (abort_paths t) (λ i. in_past (abort_paths t) i j)) a o

-- is what its node was informed of at its end
told_then : (objects : List ObjectDecl) (T : List TimedEvent) (j : ℕ) (e : Event) (a : Name) (o : Bool) → IsTimedRun objects T → event_at (events T) j ≡ Some e → Told (events T) j a o ≡ informed (own_until (events T) j) e.node a o
told_then objects [] j e a o run at = cc
told_then objects (x ∷ T) j e a o run at = by (eqb_tells j (length t)) (told_then objects T j e a o run.1)
  where
    t : List Event
    t = events T

    f : Event
    f = by_carrier t x.event

    new : eqb j (length t) ≡ true → j ≡ length t → Told (x.event ∷ t) j a o ≡ informed (own_until (x.event ∷ t) j) e.node a o
    new y same =
        let found : event_at (x.event ∷ t) j ≡ Some x.event = rw y refl in
        let mine : x.event ≡ e = same_Some x.event e (sym found ∙ at) in
        let own : own_until (x.event ∷ t) j ≡ own_deeds (entries (x.event ∷ t) x.event.node) = rw y refl in
        let here : eqb x.event.node x.event.node ≡ true = eq-eqb x.event.node x.event.node refl in
        let past : own_past (x.event ∷ t) x.event.node ≡ plain (x.event ∷ t) (λ i. in_past (x.event ∷ t) i j) = past_mine x.event t x.event.node here ∙ (λ k. plain (x.event ∷ t) (λ i. in_past (x.event ∷ t) i (sym same k))) in
        let paths : own_past (f ∷ abort_paths t) x.event.node ≡ plain (f ∷ abort_paths t) (λ i. in_past (f ∷ abort_paths t) i j) =
        past_mine f (abort_paths t) x.event.node here ∙ (λ k. plain (f ∷ abort_paths t) (λ i. in_past (f ∷ abort_paths t) i ((paths_length t ∙ sym same) k))) in
        sym (λ k. known_in (past k) (paths k) a o) ∙ sym ((timed_holds objects (x ∷ T) run).told x.event.node a o)
        ∙ ap (λ L. informed L x.event.node a o) (sym own) ∙ ap (λ (z : Event). informed (own_until (x.event ∷ t) j) z.node a o) mine

    old : eqb j (length t) ≡ false → (event_at t j ≡ Some e → Told t j a o ≡ informed (own_until t j) e.node a o) → Told (x.event ∷ t) j a o ≡ informed (own_until (x.event ∷ t) j) e.node a o
    old n rest =
        let found : event_at (x.event ∷ t) j ≡ event_at t j = rw n refl in
        let before : event_at t j ≡ Some e = sym found ∙ at in
        let own : own_until (x.event ∷ t) j ≡ own_until t j = rw n refl in
        let small : j < length t = event_below t j e before in
        (λ k. known_in (older x.event t j small k) (older f (abort_paths t) j (subst (λ m. j < m) (sym (paths_length t)) small) k) a o)
        ∙ rest before ∙ ap (λ L. informed L e.node a o) (sym own)

    by : ((eqb j (length t) ≡ true) × (j ≡ length t)) ⊎ ((eqb j (length t) ≡ false) × (j ≡ length t → ⊥)) → (event_at t j ≡ Some e → Told t j a o ≡ informed (own_until t j) e.node a o) → Told (x.event ∷ t) j a o ≡ informed (own_until (x.event ∷ t) j) e.node a o
    by (inl y) rest = new y.0 y.1
    by (inr n) rest = old n.0 rest

-- So a letter brings what its sender was informed of.
pub letters_bring_what_was_held : LettersBringWhatWasHeld
letters_bring_what_was_held objects T letter mail a run at = record { commits = told true; aborts = by (brings_aborts mail.body) refl }
  where
    t : List Event
    t = events T

    from : SentBy t letter mail
    from = sent_by t letter mail at

    told : (o : Bool) → Told t letter.event a o ≡ informed (own_until t letter.event) mail.from a o
    told o = told_then objects T letter.event from.event a o run from.at ∙ ap (λ (m : Mail). informed (own_until t letter.event) m.from a o) from.is

    carried : (b : Bool) → brings_aborts mail.body ≡ b → carrier t (Some letter) ≡ (if b then Some letter else None)
    carried b is = ap (carrier_of (Some letter)) at ∙ ap (λ (c : Bool). if c then Some letter else None) is

    by : (b : Bool) → brings_aborts mail.body ≡ b → aborted (letter_past (abort_paths t) (carrier t (Some letter))) a ≡ (brings_aborts mail.body && informed (own_until t letter.event) mail.from a false)
    by true is = ap (λ c. aborted (letter_past (abort_paths t) c) a) (carried true is) ∙ told false ∙ sym (ap (λ b. b && informed (own_until t letter.event) mail.from a false) is)
    by false is =
        ap (λ c. aborted (letter_past (abort_paths t) c) a) (carried false is) ∙ ap (λ L. aborted L a) (plain_none (abort_paths t)) ∙ sym (ap (λ b. b && informed (own_until t letter.event) mail.from a false) is)
