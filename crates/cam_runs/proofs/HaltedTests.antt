-- What a line tests and does in a run in which nodes halt: it is under way, and the same by both readings.
use Rattle.std.proofs.Common.{◌≡◌, inl, inr, ℕ, ◌-◌, eqb, Bool, true, false, not, ◌||◌, if◌then◌else◌, List, [], ◌∷◌, ◌++◌, filter, length, Some, None, refl, sym, ap, ◌∙◌, subst, arith}
use Rattle.std.specs.Prelude.{nat_lt}
use Rattle.std.specs.List.{list_any}
use Rattle.std.proofs.lemmas.Bool.{true≢false, eqb-true, eq-eqb, or_cases, or_left, or_right}
use Rattle.std.proofs.lemmas.Option.{same_Some}
use Rattle.cam_names.specs.declared.name.Name.{Name}
use Rattle.cam_names.specs.Names.{home_node}
use Rattle.cam_event.specs.declared.LetterId.{LetterId}
use Rattle.cam_event.specs.declared.Mark.TheVariants as marks
use Rattle.cam_event.specs.declared.LetterFault.TheVariants.{Short}
use Rattle.cam_event.specs.declared.Want.{Want}
use Rattle.cam_event.specs.declared.Deed.TheVariants.{Crash}
use Rattle.cam_event.specs.History.{is_crash}
use Rattle.cam_event.specs.Pasts.{plain_all}
use Rattle.cam_event.specs.Inputs.{Begins, Requests, Restarts}
use Rattle.cam_event.specs.Refusals.{refusal}
use Rattle.cam_event.specs.Readings.{by_pasts, by_knowledge}
use Rattle.cam_event.specs.Runs.{IsWant, IsNode, MayCome}
use Rattle.cam_delta.proofs.SameReadings.{ran_refusals}
use Rattle.cam_delta.proofs.SpelledLoads.{ran_spellings}
use Rattle.cam_script.specs.declared.Script.{Script}
use Rattle.cam_wire.specs.OfTrace.{spelling_of}
use Rattle.cam_runs.specs.Running.{has_number, letters, letter_of}
use Rattle.cam_runs.specs.Requests.{home_sight, created_in}
use Rattle.cam_runs.specs.Playing.{body_number}
use Rattle.cam_runs.specs.InRange.{nests_within}
use Rattle.cam_runs.specs.UnderWay.{IsBare}
use Rattle.cam_runs.specs.Standing.{Standing, Setting, put, made, deliver, addressee, ended_halt}
use Rattle.cam_runs.specs.HaltedLines.{unless, is_halted, halted_or, led_creating, led_asking, take_request, cut}
use Rattle.cam_runs.specs.HaltedPlaying.{requested}
use Rattle.cam_runs.specs.UnderHalts.{IsUnderHalts}
use Rattle.cam_runs.proofs.Undecided.{placed_without, decided_without}
use Rattle.cam_runs.proofs.OneEvent.{first_none}
use Rattle.cam_runs.proofs.MayAsk.{first_two}
use Rattle.cam_runs.proofs.Delivering.{letters_sent, letter_numbered}
use Rattle.cam_runs.proofs.Lines.{not_both}
use Rattle.cam_runs.proofs.HaltedEvents.{IsReady, ran}
use Rattle.cam_runs.proofs.HaltedNew.{asked_new, created_new}
use Rattle.cam_runs.proofs.HaltedPuts.{pasts, helds, Both, put_both, ready_by, input_both, deliver_both}
use Rattle.cam_runs.proofs.HaltedGoes.{body_given, given_both}
use Rattle.cam_event.proofs.Members.{In}
use Rattle.cam_runs.proofs.HaltedParts.{BothPassed, unless_both, awake_by, no_body, put_bodies}

-- a request of an action without a body
pub request_both : (script : Script) (c : Setting) (st : Standing) (a : Name) (want : Want) → IsUnderHalts script st → IsBare (plain_all st.running.trace) st.running.bodies a → IsWant script.objects want
    → BothPassed script st true (take_request (pasts script c) st a want) (take_request (helds script c) st a want)
request_both script c st a want under bare is =
    unless_both script st true (halted_or st (home_node a) (refusal (home_sight (by_pasts script.objects) st.running a) a want)) (halted_or st (home_node a) (refusal (home_sight (by_knowledge script.objects) st.running a) a want))
    (led_asking st one) (led_asking st (requested (helds script c) st a want))
    (ap (halted_or st (home_node a)) (ran_refusals script.objects st.running.trace (home_node a) a want (ran script st under.run)))
    (λ none.
    let tests = first_two (is_halted st (home_node a)) (refusal (home_sight (by_pasts script.objects) st.running a) a want) none in
    let may : MayCome script.objects st.running.trace (Requests (record { action = a; want = want })) = (tests.1, is) in
    let first = put_both script c st (Requests (record { action = a; want = want })) (ready_by script st (Requests (record { action = a; want = want })) under (awake_by st (home_node a) tests.0) may
    (λ b n at same. absurd (not_both (body_number st.running.bodies b) n at (ap (body_number st.running.bodies) same ∙ bare.bare)))) in
    record {
      keeps = (
        first.under,
        first.bound,
        λ f b asked.
            let new = (asked_new script c st (record { action = a; want = want }) b under may asked).0 in
            record { known = new.known; bare = ap (λ bs. body_number bs b) (put_bodies script c st (Requests (record { action = a; want = want }))) ∙ no_body script st b under new.fresh },
      );
      same = ap (led_asking st) first.same;
    })
  where
    one : Standing
    one = requested (pasts script c) st a want

-- a begin, and a start with a body
pub begin_both : (script : Script) (c : Setting) (st : Standing) (s : ℕ) → IsUnderHalts script st → IsNode s → BothPassed script st true (unless (is_halted st s) (led_creating None st (put (pasts script c) st (Begins s)))) (unless (is_halted st s) (led_creating None st (put (helds script c) st (Begins s))))
begin_both script c st s under node = unless_both script st true (is_halted st s) (is_halted st s) (led_creating None st (put (pasts script c) st (Begins s))) (led_creating None st (put (helds script c) st (Begins s))) refl (λ none.
    let first = input_both script c st (Begins s) under (awake_by st s none) node (λ a asks. asks) in
    let given = given_both script st (put (pasts script c) st (Begins s)) (put (helds script c) st (Begins s)) None (λ after. created_in (made st after)) under first (λ b n e f. no_body_here n e) in
    record {
      keeps = (
        given.under,
        given.bound,
        λ f a h.
            let new = (created_new script c st s a under node h).0 in
            record { known = new.known; bare = ap (λ bs. body_number bs a) (put_bodies script c st (Begins s)) ∙ no_body script st a under new.fresh },
      );
      same = ap (led_creating None st) first.same;
    })
  where
    no_body_here : {X : Type 0} (n : ℕ) → None ≡ Some n → X
    no_body_here n e = cc

pub start_both : (script : Script) (c : Setting) (st : Standing) (s n : ℕ) → IsUnderHalts script st → IsNode s → nests_within script.bodies 8 n ≡ true
    → BothPassed script st false (unless (is_halted st s) (led_creating (Some n) st (put (pasts script c) st (Begins s)))) (unless (is_halted st s) (led_creating (Some n) st (put (helds script c) st (Begins s))))
start_both script c st s n under node nests = unless_both script st false (is_halted st s) (is_halted st s) (led_creating (Some n) st one) (led_creating (Some n) st (put (helds script c) st (Begins s))) refl (λ none.
    let first = input_both script c st (Begins s) under (awake_by st s none) node (λ a asks. asks) in
    let given = given_both script st one (put (helds script c) st (Begins s)) (Some n) (λ after. created_in (made st after)) under first (λ b m e f.
    let new = created_new script c st s b under node f in
    let single : length b ≡ 1 = eqb-true (length b) 1 new.1 in
    let room : 8 ≡ 9 - length b = omega (arith, single) in
    body_given script st one b m under first.under first.bound new.0 (subst (λ (x : ℕ). nests_within script.bodies (9 - length b) x ≡ true) (same_Some n m e) (subst (λ (k : ℕ). nests_within script.bodies k n ≡ true) room nests))) in
    record { keeps = (given.under, given.bound, λ f. absurd (true≢false (sym f))); same = ap (led_creating (Some n) st) first.same })
  where
    one : Standing
    one = put (pasts script c) st (Begins s)

-- a letter that is cut short makes a mark, another is delivered
pub cut_both : (script : Script) (c : Setting) (st : Standing) (k bytes : ℕ) (letter : LetterId) → IsUnderHalts script st → has_number st.halted (addressee st letter) ≡ false → letter_of st.running k ≡ Some letter
    → Both script st (cut (pasts script c) st k bytes letter) (cut (helds script c) st k bytes letter)
cut_both script c st k bytes letter under awake at = record {
  under = first.under;
  bound = first.bound;
  same = (λ i. if nat_lt bytes (length (ran_spellings script.objects st.running.trace letter (ran script st under.run) (letters_sent st.running.trace letter there) i)) then short else deliver (helds script c) st k letter) ∙ first.same;
}
  where
    there : In letter (letters st.running.trace)
    there = letter_numbered st.running k letter at

    short : Standing
    short = record st { running = record st.running { marks = st.running.marks ++ marks.Cut c.line k Short bytes ∷ [] } }

    by : (b : Bool) → Both script st (if b then short else deliver (pasts script c) st k letter) (if b then short else deliver (helds script c) st k letter)
    by true = record { under = record { run = under.run; below = under.below; waits = under.waits; works = under.works; bound = under.bound; placed = under.placed; decided = under.decided }; bound = refl; same = refl }
    by false = deliver_both script c st k letter under awake there

    first : Both script st (if nat_lt bytes (length (spelling_of (by_pasts script.objects) st.running.trace letter)) then short else deliver (pasts script c) st k letter) (if nat_lt bytes (length (spelling_of (by_pasts script.objects) st.running.trace letter)) then short else deliver (helds script c) st k letter)
    first = by (nat_lt bytes (length (spelling_of (by_pasts script.objects) st.running.trace letter)))

-- a restart line
has_filtered : (xs : List ℕ) (s m : ℕ) → (s ≡ m → ⊥) → has_number xs m ≡ true → has_number (filter (λ k. not (eqb k s)) xs) m ≡ true
has_filtered [] s m off h = h
has_filtered (x ∷ xs) s m off h = by (eqb x s) refl h (has_filtered xs s m off)
  where
    by : (b : Bool) → eqb x s ≡ b → has_number (x ∷ xs) m ≡ true → (has_number xs m ≡ true → has_number (filter (λ k. not (eqb k s)) xs) m ≡ true) → has_number (if not b then x ∷ filter (λ k. not (eqb k s)) xs else filter (λ k. not (eqb k s)) xs) m ≡ true
    by true e g rest = rest (elim (or_cases (eqb x m) (has_number xs m) g) [
      | inl y ↦ absurd (off (sym (eqb-true x s e) ∙ eqb-true x m y))
      | inr r ↦ r
    ])
    by false e g rest = elim (or_cases (eqb x m) (has_number xs m) g) [
      | inl y ↦ or_left (eqb x m) (has_number (filter (λ k. not (eqb k s)) xs) m) y
      | inr r ↦ or_right (eqb x m) (has_number (filter (λ k. not (eqb k s)) xs) m) (rest r)
    ]

pub restart_both : (script : Script) (c : Setting) (st : Standing) (s : ℕ) → IsUnderHalts script st → IsNode s → Both script st (put (pasts script c) (ended_halt st s) (Restarts s)) (put (helds script c) (ended_halt st s) (Restarts s))
restart_both script c st s under node =
    let first = put_both script c (ended_halt st s) (Restarts s) ready in
    record { under = first.under; bound = first.bound; same = first.same }
  where
    ready : IsReady script (ended_halt st s) (Restarts s)
    ready = record {
      run = under.run;
      below = under.below;
      others = λ m off h. has_filtered st.halted s m off (under.waits m h);
      own = λ h. ap (λ ds. list_any (is_crash s) (ds ++ Crash s ∷ [])) (first_none st.running.trace s) ∙ ap (λ b. b || false) (eq-eqb s s refl);
      may = node;
      works = under.works;
      bound = under.bound;
      placed = placed_without s (length st.running.trace) st.undecided under.placed;
      decided = decided_without s st.halted st.undecided under.decided;
      idle = λ a n at asks. absurd asks;
    }
