-- What an input leaves, by whether it is a halt.
use Rattle.std.proofs.Common.{◌≡◌, inl, inr, ℕ, suc, ◌+◌, ◌<◌, ◌≤◌, eqb, Bool, true, false, ◌||◌}
use Rattle.std.proofs.Common.{if◌then◌else◌, List, [], ◌∷◌, ◌++◌, length, Option, Some, None}
use Rattle.std.proofs.Common.{refl, sym, ap, ◌∙◌, arith, lt-ltb}
use Rattle.std.specs.Prelude.{nat_lt}
use Rattle.std.proofs.lemmas.Bool.{ne_eqb}
use Rattle.std.proofs.lemmas.Bool.Decides.{eqb_tells}
use Rattle.cam_event.specs.declared.Deed.{Deed}
use Rattle.cam_event.specs.declared.Event.{Event}
use Rattle.cam_event.specs.declared.Mark.TheVariants as marks
use Rattle.cam_event.specs.Taken.{taken_of}
use Rattle.cam_runs.specs.Running.{has_number}
use Rattle.cam_runs.specs.Requests.{newest_deeds}
use Rattle.cam_runs.specs.Halts.{accepted}
use Rattle.cam_runs.specs.Standing.{Standing, Undecided, after_input, made}
use Rattle.cam_histories.specs.PutIn.{moved_event, put_in, IsUnseen}
use Rattle.cam_histories.specs.Found.{last_input, undecided_beside}
use Rattle.cam_histories.specs.Found.{with_number, with_mark_taken, with_taken_in, IsFound}
use Rattle.cam_histories.proofs.Numbers.{lt_cases, put_in_length, behind_long}
use Rattle.cam_histories.proofs.FoundMarks.{marks_more, number_more}
use Rattle.cam_histories.proofs.UndecidedBeside.{beside_other}

pub or_true : (b : Bool) → (b || true) ≡ true
or_true true = refl
or_true false = refl

less_next : (n : ℕ) → nat_lt n (suc n) ≡ true
less_next n = lt-ltb n (suc n) (omega arith)

not_less : (n : ℕ) → nat_lt n n ≡ false
not_less n = elim (lt_cases n n) [
  | inl y ↦ let h = y.1 in absurd (omega (arith, h))
  | inr h ↦ h.0
]

-- what an input made, by whether it is a halt
abbrev pub made_by : Event → Option Bool → List Deed
made_by e None = e.deeds
made_by e (Some true) = (taken_of e).deeds
made_by e (Some false) = []

pub made_is : (line : ℕ) (again : Bool) (st : Standing) (s : ℕ) (e : Event) (w : Bool)
    (o : Option Bool) → made st (after_input line again st s e w o) ≡ made_by e o
made_is line again st s e w None =
    ap (λ b. if b then e.deeds else []) (less_next (length st.running.trace))
made_is line again st s e w (Some true) =
    ap (λ b. if b then (taken_of e).deeds else []) (less_next (length st.running.trace))
made_is line again st s e w (Some false) =
    ap (λ b. if b then newest_deeds st.running.trace else []) (not_less (length st.running.trace))

pub after_accepted : (line : ℕ) (again : Bool) (st : Standing) (n : ℕ) (ev : Event) (w : Bool)
    (o : Option Bool) → accepted (after_input line again st n ev w o).turns ≡ accepted st.turns + 1
after_accepted line again st n ev w None = refl
after_accepted line again st n ev w (Some true) = refl
after_accepted line again st n ev w (Some false) = refl

pub after_last : (line : ℕ) (again : Bool) (st : Standing) (n : ℕ) (ev : Event) (w : Bool)
    (o : Option Bool) (s : ℕ)
    → last_input (after_input line again st n ev w o).turns s
    ≡ (if eqb n s then Some (accepted st.turns) else last_input st.turns s)
after_last line again st n ev w None s = refl
after_last line again st n ev w (Some true) s = refl
after_last line again st n ev w (Some false) s = refl

pub below_after : (line : ℕ) (again : Bool) (st : Standing) (n : ℕ) (ev : Event) (w : Bool)
    (o : Option Bool)
    → ((i : ℕ) → has_number st.taken i ≡ true → i < length st.running.trace)
    → (i : ℕ) → has_number (after_input line again st n ev w o).taken i ≡ true
    → i < length (after_input line again st n ev w o).running.trace
below_after line again st n ev w None below i has = let h = below i has in omega (arith, h)
below_after line again st n ev w (Some false) below i has = below i has
below_after line again st n ev w (Some true) below i has =
    elim (eqb_tells (length st.running.trace) i) [
      | inl y ↦ let same = y.1 in omega (arith, same)
      | inr other_one ↦
          let h = below i (sym (ap (λ b. b || has_number st.taken i) other_one.0) ∙ has) in
          omega (arith, h)
    ]

-- an input of another node, after the one at which the runs differ
module _ (line : ℕ) (again : Bool) (s : ℕ) (behind before : List Event) (e : Event) (st : Standing)
    (n : ℕ) (ev : Event) (w : Bool) (unseen : IsUnseen s behind e)
    (was : st.running.trace ≡ behind ++ before) (halted : has_number st.halted s ≡ true)
    (off : s ≡ n → ⊥) (node : ev.node ≡ n)
  where
    abbrev later : Standing
    later = with_taken_in s behind e before st

    abbrev moves : Event
    moves = moved_event (length before) ev

    more_unseen : (x : Event) → x.node ≡ n → IsUnseen s (x ∷ behind) e
    more_unseen x is = record {
      at = unseen.at;
      mute = unseen.mute;
      others = ((λ mine. off (sym mine ∙ is)), unseen.others);
    }

    another : (line : ℕ) (took : Bool)
        → with_mark_taken s st.running.marks ++ marks.Halted line n took ∷ []
        ≡ with_mark_taken s (st.running.marks ++ marks.Halted line n took ∷ [])
    another line took =
        sym (marks_more s st.running.marks (marks.Halted line n took)
        (ne_eqb n s (λ h. off (sym h))))

    numbers : length (put_in behind e before) ∷ with_number (length before) st.taken
        ≡ with_number (length before) (length st.running.trace ∷ st.taken)
    numbers =
        ap (λ m. m ∷ with_number (length before) st.taken)
        (put_in_length before e behind ∙ ap (λ t. length t + 1) (sym was))
        ∙ sym (number_more (length before) (length st.running.trace) st.taken high)
      where
        high : length before ≤ length st.running.trace
        high =
            let long = behind_long before e behind in
            let same : length st.running.trace ≡ length (behind ++ before) = ap length was in
            omega (arith, long, same)

    -- the halt that is lost
    abbrev newest : Undecided
    newest = record { node = n; before = length st.running.trace; event = taken_of ev }

    halts : (after_input line again later n moves w (Some false)).undecided
        ≡ undecided_beside s (length before) (newest ∷ st.undecided)
    halts =
        ap (λ m. record { node = n; before = m; event = taken_of moves }
        ∷ undecided_beside s (length before) st.undecided)
        (put_in_length before e behind ∙ ap (λ t. length t + 1) (sym was))
        ∙ sym (beside_other s (length before) newest st.undecided (λ h. off (sym h)))

    pub after_found : (o : Option Bool)
        → IsFound s before e (after_input line again st n ev w o)
        (after_input line again later n moves w o)
    after_found None = record {
      behind = ev ∷ behind;
      unseen = more_unseen ev node;
      was = ap (λ t. ev ∷ t) was;
      is = refl;
      halted = halted;
    }
    after_found (Some true) =
        let end : Standing = after_input line again later n moves w (Some true) in
        record {
          behind = taken_of ev ∷ behind;
          unseen = more_unseen (taken_of ev) node;
          was = ap (λ t. taken_of ev ∷ t) was;
          is = λ i. record end {
            running = record end.running { marks = another line true i };
            taken = numbers i;
          };
          halted = ap (λ b. eqb n s || b) halted ∙ or_true (eqb n s);
        }
    after_found (Some false) =
        let end : Standing = after_input line again later n moves w (Some false) in
        record {
          behind = behind;
          unseen = unseen;
          was = was;
          is = λ i. record end {
            running = record end.running { marks = another line false i };
            undecided = halts i;
          };
          halted = ap (λ b. eqb n s || b) halted ∙ or_true (eqb n s);
        }
