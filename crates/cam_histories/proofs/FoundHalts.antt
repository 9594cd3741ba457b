-- The input at which two runs differ, and those before it.
use Rattle.std.proofs.Common.{◌≡◌, inl, inr, ℕ, ◌+◌, ◌<◌, ◌≤◌, Bool, true, false, ◌||◌}
use Rattle.std.proofs.Common.{if◌then◌else◌, List, [], ◌∷◌, ◌++◌, filter, length, Option, Some}
use Rattle.std.proofs.Common.{refl, sym, ap, ◌∙◌, subst, arith}
use Rattle.std.proofs.lemmas.Bool.{eq-eqb}
use Rattle.std.proofs.lemmas.Bool.Decides.{eqb_tells}
use Rattle.cam_type.specs.declared.ObjectDecl.{ObjectDecl}
use Rattle.cam_event.specs.declared.Deed.{Deed}
use Rattle.cam_event.specs.declared.Event.{Event}
use Rattle.cam_event.specs.Inputs.{Input, node_of}
use Rattle.cam_event.specs.Readings.{by_knowledge}
use Rattle.cam_event.specs.Taken.{is_entered, taken_of}
use Rattle.cam_cut.proofs.Places.{AllPlaced}
use Rattle.cam_runs.specs.Running.{has_number}
use Rattle.cam_runs.specs.Requests.{created_in, asked_in}
use Rattle.cam_runs.specs.Halts.{accepted, Halting, appends}
use Rattle.cam_runs.specs.Standing.{Standing, Setting, after_input, put, made}
use Rattle.cam_runs.specs.Standing.{Undecided, undecided_of}
use Rattle.cam_histories.specs.InputLaws.{held_setting}
use Rattle.cam_histories.specs.Found.{last_input, with_taken_in, DifferAt}
use Rattle.cam_histories.proofs.Numbers.{lt_cases}
use Rattle.cam_histories.proofs.FoundMarks.{marks_new, number_new}
use Rattle.cam_histories.proofs.Silent.{entered_silent, placed_behind, creates_none, asks_none}
use Rattle.cam_histories.proofs.Beside.{Before, Goes, Leads}
use Rattle.cam_histories.proofs.AfterInput.{made_is, after_accepted, after_last, below_after}
use Rattle.cam_histories.proofs.UndecidedBeside.{beside_own, newest_own}

module _ (objects : List ObjectDecl) (losing taking : Halting) (k : ℕ)
    (P : ℕ → List Event → Event → Type 0) (differ : DifferAt k losing taking) (line : ℕ)
    (restarted : ℕ → Bool)
  where
    abbrev pub one : Setting
    one = held_setting objects losing line restarted

    abbrev pub other : Setting
    other = held_setting objects taking line restarted

    -- what an input leads to where the runs were the same
    pub record Puts (st there one_end other_end : Standing) : Type 0 where
      pub goes : Goes objects k P one_end other_end
      pub created : created_in (made there other_end) ≡ created_in (made st one_end)
      pub asked : asked_in (made there other_end) ≡ asked_in (made st one_end)

    module _ (F : List Event) (H : List Deed) (placed : AllPlaced objects H F) where
      -- the input at which they differ
      differs : (st : Standing) → Before k P st st → (input : Input) → accepted st.turns ≡ k
          → Leads F (put other st input) → Puts st st (put one st input) (put other st input)
      differs st before input here leads = record {
        goes = inr (record {
          node = n;
          before = t;
          event = taken_of ev;
          kept = before.all n t (taken_of ev);
          beyond = record {
            is_beyond = record {
              passed =
                  let more : accepted (put one st input).turns ≡ accepted st.turns + 1 =
                  after_accepted line (restarted n) st n ev w (losing st.turns n w (restarted n)) in
                  omega (arith, more, here);
              last =
                  after_last line (restarted n) st n ev w
                  (losing st.turns n w (restarted n)) n
                  ∙ ap (λ b. if b then Some (accepted st.turns) else last_input st.turns n)
                  (eq-eqb n n refl)
                  ∙ ap (λ m. Some m) here;
              input = input;
              of_node = refl;
              event = refl;
              undecided =
                  ap (λ (x : Standing). undecided_of n x.undecided) loses
                  ∙ newest_own n newest st.undecided refl;
              stands = record {
                behind = [];
                unseen = record { at = refl; mute = refl; others = tt };
                was = ap (λ (x : Standing). x.running.trace) loses;
                is = takes ∙ found ∙ ap (with_taken_in n [] (taken_of ev) t) (sym loses);
                halted =
                    ap (λ (x : Standing). has_number x.halted n) loses
                    ∙ ap (λ b. b || has_number st.halted n) (eq-eqb n n refl);
              };
            };
            silent = entered_silent objects H n ev.deeds
                (placed_behind objects H leads.more (taken_of ev ∷ t)
                (subst (AllPlaced objects H) (leads.is ∙ ap (λ (x : Standing).
                leads.more ++ x.running.trace) takes) placed)).0;
          };
        });
        created =
            ap created_in there ∙ creates_none ev.deeds ∙ sym (ap created_in here_none);
        asked = ap asked_in there ∙ asks_none ev.deeds ∙ sym (ap asked_in here_none);
      }
        where
          t : List Event
          t = st.running.trace

          n : ℕ
          n = node_of t input

          ev : Event
          ev = (by_knowledge objects).next t input

          w : Bool
          w = appends (by_knowledge objects) t input

          newest : Undecided
          newest = record { node = n; before = length t; event = taken_of ev }

          lost_end : Standing
          lost_end = after_input line (restarted n) st n ev w (Some false)

          taken_end : Standing
          taken_end = after_input line (restarted n) st n ev w (Some true)

          loses : put one st input ≡ lost_end
          loses = ap (after_input line (restarted n) st n ev w)
              (differ.lost st.turns n w (restarted n) here)

          takes : put other st input ≡ taken_end
          takes = ap (after_input line (restarted n) st n ev w)
              (differ.took st.turns n w (restarted n) here)

          found : taken_end ≡ with_taken_in n [] (taken_of ev) t lost_end
          found = λ i. record taken_end {
            running = record taken_end.running {
              marks = sym (marks_new n line st.running.marks) i;
            };
            taken = sym (number_new (length t) st.taken before.below) i;
            undecided = sym (beside_own n (length t) newest st.undecided refl) i;
          }

          there : made st (put other st input) ≡ filter is_entered ev.deeds
          there = ap (made st) takes ∙ made_is line (restarted n) st n ev w (Some true)

          here_none : made st (put one st input) ≡ []
          here_none = ap (made st) loses ∙ made_is line (restarted n) st n ev w (Some false)

      alike : (st : Standing) → Before k P st st → (input : Input) → (accepted st.turns ≡ k → ⊥)
          → Puts st st (put one st input) (put other st input)
      alike st before input off = record {
        goes = inl (record {
          all = before.all;
          is_before = record {
            coming =
                let more = after_accepted line (restarted n) st n ev w o in
                let coming = before.is_before.coming in
                by_cases coming more;
            same = sym same;
          };
          below = below_after line (restarted n) st n ev w o before.below;
        });
        created = ap (λ x. created_in (made st x)) (sym same);
        asked = ap (λ x. asked_in (made st x)) (sym same);
      }
        where
          t : List Event
          t = st.running.trace

          n : ℕ
          n = node_of t input

          ev : Event
          ev = (by_knowledge objects).next t input

          w : Bool
          w = appends (by_knowledge objects) t input

          o : Option Bool
          o = losing st.turns n w (restarted n)

          same : put one st input ≡ put other st input
          same = ap (after_input line (restarted n) st n ev w)
              (differ.alike st.turns n w (restarted n) off)

          by_cases : accepted st.turns ≤ k
              → accepted (put one st input).turns ≡ accepted st.turns + 1
              → accepted (put one st input).turns ≤ k
          by_cases coming more = elim (eqb_tells (accepted st.turns) k) [
            | inl y ↦ absurd (off y.1)
            | inr other_one ↦ let ne = other_one.1 in omega (arith, coming, more, less coming ne)
          ]
            where
              less : accepted st.turns ≤ k → (accepted st.turns ≡ k → ⊥) → accepted st.turns < k
              less le ne = elim (lt_cases (accepted st.turns) k) [
                | inl y ↦ y.1
                | inr h ↦ let high = h.1 in absurd (ne (omega (arith, le, high)))
              ]

      pub before_put : (st there : Standing) → Before k P st there → (input : Input)
          → Leads F (put other there input) → Puts st there (put one st input)
          (put other there input)
      before_put st there before input =
          subst (λ x. Leads F (put other x input)
          → Puts st x (put one st input) (put other x input))
          (sym before.is_before.same)
          (λ leads. elim (eqb_tells (accepted st.turns) k) [
            | inl y ↦ differs st here input y.1 leads
            | inr other_one ↦ alike st here input other_one.1
          ])
        where
          here : Before k P st st
          here = record {
            all = before.all;
            is_before = record { coming = before.is_before.coming; same = refl };
            below = before.below;
          }
