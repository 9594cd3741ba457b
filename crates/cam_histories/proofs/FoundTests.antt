-- Tests, variables and letters of a line in two runs whose halts differ at one input.
use Rattle.std.proofs.Common.{◌≡◌, inl, inr, ℕ, Bool, true, false}
use Rattle.std.proofs.Common.{List, length, Option, Some, None}
use Rattle.std.proofs.Common.{option_map, refl, sym, ap, ◌∙◌, subst}
use Rattle.cam_names.specs.declared.name.Name.{Name}
use Rattle.cam_type.specs.declared.ObjectDecl.{ObjectDecl}
use Rattle.cam_event.specs.declared.Event.{Event}
use Rattle.cam_event.specs.declared.LetterId.{LetterId}
use Rattle.cam_event.specs.declared.LineRefusal.{LineRefusal}
use Rattle.cam_event.specs.declared.LineRefusal.TheVariants as refusals
use Rattle.cam_event.specs.Readings.{by_knowledge}
use Rattle.cam_event.specs.Refusals.{query_refusal, first_of_two, where_so}
use Rattle.cam_runs.specs.Running.{has_number, letter_of}
use Rattle.cam_runs.specs.Standing.{Standing}
use Rattle.cam_runs.specs.HaltedLines.{Passed, unless, of_variable, of_letter, is_halted}
use Rattle.cam_runs.specs.HaltedLines.{halted_or}
use Rattle.cam_histories.specs.PutIn.{moved_letter}
use Rattle.cam_histories.specs.Found.{IsFound}
use Rattle.cam_histories.proofs.PutIn.{query_refusals_stay}
use Rattle.cam_histories.proofs.FoundSent.{letter_of_later}
use Rattle.cam_histories.proofs.Beside.{Before, SomeBeyond, Goes}
use Rattle.cam_histories.proofs.FoundEdits.{shared, other_awake}
use Rattle.cam_histories.proofs.FoundPassed.{PassLeads, PassGoes}

-- tests, variables and letters
module _ (objects : List ObjectDecl) (k : ℕ) (P : ℕ → List Event → Event → Type 0) (F : List Event)
  where
    pub unless_goes : (o there : Option LineRefusal) → there ≡ o → (one other : Passed)
        → PassLeads F (unless there other)
        → (o ≡ None → PassLeads F other → PassGoes objects k P one other)
        → PassGoes objects k P (unless o one) (unless there other)
    unless_goes o there same one other leads rest =
        subst (λ x. PassLeads F (unless x other)
        → PassGoes objects k P (unless o one) (unless x other)) (sym same) (by o refl) leads
      where
        by : (x : Option LineRefusal) → o ≡ x → PassLeads F (unless x other)
            → PassGoes objects k P (unless x one) (unless x other)
        by (Some r) is leads = refl
        by None is leads = rest is leads

    pub variable_goes : (o there : Option Name) → there ≡ o → (one other : Name → Passed)
        → PassLeads F (of_variable there other)
        → ((a : Name) → PassLeads F (other a) → PassGoes objects k P (one a) (other a))
        → PassGoes objects k P (of_variable o one) (of_variable there other)
    variable_goes o there same one other leads rest =
        subst (λ x. PassLeads F (of_variable x other)
        → PassGoes objects k P (of_variable o one) (of_variable x other)) (sym same) (by o) leads
      where
        by : (x : Option Name) → PassLeads F (of_variable x other)
            → PassGoes objects k P (of_variable x one) (of_variable x other)
        by None leads = refl
        by (Some a) leads = rest a leads

    pub letter_goes : (st there : Standing) (number : ℕ) → Goes objects k P st there
        → (one other : LetterId → Passed)
        → PassLeads F (of_letter (letter_of there.running number) other)
        → (Before k P st there → (l : LetterId) → PassLeads F (other l)
        → PassGoes objects k P (one l) (other l))
        → ((b : SomeBeyond objects k P st there) (l : LetterId)
        → PassLeads F (other (moved_letter (length b.before) l))
        → PassGoes objects k P (one l) (other (moved_letter (length b.before) l)))
        → PassGoes objects k P (of_letter (letter_of st.running number) one)
        (of_letter (letter_of there.running number) other)
    letter_goes st there number (inl before) one other leads here beyond =
        subst (λ o. PassLeads F (of_letter o other)
        → PassGoes objects k P (of_letter (letter_of st.running number) one) (of_letter o other))
        (ap (λ (x : Standing). letter_of x.running number) (sym before.is_before.same))
        (by (letter_of st.running number)) leads
      where
        by : (o : Option LetterId) → PassLeads F (of_letter o other)
            → PassGoes objects k P (of_letter o one) (of_letter o other)
        by None leads = refl
        by (Some l) leads = here before l leads
    letter_goes st there number (inr b) one other leads here beyond =
        subst (λ o. PassLeads F (of_letter o other)
        → PassGoes objects k P (of_letter (letter_of st.running number) one) (of_letter o other))
        (sym letters) (by (letter_of st.running number)) leads
      where
        stands : IsFound b.node b.before b.event st there
        stands = b.beyond.is_beyond.stands

        letters : letter_of there.running number
            ≡ option_map (moved_letter (length b.before)) (letter_of st.running number)
        letters =
            ap (λ (x : Standing). letter_of x.running number) stands.is
            ∙ letter_of_later b.node stands.behind b.before b.event st stands.unseen.mute stands.was
            number

        by : (o : Option LetterId)
            → PassLeads F (of_letter (option_map (moved_letter (length b.before)) o) other)
            → PassGoes objects k P (of_letter o one)
            (of_letter (option_map (moved_letter (length b.before)) o) other)
        by None leads = refl
        by (Some l) leads = beyond b l leads

    pub halted_same : (st there : Standing) (n : ℕ) → Goes objects k P st there
        → is_halted there n ≡ is_halted st n
    halted_same st there n goes =
        ap (λ hs. where_so (has_number hs n) refusals.Halted)
        (shared objects k P st there goes).halted

    -- a test of a node that counts where it is awake
    pub test_same : (st there : Standing) (n : ℕ) (test : Standing → Option LineRefusal)
        → Goes objects k P st there
        → ((b : SomeBeyond objects k P st there) → (b.node ≡ n → ⊥) → test there ≡ test st)
        → halted_or there n (test there) ≡ halted_or st n (test st)
    test_same st there n test (inl before) beyond =
        ap (λ x. halted_or x n (test x)) before.is_before.same
    test_same st there n test (inr b) beyond =
        ap (λ hs. first_of_two (where_so (has_number hs n) refusals.Halted) (test there))
        (shared objects k P st there (inr b)).halted
        ∙ by (has_number st.halted n) refl
      where
        by : (h : Bool) → has_number st.halted n ≡ h
            → first_of_two (where_so h refusals.Halted) (test there)
            ≡ first_of_two (where_so h refusals.Halted) (test st)
        by true halted = refl
        by false awake =
            beyond b (other_awake objects k b.node b.before b.event st there n b.beyond awake)

-- a query's test
pub queries : (objects : List ObjectDecl) (k : ℕ) (P : ℕ → List Event → Event → Type 0)
    (st there : Standing) (n : ℕ) (f : Name)
    (b : SomeBeyond objects k P st there) → (b.node ≡ n → ⊥)
    → query_refusal ((by_knowledge objects).sight there.running.trace n) f
    ≡ query_refusal ((by_knowledge objects).sight st.running.trace n) f
queries objects k P st there n f b off =
    ap (λ (x : Standing). query_refusal ((by_knowledge objects).sight x.running.trace n) f)
    stands.is
    ∙ query_refusals_stay objects b.node n stands.behind b.before b.event f stands.unseen off
    ∙ ap (λ t. query_refusal ((by_knowledge objects).sight t n) f) (sym stands.was)
  where
    stands : IsFound b.node b.before b.event st there
    stands = b.beyond.is_beyond.stands
