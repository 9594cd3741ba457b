-- Lines that hand over a letter in two runs whose halts differ at one input.
use Rattle.std.proofs.Common.{◌≡◌, inr, ℕ, Bool, true, false}
use Rattle.std.proofs.Common.{if◌then◌else◌, List, [], length, None}
use Rattle.std.proofs.Common.{option_map, refl, sym, ap, ◌∙◌, subst}
use Rattle.std.specs.Prelude.{nat_lt}
use Rattle.std.specs.Option.{option_map_or}
use Rattle.cam_type.specs.declared.ObjectDecl.{ObjectDecl}
use Rattle.cam_event.specs.declared.Deed.{Deed}
use Rattle.cam_event.specs.declared.Event.{Event}
use Rattle.cam_event.specs.declared.LetterId.{LetterId}
use Rattle.cam_event.specs.declared.Mark.TheVariants as marks
use Rattle.cam_event.specs.declared.LetterFault.TheVariants.{Short}
use Rattle.cam_event.specs.Inputs.{letter_at}
use Rattle.cam_event.specs.Readings.{by_knowledge}
use Rattle.cam_cut.proofs.Places.{AllPlaced}
use Rattle.cam_script.specs.declared.Statement.{Statement}
use Rattle.cam_wire.specs.OfTrace.{letter_with, spelling_of}
use Rattle.cam_wire.specs.Spelling.{spelled}
use Rattle.cam_runs.specs.Running.{has_number, letter_of}
use Rattle.cam_runs.specs.Halts.{Halting}
use Rattle.cam_runs.specs.Standing.{Standing, Setting, deliver, addressee}
use Rattle.cam_runs.specs.Standing.{with_mark}
use Rattle.cam_runs.specs.HaltedLines.{Led, unless, of_letter, is_halted}
use Rattle.cam_runs.specs.HaltedLines.{cut}
use Rattle.cam_runs.proofs.HaltedParts.{awake_by}
use Rattle.cam_histories.specs.InputLaws.{held_setting}
use Rattle.cam_histories.specs.PutIn.{moved_letter, put_in}
use Rattle.cam_histories.specs.Found.{IsFound, DifferAt}
use Rattle.cam_histories.proofs.PutIn.{loads_are_moved}
use Rattle.cam_histories.proofs.FoundSent.{letter_later, addressee_later}
use Rattle.cam_histories.proofs.Beside.{SomeBeyond, Goes, Leads}
use Rattle.cam_histories.proofs.FoundEdits.{goes_edit}
use Rattle.cam_histories.proofs.FoundDrains.{deliver_before, deliver_beyond}
use Rattle.cam_histories.proofs.FoundPassed.{mark_edits, PassLeads, PassGoes}
use Rattle.cam_histories.proofs.FoundTests.{unless_goes, letter_goes, halted_same}

module _ (objects : List ObjectDecl) (losing taking : Halting) (k : ℕ)
    (P : ℕ → List Event → Event → Type 0) (differ : DifferAt k losing taking) (line : ℕ)
    (restarted : ℕ → Bool)
    (F : List Event) (H : List Deed) (placed : AllPlaced objects H F)
    (bodies : List (List Statement)) (st there : Standing) (goes : Goes objects k P st there)
  where
    abbrev one : Setting
    one = held_setting objects losing line restarted

    abbrev other : Setting
    other = held_setting objects taking line restarted

    -- deliveries, and letters that are cut short
    addressed : (b : SomeBeyond objects k P st there) (letter : LetterId)
        → addressee there (moved_letter (length b.before) letter) ≡ addressee st letter
    addressed b letter =
        let stands = b.beyond.is_beyond.stands in
        ap (λ x. addressee x (moved_letter (length b.before) letter)) stands.is
        ∙ addressee_later b.node stands.behind b.before b.event st stands.unseen.mute stands.was
        letter

    handed_beyond : (b : SomeBeyond objects k P st there) (number : ℕ) (l : LetterId)
        → has_number st.halted (addressee st l) ≡ false
        → Goes objects k P (deliver one st number l)
        (deliver other there number (moved_letter (length b.before) l))
    handed_beyond b number l awake = inr (record {
      node = b.node;
      before = b.before;
      event = b.event;
      kept = b.kept;
      beyond = deliver_beyond objects losing taking k P differ line restarted F H placed b.node
          b.before b.event st there number l b.beyond awake;
    })

    pub handed_goes : (number : ℕ) → PassLeads F (of_letter (letter_of there.running number)
        (λ l. unless (is_halted there (addressee there l))
        (Led (deliver other there number l) None)))
        → PassGoes objects k P (of_letter (letter_of st.running number)
        (λ l. unless (is_halted st (addressee st l)) (Led (deliver one st number l) None)))
        (of_letter (letter_of there.running number)
        (λ l. unless (is_halted there (addressee there l))
        (Led (deliver other there number l) None)))
    handed_goes number leads =
        letter_goes objects k P F st there number goes
        (λ l. unless (is_halted st (addressee st l)) (Led (deliver one st number l) None))
        (λ l. unless (is_halted there (addressee there l))
        (Led (deliver other there number l) None))
        leads
        (λ before l leads.
        unless_goes objects k P F (is_halted st (addressee st l))
        (is_halted there (addressee there l))
        (ap (λ (x : Standing). is_halted x (addressee x l)) before.is_before.same)
        (Led (deliver one st number l) None) (Led (deliver other there number l) None) leads
        (λ awake more. (
          deliver_before objects losing taking k P differ line restarted F H placed st
              there number l before more,
          refl,
        )))
        (λ b l leads.
        unless_goes objects k P F (is_halted st (addressee st l))
        (is_halted there (addressee there (moved_letter (length b.before) l)))
        (ap (is_halted there) (addressed b l)
        ∙ halted_same objects k P F st there (addressee st l) goes)
        (Led (deliver one st number l) None)
        (Led (deliver other there number (moved_letter (length b.before) l)) None) leads
        (λ awake more. (handed_beyond b number l (awake_by st (addressee st l) awake), refl)))

    abbrev short : ℕ → ℕ → Standing → Standing
    short number bytes x =
        record x { running = with_mark (marks.Cut line number Short bytes) x.running }

    short_goes : (number bytes : ℕ) (b : Bool) (lost found : Standing)
        → (Leads F found → Goes objects k P lost found)
        → PassLeads F (Led (if b then short number bytes there else found) None)
        → PassGoes objects k P (Led (if b then short number bytes st else lost) None)
        (Led (if b then short number bytes there else found) None)
    short_goes number bytes true lost found rest leads = (
      goes_edit objects k P (short number bytes)
          (mark_edits (marks.Cut line number Short bytes) (λ s. refl)) st there goes,
      refl,
    )
    short_goes number bytes false lost found rest leads = (rest leads, refl)

    abbrev long : Standing → ℕ → LetterId → Bool
    long x bytes l = nat_lt bytes (length (spelling_of (by_knowledge objects) x.running.trace l))

    long_same : (b : SomeBeyond objects k P st there) (bytes : ℕ) (l : LetterId)
        → long there bytes (moved_letter (length b.before) l) ≡ long st bytes l
    long_same b bytes l =
        ap (λ x. long x bytes (moved_letter p l)) stands.is
        ∙ λ i. nat_lt bytes (length (option_map_or spelled
        (option_map (letter_with (loads i)) (letters i)) []))
      where
        stands : IsFound b.node b.before b.event st there
        stands = b.beyond.is_beyond.stands

        p : ℕ
        p = length b.before

        letters : letter_at (put_in stands.behind b.event b.before) (moved_letter p l)
            ≡ letter_at st.running.trace l
        letters =
            letter_later b.node stands.behind b.before b.event st stands.unseen.mute stands.was l

        loads : (by_knowledge objects).carried (put_in stands.behind b.event b.before)
            (moved_letter p l)
            ≡ (by_knowledge objects).carried st.running.trace l
        loads =
            loads_are_moved objects b.node stands.behind b.before b.event l stands.unseen
            ∙ ap (λ t. (by_knowledge objects).carried t l) (sym stands.was)

    cut_same : (number bytes : ℕ) (l m : LetterId) → long there bytes m ≡ long st bytes l
        → (Leads F (deliver other there number m)
        → Goes objects k P (deliver one st number l) (deliver other there number m))
        → PassLeads F (Led (cut other there number bytes m) None)
        → PassGoes objects k P (Led (cut one st number bytes l) None)
        (Led (cut other there number bytes m) None)
    cut_same number bytes l m same rest =
        subst (λ b. PassLeads F (Led (if b then short number bytes there
        else deliver other there number m) None)
        → PassGoes objects k P (Led (cut one st number bytes l) None)
        (Led (if b then short number bytes there else deliver other there number m) None))
        (sym same)
        (short_goes number bytes (long st bytes l) (deliver one st number l)
        (deliver other there number m) rest)

    pub cut_goes : (number bytes : ℕ) → PassLeads F (of_letter (letter_of there.running number)
        (λ l. unless (is_halted there (addressee there l))
        (Led (cut other there number bytes l) None)))
        → PassGoes objects k P (of_letter (letter_of st.running number)
        (λ l. unless (is_halted st (addressee st l)) (Led (cut one st number bytes l) None)))
        (of_letter (letter_of there.running number)
        (λ l. unless (is_halted there (addressee there l))
        (Led (cut other there number bytes l) None)))
    cut_goes number bytes leads =
        letter_goes objects k P F st there number goes
        (λ l. unless (is_halted st (addressee st l)) (Led (cut one st number bytes l) None))
        (λ l. unless (is_halted there (addressee there l))
        (Led (cut other there number bytes l) None))
        leads
        (λ before l leads.
        unless_goes objects k P F (is_halted st (addressee st l))
        (is_halted there (addressee there l))
        (ap (λ (x : Standing). is_halted x (addressee x l)) before.is_before.same)
        (Led (cut one st number bytes l) None) (Led (cut other there number bytes l) None) leads
        (λ awake. cut_same number bytes l l (ap (λ x. long x bytes l) before.is_before.same)
        (deliver_before objects losing taking k P differ line restarted F H placed st there number l
        before)))
        (λ b l leads.
        unless_goes objects k P F (is_halted st (addressee st l))
        (is_halted there (addressee there (moved_letter (length b.before) l)))
        (ap (is_halted there) (addressed b l)
        ∙ halted_same objects k P F st there (addressee st l) goes)
        (Led (cut one st number bytes l) None)
        (Led (cut other there number bytes (moved_letter (length b.before) l)) None) leads
        (λ awake. cut_same number bytes l (moved_letter (length b.before) l) (long_same b bytes l)
        (λ more. handed_beyond b number l (awake_by st (addressee st l) awake))))
