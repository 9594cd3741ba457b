-- Deliveries and drains of two runs whose halts differ at one input.
use Rattle.std.proofs.Common.{◌≡◌, inl, inr, ℕ, zero, suc, ◌+◌, Bool, true, false}
use Rattle.std.proofs.Common.{◌||◌, if◌then◌else◌, List, [], ◌∷◌, length, Option, Some}
use Rattle.std.proofs.Common.{None, option_map, refl, sym, ap, ◌∙◌, subst}
use Rattle.std.proofs.lemmas.Bool.{true≢false}
use Rattle.std.proofs.lemmas.Option.{same_Some}
use Rattle.cam_type.specs.declared.ObjectDecl.{ObjectDecl}
use Rattle.cam_event.specs.declared.Deed.{Deed}
use Rattle.cam_event.specs.declared.Event.{Event}
use Rattle.cam_event.specs.declared.LetterId.{LetterId}
use Rattle.cam_event.specs.Inputs.{Input, Receives, node_of}
use Rattle.cam_cut.proofs.Places.{AllPlaced}
use Rattle.cam_runs.specs.Running.{letters, has_number, waiting_weight}
use Rattle.cam_runs.specs.Requests.{created_in, asked_in}
use Rattle.cam_runs.specs.Halts.{Halting}
use Rattle.cam_runs.specs.Standing.{Standing, Setting, put, made, deliver, addressee, waiting_from}
use Rattle.cam_runs.specs.Standing.{waiting, deliver_waiting, deliveries, drain}
use Rattle.cam_histories.specs.InputLaws.{held_setting}
use Rattle.cam_histories.specs.PutIn.{moved_letter, moved_input}
use Rattle.cam_histories.specs.Found.{IsFound, DifferAt}
use Rattle.cam_histories.proofs.FoundSent.{moved_waiting, waiting_later, weight_later}
use Rattle.cam_histories.proofs.Trails.{deliveries_trail}
use Rattle.cam_histories.proofs.Beside.{Before, Beyond, Goes, Leads, leads_back}
use Rattle.cam_histories.proofs.FoundPuts.{FoundPut, found_put}
use Rattle.cam_histories.proofs.FoundHalts.{before_put}
use Rattle.cam_histories.proofs.FoundEdits.{beyond_edit, goes_edit, counted, counted_edits}
use Rattle.cam_histories.proofs.FoundEdits.{other_awake}

-- the letter that waits is for a node that is awake
or_last : (a b c : Bool) → (a || b || c) ≡ false → c ≡ false
or_last true b c h = absurd (true≢false h)
or_last false true c h = absurd (true≢false h)
or_last false false c h = h

waits_awake : (st : Standing) (k : ℕ) (ls : List LetterId) (w : ℕ × LetterId)
    → waiting_from st k ls ≡ Some w → has_number st.halted (addressee st w.1) ≡ false
waits_awake st k [] w h = cc
waits_awake st k (l ∷ ls) w h =
    by (has_number st.running.delivered k || has_number st.running.lost k
    || has_number st.halted (addressee st l)) refl h (waits_awake st (k + 1) ls w)
  where
    by : (b : Bool)
        → (has_number st.running.delivered k || has_number st.running.lost k
        || has_number st.halted (addressee st l)) ≡ b
        → (if b then waiting_from st (k + 1) ls else Some (k, l)) ≡ Some w
        → (waiting_from st (k + 1) ls ≡ Some w → has_number st.halted (addressee st w.1) ≡ false)
        → has_number st.halted (addressee st w.1) ≡ false
    by true e g rest = rest g
    by false e g rest =
        ap (λ (x : ℕ × LetterId). has_number st.halted (addressee st x.1))
        (sym (same_Some (k, l) w g))
        ∙ or_last (has_number st.running.delivered k) (has_number st.running.lost k)
        (has_number st.halted (addressee st l)) e

module _ (objects : List ObjectDecl) (losing taking : Halting) (k : ℕ)
    (P : ℕ → List Event → Event → Type 0) (differ : DifferAt k losing taking) (line : ℕ)
    (restarted : ℕ → Bool)
    (F : List Event) (H : List Deed) (placed : AllPlaced objects H F)
  where
    abbrev pub one : Setting
    one = held_setting objects losing line restarted

    abbrev pub other : Setting
    other = held_setting objects taking line restarted

    -- an input that is no delivery
    pub record PutOn (st there lost found : Standing) : Type 0 where
      pub goes : Goes objects k P lost found
      pub created : created_in (made there found) ≡ created_in (made st lost)
      pub asked : asked_in (made there found) ≡ asked_in (made st lost)

    pub put_goes : (st there : Standing) (input : Input)
        → ((p : ℕ) → moved_input p input ≡ input)
        → has_number st.halted (node_of st.running.trace input) ≡ false
        → Goes objects k P st there → Leads F (put other there input)
        → PutOn st there (put one st input) (put other there input)
    put_goes st there input stays awake (inl before) leads =
        let h = before_put objects losing taking k P differ line restarted F H placed st there
        before
        input leads in
        record { goes = h.goes; created = h.created; asked = h.asked }
    put_goes st there input stays awake (inr b) leads =
        subst (λ x. PutOn st there (put one st input) (put other there x))
        (stays (length b.before))
        (record {
          goes = inr (record {
            node = b.node;
            before = b.before;
            event = b.event;
            kept = b.kept;
            beyond = next.beyond;
          });
          created = ap created_in next.same;
          asked = ap asked_in next.same;
        })
      where
        next : FoundPut objects losing taking k P differ line restarted b.node b.before b.event st
            there input
        next =
            found_put objects losing taking k P differ line restarted b.node b.before b.event st
            there
            b.beyond input
            (other_awake objects k b.node b.before b.event st there
            (node_of st.running.trace input) b.beyond awake)

    -- a delivery of a letter that is the same in both
    pub deliver_before : (st there : Standing) (number : ℕ) (letter : LetterId)
        → Before k P st there → Leads F (deliver other there number letter)
        → Goes objects k P (deliver one st number letter) (deliver other there number letter)
    deliver_before st there number letter before leads =
        goes_edit objects k P (counted number) (counted_edits number)
        (put one st (Receives letter)) (put other there (Receives letter))
        (before_put objects losing taking k P differ line restarted F H placed st there before
        (Receives letter) (record { more = leads.more; is = leads.is })).goes

    pub deliver_beyond : (s : ℕ) (before : List Event) (e : Event) (st there : Standing)
        (number : ℕ) (letter : LetterId) → Beyond objects k s before e st there
        → has_number st.halted (addressee st letter) ≡ false
        → Beyond objects k s before e (deliver one st number letter)
        (deliver other there number (moved_letter (length before) letter))
    deliver_beyond s before e st there number letter b awake =
        beyond_edit objects k s before e (counted number) (counted_edits number)
        (put one st (Receives letter))
        (put other there (Receives (moved_letter (length before) letter)))
        (found_put objects losing taking k P differ line restarted s before e st there b
        (Receives letter)
        (other_awake objects k s before e st there (addressee st letter) b awake)).beyond

    waiting_goes : (st there : Standing) → Goes objects k P st there
        → Leads F (deliver_waiting other there (waiting there))
        → Goes objects k P (deliver_waiting one st (waiting st))
        (deliver_waiting other there (waiting there))
    waiting_goes st there (inl before) =
        subst (λ w. Leads F (deliver_waiting other there w)
        → Goes objects k P (deliver_waiting one st (waiting st)) (deliver_waiting other there w))
        (ap waiting (sym before.is_before.same)) (by (waiting st))
      where
        by : (w : Option (ℕ × LetterId)) → Leads F (deliver_waiting other there w)
            → Goes objects k P (deliver_waiting one st w) (deliver_waiting other there w)
        by None leads = inl before
        by (Some w) leads = deliver_before st there w.0 w.1 before leads
    waiting_goes st there (inr b) = λ leads. inr (record {
      node = b.node;
      before = b.before;
      event = b.event;
      kept = b.kept;
      beyond =
          subst (λ w. Beyond objects k b.node b.before b.event
          (deliver_waiting one st (waiting st)) (deliver_waiting other there w))
          (sym waits) (by (waiting st) refl);
    })
      where
        stands : IsFound b.node b.before b.event st there
        stands = b.beyond.is_beyond.stands

        waits : waiting there ≡ option_map (moved_waiting (length b.before)) (waiting st)
        waits =
            ap waiting stands.is
            ∙ waiting_later b.node stands.behind b.before b.event st stands.unseen.mute stands.was

        by : (w : Option (ℕ × LetterId)) → waiting st ≡ w
            → Beyond objects k b.node b.before b.event (deliver_waiting one st w)
            (deliver_waiting other there (option_map (moved_waiting (length b.before)) w))
        by None e = b.beyond
        by (Some w) e =
            deliver_beyond b.node b.before b.event st there w.0 w.1 b.beyond
            (waits_awake st 1 (letters st.running.trace) w e)

    pub deliveries_go : (n : ℕ) (st there : Standing) → Goes objects k P st there
        → Leads F (deliveries other n there)
        → Goes objects k P (deliveries one n st) (deliveries other n there)
    deliveries_go zero st there goes leads = goes
    deliveries_go (suc n) st there goes leads =
        deliveries_go n (deliver_waiting one st (waiting st))
        (deliver_waiting other there (waiting there))
        (waiting_goes st there goes
        (leads_back F (deliver_waiting other there (waiting there)) (deliveries other (suc n) there)
        (deliveries_trail other n (deliver_waiting other there (waiting there))) leads))
        leads

    pub drain_goes : (st there : Standing) → Goes objects k P st there → Leads F (drain other there)
        → Goes objects k P (drain one st) (drain other there)
    drain_goes st there goes leads =
        subst (λ n. Goes objects k P (drain one st) (deliveries other n there)) (sym weights)
        (deliveries_go (waiting_weight st.running) st there goes
        (subst (λ n. Leads F (deliveries other n there)) weights leads))
      where
        weights : waiting_weight there.running ≡ waiting_weight st.running
        weights = elim goes [
          | inl before ↦ ap (λ (x : Standing). waiting_weight x.running) before.is_before.same
          | inr b ↦
              let stands = b.beyond.is_beyond.stands in
              ap (λ (x : Standing). waiting_weight x.running) stands.is
              ∙ weight_later b.node stands.behind b.before b.event st stands.unseen.mute stands.was
        ]
