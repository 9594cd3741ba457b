-- Where nothing is left to do in the histories of the seats, the gathered run is settled; and it is a run by knowledge.
use Rattle.std.proofs.Common.{◌≡◌, inl, inr, ℕ, ◌≤◌, true, List, length, map, reverse, Option, Some, None, is_some, refl, sym, ap, ◌∙◌, subst, arith}
use Rattle.std.specs.Prelude.{All, Contains, slice_get}
use Rattle.std.proofs.lemmas.Bool.{true≢false}
use Rattle.std.proofs.lemmas.List.{length-reverse, length-map, reverse-reverse}
use Rattle.cam_names.specs.declared.name.Name.{Name}
use Rattle.cam_names.specs.Names.{home_node}
use Rattle.cam_type.specs.declared.ObjectDecl.{ObjectDecl}
use Rattle.cam_event.specs.declared.LetterId.{LetterId}
use Rattle.cam_event.specs.declared.Event.{Event}
use Rattle.cam_event.specs.declared.Want.{Want}
use Rattle.cam_event.specs.Inputs.{Mail, letter_at}
use Rattle.cam_event.specs.Refusals.{refusal}
use Rattle.cam_event.specs.ByKnowledge.{held_sight}
use Rattle.cam_event.specs.ByDeltas.{Received, as_carried}
use Rattle.cam_event.specs.Runs.{IsRun}
use Rattle.cam_know.specs.Known.{nothing}
use Rattle.cam_cut.proofs.Families.{SentBy, sent_by}
use Rattle.cam_delta.proofs.SameReadings.{refusals_agree}
use Rattle.cam_journal.specs.declared.entry.NumberedEvent.{NumberedEvent}
use Rattle.cam_journal.specs.declared.entry.RunStep.{RunStep}
use Rattle.cam_journal.specs.Trace.{entry_of, history_of}
use Rattle.cam_journal.specs.Seats.{Sitting}
use Rattle.cam_gen.specs.Storms.{objects_of, tops_of}
use Rattle.cam_storm.specs.Events.{Copied}
use Rattle.cam_storm.specs.Events.{Stepped}
use Rattle.cam_storm.specs.Runs.{own_count, copies, received, Drives, Settled}
use Rattle.cam_storm.specs.Own.{event_in, OwnDrives, OwnRequest}
use Rattle.cam_storm.specs.Lawful.{own_history, letter_mail}
use Rattle.cam_storm.specs.Laws.{events_of, GatheredAreSettled}
use Rattle.cam_storm.proofs.Inside.{letters_inside}
use Rattle.cam_storm.proofs.Most.{receipts_bounded}
use Rattle.cam_storm.proofs.Allowed.{drives_allowed}
use Rattle.cam_storm.proofs.Counted.{events_own, count_own, received_own}
use Rattle.cam_storm.proofs.Driving.{drives_own}
use Rattle.cam_storm.proofs.Letters.{LetterHolds, id_of}
use Rattle.cam_storm.proofs.Turned.{AreTurned, only_nodes, ev, trace_of, own_of, own_turned}
use Rattle.cam_storm.proofs.Gathered.{all_hold, gathered_turned}
use Rattle.cam_storm.proofs.GatheredInputs.{Holds, storm_is_run}
use Rattle.cam_storm.proofs.SettlingSteps.{at_node, event_found, sent_copied, entry_found, from_none, own_none, no_drives, within}

pub gathered_are_settled : GatheredAreSettled
gathered_are_settled words journal seats gathered four are all left =
    subst (Settled words) (sym is.1) (record { started = started; delivered = delivered; quiet = quiet })
  where
    objects : List ObjectDecl
    objects = objects_of words

    trace : List (RunStep Stepped Copied)
    trace = all.trace

    xs : List (RunStep Stepped Copied)
    xs = reverse trace

    is : AreTurned words xs × (events_of gathered ≡ trace_of xs)
    is = gathered_turned words seats gathered all

    t : List Event
    t = trace_of xs

    back : reverse xs ≡ trace
    back = reverse-reverse trace

    holds : Holds words xs
    holds = all_hold words xs is.0

    run : IsRun objects t
    run = storm_is_run words t holds.storm

    own_is : (s : ℕ) → own_history (history_of s trace) ≡ own_of s xs
    own_is s = ap (λ (l : List (RunStep Stepped Copied)). own_history (history_of s l)) (sym back) ∙ own_turned s xs

    has : (s : ℕ) → 1 ≤ s → s ≤ 4 → Contains (map (λ (seat : Sitting Stepped Copied). seat.node) seats) s
    has s low high = are.each s (omega (arith, low), omega (arith, high, four))

    started : (s : ℕ) → 1 ≤ s → s ≤ 4 → tops_of words s ≤ own_count t s
    started s low high =
        let tops : tops_of words s ≤ length (history_of s trace) = at_node trace seats (λ n h. tops_of words n ≤ length h) all.histories left.started s (has s low high) in
        let turned_length : length (own_history (history_of s trace)) ≡ length (history_of s trace) = length-map (reverse (history_of s trace)) _ ∙ length-reverse (history_of s trace) in
        let own : length (own_history (history_of s trace)) ≡ own_count t s = ap (λ (h : List Received). length h) (own_is s) ∙ ap (λ (h : List Received). length h) (holds.own s) ∙ count_own objects t s in
        omega (arith, tops, turned_length, own)

    quiet : (a : Name) (want : Want) → Drives words t a want → ⊥
    quiet a want d = elim (within (home_node a)) [
      | inl near ↦
          let s : ℕ = home_node a in
          let own : OwnDrives words s (own_of s xs) a want = drives_own words t (own_of s xs) s a want run near.0 (holds.own s) refl d in
          let may = drives_allowed words t a want holds.storm near.0 d in
          let request : OwnRequest words s (own_of s xs) a want =
          record {
            drives = own;
            allowed =
                ap (λ (h : List Received). refusal (held_sight objects s (map as_carried h) nothing) a want) (holds.own s)
                ∙ refusals_agree objects t s a want run ∙ may.0;
            fits = may.1;
          } in
          at_node trace seats (λ n h. (b : Name) (w : Want) → OwnRequest words n (own_history h) b w → ⊥) all.histories left.quiet s (has s near.0 near.1) a want (subst (λ (h : List Received). OwnRequest words s h a want) (sym (own_is s)) request)
      | inr out ↦ no_drives words t a want (sym (holds.own (home_node a)) ∙ own_none words xs (home_node a) is.0 out) d
    ]

    came : (i p : ℕ) (y : RunStep Stepped Copied) (c : Copied) → slice_get trace i ≡ Some y → slice_get y.event.letters p ≡ Some c → received t (id_of i p) ≡ copies words t (id_of i p)
    came i p y c at there =
        let near = is_near i y at in
        let h : LetterHolds words t (id_of i p) c = holds.letters i p y c (subst (λ (l : List (RunStep Stepped Copied)). slice_get l i ≡ Some y) (sym back) at) there in
        let entry = entry_found y.node 0 trace i y at refl in
        let place : slice_get (history_of y.node trace) entry.0 ≡ Some (entry_of i y) = entry.1 ∙ ap (λ (k : ℕ). Some (entry_of k y)) (from_none i) in
        let to = letters_inside words t (id_of i p) (letter_mail c.letter) holds.storm h.mail in
        let m : ℕ = c.letter.to in
        let all_times = at_node trace seats (λ n l. All (λ (other : Sitting Stepped Copied). (k q : ℕ) (x : NumberedEvent Stepped Copied) (b : Copied) → slice_get l k ≡ Some x → slice_get x.event.letters q ≡ Some b → b.letter.to ≡ other.node → b.copies ≤ received (map event_in (own_history other.history)) (record { event = x.number; place = q })) seats)
        all.histories left.delivered y.node (has y.node near.0 near.1) in
        let times = at_node trace seats (λ n l. (k q : ℕ) (x : NumberedEvent Stepped Copied) (b : Copied) → slice_get (history_of y.node trace) k ≡ Some x → slice_get x.event.letters q ≡ Some b → b.letter.to ≡ n → b.copies ≤ received (map event_in (own_history l)) (record { event = x.number; place = q }))
        all.histories all_times m (has m to.0 to.1) entry.0 p (entry_of i y) c place there refl in
        let own : received (map event_in (own_history (history_of m trace))) (id_of i p) ≡ received t (id_of i p) =
        ap (λ (es : List Event). received es (id_of i p)) (ap (λ (l : List Received). map event_in l) (own_is m) ∙ ap (map event_in) (holds.own m) ∙ events_own objects t m)
        ∙ received_own objects t (id_of i p) m run (inr (letter_mail c.letter, h.mail, refl)) in
        let most : received t (id_of i p) ≤ copies words t (id_of i p) = receipts_bounded words t (id_of i p) holds.storm (ap (λ (o : Option Mail). is_some o) h.mail) in
        let all_copies : c.copies ≡ copies words t (id_of i p) = h.copies in
        omega (arith, times, own, most, all_copies)
      where
        is_near : (i : ℕ) (y : RunStep Stepped Copied) → slice_get trace i ≡ Some y → (1 ≤ y.node) × (y.node ≤ 4)
        is_near i y at = only_nodes trace all.nodes_only i y at

    delivered : (letter : LetterId) → is_some (letter_at t letter) ≡ true → received t letter ≡ copies words t letter
    delivered letter sent = by (letter_at t letter) refl sent
      where
        by : (o : Option Mail) → letter_at t letter ≡ o → is_some o ≡ true → received t letter ≡ copies words t letter
        by None at h = absurd (true≢false (sym h))
        by (Some mail) at h =
            let from : SentBy t letter mail = sent_by t letter mail at in
            let found = event_found xs letter.event from.event from.at in
            let y : RunStep Stepped Copied = found.0 in
            let there : slice_get trace letter.event ≡ Some y = subst (λ (l : List (RunStep Stepped Copied)). slice_get l letter.event ≡ Some y) back found.1 in
            let step = (all.run letter.event y there).allowed.1 in
            let copy = sent_copied words y.node _ _ (ev y).sent y.event.letters letter.place from.sent step.letters (ap (λ (e : Event). slice_get e.sent letter.place) found.2 ∙ from.place) in
            came letter.event letter.place y copy.0 there copy.1
