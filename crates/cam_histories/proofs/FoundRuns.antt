-- Lines of two runs whose halts differ at one input, by the pasts of events.
use Rattle.std.proofs.Common.{◌≡◌, ◌⊎◌, inl, inr, ℕ, false, List, [], ◌∷◌, map}
use Rattle.std.proofs.Common.{length, refl, sym, ap, ◌∙◌, subst, arith, ◌+◌}
use Rattle.std.specs.Prelude.{slice_get}
use Rattle.std.specs.List.{list_any}
use Rattle.cam_event.specs.declared.Event.{Event}
use Rattle.cam_event.specs.Pasts.{plain_all}
use Rattle.cam_event.specs.Readings.{by_pasts, by_knowledge}
use Rattle.cam_agree.proofs.Ran.{ran_holds}
use Rattle.cam_cut.proofs.Places.{AllPlaced, PlacedDeeds}
use Rattle.cam_script.specs.declared.Script.{Script}
use Rattle.cam_script.specs.declared.Step.{Step}
use Rattle.cam_runs.specs.Halts.{Halting}
use Rattle.cam_runs.specs.Standing.{Standing}
use Rattle.cam_runs.specs.HaltedLines.{Passed, Refused, Led, after_line, is_restart, is_restart_act}
use Rattle.cam_runs.specs.UnderHalts.{IsUnderHalts, IsNextStep, act_by}
use Rattle.cam_runs.proofs.HaltedEvents.{ran}
use Rattle.cam_runs.proofs.HaltedWhole.{halted_lines_lead_on, halted_lines_agree}
use Rattle.cam_histories.specs.PutIn.{moved_event}
use Rattle.cam_histories.specs.Found.{IsBeyond, HasBeyond, IsBefore, after_step}
use Rattle.cam_histories.specs.Found.{IsLineOfBoth, LinesLeadToTheHalt, LinesKeepTheEvent}
use Rattle.cam_histories.proofs.Beside.{SomeBeyond, Goes}
use Rattle.cam_histories.proofs.FoundPassed.{PassLeads, line_goes}
use Rattle.cam_histories.proofs.FoundLines.{act_goes}
use Rattle.cam_histories.proofs.Silent.{AreSilent, entered_silent, placed_behind}

-- all events of a run under way are placed
all_placed : (script : Script) (st : Standing) → IsUnderHalts script st
    → AllPlaced script.objects (plain_all st.running.trace) st.running.trace
all_placed script st under =
    (ran_holds script.objects st.running.trace (ran script st under.run)).placed

-- so the taken event of one is silent
pub silent_of : (script : Script) (k s : ℕ) (before : List Event) (e : Event)
    (lost found : Standing)
    → IsUnderHalts script found → IsBeyond script.objects k s before e lost found
    → AreSilent s e.deeds
silent_of script k s before e lost found under b =
    subst (λ (x : Event). AreSilent s x.deeds) (sym b.event)
    (entered_silent script.objects (plain_all found.running.trace) s whole.deeds
    (subst (λ (x : Event). PlacedDeeds script.objects (plain_all found.running.trace) s x.deeds)
    b.event
    (subst (λ n. PlacedDeeds script.objects (plain_all found.running.trace) n e.deeds)
    b.stands.unseen.at
    (placed_behind script.objects (plain_all found.running.trace)
    (map (moved_event (length before)) b.stands.behind) (e ∷ before)
    (subst (AllPlaced script.objects (plain_all found.running.trace))
    (ap (λ (x : Standing). x.running.trace) b.stands.is) (all_placed script found under))).0)))
  where
    whole : Event
    whole = (by_knowledge script.objects).next before b.input

line_leads : (st : Standing) (line : ℕ) (p : Passed)
    → PassLeads (after_line st line p).running.trace p
line_leads st line (Refused r) = tt
line_leads st line (Led x b) = record { more = []; is = refl }

module _ (script : Script) (k : ℕ) (P : ℕ → List Event → Event → Type 0) (losing taking : Halting)
    (lost found : Standing) (step : Step) (later : List Step)
    (both : IsLineOfBoth script k losing taking lost found step)
    (goes : Goes script.objects k P lost found)
    (same_bound : found.running.bound ≡ lost.running.bound)
    (away : (b : SomeBeyond script.objects k P lost found) → is_restart_act b.node step.act ≡ false)
  where
    next_found : IsNextStep script found step
    next_found =
        ap (λ bs. slice_get script.steps (length bs)) same_bound ∙ both.next

    lost_same : act_by by_knowledge losing later script lost step
        ≡ act_by by_pasts losing later script lost step
    lost_same =
        halted_lines_agree script lost step losing later both.in_range both.lost_under both.next

    found_same : act_by by_knowledge taking later script found step
        ≡ act_by by_pasts taking later script found step
    found_same =
        halted_lines_agree script found step taking later both.in_range both.found_under next_found

    abbrev end : Standing
    end = after_line found step.line (act_by by_knowledge taking later script found step)

    end_placed : AllPlaced script.objects (plain_all end.running.trace) end.running.trace
    end_placed =
        subst (λ p. AllPlaced script.objects
        (plain_all (after_line found step.line p).running.trace)
        (after_line found step.line p).running.trace) (sym found_same)
        (all_placed script (after_step taking later script found step)
        (halted_lines_lead_on script found step taking later both.in_range both.found_under
        next_found))

    pub steps_go : Goes script.objects k P (after_step losing later script lost step)
        (after_step taking later script found step)
    steps_go =
        subst (λ p. Goes script.objects k P (after_line lost step.line p)
        (after_step taking later script found step)) lost_same
        (subst (λ p. Goes script.objects k P
        (after_line lost step.line (act_by by_knowledge losing later script lost step))
        (after_line found step.line p)) found_same
        (line_goes script.objects k P step.line lost found
        (act_by by_knowledge losing later script lost step)
        (act_by by_knowledge taking later script found step) goes
        (act_goes script.objects losing taking k P both.differ step.line
        (λ s. list_any (is_restart s) later) end.running.trace (plain_all end.running.trace)
        end_placed script.bodies lost found goes step.act away
        (line_leads found step.line (act_by by_knowledge taking later script found step)))))

abbrev any : ℕ → List Event → Event → Type 0
any s before e = Unit {0}

pub lines_lead_to_the_halt : LinesLeadToTheHalt
lines_lead_to_the_halt script k losing taking lost found step later both before =
    by (steps_go script k any losing taking lost found step later both here
    (ap (λ (x : Standing). x.running.bound) before.same) (λ b. away b))
  where
    here : Goes script.objects k any lost found
    here = inl (record {
      all = λ s t e. tt;
      is_before = before;
      below = both.lost_under.below;
    })

    away : (b : SomeBeyond script.objects k any lost found) → is_restart_act b.node step.act ≡ false
    away b =
        let passed = b.beyond.is_beyond.passed in
        let coming = before.coming in
        absurd (omega (arith, passed, coming))

    by : Goes script.objects k any (after_step losing later script lost step)
        (after_step taking later script found step)
        → IsBefore k (after_step losing later script lost step)
        (after_step taking later script found step)
        ⊎ HasBeyond script.objects k (after_step losing later script lost step)
        (after_step taking later script found step)
    by (inl b) = inl b.is_before
    by (inr b) = inr (record {
      node = b.node;
      before = b.before;
      event = b.event;
      beyond = b.beyond.is_beyond;
    })

-- this event, put in here
pub record Just (s : ℕ) (before : List Event) (e : Event) (m : ℕ) (t : List Event) (x : Event)
    : Type 0 where
  pub node : m ≡ s
  pub place : t ≡ before
  pub event : x ≡ e

pub lines_keep_the_event : LinesKeepTheEvent
lines_keep_the_event script k s before e losing taking lost found step later both beyond away =
    by (steps_go script k (Just s before e) losing taking lost found step later both here
    (ap (λ (x : Standing). x.running.bound) beyond.stands.is)
    (λ b. ap (λ m. is_restart_act m step.act) b.kept.node ∙ away))
  where
    here : Goes script.objects k (Just s before e) lost found
    here = inr (record {
      node = s;
      before = before;
      event = e;
      kept = record { node = refl; place = refl; event = refl };
      beyond = record {
        is_beyond = beyond;
        silent = silent_of script k s before e lost found both.found_under beyond;
      };
    })

    by : Goes script.objects k (Just s before e) (after_step losing later script lost step)
        (after_step taking later script found step)
        → IsBeyond script.objects k s before e (after_step losing later script lost step)
        (after_step taking later script found step)
    by (inl b) =
        let same = b.all (s + 1) before e in
        let no = same.node in
        absurd (omega (arith, no))
    by (inr b) =
        subst (λ m. IsBeyond script.objects k m before e (after_step losing later script lost step)
        (after_step taking later script found step)) b.kept.node
        (subst (λ t. IsBeyond script.objects k b.node t e
        (after_step losing later script lost step) (after_step taking later script found step))
        b.kept.place
        (subst (λ x. IsBeyond script.objects k b.node b.before x
        (after_step losing later script lost step) (after_step taking later script found step))
        b.kept.event b.beyond.is_beyond))
