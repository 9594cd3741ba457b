-- A node halts in its step: the halt of its input, and the halts that are open then.
use Rattle.std.proofs.Common.{◌≡◌, inl, inr, ℕ, ◌+◌, ◌≤◌, Bool, true, false, ◌||◌, List, [], ◌∷◌}
use Rattle.std.proofs.Common.{length, set, Some, Option, refl, sym, ap, ◌∙◌, subst, arith}
use Rattle.std.specs.Prelude.{map, slice_get}
use Rattle.std.proofs.lemmas.Bool.{ne_eqb}
use Rattle.std.proofs.lemmas.List.{length-reverse}
use Rattle.std.proofs.lemmas.Option.{slice_get_within}
use Rattle.cam_event.specs.declared.Event.{Event}
use Rattle.cam_event.specs.declared.LetterId.{LetterId}
use Rattle.cam_event.specs.Inputs.{Input, Mail, node_of, got_of}
use Rattle.cam_event.specs.Loads.{Load}
use Rattle.cam_node.specs.Found.{HaltsAt}
use Rattle.cam_node.specs.Keeping.{IsHalt}
use Rattle.cam_node.specs.Log.{Logged}
use Rattle.cam_runs.specs.Halts.{Halting, appends}
use Rattle.cam_runs.specs.Running.{has_number}
use Rattle.cam_runs.specs.Standing.{Standing, Setting, Undecided, after_input}
use Rattle.cam_script.specs.declared.Script.{Script}
use Rattle.cam_histories.specs.InputLaws.{held_setting}
use Rattle.cam_histories.specs.Undecided.{undecided_in}
use Rattle.cam_histories.proofs.UndecidedBeside.{newest_other}
use Rattle.cam_cluster.specs.Puts.{IsPutAt}
use Rattle.cam_cluster.specs.declared.works.undecided.OpenHalt.{OpenHalt}
use Rattle.cam_cluster.specs.Works.{NodeFields, WorksFields, IsHaltOf, KeepsRun, open_halt}
use Rattle.cam_cluster.proofs.HaltsKept.{halt_stays, undecided_on}
use Rattle.cam_cluster.proofs.PutNode.{site_is, node_keeps, may_then}
use Rattle.cam_cluster.proofs.RunHalts.{halt_of_run}
use Rattle.cam_cluster.proofs.WorksNodes.{set_tells}

-- a halt at an input of the node of a place
module _ (script : Script) (st : Standing) (place : ℕ) (input : Input) (mail : Option Mail)
    (load : Load) (works : WorksFields) (might : ℕ → Logged → Type 0)
    (keeps : KeepsRun script st works might) (put_so : IsPutAt script st place input mail load)
    (halts : Halting) (line : ℕ) (restarted : ℕ → Bool) where
  abbrev c : Setting
  c = held_setting script.objects halts line restarted

  abbrev r : ℕ
  r = node_of st.running.trace input

  abbrev behind : Standing
  behind = after_input line (restarted r) st r (c.reading.next st.running.trace input)
      (appends c.reading st.running.trace input) (Some false)

  -- what its disk has of the event, and what the node keeps of it
  abbrev undecided : Undecided
  undecided = undecided_in script.objects st.running.trace input

  pub opened : (got : Option LetterId) → got_of input ≡ got
      → record { node = place + 1; before = length works.events; got = got } ∷ works.undecided
      ≡ map open_halt behind.undecided
  opened got is_got =
      ap (λ (hs : List OpenHalt). record {
        node = place + 1;
        before = length works.events;
        got = got;
      } ∷ hs) keeps.undecided
      ∙ (λ i. record {
        node = sym put_so.at i;
        before = (ap (λ (es : List Event). length es) keeps.events
            ∙ length-reverse st.running.trace) i;
        got = sym is_got i;
      } ∷ map open_halt st.undecided)

  -- the node after the step, and the others
  module _ (old : NodeFields) (there : slice_get works.nodes place ≡ Some old) (new : NodeFields)
      (may : ℕ → Logged → Type 0) (nodes : List NodeFields)
      (are : nodes ≡ set works.nodes place new)
      (others : (s : ℕ) (logged : Logged) → 1 ≤ s → (s ≡ place + 1 → ⊥) → may s logged
      → might s logged) (same_number : new.site.node.number ≡ old.site.node.number)
      (halt : IsHalt script.objects old.site.node old.site.entries input mail load
      (may (place + 1)))
      (halts_at : HaltsAt script.objects old.site.node old.site.entries input mail load
      new.site.node new.halted_at) where
    own_halt : IsHaltOf script.objects st.running.trace (undecided ∷ st.undecided) r new (may r)
    own_halt =
        halt_of_run script.objects (has_number st.taken) st.running.trace input mail load
        st.undecided old.site.node new (may r) keeps.under.run put_so.coming.may put_so.is_put
        own_number (same_number ∙ own_number) old.site.entries (node_keeps _ _ place _ mail load
        works might _ keeps put_so there) (may_then _ _ place _ _ _ works might _ keeps
        put_so there) (record {
          either = λ h logged kept may_be read. halt.either h logged kept may_be (rw (← put_so.at)
              read);
        }) halts_at
      where
        own_number : old.site.node.number ≡ r
        own_number = (site_is _ _ place _ mail load works might _ keeps put_so there).number

    pub halts_now : (q : ℕ) (n : NodeFields) → slice_get nodes q ≡ Some n
        → has_number behind.halted (q + 1) ≡ true
        → IsHaltOf script.objects behind.running.trace behind.undecided (q + 1) n (may (q + 1))
    halts_now q n at said =
        elim (set_tells _ _ _ _ _ (slice_get_within works.nodes place old there) (ap (λ (ns :
        List NodeFields). slice_get ns q) (sym are) ∙ at)) [
          | inl y ↦
              subst (λ (z : ℕ × NodeFields). IsHaltOf script.objects st.running.trace (undecided ∷
              st.undecided) z.0 z.1 (may z.0)) (λ i. (
                (put_so.at ∙ ap (λ (p : ℕ). p + 1) (sym y.0))
                    i,
                y.1 i,
              )) own_halt
          | inr other ↦
              let away : q + 1 ≡ place + 1 → ⊥ =
              λ e. other.0 (let is : q ≡ place = omega (arith, e) in is) in
              let off : r ≡ q + 1 → ⊥ = λ e. away (sym e ∙ put_so.at) in
              halt_stays _ st behind _ _ (might (q + 1)) (may (q + 1)) refl (undecided_on _ _
              _ _ [] refl (newest_other _ _ st.undecided off) keeps.under.placed) (λ logged
              read. others (q + 1) logged (omega arith) away read) (keeps.halts q n other.1 (ap (λ
              (b : Bool). b || has_number st.halted (q + 1)) (sym (ne_eqb r (q + 1) off)) ∙ said))
        ]
