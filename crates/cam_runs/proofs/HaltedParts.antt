-- Of the parts of a line in a run in which nodes halt both readings give the same: a test and what it
-- guards, a variable, a letter, an action without a body.
use Rattle.std.proofs.Common.{◌≡◌, ℕ, Bool, true, false, Option, Some, None, refl, ap, ◌∙◌}
use Rattle.std.specs.Prelude.{slice_get, unwrap_or}
use Rattle.cam_names.specs.declared.name.Name.{Name}
use Rattle.cam_event.specs.declared.LetterId.{LetterId}
use Rattle.cam_event.specs.declared.LineRefusal.{LineRefusal}
use Rattle.cam_event.specs.declared.LineRefusal.TheVariants as refusals
use Rattle.cam_event.specs.Pasts.{plain_all}
use Rattle.cam_event.specs.Inputs.{Input, node_of}
use Rattle.cam_event.specs.Refusals.{refusal, where_so}
use Rattle.cam_event.specs.Readings.{by_pasts}
use Rattle.cam_event.specs.ByPast.{next as next_past}
use Rattle.cam_script.specs.declared.Script.{Script}
use Rattle.cam_runs.specs.Running.{has_number}
use Rattle.cam_runs.specs.Requests.{variable}
use Rattle.cam_runs.specs.Playing.{body_number}
use Rattle.cam_runs.specs.InRange.{is_free}
use Rattle.cam_runs.specs.UnderWay.{Known, IsBare}
use Rattle.cam_runs.specs.Halts.{appends}
use Rattle.cam_runs.specs.Standing.{Standing, Setting, after_input, put}
use Rattle.cam_runs.specs.HaltedLines.{Passed, Refused, Led, unless, of_variable, of_letter, is_halted}
use Rattle.cam_runs.specs.UnderHalts.{IsUnderHalts}
use Rattle.cam_runs.proofs.Lines.{BindsBare, binds_none}
use Rattle.cam_runs.proofs.HaltedPuts.{pasts, Both}

-- what a line comes to by the pasts: what it leads to is under way, and its variable may be used as its place says; and by what nodes hold it is the same
abbrev pub PassedKeeps : Script → Standing → Bool → Passed → Type 0
PassedKeeps script st free (Refused refusal) = Unit {0}
PassedKeeps script st free (Led new binds) = IsUnderHalts script new × (new.running.bound ≡ st.running.bound) × (free ≡ true → BindsBare new.running binds)

pub record BothPassed (script : Script) (st : Standing) (free : Bool) (one other : Passed) : Type 0 where
  pub keeps : PassedKeeps script st free one
  pub same : other ≡ one

-- a line that binds nothing
pub led_none : (script : Script) (st one other : Standing) (free : Bool) → Both script st one other → BothPassed script st free (Led one None) (Led other None)
led_none script st one other free h = record { keeps = (h.under, h.bound, λ f. binds_none one.running); same = ap (λ (x : Standing). Led x None) h.same }

pub unless_both : (script : Script) (st : Standing) (free : Bool) (o p : Option LineRefusal) (one other : Passed) → p ≡ o → (o ≡ None → BothPassed script st free one other) → BothPassed script st free (unless o one) (unless p other)
unless_both script st free o p one other e h = record { keeps = (by o refl).keeps; same = ap (λ x. unless x other) e ∙ (by o refl).same }
  where
    by : (x : Option LineRefusal) → o ≡ x → BothPassed script st free (unless x one) (unless x other)
    by (Some refusal) is = record { keeps = tt; same = refl }
    by None is = h is

pub variable_both : (script : Script) (st : Standing) (free : Bool) (o : Option Name) (one other : Name → Passed) → ((a : Name) → o ≡ Some a → BothPassed script st free (one a) (other a)) → BothPassed script st free (of_variable o one) (of_variable o other)
variable_both script st free None one other h = record { keeps = tt; same = refl }
variable_both script st free (Some a) one other h = h a refl

pub letter_both : (script : Script) (st : Standing) (free : Bool) (o : Option LetterId) (one other : LetterId → Passed) → ((l : LetterId) → o ≡ Some l → BothPassed script st free (one l) (other l)) → BothPassed script st free (of_letter o one) (of_letter o other)
letter_both script st free None one other h = record { keeps = tt; same = refl }
letter_both script st free (Some l) one other h = h l refl

-- a test that the node is not halted
pub awake_by : (st : Standing) (s : ℕ) → is_halted st s ≡ None → has_number st.halted s ≡ false
awake_by st s h = by (has_number st.halted s) h
  where
    by : (b : Bool) → where_so b refusals.Halted ≡ None → b ≡ false
    by true g = cc
    by false g = refl

-- the variable of an action without a body
pub bare_at : (script : Script) (st : Standing) (v : ℕ) (a : Name) → IsUnderHalts script st → is_free script v ≡ true → variable st.running v ≡ Some a → IsBare (plain_all st.running.trace) st.running.bodies a
bare_at script st v a under free h = under.bound v a free (by (slice_get st.running.bound v) refl h)
  where
    by : (o : Option (Option Name)) → slice_get st.running.bound v ≡ o → unwrap_or o None ≡ Some a → slice_get st.running.bound v ≡ Some (Some a)
    by None e g = cc
    by (Some x) e g = e ∙ ap Some g

-- an action that was not known is none of those with a body
pub no_body : (script : Script) (st : Standing) (a : Name) → IsUnderHalts script st → (Known (plain_all st.running.trace) a → ⊥) → body_number st.running.bodies a ≡ None
no_body script st a under fresh = by (body_number st.running.bodies a) refl
  where
    by : (o : Option ℕ) → body_number st.running.bodies a ≡ o → o ≡ None
    by None e = refl
    by (Some n) e = absurd (fresh (under.works a n e).known)

-- no input changes which actions have bodies
pub put_bodies : (script : Script) (c : Setting) (st : Standing) (input : Input) → (put (pasts script c) st input).running.bodies ≡ st.running.bodies
put_bodies script c st input = by (c.halts st.turns (node_of st.running.trace input) (appends (by_pasts script.objects) st.running.trace input) (c.restarted (node_of st.running.trace input)))
  where
    by : (o : Option Bool) → (after_input c.line (c.restarted (node_of st.running.trace input)) st (node_of st.running.trace input) (next_past script.objects st.running.trace input) (appends (by_pasts script.objects) st.running.trace input) o).running.bodies ≡ st.running.bodies
    by None = refl
    by (Some true) = refl
    by (Some false) = refl
