-- How an input ends that is put to a node, by what the node's step says.
use Rattle.std.proofs.Common.{◌≡◌, ℕ, ◌+◌, ◌≤◌, ◌<◌, Bool, true, false, List, [], ◌∷◌, ◌++◌, length}
use Rattle.std.proofs.Common.{set, Some, None, refl, ap, ◌∙◌, subst}
use Rattle.std.proofs.lemmas.Option.{slice_get_within}
use Rattle.cam_commit.specs.Steps.{is_restarting}
use Rattle.cam_event.specs.Inputs.{node_of}
use Rattle.cam_log.specs.CutOff.{IsCutOff}
use Rattle.cam_node.specs.Appending.{HasAppended, OpensAfter}
use Rattle.std.specs.Prelude.{slice_get}
use Rattle.cam_type.specs.declared.ObjectDecl.{ObjectDecl}
use Rattle.cam_event.specs.declared.Event.{Event}
use Rattle.cam_event.specs.declared.Letter.{Letter}
use Rattle.cam_event.specs.declared.Mark.TheVariants as marks
use Rattle.cam_node.specs.declared.Input.{Input as NodeInput}
use Rattle.cam_event.specs.Inputs.{got_of}
use Rattle.cam_node.specs.declared.Input.TheVariants as inputs
use Rattle.cam_node.specs.Calls.{input_of, mail_of, load_of, letters_of}
use Rattle.cam_node.specs.Found.{HaltsAt}
use Rattle.cam_node.specs.Halting.{IsStepThrough}
use Rattle.cam_node.specs.Keeping.{IsHalt, KeepsOn}
use Rattle.cam_node.specs.Log.{Logged}
use Rattle.cam_runs.specs.Halts.{Halting}
use Rattle.cam_runs.specs.Standing.{Standing, put}
use Rattle.cam_script.specs.declared.Script.{Script}
use Rattle.cam_histories.specs.InputLaws.{held_setting, halt_of}
use Rattle.cam_cluster.specs.declared.works.failing.Failed.{Failed}
use Rattle.cam_cluster.specs.declared.works.failing.Ending.TheVariants as endings
use Rattle.cam_cluster.specs.Failing.{KnowsMore}
use Rattle.cam_cluster.specs.Puts.{IsPutAt, letter_of}
use Rattle.cam_cluster.specs.Works.{HasTellingDisk, NodeFields, WorksFields, KeepsRun, has_failed}
use Rattle.cam_cluster.proofs.PutNode.{over, number}
use Rattle.cam_cluster.proofs.PutStands.{stood}
use Rattle.cam_cluster.proofs.PutHalts.{halted}
use Rattle.cam_cluster.proofs.StoppedPuts.{halted_stops, stood_stops}
use Rattle.cam_cluster.proofs.StoppedWorks.{unfailing_there}
use Rattle.cam_cluster.proofs.WorksNodes.{at_set}

-- no input that is put is a restart
pub goes_on : (s : ℕ) (input : NodeInput) → is_restarting (input_of s input) ≡ false
goes_on s inputs.Begin = refl
goes_on s (inputs.Request request) = refl
goes_on s (inputs.Letter id letter) = refl
goes_on s (inputs.Tell to) = refl
goes_on s (inputs.Query family) = refl

-- the letter of an input
pub got_is : (s : ℕ) (input : NodeInput) → got_of (input_of s input) ≡ letter_of input
got_is s inputs.Begin = refl
got_is s (inputs.Request request) = refl
got_is s (inputs.Letter id letter) = refl
got_is s (inputs.Tell to) = refl
got_is s (inputs.Query family) = refl

module _ (script : Script) (st : Standing) (place : ℕ) (input : NodeInput) (works : WorksFields)
    (might : ℕ → Logged → Type 0) (old : NodeFields) (keeps : KeepsRun script st works might)
    (put_so : IsPutAt script st place (input_of (place + 1) input) (mail_of input) (load_of input))
    (there : slice_get works.nodes place ≡ Some old) (within : place < 8) (halts : Halting)
    (line : ℕ) (restarted : ℕ → Bool) (new : NodeFields) (may : ℕ → Logged → Type 0)
    (nodes : List NodeFields) (are : nodes ≡ set works.nodes place new)
    (objects : new.objects ≡ old.objects)
    (others : (s : ℕ) (logged : Logged) → 1 ≤ s → (s ≡ place + 1 → ⊥) → may s logged
    → might s logged) where
  -- what is said over the node's objects and by its number is said over the script's and by its
  -- place
  by_place : (P : List ObjectDecl → ℕ → Type 0) → P old.objects old.site.node.number
      → P script.objects (place + 1)
  by_place P is =
      rw (← (over script st place (input_of (place + 1) input) (mail_of input) (load_of input) works
      might old keeps put_so there)) (rw (← (number script st place (input_of (place + 1) input)
      (mail_of input) (load_of input) works might old keeps put_so there)) is)

  pub put_stood : (event : Event) (letters : List Letter) → works.outbox.unput ≡ []
      → length works.events + 1 < 1000000000 → new.halted ≡ old.halted
      → halt_of (held_setting script.objects halts line restarted) st (input_of (place + 1) input)
      ≡ None
      → IsStepThrough old.objects old.site.node new.site.node (input_of old.site.node.number input)
      (mail_of input) (load_of input) event
      → KeepsOn old.objects old.site.node old.site.entries new.site.node new.site.entries
      (input_of old.site.node.number input) (mail_of input) (load_of input) event
      → letters ≡ letters_of new.site.node event.sent
      → (HasTellingDisk new → HasTellingDisk old)
      → HasAppended old.objects old.site.node (input_of old.site.node.number input) (mail_of input)
      (load_of input) event old.site.entries new.site.entries old.passes new.passes
      → KeepsRun script
      (put (held_setting script.objects halts line restarted) st (input_of (place + 1) input))
      (record {
        nodes = nodes;
        outbox = record { net = works.outbox.net; unput = letters };
        halted = works.halted;
        failed = works.failed;
        undecided = works.undecided;
        events = works.events ++ event ∷ [];
        marks = works.marks;
      }) may
  put_stood event letters none_left few runs none step on sent less appended =
      stood script st place (input_of (place + 1) input) (mail_of input) (load_of input) works might
      old keeps put_so there within halts line restarted new may nodes are objects others event
      letters none_left few runs none
      (by_place (λ xs s. IsStepThrough xs old.site.node new.site.node (input_of s input)
      (mail_of input) (load_of input) event) step)
      (by_place (λ xs s. KeepsOn xs old.site.node old.site.entries new.site.node new.site.entries
      (input_of s input) (mail_of input) (load_of input) event) on)
      sent
      (stood_stops script st place (input_of (place + 1) input) (mail_of input) (load_of input)
      works might old keeps put_so there new nodes are line
      (restarted (node_of st.running.trace (input_of (place + 1) input))) less event
      (by_place (λ xs s. IsStepThrough xs old.site.node new.site.node (input_of s input)
      (mail_of input) (load_of input) event) step)
      (by_place (λ xs s. HasAppended xs old.site.node (input_of s input) (mail_of input)
      (load_of input) event old.site.entries new.site.entries old.passes new.passes) appended))

  pub put_halted : works.outbox.unput ≡ [] → new.halted ≡ true
      → halt_of (held_setting script.objects halts line restarted) st (input_of (place + 1) input)
      ≡ Some false
      → new.site.node.number ≡ old.site.node.number
      → IsHalt old.objects old.site.node old.site.entries (input_of old.site.node.number input)
      (mail_of input) (load_of input) (may (place + 1))
      → HaltsAt old.objects old.site.node old.site.entries (input_of old.site.node.number input)
      (mail_of input) (load_of input) new.site.node new.halted_at
      → (failed : Failed) → KnowsMore works.failed failed
      → (HasTellingDisk new → HasTellingDisk old)
      → (failed.ends ≡ endings.Nothing → has_failed failed (place + 1) ≡ false → new.tells ≡ true
      → IsCutOff 4 old.passes new.passes (λ calls. OpensAfter calls old.objects old.site.node
      old.site.entries (input_of old.site.node.number input) (mail_of input) (load_of input)
      new.reads))
      → KeepsRun script
      (put (held_setting script.objects halts line restarted) st (input_of (place + 1) input))
      (record {
        nodes = nodes;
        outbox = works.outbox;
        halted = set works.halted place true;
        failed = failed;
        undecided = record {
          node = place + 1;
          before = length works.events;
          got = letter_of input;
        } ∷ works.undecided;
        events = works.events;
        marks = works.marks ++ marks.Halted line (place + 1) false ∷ [];
      }) may
  put_halted none_left stops lost same halt at_event failed fed less cause =
      halted script st place (input_of (place + 1) input) (mail_of input) (load_of input) works
      might
      old keeps put_so there within halts line restarted new may nodes are objects others none_left
      stops lost same
      (by_place (λ xs s. IsHalt xs old.site.node old.site.entries (input_of s input)
      (mail_of input) (load_of input) (may (place + 1))) halt)
      (by_place (λ xs s. HaltsAt xs old.site.node old.site.entries (input_of s input)
      (mail_of input) (load_of input) new.site.node new.halted_at) at_event)
      failed
      (halted_stops script st place (input_of (place + 1) input) (mail_of input) (load_of input)
      works might old keeps put_so there new nodes are line
      (restarted (node_of st.running.trace (input_of (place + 1) input))) less failed fed
      (goes_on (place + 1) input)
      (by_place (λ xs s. HaltsAt xs old.site.node old.site.entries (input_of s input)
      (mail_of input) (load_of input) new.site.node new.halted_at) at_event)
      (λ all. by_place (λ xs s. IsCutOff 4 old.passes new.passes (λ calls. OpensAfter calls xs
      old.site.node old.site.entries (input_of s input) (mail_of input) (load_of input) new.reads))
      (cause all.1.0 all.0 (unfailing_there failed nodes place new
      (ap (λ (ns : List NodeFields). slice_get ns place) are
      ∙ at_set works.nodes place new (slice_get_within works.nodes place old there)) (place + 1)
      all))))
      (letter_of input) (got_is (place + 1) input)
