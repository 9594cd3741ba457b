-- A node restarts and nothing was found taken: the works keep the run with the restart after it.
use Rattle.std.proofs.Common.{◌≡◌, ◌⊎◌, inl, inr, ℕ, ◌+◌, ◌-◌, ◌≤◌, ◌<◌, eqb, Bool, true, false}
use Rattle.std.proofs.Common.{if◌then◌else◌, List, [], ◌∷◌, ◌++◌, length, length-append, set, Some}
use Rattle.std.proofs.Common.{None, refl, sym, ap, ◌∙◌, subst, arith}
use Rattle.std.specs.Prelude.{map, reverse, slice_get}
use Rattle.std.specs.List.{AllByRecursion}
use Rattle.std.proofs.lemmas.Bool.{true≢false, ne_eqb, eq-eqb}
use Rattle.std.proofs.lemmas.Bool.Decides.{eqb_tells}
use Rattle.std.proofs.lemmas.List.{length-set}
use Rattle.cam_event.specs.declared.Event.{Event}
use Rattle.cam_event.specs.declared.Letter.{Letter}
use Rattle.cam_event.specs.Inputs.{Restarts}
use Rattle.cam_event.specs.Runs.{IsNode}
use Rattle.cam_net.specs.Waiting.{is_halted}
use Rattle.cam_node.specs.Calls.{letters_of}
use Rattle.cam_node.specs.Keeping.{IsLogOf, IsRestart}
use Rattle.cam_node.specs.Log.{Logged}
use Rattle.cam_runs.specs.Halts.{Halting}
use Rattle.cam_runs.specs.Running.{has_number}
use Rattle.cam_runs.specs.Standing.{Standing, Setting, Undecided, ended_halt, put, undecided_of}
use Rattle.cam_runs.proofs.Undecided.{others_without, without_node}
use Rattle.cam_script.specs.declared.Script.{Script}
use Rattle.cam_histories.specs.InputLaws.{held_setting, halt_of}
use Rattle.cam_histories.specs.Laws.{history_of}
use Rattle.cam_histories.specs.LineLaws.{HasRestarted}
use Rattle.cam_histories.specs.PutIn.{nameless}
use Rattle.cam_histories.specs.Whole.{Site, IsWhole}
use Rattle.cam_histories.proofs.HaltedLists.{halted_now, without}
use Rattle.cam_histories.proofs.OneInput.{plain_put, put_plain}
use Rattle.cam_histories.proofs.RestartedRun.{restarts_stand}
use Rattle.cam_cluster.specs.Restarts.{with_restart}
use Rattle.cam_cluster.specs.Works.{NodeFields, WorksFields, IsSentBefore, KeepsRun, open_halt}
use Rattle.cam_cluster.specs.Works.{sites_of, HasTellingDisk}
use Rattle.cam_cluster.proofs.HaltsKept.{all_sent_still, open_without, undecided_on}
use Rattle.cam_cluster.proofs.NodeChanged.{as_many, halts_are, nodes_are, sites_are}
use Rattle.cam_cluster.proofs.PutStands.{one_longer}
use Rattle.cam_cluster.proofs.KeptButOne.{KeepsBut}
use Rattle.cam_cluster.proofs.RestartStops.{restart_stops}

module _ (script : Script) (st : Standing) (place : ℕ) (works : WorksFields)
    (might : ℕ → Logged → Type 0) (old : NodeFields) (keeps : KeepsBut script st place works might)
    (there : slice_get works.nodes place ≡ Some old) (within : place < 8) (halts : Halting)
    (line : ℕ) (restarted : ℕ → Bool) (new : NodeFields) (may : ℕ → Logged → Type 0)
    (nodes : List NodeFields) (are : nodes ≡ set works.nodes place new)
    (objects : new.objects ≡ old.objects)
    (others : (s : ℕ) (logged : Logged) → 1 ≤ s → (s ≡ place + 1 → ⊥) → may s logged
    → might s logged)
    (read : Logged) (event : Event) (letters : List Letter) (none_left : works.outbox.unput ≡ [])
    (runs : new.halted ≡ false)
    (none : halt_of (held_setting script.objects halts line restarted) (ended_halt st (place + 1))
    (Restarts (place + 1)) ≡ None)
    (is_log : IsLogOf script.objects (place + 1)
    (history_of script.objects st.running.trace (place + 1)) read)
    (restart : IsRestart script.objects (place + 1) read new.site.node new.site.entries event)
    (sent : letters ≡ letters_of new.site.node event.sent) (passes : new.passes ≡ None)
    (less : HasTellingDisk new → HasTellingDisk old) where
  abbrev c : Setting
  c = held_setting script.objects halts line restarted

  abbrev after : Standing
  after = put c (ended_halt st (place + 1)) (Restarts (place + 1))

  node : IsNode (place + 1)
  node = (omega arith, omega (arith, within))

  back : place + 1 - 1 ≡ place
  back = omega arith

  has : HasRestarted script c st (place + 1) (sites_of works.nodes) works.outbox.net works.halted
      new.site event
  has =
      restarts_stand script halts line restarted st (place + 1) (sites_of works.nodes)
      works.outbox.net works.halted read new.site event keeps.under node keeps.eight none (rw (←
      none_left) keeps.whole) is_log restart

  is : after ≡ plain_put script c (ended_halt st (place + 1)) (Restarts (place + 1))
  is = put_plain script c (ended_halt st (place + 1)) (Restarts (place + 1)) none

  abbrev now_halted : List Bool
  now_halted = set works.halted place false

  halted_is : (m : ℕ) → 1 ≤ m
      → is_halted now_halted m
      ≡ (if eqb (place + 1) m then false else is_halted works.halted m)
  halted_is m low =
      ap (λ (i : ℕ). is_halted (set works.halted i false) m) (sym back) ∙ halted_now _ _ _ false
      keeps.eight node low

  -- a node that is halted still is another one, and was halted
  still : (m : ℕ) → has_number after.halted m ≡ true
      → (place + 1 ≡ m → ⊥) × (has_number st.halted m ≡ true)
  still m said =
      by (eqb_tells (place + 1) m)
      (sym (without st.halted (place + 1) m)
      ∙ ap (λ (z : Standing). has_number z.halted m) (sym is) ∙ said)
    where
      by : ((eqb (place + 1) m ≡ true) × (place + 1 ≡ m))
          ⊎ ((eqb (place + 1) m ≡ false) × (place + 1 ≡ m → ⊥))
          → (if eqb (place + 1) m then false else has_number st.halted m) ≡ true
          → (place + 1 ≡ m → ⊥) × (has_number st.halted m ≡ true)
      by (inl y) e =
          absurd (true≢false (sym e
          ∙ ap (λ (b : Bool). if b then false else has_number st.halted m) y.0))
      by (inr n) e =
          (n.1, sym (ap (λ (b : Bool). if b then false else has_number st.halted m) n.0) ∙ e)

  undecided_is : after.undecided ≡ without_node (place + 1) st.undecided
  undecided_is = ap (λ (z : Standing). z.undecided) is

  long : length after.running.trace ≡ length st.running.trace + 1
  long = ap (λ (t : List Event). length t) has.trace ∙ omega arith

  pub restart_stands : KeepsRun script (with_restart script halts line restarted st (place + 1))
      (record {
        nodes = nodes;
        outbox = record { net = works.outbox.net; unput = letters };
        halted = set works.halted place false;
        failed = works.failed;
        undecided = open_without (place + 1) works.undecided;
        events = works.events ++ event ∷ [];
        marks = works.marks;
      }) may
  restart_stands = record {
    under = has.under;
    one_each =
        as_many script st place works might old keeps.kept there new may nodes are objects others;
    eight = length-set works.halted place false ∙ keeps.eight;
    nodes =
        nodes_are _ st _ _ might old keeps.kept there _ may _ are objects others _ (runs ∙ sym
        (halted_is (place + 1) (omega arith) ∙ ap (λ (b : Bool). if b then false else is_halted
        works.halted (place + 1)) (eq-eqb (place + 1) (place + 1) refl))) (λ m low away. sym
        (halted_is m low ∙ ap (λ (b : Bool). if b then false else is_halted works.halted m) (ne_eqb
        (place + 1) m (λ e. away (sym e)))));
    whole =
        subst (λ (u : List Letter). IsWhole script.objects after (sites_of nodes) works.outbox.net u
        now_halted) (sym sent) (subst (λ (sites : List Site). IsWhole script.objects after sites
        works.outbox.net (letters_of new.site.node event.sent) now_halted) (sites_are script st
        place works might old keeps.kept there new may nodes are objects others) (subst (λ (i : ℕ).
        IsWhole script.objects after (set (sites_of works.nodes) i new.site) works.outbox.net
        (letters_of new.site.node event.sent) (set works.halted i false)) back has.whole));
    halts = λ q n at said. halts_are _ _ _ works might old keeps.kept there new _ _ are objects
        others after (λ m is_still. let away = still m is_still in ((λ e. away.0 (sym e)), away.1))
        (λ m low away. ap (λ h. map nameless h) (sym (ap (λ (t : List Event). history_of
        script.objects t m) has.trace ∙ has.stepped.others m (λ e. away (sym e ∙
        has.stepped.node))))) (λ m away. undecided_on _ _ _ _ (event ∷ []) has.trace (ap
        (undecided_of m) undecided_is ∙ others_without _ _ st.undecided (λ e. away (sym e)))
        keeps.under.placed) _ _ at said;
    undecided = keeps.undecided ∙ ap (λ (us : List Undecided). map open_halt us) (sym undecided_is);
    sent =
        subst (λ (z : ℕ × List Undecided). AllByRecursion (λ (u : Undecided). IsSentBefore z.0
        u.event.got) z.1) (λ i. (sym long i, sym undecided_is i)) (all_sent_still _ _ (omega
        arith) _ keeps.sent);
    events =
        ap (λ (es : List Event). es ++ event ∷ []) keeps.events ∙ one_longer st.running.trace event
        ∙ ap (λ (t : List Event). reverse t) (sym has.trace);
    all_marks = keeps.all_marks ∙ ap (λ (z : Standing). z.running.marks) (sym is);
    few =
        let few = keeps.few in
        let more = length-append works.events (event ∷ []) in omega (arith, few, more);
    stops =
        restart_stops _ st place _ might old keeps there halts line restarted new _ are event
        none has passes less;
  }
