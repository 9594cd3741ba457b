-- One more event of a node, whole or as it was taken, and what its log recovers with the records of
-- the event.
use Rattle.std.proofs.Common.{◌≡◌, inl, inr, ℕ, ◌≤◌, Bool, true, false, ◌||◌, List, ◌∷◌, map, refl, sym, ap, ◌∙◌, subst, eq-eqb}
use Rattle.std.specs.List.{list_any, list_all}
use Rattle.std.proofs.lemmas.Bool.{true≢false}
use Rattle.cam_type.specs.declared.ObjectDecl.{ObjectDecl}
use Rattle.cam_know.specs.Knowledge.{Knowledge}
use Rattle.cam_know.specs.Order.{told_in_order}
use Rattle.cam_event.specs.declared.Deed.{Deed}
use Rattle.cam_event.specs.declared.Event.{Event}
use Rattle.cam_event.specs.History.{is_crash}
use Rattle.cam_event.specs.Inputs.{Input}
use Rattle.cam_event.specs.ByKnowledge.{node_step}
use Rattle.cam_event.specs.HeldSites.{site}
use Rattle.cam_event.specs.Carried.{deeds_of}
use Rattle.cam_event.specs.Loads.{with_load}
use Rattle.cam_event.specs.ByDeltas.{Received, as_carried, known}
use Rattle.cam_commit.specs.Steps.{is_restarting}
use Rattle.cam_commit.proofs.StepKinds.{steps_are_of_kind}
use Rattle.cam_recman.specs.declared.Record.{Record}
use Rattle.cam_recman.specs.declared.Recovered.{Recovered}
use Rattle.cam_recman.specs.Ranges.{AreRecords}
use Rattle.cam_recman.specs.Recovery.{with_records}
use Rattle.cam_node.specs.Entries.{Holding, entry_records, AreHoldings, AreOwn, is_own}
use Rattle.cam_node.specs.Halting.{taken}
use Rattle.cam_node.specs.Keeping.{IsLogOf, MayBePutThen}
use Rattle.cam_node.specs.Lawful.{IsStepOf}
use Rattle.cam_node.specs.Log.{KeepsLog}
use Rattle.cam_node.specs.LogLaws.{MayBeLogged}
use Rattle.cam_node.specs.Opened.{IsKnowledge, logged_of}
use Rattle.cam_node.proofs.EntryLaws.{entry_keeps}
use Rattle.cam_node.proofs.LogEntries.{taken_is_the_same}
use Rattle.cam_node.proofs.OwnSteps.{steps_are_own}
use Rattle.cam_node.proofs.TakenSteps.{taken_may_be_logged}
use Rattle.cam_node.proofs.Taught.{knowledge_before, taken_learns}
use Rattle.cam_node.proofs.WrittenKnowledge.{written_knowledge}

-- The log with the records of an event is that of the longer history, whether the event stands
-- whole or was taken.
pub record IsLogged (objects : List ObjectDecl) (s : ℕ) (history : List Received) (c : Received)
    (logged : Recovered) : Type 0 where
  pub whole : IsLogOf objects s (c ∷ history) (logged_of logged)
  pub taken_so : IsLogOf objects s (taken c ∷ history) (logged_of logged)

-- the definition's step that is no restart crashes nothing
not_crashed : (s : ℕ) (ds : List Deed) → list_any (is_crash s) ds ≡ false → AreOwn s ds → list_all
    (is_own s) ds ≡ true
not_crashed s ds none (inl crash) =
    absurd (true≢false (sym (ap (λ (b : Bool). b || false) (eq-eqb s s refl)) ∙ sym (ap (list_any
    (is_crash s)) crash) ∙ none))
not_crashed s ds none (inr own) = own

pub entry_logged : (holds : Holding) (objects : List ObjectDecl) (s : ℕ) (history : List Received)
    (input : Input) (c : Received) (r : Recovered) (rs : List Record)
    → (1 ≤ s) × (s ≤ 8) → is_restarting input ≡ false → MayBePutThen objects s history input c.mail
    c.load
    → c.event ≡ node_step objects s (map as_carried history) input c.mail (told_in_order
    c.load.know)
    → entry_records holds objects history c ≡ rs → AreHoldings holds (deeds_of (map as_carried
    history)) c.mail (site (map as_carried history)) r.held c.event.deeds
    → AreRecords rs → IsKnowledge (known objects (c ∷ history)) → IsLogOf objects s history
    (logged_of r) → IsLogged objects s history c (with_records r rs)
entry_logged holds objects s history input c r rs node plain put is_next entry held are knows log =
    record {
      whole = record {
        keeps = subst (λ (es : List Record). KeepsLog objects s (c ∷ history) (logged_of (with_records
            r es))) entry (entry_keeps holds objects s history c r may log.keeps);
        recovered = written_knowledge rs r are log.recovered;
        known = knows;
      };
      taken_so = record {
        keeps =
            subst (λ (es : List Record). KeepsLog objects s (taken c ∷ history) (logged_of
            (with_records r es))) (taken_is_the_same holds objects history c ∙ entry)
            (entry_keeps holds objects s history (taken c) r (taken_may_be_logged holds objects s
            history c r step may) log.keeps);
        recovered = written_knowledge rs r are log.recovered;
        known = subst IsKnowledge (sym (taken_learns objects (map as_carried history) c.mail
            c.event.deeds learnt)) knows;
      };
    }
  where
    learnt : Knowledge
    learnt = with_load (known objects history) c.load

    step : IsStepOf objects s history c
    step = record { input = input; may = put; is_next = is_next }

    no_crash : list_any (is_crash s) c.event.deeds ≡ false
    no_crash =
        ap (λ (e : Event). list_any (is_crash s) e.deeds) is_next
        ∙ (steps_are_of_kind objects s (map as_carried history) input c.mail (told_in_order
        c.load.know)).restarts ∙ plain

    own : list_all (is_own s) c.event.deeds ≡ true
    own = not_crashed s c.event.deeds no_crash (steps_are_own objects s history c step)

    may : MayBeLogged holds objects s history c r
    may = record {
      node = node;
      recovered = log.recovered;
      before = log.known;
      learnt = knowledge_before objects s (map as_carried history) c.mail c.event.deeds learnt own
          knows;
      own = inr own;
      holdings = held;
    }
