-- The entry of an event that was planned: of what its letter brought, and what its deeds add.
use Rattle.std.proofs.Common.{◌≡◌, ℕ, List, [], ◌∷◌, ◌++◌, map, Option, Some, None, refl, sym, ap, ◌∙◌, subst}
use Rattle.cam_names.specs.Dependencies.{AreCounts}
use Rattle.cam_type.specs.declared.ObjectDecl.{ObjectDecl}
use Rattle.cam_know.specs.Knowledge.{Knowledge}
use Rattle.cam_know.specs.Order.{told_in_order}
use Rattle.cam_event.specs.Inputs.{Input, Begins, Requests, Receives, Tells, Queries, Restarts, Mail}
use Rattle.cam_event.specs.Loads.{Load, no_load}
use Rattle.cam_event.specs.ByDeltas.{Received, as_carried, known}
use Rattle.cam_recman.specs.declared.Record.{Record}
use Rattle.cam_recman.specs.declared.Record.TheVariants as records
use Rattle.cam_recman.specs.declared.Recovered.{Recovered}
use Rattle.cam_recman.specs.Ranges.{AreRecords}
use Rattle.cam_recman.specs.Recovery.{with_records}
use Rattle.cam_recman.specs.Says.{Says}
use Rattle.cam_recman.specs.Versions.{AreOf}
use Rattle.cam_recman.proofs.Said.{entry_says}
use Rattle.cam_node.specs.declared.knowing.Heard.{Heard}
use Rattle.cam_node.specs.declared.plan.Plan.{Plan}
use Rattle.cam_node.specs.Entries.{Holding, deed_records, learnt_records, news_records}
use Rattle.cam_node.specs.Keeping.{KeepsNode, MayBePutThen}
use Rattle.cam_node.specs.Opened.{logged_of, with_entry_of}
use Rattle.cam_node.specs.Planned.{HasEntry, heard_records, planned_records}
use Rattle.cam_node.specs.Plans.{HoldsRecord, IsHeard, IsPlan, IsRecorded}
use Rattle.cam_node.specs.Represents.{Node}
use Rattle.cam_node.proofs.OwnEntries.{nothing_recorded}

-- what is held of a family that is secured
abbrev pub holds_of : Option Record → Holding
holds_of (Some (records.Secure held)) f c = held
holds_of _ f c = record { family = f; count = c; ops = [] }

pub holds_record : (added : Option Record) → HoldsRecord (holds_of added) added
holds_record None = tt
holds_record (Some (records.Count c)) = tt
holds_record (Some (records.Abort a)) = tt
holds_record (Some (records.Commit a d)) = tt
holds_record (Some (records.Seen s c)) = tt
holds_record (Some (records.Secure held)) = refl
holds_record (Some records.Version) = tt

-- what was heard is what the log learns
heard_learnt : (mail : Option Mail) (load : Load) (k : Knowledge) (heard : Option Heard) → (mail ≡
    None → load ≡ no_load) → AreCounts 1 k.counts
    → IsHeard mail load k heard → learnt_records k (told_in_order load.know) ≡ heard_records
    k.counts heard
heard_learnt None load k None none counts is =
    ap (λ (l : Load). learnt_records k (told_in_order l.know)) (none refl) ∙ nothing_recorded k
    counts
heard_learnt None load k (Some heard) none counts is = absurd (cc)
heard_learnt (Some mail) load k None none counts is = absurd is
heard_learnt (Some mail) load k (Some heard) none counts is = ap (λ (fresh : Knowledge).
    news_records k.counts fresh) (sym is)

-- no letter carries nothing
carries_none : (objects : List ObjectDecl) (s : ℕ) (history : List Received) (input : Input) (mail
    : Option Mail) (load : Load) → MayBePutThen objects s history input mail load
    → mail ≡ None → load ≡ no_load
carries_none objects s history (Begins m) mail load may none = may.1.1
carries_none objects s history (Requests r) mail load may none = may.3.1
carries_none objects s history (Receives letter) None load may none = absurd may
carries_none objects s history (Receives letter) (Some mail) load may none = absurd (cc)
carries_none objects s history (Tells m to) mail load may none = may.3.1
carries_none objects s history (Queries m f) mail load may none = may.2.1
carries_none objects s history (Restarts m) mail load may none = may.1.1

pub plan_entry : (objects : List ObjectDecl) (input : Input) (mail : Option Mail) (load : Load)
    (plan : Plan) (know : Knowledge) (old mid : Node)
    → IsPlan objects input mail load plan know old mid → HasEntry objects old input mail load
    plan.stepped.event (planned_records old.know.counts plan)
plan_entry objects input mail load plan know old mid made = record {
  holds = holds;
  are = λ history entries keeps may.
      let there : old.know ≡ known objects history = keeps.represents.knowledge in
      ap (λ (k : Knowledge). learnt_records k (told_in_order load.know) ++ deed_records holds
      objects (map as_carried history) mail plan.stepped.event.deeds) (sym there)
      ∙ (λ i. heard_learnt mail load old.know plan.heard (carries_none objects old.number history
      input mail load may) made.given.before.counts made.given.heard i
      ++ (recorded history entries keeps may).records i);
  held = λ history entries keeps may. (recorded history entries keeps may).holdings;
}
  where
    holds : Holding
    holds = holds_of plan.adds

    recorded : (history : List Received) (entries : List (List ℕ)) (keeps : KeepsNode objects
        history old entries) → MayBePutThen objects old.number history input mail load
        → IsRecorded objects history mail (logged_of keeps.keeps.recovered) holds plan
    recorded history entries keeps may =
        made.given.recorded history (logged_of keeps.keeps.recovered) holds keeps.through
        keeps.represents may keeps.keeps.is_log.keeps keeps.order (holds_record plan.adds)

-- What the entries would say with the entry of these records, where there are any.
pub entry_would_say : (entries : List (List ℕ)) (rs planned : List Record) (r : Recovered) → rs ≡
    planned → AreRecords rs → AreOf 2 rs → Says entries r
    → Says (with_entry_of entries planned) (with_records r planned)
entry_would_say entries rs planned r is are of says =
    subst (λ (es : List Record). Says (with_entry_of entries es) (with_records r es)) is (by rs are
    of)
  where
    by : (es : List Record) → AreRecords es → AreOf 2 es → Says (with_entry_of entries es)
        (with_records r es)
    by [] are of = says
    by (one ∷ rest) are of = entry_says entries r (one ∷ rest) are of says
