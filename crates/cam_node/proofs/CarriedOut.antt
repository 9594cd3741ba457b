-- What comes of a plan that is carried out: its event stands, and its entry is in the log; or the
-- node is halted, and its log may have the entry.
use Rattle.std.proofs.Common.{◌≡◌, ℕ, List, Option, Ok, refl, sym, subst}
use Rattle.cam_type.specs.declared.ObjectDecl.{ObjectDecl}
use Rattle.cam_know.specs.Knowledge.{Knowledge}
use Rattle.cam_event.specs.Inputs.{Input, Mail}
use Rattle.cam_event.specs.Loads.{Load}
use Rattle.cam_recman.specs.declared.Record.{Record}
use Rattle.cam_recman.specs.declared.Recovered.{Recovered}
use Rattle.cam_recman.specs.Ranges.{AreRecords}
use Rattle.cam_recman.specs.Recovery.{with_records}
use Rattle.cam_recman.specs.Says.{Says}
use Rattle.cam_recman.specs.Versions.{AreOf}
use Rattle.cam_log.specs.Moments.{Opened, Grows}
use Rattle.cam_ckpt.specs.Moments.{IsOldOrNew}
use Rattle.cam_node.specs.declared.plan.Plan.{Plan}
use Rattle.cam_node.specs.Keeping.{IsHalt, KeepsOn}
use Rattle.cam_node.specs.Opened.{IsKnowledge, MayRead, with_entry_of}
use Rattle.cam_node.specs.Planned.{HasEntry, MayBeTaken, planned_records}
use Rattle.cam_node.specs.Standing.{Stands}
use Rattle.cam_node.specs.Represents.{Node}
use Rattle.cam_node.proofs.Entered.{entry_would_say, plan_entry}
use Rattle.cam_node.proofs.EntryOrder.{plan_order}
use Rattle.cam_node.proofs.HaltedSteps.{halts}
use Rattle.cam_node.proofs.KeptSteps.{kept_on}

-- what its entry has
pub taken_entry : (objects : List ObjectDecl) (input : Input) (mail : Option Mail) (load : Load)
    (plan : Plan) (known : Knowledge) (old mid : Node)
    → MayBeTaken objects input mail load plan known old mid
    → HasEntry objects old input mail load plan.stepped.event
    (planned_records mid.know.counts plan)
taken_entry objects input mail load plan known old mid may =
    subst (λ (k : Knowledge). HasEntry objects old input mail load plan.stepped.event
    (planned_records k.counts plan)) (sym may.know)
    (plan_entry objects input mail load plan known old mid may.planned)

-- Node and log stand for the longer history.
pub taken_keeps : (objects : List ObjectDecl) (input : Input) (mail : Option Mail) (load : Load)
    (plan : Plan) (known : Knowledge) (old mid new : Node) (before now : List (List ℕ))
    → IsKnowledge new.know → AreRecords (planned_records mid.know.counts plan)
    → ((r : Recovered) → Says before r
    → Says now (with_records r (planned_records mid.know.counts plan)))
    → Stands plan.change plan.heard known mid new
    → MayBeTaken objects input mail load plan known old mid
    → KeepsOn objects old before new now input mail load plan.stepped.event
taken_keeps objects input mail load plan known old mid new before now knows are says stands may =
    kept_on objects old new before now input mail load plan.stepped.event
    (planned_records mid.know.counts plan) may.node may.goes_on knows are
    (taken_entry objects input mail load plan known old mid may) says
    (plan_order objects input mail load plan known old mid new mid.know.counts may.planned stands)
    (may.planned.given.step new stands)

-- what may be read at a halt
pub taken_halts : (objects : List ObjectDecl) (input : Input) (mail : Option Mail) (load : Load)
    (plan : Plan) (known : Knowledge) (old mid new : Node) (before : List (List ℕ)) (b n : ℕ)
    (past since : ℕ → Opened → Type 0)
    → IsKnowledge new.know → AreRecords (planned_records mid.know.counts plan)
    → AreOf 2 (planned_records mid.know.counts plan)
    → Stands plan.change plan.heard known mid new
    → ((o : Opened) → past b o → o ≡ Ok before)
    → Grows b n past since (IsOldOrNew before
    (with_entry_of before (planned_records mid.know.counts plan)))
    → ((o : Opened) → since n o → since b o)
    → MayBeTaken objects input mail load plan known old mid
    → IsHalt objects old before input mail load (MayRead since n)
taken_halts objects input mail load plan known old mid new before b n past since knows are of stands
    rest grows back may =
    let rs : List Record = planned_records mid.know.counts plan in
    halts objects old new before (with_entry_of before rs) input mail load plan.stepped.event rs b n
    past since may.node may.goes_on knows are
    (taken_entry objects input mail load plan known old mid may)
    (λ r says. entry_would_say before rs rs r refl are of says)
    (may.planned.given.step new stands) rest grows back
