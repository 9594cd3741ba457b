-- Where a planned event stands that secures nothing and is no call, the order of what the log holds and of what is live goes on.
use Rattle.std.proofs.Common.{◌≡◌, ℕ, Bool, true, false, List, [], ◌∷◌, ◌++◌, map, Option, Some, None, refl, sym, ap, ◌∙◌, subst}
use Rattle.std.specs.List.{list_any}
use Rattle.std.proofs.lemmas.List.{append-nil}
use Rattle.cam_type.specs.declared.ObjectDecl.{ObjectDecl}
use Rattle.cam_type.specs.declared.Held.{Held}
use Rattle.cam_know.specs.Knowledge.{Knowledge}
use Rattle.cam_know.specs.Known.{new_aborts, new_commits}
use Rattle.cam_event.specs.declared.Deed.{Deed}
use Rattle.cam_event.specs.declared.Deed.TheVariants.{Create, Ask, Call, Perform, Bounce, Got, AskCommit, AskAbort, Commit, Abort, Secure, Inform, Crash}
use Rattle.cam_event.specs.Inputs.{Input, Mail}
use Rattle.cam_event.specs.Loads.{Load}
use Rattle.cam_event.specs.ByKnowledge.{new_informs}
use Rattle.cam_event.specs.Carried.{Carried}
use Rattle.cam_event.specs.ByDeltas.{Received, as_carried}
use Rattle.cam_recman.specs.declared.Record.{Record}
use Rattle.cam_recman.specs.declared.Record.TheVariants as records
use Rattle.cam_server.specs.Server.{ServesSite}
use Rattle.cam_server.specs.Events.{AreQuiet, is_quiet}
use Rattle.cam_server.proofs.QuietDeeds.{informs_quiet}
use Rattle.cam_node.specs.declared.plan.Plan.{Plan}
use Rattle.cam_node.specs.Represents.{Node}
use Rattle.cam_node.specs.Entries.{Holding, deed_records}
use Rattle.cam_node.specs.Halting.{IsStepThrough}
use Rattle.cam_node.specs.LogOrder.{IsInOrder, is_any_secure}
use Rattle.cam_node.specs.Calls.{AreSame}
use Rattle.cam_node.specs.Plans.{IsPlan, IsPlanGiven, as_list, held_in}
use Rattle.cam_node.specs.Plans.{in_order, nothing_given}
use Rattle.cam_node.specs.PlanOrder.{is_served, PlansKeepOrder}
use Rattle.cam_node.proofs.Stepping.{all_both}
use Rattle.cam_node.proofs.InOrder.{dropping_in_order}
use Rattle.cam_node.proofs.Drops.{drops_join, same_drops, stands_drop}

-- An entry without a Secure is of deeds without one.
abbrev pub is_secure_record : Record → Bool
is_secure_record (records.Secure held) = true
is_secure_record _ = false

pub unsecured_by : (holds : Holding) (objects : List ObjectDecl) (before : List Carried)
    (mail : Option Mail) (ds : List Deed)
    → list_any is_secure_record (deed_records holds objects before mail ds) ≡ false
    → list_any is_any_secure ds ≡ false
unsecured_by holds objects before mail [] none = refl
unsecured_by holds objects before mail (Create a ∷ ds) none =
    unsecured_by holds objects before mail ds none
unsecured_by holds objects before mail (Ask a b ∷ ds) none =
    unsecured_by holds objects before mail ds none
unsecured_by holds objects before mail (Call a n x op c ∷ ds) none =
    unsecured_by holds objects before mail ds none
unsecured_by holds objects before mail (Perform a n answer ∷ ds) none =
    unsecured_by holds objects before mail ds none
unsecured_by holds objects before mail (Bounce a n u ∷ ds) none =
    unsecured_by holds objects before mail ds none
unsecured_by holds objects before mail (Got a n seen ∷ ds) none =
    unsecured_by holds objects before mail ds none
unsecured_by holds objects before mail (AskCommit a v ∷ ds) none =
    unsecured_by holds objects before mail ds none
unsecured_by holds objects before mail (AskAbort a ∷ ds) none =
    unsecured_by holds objects before mail ds none
unsecured_by holds objects before mail (Commit a ∷ ds) none =
    unsecured_by holds objects before mail ds none
unsecured_by holds objects before mail (Abort a ∷ ds) none =
    unsecured_by holds objects before mail ds none
unsecured_by holds objects before mail (Secure f s c ∷ ds) none = cc
unsecured_by holds objects before mail (Inform s u o ∷ ds) none =
    unsecured_by holds objects before mail ds none
unsecured_by holds objects before mail (Crash s ∷ ds) none =
    unsecured_by holds objects before mail ds none

none_held : (adds : Option Record) → held_in adds ≡ []
    → list_any is_secure_record (as_list adds) ≡ false
none_held None none = refl
none_held (Some (records.Count c)) none = refl
none_held (Some (records.Abort a)) none = refl
none_held (Some (records.Commit a counts)) none = refl
none_held (Some (records.Seen s c)) none = refl
none_held (Some (records.Secure held)) none = cc
none_held (Some records.Version) none = refl

-- What a plan owes of each log it owes of one in order.
pub given_in_order : (objects : List ObjectDecl) (input : Input) (mail : Option Mail) (load : Load)
    (plan : Plan) (known : Knowledge) (old mid : Node)
    → IsPlanGiven nothing_given objects input mail load plan known old mid
    → IsPlanGiven in_order objects input mail load plan known old mid
given_in_order objects input mail load plan known old mid is = record {
  before = is.before;
  learnt = is.learnt;
  heard = is.heard;
  step = is.step;
  letters = is.letters;
  recorded = λ history logged holds through rep may keeps order held.
      is.recorded history logged holds through rep may keeps tt held;
}

pub plans_keep_order : PlansKeepOrder
plans_keep_order objects input mail load plan known old mid unserved none same quiet is new history
    logged holds stands through rep may keeps order held =
    subst (λ (hs : List Held). IsInOrder (c ∷ history) hs new.server.table.site)
    (sym (ap (λ (hs : List Held). logged.held ++ hs) none ∙ append-nil logged.held))
    (dropping_in_order objects s history c logged.held old.server new.server quiet unsecured
    (drops_join old.server.table.site mid.server.table.site new.server.table.site
    (same_drops old.server mid.server same.server)
    (stands_drop plan.change plan.heard known mid new unserved stands))
    rep.serves
    (subst (λ (n : ℕ). ServesSite objects n (map as_carried (c ∷ history)) new.server) step.number
    (step.represents history through rep may).serves)
    order)
  where
    s : ℕ
    s = old.number

    c : Received
    c = record { event = plan.stepped.event; mail = mail; load = load }

    step : IsStepThrough objects old new input mail load plan.stepped.event
    step = is.step new stands

    unsecured : list_any is_any_secure c.event.deeds ≡ false
    unsecured =
        unsecured_by holds objects (map as_carried history) mail c.event.deeds
        (ap (list_any is_secure_record)
        (is.recorded history logged holds through rep may keeps tt held).records
        ∙ none_held plan.adds none)

-- So a plan that drops operations at most owes no more.
pub dropping_plan : (objects : List ObjectDecl) (input : Input) (mail : Option Mail) (load : Load)
    (plan : Plan) (known : Knowledge) (old mid : Node)
    → is_served plan.change ≡ false → held_in plan.adds ≡ [] → AreSame old mid
    → AreQuiet old.number plan.stepped.event.deeds
    → IsPlanGiven nothing_given objects input mail load plan known old mid
    → IsPlan objects input mail load plan known old mid
dropping_plan objects input mail load plan known old mid unserved none same quiet is = record {
  given = given_in_order objects input mail load plan known old mid is;
  order = plans_keep_order objects input mail load plan known old mid unserved none same quiet is;
}

-- deeds behind the first Informs that perform, bounce and crash nothing
pub quiet_behind : (s : ℕ) (brought known : Knowledge) (ds all : List Deed)
    → all ≡ new_informs s brought known ++ ds → AreQuiet s ds → AreQuiet s all
quiet_behind s brought known ds all is quiet =
    subst (AreQuiet s) (sym is)
    (all_both (is_quiet s) (new_informs s brought known) ds
    (informs_quiet s (new_aborts brought known) (new_commits brought known)) quiet)
