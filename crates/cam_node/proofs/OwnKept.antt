-- The node's own steps that decide nothing leave node and log with the longer history.
use Rattle.std.proofs.Common.{◌≡◌, ℕ, ◌≤◌, true, false, List, [], ◌∷◌, ◌++◌, map, None, refl, sym, ap, ◌∙◌, subst}
use Rattle.std.specs.List.{list_any}
use Rattle.cam_names.specs.Dependencies.{AreCounts}
use Rattle.cam_type.specs.declared.ObjectDecl.{ObjectDecl}
use Rattle.cam_know.specs.Knowledge.{Knowledge}
use Rattle.cam_know.specs.Known.{nothing, both}
use Rattle.cam_event.specs.declared.Event.{Event}
use Rattle.cam_event.specs.Inputs.{Input, Begins, Requests, Receives, Tells, Queries, Restarts}
use Rattle.cam_event.specs.ByKnowledge.{node_step}
use Rattle.cam_event.specs.HeldSites.{site}
use Rattle.cam_event.specs.Carried.{Carried, deeds_of}
use Rattle.cam_event.specs.Loads.{no_load}
use Rattle.cam_event.specs.ByDeltas.{Received, as_carried, known}
use Rattle.cam_commit.specs.Steps.{is_restarting}
use Rattle.cam_server.specs.Server.{ServesSite}
use Rattle.cam_server.specs.Events.{AreQuiet}
use Rattle.cam_server.specs.Steps.{calls_or_restarts}
use Rattle.cam_server.proofs.QuietRules.{others_are_quiet}
use Rattle.cam_node.specs.Entries.{Holding}
use Rattle.cam_node.specs.Halting.{IsThrough, IsStepThrough}
use Rattle.cam_node.specs.Keeping.{KeepsOn, MayBePutThen}
use Rattle.cam_node.specs.Opened.{IsKnowledge}
use Rattle.cam_node.specs.Planned.{HasEntry}
use Rattle.cam_node.specs.Represents.{Node, Represents}
use Rattle.cam_node.specs.Unlogged.{is_unlogged}
use Rattle.cam_node.proofs.InOrder.{dropping_in_order}
use Rattle.cam_node.proofs.Nothing.{both_nothing}
use Rattle.cam_node.proofs.OwnEntries.{own_records, nothing_recorded}
use Rattle.cam_node.proofs.Recorded.{NoneRecorded, none_recorded, none_held, none_learnt}
use Rattle.cam_node.proofs.PlanOrder.{is_secure_record, unsecured_by}
use Rattle.cam_node.proofs.Drops.{same_drops, same_server}
use Rattle.cam_node.proofs.KeptSteps.{KnowsThen, OrderGoesOn, kept}

nothing_held : Holding
nothing_held f c = record { family = f; count = c; ops = [] }

-- The node's own event that decides nothing has no entry, and its log stays as it is.
pub own_entry : (objects : List ObjectDecl) (old new : Node) (input : Input) (event : Event) →
    AreCounts 1 old.know.counts → is_unlogged input ≡ true
    → IsStepThrough objects old new input None no_load event → HasEntry objects old input None
    no_load event []
own_entry objects old new input event counts own step = record {
  holds = nothing_held;
  are = λ history entries keeps may.
      (λ i. nothing_recorded (known objects history) (subst (λ (k : Knowledge). AreCounts 1
      k.counts) keeps.represents.knowledge counts) i
      ++ none_recorded nothing_held objects (map as_carried history) None event.deeds (none history
      keeps.through keeps.represents may) i);
  held = λ history entries keeps may.
      none_held nothing_held (deeds_of (map as_carried history)) None (site (map as_carried history))
      keeps.keeps.recovered.held event.deeds
      (none history keeps.through keeps.represents may);
}
  where
    none : (history : List Received) → IsThrough objects old.number history → Represents objects
        history old
        → MayBePutThen objects old.number history input None no_load → NoneRecorded event.deeds
    none history through rep may =
        subst (λ (e : Event). NoneRecorded e.deeds) (sym (step.next history through rep may))
        (own_records objects old.number (map as_carried history) input own)

unlogged_goes_on : (input : Input) → is_unlogged input ≡ true → is_restarting input ≡ false
unlogged_goes_on (Begins m) own = refl
unlogged_goes_on (Requests r) own = refl
unlogged_goes_on (Receives letter) own = refl
unlogged_goes_on (Tells m to) own = refl
unlogged_goes_on (Queries m f) own = refl
unlogged_goes_on (Restarts m) own = absurd (cc)

-- Its site is as it was, so the order of what the log holds and of what is live goes on.
unlogged_others : (input : Input) → is_unlogged input ≡ true
    → calls_or_restarts input None ≡ false
unlogged_others (Begins m) own = refl
unlogged_others (Requests r) own = refl
unlogged_others (Receives letter) own = absurd (cc)
unlogged_others (Tells m to) own = refl
unlogged_others (Queries m f) own = refl
unlogged_others (Restarts m) own = absurd (cc)

own_order : (objects : List ObjectDecl) (old new : Node) (input : Input) (event : Event)
    → is_unlogged input ≡ true → new.server ≡ old.server
    → IsStepThrough objects old new input None no_load event
    → OrderGoesOn objects old new input None no_load event []
own_order objects old new input event own same step history entries keeps may =
    dropping_in_order objects s history c keeps.keeps.recovered.held old.server new.server quiet
    (unsecured_by nothing_held objects (map as_carried history) None event.deeds
    (ap (list_any is_secure_record)
    (none_recorded nothing_held objects (map as_carried history) None event.deeds none)))
    (same_drops old.server new.server (same_server old.server new.server same))
    keeps.represents.serves
    (subst (λ (n : ℕ). ServesSite objects n (map as_carried (c ∷ history)) new.server) step.number
    (step.represents history keeps.through keeps.represents may).serves)
    keeps.order
  where
    s : ℕ
    s = old.number

    c : Received
    c = record { event = event; mail = None; load = no_load }

    next : event ≡ node_step objects s (map as_carried history) input None nothing
    next = step.next history keeps.through keeps.represents may

    quiet : AreQuiet s event.deeds
    quiet =
        subst (λ (e : Event). AreQuiet s e.deeds) (sym next)
        (others_are_quiet objects s (map as_carried history) input None nothing
        (unlogged_others input own))

    none : NoneRecorded event.deeds
    none =
        subst (λ (e : Event). NoneRecorded e.deeds) (sym next)
        (own_records objects s (map as_carried history) input own)

pub own_kept_on : (objects : List ObjectDecl) (old new : Node) (entries : List (List ℕ)) (input :
    Input) (event : Event)
    → (1 ≤ old.number) × (old.number ≤ 8) → IsKnowledge old.know → is_unlogged input ≡ true
    → new.server ≡ old.server
    → IsStepThrough objects old new input None no_load event → KeepsOn objects old entries new
    entries input None no_load event
own_kept_on objects old new entries input event node knows own same step =
    kept objects old new entries entries input None no_load event [] node (unlogged_goes_on input
    own) then_knows tt
    (own_entry objects old new input event knows.counts own step) (λ r says. says)
    (own_order objects old new input event own same step) step
  where
    then_knows : KnowsThen objects old input None no_load event
    then_knows history through rep may =
        let H : List Carried = map as_carried history in
        let k : Knowledge = known objects history in
        let is : IsKnowledge k = subst IsKnowledge rep.knowledge knows in
        let none : NoneRecorded event.deeds =
        subst (λ (e : Event). NoneRecorded e.deeds) (sym (step.next history through rep may))
        (own_records objects old.number H input own) in
        subst IsKnowledge (sym (none_learnt objects H None event.deeds (both k nothing) none ∙
        both_nothing k is.counts)) is
