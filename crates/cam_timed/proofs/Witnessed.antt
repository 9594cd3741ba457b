-- The witness made of the events of a run by time is the one that the laws of views speak of.
use Rattle.std.proofs.Common.{◌≡◌, true, List, Ok, Err, sym, ap, ◌∙◌, subst}
use Rattle.std.specs.Prelude.{Result, IfOk, OnOk}
use Rattle.cam_names.specs.declared.name.Name.{Name}
use Rattle.cam_type.specs.declared.ObjectDecl.{ObjectDecl}
use Rattle.cam_event.specs.declared.Event.{Event}
use Rattle.cam_event.specs.declared.Deed.{Deed}
use Rattle.cam_event.specs.History.{created}
use Rattle.cam_event.specs.Pasts.{plain_all}
use Rattle.cam_plain.specs.Legal.{history}
use Rattle.cam_cut.specs.declared.witnesses.CutFault.{CutFault}
use Rattle.cam_cut.specs.Witness.{witness}
use Rattle.cam_timed.specs.declared.TimedEvent.{TimedEvent}
use Rattle.cam_timed.specs.Moments.{events}
use Rattle.cam_timed.specs.TimedRuns.{IsTimedRun}
use Rattle.cam_timed.specs.Law.{IsTimedWitness}
use Rattle.cam_timed.proofs.Laws.{each_timed_view}

pub witnessed : (T : List TimedEvent) (plain : List Event) (a : Name) (made : Result (List Deed) CutFault) → plain ≡ events T
    → IfOk made (λ deeds. history deeds ≡ witness plain a) → OnOk made (created (plain_all plain) a ≡ true)
    → IfOk made (λ deeds. (objects : List ObjectDecl) → IsTimedRun objects T → IsTimedWitness objects T a (history deeds))
witnessed T plain a (Ok deeds) same exact there =
    λ objects run.
    subst (IsTimedWitness objects T a) (sym (exact ∙ ap (λ (t : List Event). witness t a) same))
    (each_timed_view objects T a run (subst (λ (t : List Event). created (plain_all t) a ≡ true) same there))
witnessed T plain a (Err fault) same exact there = tt
