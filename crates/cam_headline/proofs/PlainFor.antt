-- An action with its witness, and the texts of a record.
use Rattle.std.proofs.Common.{◌≡◌, true, List, Some, ap, ◌∙◌}
use Rattle.std.specs.Prelude.{reverse}
use Rattle.std.proofs.lemmas.List.{reverse-reverse}
use Rattle.cam_names.specs.declared.name.Name.{Name}
use Rattle.cam_type.specs.declared.ObjectDecl.{ObjectDecl}
use Rattle.cam_event.specs.declared.Event.{Event}
use Rattle.cam_event.specs.declared.Mark.{Mark}
use Rattle.cam_event.specs.History.{created}
use Rattle.cam_event.specs.Pasts.{plain_all}
use Rattle.cam_cut.specs.Law.{IsWitness}
use Rattle.cam_cut.specs.Witness.{witness}
use Rattle.cam_cut.proofs.ViewCreates.{created_too}
use Rattle.cam_serial.proofs.Laws.{replay, view_is_covered}
use Rattle.cam_runs.specs.Running.{Running}
use Rattle.cam_headline.specs.Headline.{IsPlainFor}

-- an action with a witness
pub plain_by : (objects : List ObjectDecl) (t : List Event) (a : Name) → IsWitness objects t a (witness t a) → created (plain_all t) a ≡ true → IsPlainFor objects t a (witness t a)
plain_by objects t a shown there =
    let made : created (witness t a) a ≡ true = created_too (witness t a) (plain_all t) a shown.same_view there in
    record {
      legal = shown.legal;
      no_orphan = shown.no_orphan;
      same_view = shown.same_view;
      replays = replay objects (witness t a) (Some a) shown.legal;
      covers = view_is_covered objects (witness t a) (Some a) shown.legal made shown.no_orphan;
    }

-- The texts of a record are those of the run that it records.
pub texts_by : {X : Type 0} (text : List Event → List Mark → X) (made one : Running) → made ≡ one → text (reverse (reverse made.trace)) made.marks ≡ text one.trace one.marks
texts_by text made one same =
    ap (λ (t : List Event). text t made.marks) (reverse-reverse made.trace) ∙ ap (λ (r : Running). text r.trace r.marks) same
