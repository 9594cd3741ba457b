-- What a site does with a call teaches nothing, is not of the actions at home, neither prepares nor
-- secures, and adds nothing to an entry.
use Rattle.std.proofs.Common.{◌≡◌, ℕ, false, List, [], Option, refl}
use Rattle.std.specs.Prelude.{filter}
use Rattle.std.specs.List.{list_any}
use Rattle.cam_names.specs.declared.name.Name.{Name}
use Rattle.cam_type.specs.declared.ObjectDecl.{ObjectDecl}
use Rattle.cam_know.specs.Knowledge.{Knowledge}
use Rattle.cam_event.specs.History.{is_secure_at}
use Rattle.cam_event.specs.Inputs.{Mail}
use Rattle.cam_event.specs.Sights.{is_preparing_note}
use Rattle.cam_event.specs.ByKnowledge.{learned_by}
use Rattle.cam_event.specs.Carried.{Carried}
use Rattle.cam_tranman.specs.Events.{is_at_home}
use Rattle.cam_server.specs.declared.Performed.{Performed}
use Rattle.cam_server.specs.declared.Performed.TheVariants as performed
use Rattle.cam_server.specs.Calls.{Asked}
use Rattle.cam_server.specs.Steps.{did_performed}
use Rattle.std.proofs.Common.{◌≡◌, true, List, Option, refl}
use Rattle.std.specs.List.{list_all}
use Rattle.cam_event.specs.Inputs.{Mail}
use Rattle.cam_server.specs.Calls.{Asked}
use Rattle.cam_node.proofs.NothingAdded.{adds_nothing}

-- what a call does at its site teaches nothing, is not of the actions at home, and neither prepares
-- nor secures
pub teaches_none : (objects : List ObjectDecl) (h : List Carried) (mail : Option Mail)
    (k : Knowledge) (asked : Asked) (p : Performed)
    → learned_by objects h mail k (did_performed asked p).deeds ≡ k
teaches_none objects h mail k asked performed.Missed = refl
teaches_none objects h mail k asked performed.Ended = refl
teaches_none objects h mail k asked (performed.Again reply) = refl
teaches_none objects h mail k asked (performed.Orphan reason) = refl
teaches_none objects h mail k asked (performed.Busy u) = refl
teaches_none objects h mail k asked (performed.Done answer) = refl

pub none_at_home : (asked : Asked) (p : Performed)
    → filter is_at_home (did_performed asked p).deeds ≡ []
none_at_home asked performed.Missed = refl
none_at_home asked performed.Ended = refl
none_at_home asked (performed.Again reply) = refl
none_at_home asked (performed.Orphan reason) = refl
none_at_home asked (performed.Busy u) = refl
none_at_home asked (performed.Done answer) = refl

pub prepares_none : (f : Name) (asked : Asked) (p : Performed)
    → is_preparing_note f (did_performed asked p).note ≡ false
prepares_none f asked performed.Missed = refl
prepares_none f asked performed.Ended = refl
prepares_none f asked (performed.Again reply) = refl
prepares_none f asked (performed.Orphan reason) = refl
prepares_none f asked (performed.Busy u) = refl
prepares_none f asked (performed.Done answer) = refl

pub secures_none : (f : Name) (s : ℕ) (asked : Asked) (p : Performed)
    → list_any (is_secure_at f s) (did_performed asked p).deeds ≡ false
secures_none f s asked performed.Missed = refl
secures_none f s asked performed.Ended = refl
secures_none f s asked (performed.Again reply) = refl
secures_none f s asked (performed.Orphan reason) = refl
secures_none f s asked (performed.Busy u) = refl
secures_none f s asked (performed.Done answer) = refl

-- what a site does adds nothing to the entry
pub calls_add : (asked : Asked) (p : Performed)
    → list_all adds_nothing (did_performed asked p).deeds ≡ true
calls_add asked performed.Missed = refl
calls_add asked performed.Ended = refl
calls_add asked (performed.Again reply) = refl
calls_add asked (performed.Orphan reason) = refl
calls_add asked (performed.Busy u) = refl
calls_add asked (performed.Done answer) = refl
