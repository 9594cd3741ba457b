-- A letter of works: what is read from its bytes.
use Rattle.std.proofs.Common.{◌≡◌, ℕ, zero, suc, ◌-◌, eqb, Bool, true, false, ◌||◌, if◌then◌else◌}
use Rattle.std.proofs.Common.{List, [], ◌∷◌, Option, Some, None, sym, ap, ◌∙◌, subst}
use Rattle.std.specs.Prelude.{slice_get}
use Rattle.std.specs.Option.{option_map_or}
use Rattle.std.proofs.lemmas.Option.{same_Some}
use Rattle.cam_type.specs.declared.ObjectDecl.{ObjectDecl}
use Rattle.cam_event.specs.declared.Event.{Event}
use Rattle.cam_event.specs.declared.Letter.{Letter}
use Rattle.cam_event.specs.declared.LetterId.{LetterId}
use Rattle.cam_event.specs.Readings.{by_knowledge}
use Rattle.cam_net.specs.Letters.{InFlightFields}
use Rattle.cam_node.specs.Log.{Logged}
use Rattle.cam_runs.specs.Running.{letters, has_number, letter_of}
use Rattle.cam_runs.specs.Standing.{Standing}
use Rattle.cam_script.specs.declared.Script.{Script}
use Rattle.cam_wire.specs.Laws.{IsSpelled}
use Rattle.cam_wire.specs.OfTrace.{spelling_of}
use Rattle.cam_wire.specs.Spelling.{spelled}
use Rattle.cam_histories.specs.Flight.{IsSent, IsCarried, AreInFlight}
use Rattle.cam_cluster.specs.Works.{WorksFields, KeepsRun}
use Rattle.cam_cluster.proofs.ComingLetters.{network_is}

-- The network carries each letter that was sent, as the bytes that spell it.
carried_at : (objects : List ObjectDecl) (t : List Event) (net : List InFlightFields)
    (ids : List LetterId) (place : ℕ) (id : LetterId)
    → AreInFlight objects t net [] ids → slice_get ids place ≡ Some id
    → (kept : InFlightFields) × IsCarried objects t id kept
carried_at objects t [] [] place id are at = cc
carried_at objects t [] (i ∷ ids) place id are at = elim are [ ]
carried_at objects t (kept ∷ net) [] place id are at = cc
carried_at objects t (kept ∷ net) (i ∷ ids) zero id are at =
    (kept, rw (← (same_Some i id at)) are.0)
carried_at objects t (kept ∷ net) (i ∷ ids) (suc place) id are at =
    carried_at objects t net ids place id are.1 at

pub record IsSpelledSo (objects : List ObjectDecl) (t : List Event) (id : LetterId) : Type 0 where
  pub letter : Letter
  pub sent : IsSent objects t id letter
  pub spells : IsSpelled letter (spelling_of (by_knowledge objects) t id)

pub spelled_so : (script : Script) (st : Standing) (works : WorksFields)
    (may : ℕ → Logged → Type 0) → KeepsRun script st works may → works.outbox.unput ≡ []
    → (number : ℕ) (id : LetterId) → letter_of st.running number ≡ Some id
    → IsSpelledSo script.objects st.running.trace id
spelled_so script st works may keeps none_left number id is = record {
  letter = carried.1.letter;
  sent = carried.1.sent;
  spells =
      subst (IsSpelled carried.1.letter) (carried.1.bytes ∙ sym (ap (λ (o : Option Letter).
      option_map_or spelled o []) carried.1.sent)) carried.1.spells;
}
  where
    carried : (kept : InFlightFields) × IsCarried script.objects st.running.trace id kept
    carried =
        carried_at _ _ _ _ _ _ (network_is _ _ _ may keeps none_left).flight (at (eqb
        number 0) (has_number st.running.lost number) is)
      where
        at : (a b : Bool)
            → (if a || b then None else slice_get (letters st.running.trace) (number - 1)) ≡ Some id
            → slice_get (letters st.running.trace) (number - 1) ≡ Some id
        at true b h = cc
        at false true h = cc
        at false false h = h
