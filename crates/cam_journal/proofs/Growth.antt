-- What stays true of a run, and of what seats know of it, when one more step is taken.
use Rattle.std.proofs.Common.{◌≡◌, ◌≢◌, ℕ, ◌<◌, List, [], ◌∷◌, ◌++◌, length, take, sym, ap, ◌∙◌, subst, ⊎_elim, arith}
use Rattle.std.proofs.lemmas.List.{take-append-le}
use Rattle.std.proofs.Math.Seq.{take-append_seam}
use Rattle.std.specs.Prelude.{Option, Some, None, IfSome, slice_get}
use Rattle.std.proofs.lemmas.List.Elements.{All-weaker}
use Rattle.cam_journal.specs.declared.entry.SentLetter.{SentLetter}
use Rattle.cam_journal.specs.declared.entry.RunStep.{RunStep}
use Rattle.cam_journal.specs.declared.view.NodeHistory.{NodeHistory}
use Rattle.cam_journal.specs.declared.view.SeatView.{SeatView}
use Rattle.cam_journal.specs.declared.view.SeatView.TheVariants.{Maker, Node, Posted, Gatherer, Whole, Spent}
use Rattle.cam_journal.specs.Trace.{EventLaw, history_of, IsSent, IsLawful, IsRun}
use Rattle.cam_journal.specs.Rule.{Fits}
use Rattle.cam_journal.proofs.Lists.{slice_get-longer, slice_get-push}
use Rattle.cam_journal.proofs.Histories.{history_of-other}

module _ {E L : Type 0} (names : E → Option (ℕ × ℕ)) (sends : E → List L) (lawful : EventLaw E L) where
  -- a run with one more lawful step is a run
  pub IsRun-push : (trace : List (RunStep E L)) (step : RunStep E L) → IsRun names sends lawful trace → IsLawful names sends lawful trace step → IsRun names sends lawful (trace ++ step ∷ [])
  IsRun-push trace step run last number s at =
      ⊎_elim
      (λ (t : (number < length trace) × (slice_get trace number ≡ Some s)).
      let below = t.0 in
      subst (λ (front : List (RunStep E L)). IsLawful names sends lawful front s) (sym (take-append-le number trace (step ∷ []) (omega arith))) (run number s t.1))
      (λ (t : (number ≡ length trace) × (step ≡ s)).
      let front : take number (trace ++ step ∷ []) ≡ trace = ap (λ (k : ℕ). take k (trace ++ step ∷ [])) t.0 ∙ take-append_seam trace (step ∷ []) in
      subst (λ (p : List (RunStep E L) × RunStep E L). IsLawful names sends lawful p.0 p.1) (λ i. (sym front i, t.1 i)) last)
      (slice_get-push trace step s number at)

module _ {E L : Type 0} (sends : E → List L) where
  -- a letter that was sent in a run was sent in a longer one
  pub IsSent-longer : (trace rest : List (RunStep E L)) (sent : SentLetter L) → IsSent sends trace sent → IsSent sends (trace ++ rest) sent
  IsSent-longer trace rest sent was = record { sender = was.sender; event = slice_get-longer trace rest sent.number was.sender was.event; letter = was.letter }

  pub taken-longer : (trace rest : List (RunStep E L)) (taken : Option (SentLetter L)) → IfSome taken (IsSent sends trace) → IfSome taken (IsSent sends (trace ++ rest))
  taken-longer trace rest None was = tt
  taken-longer trace rest (Some sent) was = IsSent-longer trace rest sent was

  -- what another seat knows stays true after a step of a node that is not its own
  pub Fits-longer : (nodes : ℕ) (trace : List (RunStep E L)) (step : RunStep E L) (seat : ℕ → ℕ) (id : ℕ) (view : SeatView E L) → seat step.node ≢ id → Fits sends nodes trace seat id view → Fits sends nodes (trace ++ step ∷ []) seat id view
  Fits-longer nodes trace step seat id (Maker count next) other fits =
      (fits.0, λ node low high. let was = fits.1 node low high in (was.0, history_of-other node trace step (λ same. other (ap seat same ∙ was.0)) ∙ was.1))
  Fits-longer nodes trace step seat id (Node node history taken) other fits =
      (fits.0, fits.1, fits.2 ∙ sym (history_of-other node trace step (λ same. other (ap seat same ∙ fits.1))), taken-longer trace (step ∷ []) taken fits.3)
  Fits-longer nodes trace step seat id (Posted sent) other fits = IsSent-longer trace (step ∷ []) sent fits
  Fits-longer nodes trace step seat id (Gatherer count gathered) other fits = (
    fits.0,
    All-weaker
        (λ (held : NodeHistory E L). (seat held.node ≡ id) × (held.history ≡ history_of held.node trace))
        (λ (held : NodeHistory E L). (seat held.node ≡ id) × (held.history ≡ history_of held.node (trace ++ step ∷ [])))
        (λ held was. (was.0, was.1 ∙ sym (history_of-other held.node trace step (λ same. other (ap seat same ∙ was.0)))))
        gathered
        fits.1,
  )
  Fits-longer nodes trace step seat id (Whole gathered steps) other fits = tt
  Fits-longer nodes trace step seat id Spent other fits = tt
