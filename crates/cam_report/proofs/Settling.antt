-- The settled operations, and what they leave of each object.
use Rattle.std.proofs.Common.{◌≡◌, ℕ, ◌+◌, ◌<◌, List, [], ◌∷◌, ◌++◌, length, take, reverse, get_or, codes, refl, sym, ap, ◌∙◌, arith, append-nil}
use Rattle.std.proofs.lemmas.List.{take_more, reverse-append, reverse-reverse, append_assoc, length-take-le}
use Rattle.cam_type.specs.declared.ObjectDecl.{ObjectDecl}
use Rattle.cam_event.specs.declared.Deed.{Deed}
use Rattle.cam_event.specs.declared.Event.{Event}
use Rattle.cam_event.specs.History.{after}
use Rattle.cam_event.specs.Pasts.{plain_all}
use Rattle.std.specs.List.{flat_map}
use Rattle.cam_report.specs.Words.{line, state_text}
use Rattle.cam_event.specs.Settled.{settled}
use Rattle.cam_report.specs.Report.{value_text, values_from}

-- the deeds in order, the last first
after_back : (before ds : List Deed) → after before ds ≡ reverse ds ++ before
after_back before [] = refl
after_back before (d ∷ ds) = after_back (d ∷ before) ds ∙ sym (ap (λ r. r ++ before) (reverse-append (d ∷ []) ds) ∙ append_assoc (reverse ds) (d ∷ []) before)

plain_back : (t : List Event) → plain_all t ≡ reverse (flat_map (λ e. e.deeds) (reverse t))
plain_back [] = refl
plain_back (e ∷ t) =
    after_back (plain_all t) e.deeds ∙ ap (λ ds. reverse e.deeds ++ ds) (plain_back t)
    ∙ sym (reverse-append (flat_map (λ e. e.deeds) (reverse t)) e.deeds)
    ∙ ap reverse (sym (ap (flat_map (λ e. e.deeds)) (reverse-append (e ∷ []) t) ∙ deeds_last (reverse t)))
  where
    deeds_last : (es : List Event) → flat_map (λ e. e.deeds) (es ++ e ∷ []) ≡ flat_map (λ e. e.deeds) es ++ e.deeds
    deeds_last [] = append-nil e.deeds
    deeds_last (f ∷ es) = ap (λ r. f.deeds ++ r) (deeds_last es) ∙ sym (append_assoc f.deeds (flat_map (λ e. e.deeds) es) e.deeds)

-- the deeds as a history are the deeds in order, the last first
pub history_back : (ds : List Deed) → after [] ds ≡ reverse ds
history_back ds = after_back [] ds ∙ append-nil (reverse ds)

pub plain_deeds : (t : List Event) → plain_all (reverse t) ≡ reverse (flat_map (λ e. e.deeds) t)
plain_deeds t = plain_back (reverse t) ∙ ap (λ es. reverse (flat_map (λ e. e.deeds) es)) (reverse-reverse t)

-- the values of one more object
values_last : (objects : List ObjectDecl) (L : List Deed) (x : ℕ) (labels : List (List ℕ)) (label : List ℕ)
    → values_from objects L x (labels ++ label ∷ []) ≡ values_from objects L x labels ++ line (codes "value" ∷ label ∷ state_text (settled objects L (x + length labels)) ∷ [])
values_last objects L x [] label =
    append-nil (value_text label (settled objects L x))
    ∙ ap (λ n. value_text label (settled objects L n)) (omega arith)
values_last objects L x (other ∷ labels) label =
    ap (λ r. value_text other (settled objects L x) ++ r) (values_last objects L (x + 1) labels label)
    ∙ sym (append_assoc (value_text other (settled objects L x)) (values_from objects L (x + 1) labels) (line (codes "value" ∷ label ∷ state_text (settled objects L ((x + 1) + length labels)) ∷ [])))
    ∙ ap (λ n. (value_text other (settled objects L x) ++ values_from objects L (x + 1) labels) ++ value_text label (settled objects L n)) (omega arith)

pub values_more : (objects : List ObjectDecl) (L : List Deed) (labels : List (List ℕ)) (i : ℕ) (label : List ℕ) → i < length labels → label ≡ get_or labels i label
    → values_from objects L 0 (take (i + 1) labels) ≡ values_from objects L 0 (take i labels) ++ value_text label (settled objects L i)
values_more objects L labels i label h e =
    let count : 0 + length (take i labels) ≡ i = omega (arith, length-take-le i labels (omega arith)) in
    ap (values_from objects L 0) (take_more labels i label h ∙ ap (λ l. take i labels ++ l ∷ []) (sym e))
    ∙ values_last objects L 0 (take i labels) label
    ∙ ap (λ n. values_from objects L 0 (take i labels) ++ value_text label (settled objects L n)) count

-- texts one after the other
pub joined : (a b c d first second third whole : List ℕ) → first ≡ a → second ≡ first ++ b → third ≡ second ++ c → whole ≡ third ++ d → whole ≡ a ++ b ++ c ++ d
joined a b c d first second third whole e f g h = h ∙ ap (λ t. t ++ d) (g ∙ ap (λ t. t ++ c) (f ∙ ap (λ t. t ++ b) e))
