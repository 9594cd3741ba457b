-- What an entry adds does not go by the numbers of letters in the history.
use Rattle.std.proofs.Common.{◌≡◌, List, ◌∷◌, sym, ap, ◌∙◌}
use Rattle.cam_type.specs.declared.ObjectDecl.{ObjectDecl}
use Rattle.cam_know.specs.Knowledge.{Knowledge}
use Rattle.cam_know.specs.Known.{known_count}
use Rattle.cam_event.specs.ByDeltas.{Received, known}
use Rattle.cam_node.specs.Found.{Adds, Decides, Counts, Secures}
use Rattle.cam_histories.specs.Alike.{AreAlike}
use Rattle.cam_histories.specs.LogEntries.{AddsAlike}
use Rattle.cam_histories.specs.PutIn.{nameless}
use Rattle.cam_histories.proofs.Nameless.{known_bare}

known_alike : (objects : List ObjectDecl) (one other : List Received) → AreAlike one other
    → known objects one ≡ known objects other
known_alike objects one other alike =
    sym (known_bare objects one) ∙ ap (known objects) alike ∙ known_bare objects other

pub adds_alike : AddsAlike
adds_alike objects one other whole alike = by
  where
    before : known objects one ≡ known objects other
    before = known_alike objects one other alike

    after : known objects (whole ∷ one) ≡ known objects (whole ∷ other)
    after = known_alike objects (whole ∷ one) (whole ∷ other) (λ i. nameless whole ∷ alike i)

    by : Adds objects one whole → Adds objects other whole
    by (Decides off) =
        Decides (λ e. off
        (ap (λ (k : Knowledge). k.outcomes) after ∙ e
        ∙ sym (ap (λ (k : Knowledge). k.outcomes) before)))
    by (Counts m low high off) =
        Counts m low high (λ e. off
        (ap (λ (k : Knowledge). known_count k m) after ∙ e
        ∙ sym (ap (λ (k : Knowledge). known_count k m) before)))
    by (Secures some) = Secures some
