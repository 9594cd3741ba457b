-- The summary of a run, in seven lines: the steps of its script, its events, its letters, the actions that were created, the top
-- actions among them that committed, the stops, and the digits of its report's digest.
use Rattle.std.specs.Prelude.{ℕ, Bool, true, false, ◌&&◌, List, [], ◌∷◌, ◌++◌, length, filter, codes, decimal}
use Rattle.cam_names.specs.declared.name.Name.{Name}
use Rattle.cam_names.specs.Names.{is_top}
use Rattle.cam_event.specs.declared.Event.{Event}
use Rattle.cam_event.specs.declared.Note.{Note}
use Rattle.cam_event.specs.declared.Note.TheVariants as notes
use Rattle.cam_event.specs.declared.Deed.{Deed}
use Rattle.cam_event.specs.History.{committed}
use Rattle.cam_event.specs.Pasts.{plain_all}
use Rattle.cam_report.specs.Words.{line}
use Rattle.cam_report.specs.Report.{actions}
use Rattle.cam_report.specs.Traces.{sent_before}

-- a top action that committed
abbrev pub is_committed_top : List Deed → Name → Bool
is_committed_top L a = is_top a && committed L a

-- whether an event stopped an action
abbrev pub is_stop : Note → Bool
is_stop (notes.Stopped a reason) = true
is_stop _ = false

-- a word and a number
abbrev pub figure : List ℕ → ℕ → List ℕ
figure word n = line (word ∷ decimal n ∷ [])

abbrev pub summary_of : List Event → List Deed → ℕ → List ℕ → List ℕ
summary_of t L steps digest =
    figure (codes "steps") steps ++ figure (codes "events") (length t) ++ figure (codes "letters") (sent_before t (length t))
    ++ figure (codes "actions") (length (actions L)) ++ figure (codes "committed") (length (filter (is_committed_top L) (actions L)))
    ++ figure (codes "stops") (length (filter (λ e. is_stop e.note) t)) ++ line (codes "report" ∷ digest ∷ [])

abbrev pub summary : List Event → ℕ → List ℕ → List ℕ
summary t steps digest = summary_of t (plain_all t) steps digest
