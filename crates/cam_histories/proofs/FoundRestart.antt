-- Where a halt is found to be taken: the history of the halted node, views and stops, and the
-- restart that finds it.
use Rattle.std.proofs.Common.{◌≡◌, ℕ, List, [], ◌∷◌}
use Rattle.std.proofs.Common.{◌++◌, Option, refl, sym, ap, ◌∙◌}
use Rattle.std.specs.List.{AllByRecursion}
use Rattle.std.proofs.lemmas.Bool.{eq-eqb, ne_eqb}
use Rattle.cam_type.specs.declared.ObjectDecl.{ObjectDecl}
use Rattle.cam_event.specs.declared.Event.{Event}
use Rattle.cam_event.specs.Inputs.{Mail, mail_got, got_of}
use Rattle.cam_event.specs.Loads.{Load}
use Rattle.cam_event.specs.ByDeltas.{received, received_of}
use Rattle.cam_node.specs.Halting.{taken_step}
use Rattle.cam_runs.specs.Standing.{Standing}
use Rattle.cam_histories.specs.Laws.{history_of, load_of_input}
use Rattle.cam_histories.specs.PutIn.{put_in}
use Rattle.cam_histories.specs.Found.{IsFound}
use Rattle.cam_histories.specs.FoundWhole.{HistoriesHaveTheEvent, LogsHaveTheEvent}
use Rattle.cam_histories.specs.FoundWhole.{ViewsStay, StopsStay, RestartsFindTheEvent}
use Rattle.cam_histories.proofs.FoundRuns.{silent_of}
use Rattle.cam_histories.proofs.FoundViews.{view_same}
use Rattle.cam_histories.proofs.RestartedRun.{restarts_stand}
use Rattle.cam_histories.proofs.Silent.{stops_stay as stop_notes_stay}
use Rattle.cam_runs.specs.Playing.{is_stop_of}
use Rattle.std.specs.List.{list_any}
use Rattle.cam_histories.proofs.FoundWhole.{wholes_stand}

-- the history of the halted node
module _ (objects : List ObjectDecl) (s : ℕ) (before : List Event) (e : Event) (at : e.node ≡ s)
  where
    own_old : (behind : List Event) → AllByRecursion (λ (b : Event). b.node ≡ s → ⊥) behind
        → history_of objects (behind ++ before) s ≡ history_of objects before s
    own_old [] others = refl
    own_old (x ∷ behind) others =
        rw (ne_eqb x.node s others.0) (own_old behind others.1)

    own_new : (behind : List Event) → AllByRecursion (λ (b : Event). b.node ≡ s → ⊥) behind
        → history_of objects (put_in behind e before) s
        ≡ received objects (received_of objects before) e (mail_got before e.got)
        ∷ history_of objects before s
    own_new [] others = rw (eq-eqb e.node s at) refl
    own_new (x ∷ behind) others =
        rw (ne_eqb x.node s others.0) (own_new behind others.1)

pub histories_have_the_event : HistoriesHaveTheEvent
histories_have_the_event objects s before e lost found stands =
    ap (λ (x : Standing). history_of objects x.running.trace s) stands.is
    ∙ own_new objects s before e stands.unseen.at stands.behind stands.unseen.others
    ∙ ap (λ h. received objects (received_of objects before) e (mail_got before e.got) ∷ h)
    (sym (ap (λ t. history_of objects t s) stands.was
    ∙ own_old objects s before e stands.unseen.at stands.behind stands.unseen.others))

pub logs_have_the_event : LogsHaveTheEvent
logs_have_the_event objects k s before e lost found beyond =
    histories_have_the_event objects s before e lost found stands
    ∙ (λ i. received objects (received_of objects before) (beyond.event i)
    (mail_got before (beyond.event i).got) ∷ history_of objects lost.running.trace s)
    ∙ ap (λ n. taken_step objects n (history_of objects before n) beyond.input mail load
    ∷ history_of objects lost.running.trace s) beyond.of_node
    ∙ ap (λ h. taken_step objects s h beyond.input mail load
    ∷ history_of objects lost.running.trace s)
    (sym (ap (λ t. history_of objects t s) stands.was
    ∙ own_old objects s before e stands.unseen.at stands.behind stands.unseen.others))
  where
    stands : IsFound s before e lost found
    stands = beyond.stands

    mail : Option Mail
    mail = mail_got before (got_of beyond.input)

    load : Load
    load = load_of_input objects before beyond.input

-- views, stops, and the restart
pub views_stay : ViewsStay
views_stay script k s before e lost found a under beyond named off =
    view_same script.objects k lost found a s before e
    (record {
      is_beyond = beyond;
      silent = silent_of script k s before e lost found under beyond;
    }) off named

pub stops_stay : StopsStay
stops_stay objects k s before e lost found a beyond =
    ap (λ (x : Standing). list_any (is_stop_of a) x.running.trace) stands.is
    ∙ stop_notes_stay a stands.behind before e (ap (λ (x : Event). x.note) beyond.event)
    ∙ ap (list_any (is_stop_of a)) (sym stands.was)
  where
    stands : IsFound s before e lost found
    stands = beyond.stands

pub restarts_find_the_event : RestartsFindTheEvent
restarts_find_the_event script halts line restarted s before e lost found sites net asleep logged
    new event stands under node eight none whole log restart =
    restarts_stand script halts line restarted found s sites net asleep logged new event under
    node eight none
    (wholes_stand script.objects s before e lost found sites net [] asleep stands whole) log
    restart
