-- In a run whose inputs name none but these nodes, over objects at them, each letter goes between two of them.
use Rattle.std.proofs.Common.{◌≡◌, ◌⊎◌, inl, inr, ℕ, Bool, true, false, List, [], ◌∷◌, Option, Some, None, refl, sym, ◌∙◌, subst}
use Rattle.cam_type.specs.declared.ObjectDecl.{ObjectDecl}
use Rattle.cam_event.specs.declared.Event.{Event}
use Rattle.cam_event.specs.ByPast.{next}
use Rattle.cam_event.specs.Inputs.{Input, got_of, node_of}
use Rattle.cam_event.specs.Readings.{by_pasts}
use Rattle.cam_event.specs.Taken.{taken_of}
use Rattle.cam_runs.specs.Halts.{appends}
use Rattle.cam_runs.specs.Standing.{after_input}
use Rattle.cam_cut.proofs.Halts.{taken_is}
use Rattle.cam_cut.proofs.NextEvent.{did_of}
use Rattle.cam_agree.proofs.Ran.{Ran, before_it, event_as}
use Rattle.cam_histories.specs.Addressees.{AllComeAmong, ComesAmong, InputsStayAmong}
use Rattle.cam_histories.specs.Addressees.{LettersGoAmong, SitesAmong}
use Rattle.cam_histories.proofs.NextAmong.{next_stands}
use Rattle.cam_histories.proofs.StandsAmong.{Stands}

comes : (objects : List ObjectDecl) (nodes : ℕ) (t : List Event) (e : Event)
    → SitesAmong objects nodes → Ran objects t → Stands objects nodes t
    → ComesAmong objects nodes t e → Stands objects nodes (e ∷ t)
comes objects nodes t e sites run stands comes_so = by comes_so.is_next
  where
    input : Input
    input = comes_so.input

    stands_as : (took : Bool) → Stands objects nodes (event_as objects t input took ∷ t)
    stands_as =
        next_stands objects nodes sites t input run comes_so.may comes_so.names stands

    by : (e ≡ next objects t input) ⊎ (e ≡ taken_of (next objects t input))
        → Stands objects nodes (e ∷ t)
    by (inl is) = subst (λ (x : Event). Stands objects nodes (x ∷ t)) (sym is) (stands_as false)
    by (inr is) =
        subst (λ (x : Event). Stands objects nodes (x ∷ t))
        (sym (is ∙ taken_is t (node_of t input) (got_of input) (did_of objects t input)))
        (stands_as true)

all_stand : (objects : List ObjectDecl) (nodes : ℕ) (t : List Event) → SitesAmong objects nodes
    → Ran objects t → AllComeAmong objects nodes t → Stands objects nodes t
all_stand objects nodes [] sites run among = record {
  deeds = λ d h. absurd h;
  letters = λ letter mail at. cc;
}
all_stand objects nodes (e ∷ t) sites run among =
    comes objects nodes t e sites (before_it objects e t run)
    (all_stand objects nodes t sites (before_it objects e t run) among.1) among.0

pub letters_go_among : LettersGoAmong
letters_go_among objects nodes taken t letter mail sites taking among at =
    (all_stand objects nodes t sites (taken, taking) among).letters letter mail at

pub inputs_stay_among : InputsStayAmong
inputs_stay_among objects nodes c st input may names among =
    by (c.halts st.turns s writes (c.restarted s))
  where
    t : List Event
    t = st.running.trace

    s : ℕ
    s = node_of t input

    writes : Bool
    writes = appends (by_pasts objects) t input

    by : (o : Option Bool)
        → AllComeAmong objects nodes
        (after_input c.line (c.restarted s) st s (next objects t input) writes o).running.trace
    by None =
        (record { input = input; may = may; names = names; is_next = inl refl }, among)
    by (Some true) =
        (record { input = input; may = may; names = names; is_next = inr refl }, among)
    by (Some false) = among
