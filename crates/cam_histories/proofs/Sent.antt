-- What holds of each letter of a run where it holds of those that a rule sends; so each letter may be put to its receiver.
use Rattle.std.proofs.Common.{◌≡◌, inl, inr, if◌then◌else◌, ℕ, Bool, true, false, List, [], ◌∷◌, length, Option, Some, None, refl, sym, ap, ◌∙◌, subst}
use Rattle.std.specs.Prelude.{slice_get, option_map, option_and_then}
use Rattle.std.proofs.lemmas.Bool.Decides.{eqb_tells}
use Rattle.std.proofs.lemmas.Option.{same_Some}
use Rattle.cam_names.specs.Names.{home_node}
use Rattle.cam_names.proofs.Names.{name_eq_refl}
use Rattle.cam_type.specs.declared.ObjectDecl.{ObjectDecl}
use Rattle.cam_event.specs.declared.LetterId.{LetterId}
use Rattle.cam_event.specs.declared.Event.{Event}
use Rattle.cam_event.specs.declared.Sent.{Sent}
use Rattle.cam_event.specs.declared.Body.{Body}
use Rattle.cam_event.specs.declared.Body.TheVariants as bodies
use Rattle.cam_event.specs.declared.Deed.{Deed}
use Rattle.cam_event.specs.declared.Deed.TheVariants.{Ask}
use Rattle.cam_event.specs.Inputs.{Input, Mail, mail_of, event_at, letter_at, mail_got, node_of, got_of}
use Rattle.cam_event.specs.Pasts.{in_past}
use Rattle.cam_event.specs.Loads.{Load}
use Rattle.cam_event.specs.ByDeltas.{load_at}
use Rattle.cam_event.specs.DeltasByPast.{past_of}
use Rattle.cam_event.specs.Readings.{by_whole_letters}
use Rattle.cam_event.specs.Runs.{MayCome}
use Rattle.cam_event.specs.Sights.{Sight}
use Rattle.cam_event.proofs.Members.{In, in_any}
use Rattle.cam_plain.specs.Legal.{Legal}
use Rattle.cam_plain.specs.Lines.{is_ask_for}
use Rattle.cam_plain.proofs.Called.{call_fits}
use Rattle.cam_cut.proofs.BeginGood.{asked_for_child}
use Rattle.cam_cut.proofs.LegalFacts.{in_call}
use Rattle.cam_cut.proofs.Lists.{slice_in}
use Rattle.cam_cut.proofs.NextEvent.{sight_of, did_of}
use Rattle.cam_cut.proofs.Sees.{BodyOk}
use Rattle.cam_agree.proofs.Ran.{Ran, Stood, stood, before_it, event_as, plain_ran, ran_holds}
use Rattle.cam_node.specs.Lawful.{IsForNode, IsLetter}
use Rattle.cam_histories.specs.Laws.{LettersMayBePut, HaltedLettersMayBePut, WholeLettersMayBePut}
use Rattle.cam_histories.proofs.Replies.{Replies}
use Rattle.cam_histories.proofs.Replying.{rule_replies}
use Rattle.cam_histories.proofs.Carrying.{SenderPast, sender_past, IsOf, body_covered, outcomes_covered, load_is_of, whole_is_of}

-- What holds of the letters of a rule, where it holds of each letter before, and goes on to hold, holds of each letter of a run.
module _ (objects : List ObjectDecl) (P : List Event → Mail → Type 0) where
  abbrev pub AllLetters : List Event → Type 0
  AllLetters t = (letter : LetterId) (mail : Mail) → letter_at t letter ≡ Some mail → P t mail

  abbrev pub GoesOn : Type 0
  GoesOn = (e : Event) (t : List Event) (mail : Mail) → P t mail → P (e ∷ t) mail

  abbrev pub RulesSend : Type 0
  RulesSend =
      (t : List Event) (input : Input) (m : Sent) → Ran objects t → MayCome objects t input → AllLetters t → In m (did_of objects t input).sent
      → P t (record { from = node_of t input; to = m.to; body = m.body })

  sent_as : (t : List Event) (input : Input) (took : Bool) (m : Sent) → RulesSend → Ran objects t → MayCome objects t input → AllLetters t → In m (event_as objects t input took).sent → P t (mail_of (event_as objects t input took) m)
  sent_as t input true m rules run may before i = absurd i
  sent_as t input false m rules run may before i = rules t input m run may before i

  new_sent : (e : Event) (t : List Event) (m : Sent) → RulesSend → Ran objects (e ∷ t) → AllLetters t → In m e.sent → P t (mail_of e m)
  new_sent e t m rules run before i =
      let st : Stood objects t e = stood objects e t run in
      subst (λ (x : Event). P t (mail_of x m)) (sym st.is)
      (sent_as t st.input st.took m rules (before_it objects e t run) st.may before (subst (λ (x : Event). In m x.sent) st.is i))

  letters_step : (e : Event) (t : List Event) → GoesOn → RulesSend → Ran objects (e ∷ t) → AllLetters t → AllLetters (e ∷ t)
  letters_step e t on rules run before letter mail at = on e t mail (elim (eqb_tells letter.event (length t)) [
    | inl y ↦ new (slice_get e.sent letter.place) refl (sym (ap found y.0) ∙ at)
    | inr n ↦ before letter mail (sym (ap found n.0) ∙ at)
  ])
    where
      found : Bool → Option Mail
      found b = option_and_then (λ (x : Event). option_map (mail_of x) (slice_get x.sent letter.place)) (if b then Some e else event_at t letter.event)

      new : (o : Option Sent) → slice_get e.sent letter.place ≡ o → option_map (mail_of e) (slice_get e.sent letter.place) ≡ Some mail → P t mail
      new None place h = absurd (none (sym (ap (option_map (mail_of e)) place) ∙ h))
        where
          none : None ≡ Some mail → ⊥
          none x = cc
      new (Some m) place h =
          subst (P t) (same_Some (mail_of e m) mail (sym (ap (option_map (mail_of e)) place) ∙ h))
          (new_sent e t m rules run before (slice_in e.sent letter.place m place))

  pub all_letters : GoesOn → RulesSend → (t : List Event) → Ran objects t → AllLetters t
  all_letters on rules [] run letter mail at = absurd (none at)
    where
      none : None ≡ Some mail → ⊥
      none x = cc
  all_letters on rules (e ∷ t) run letter mail at = letters_step e t on rules run (all_letters on rules t (before_it objects e t run)) letter mail at

-- an answer and a vote go home
abbrev pub GoesHome : ℕ → Body → Type 0
GoesHome to (bodies.Answer a n reply) = home_node a ≡ to
GoesHome to (bodies.Vote f c agrees) = home_node f ≡ to
GoesHome to _ = Unit {0}

goes_home : (g : Sight) (mail : Option Mail) (input : Input) (ds : List Deed) (to : ℕ) (body : Body) → Replies g mail input ds to body → GoesHome to body
goes_home g mail input ds to (bodies.Answer a n reply) h = h.0
goes_home g mail input ds to (bodies.Vote f c agrees) h = h.0
goes_home g mail input ds to (bodies.Start b counts) h = tt
goes_home g mail input ds to (bodies.Call a n x op c counts) h = tt
goes_home g mail input ds to (bodies.Finish b v counts) h = tt
goes_home g mail input ds to (bodies.Quit b) h = tt
goes_home g mail input ds to (bodies.Prepare f c) h = tt
goes_home g mail input ds to (bodies.Query f) h = tt
goes_home g mail input ds to bodies.News h = tt

pub all_go_home : (objects : List ObjectDecl) (t : List Event) → Ran objects t → (letter : LetterId) (mail : Mail) → letter_at t letter ≡ Some mail → GoesHome mail.to mail.body
all_go_home objects =
    all_letters objects (λ t mail. GoesHome mail.to mail.body) (λ e t mail h. h)
    (λ t input m run may before i. goes_home (sight_of objects t input) (mail_got t (got_of input)) input (did_of objects t input).deeds m.to m.body (rule_replies objects (sight_of objects t input) (mail_got t (got_of input)) input m i))

-- by what stands in the past of its event each letter is for its node
is_for : (objects : List ObjectDecl) (L : List Deed) (from to : ℕ) (body : Body) → Legal objects L → BodyOk objects L from to body → GoesHome to body → IsForNode objects to body
is_for objects L from to (bodies.Start b counts) legal ok home =
    (sym ok.2, asked_for_child objects L b legal (in_any (is_ask_for b) L (Ask ok.0 b) ok.1 (name_eq_refl b)))
is_for objects L from to (bodies.Call a n x op c counts) legal ok home =
    (sym ok.1, call_fits objects L a n (record { object = x; op = op; count = c }) legal (in_call objects L a n x op c legal ok.0))
is_for objects L from to (bodies.Answer a n reply) legal ok home = home
is_for objects L from to (bodies.Finish b v counts) legal ok home = sym ok.1
is_for objects L from to (bodies.Quit b) legal ok home = sym ok.0
is_for objects L from to (bodies.Prepare f c) legal ok home = ok.0
is_for objects L from to (bodies.Vote f c agrees) legal ok home = home
is_for objects L from to (bodies.Query f) legal ok home = (sym ok.2, ok.0)
is_for objects L from to bodies.News legal ok home = tt

may_be_put : (objects : List ObjectDecl) (t : List Event) (letter : LetterId) (mail : Mail) (load : Load) → Ran objects t → letter_at t letter ≡ Some mail → IsOf objects (past_of t letter.event) load.know → IsLetter objects mail.to mail load
may_be_put objects t letter mail load run at is =
    let past : SenderPast objects t letter = sender_past objects t letter mail run at in
    record {
      addressed = refl;
      for_node = is_for objects (past_of t letter.event) mail.from mail.to mail.body past.legal
          ((ran_holds objects t run).letters letter mail at (λ j. in_past t j letter.event) past.closed past.it) (all_go_home objects t run letter mail at);
      body_known = body_covered objects t letter mail load.know run at is;
      outcomes_known = outcomes_covered objects t letter mail load.know run at is;
    }

pub ran_letters_put : (objects : List ObjectDecl) (t : List Event) (letter : LetterId) (mail : Mail) → Ran objects t → letter_at t letter ≡ Some mail → IsLetter objects mail.to mail (load_at objects t letter)
ran_letters_put objects t letter mail run at = may_be_put objects t letter mail (load_at objects t letter) run at (load_is_of objects t letter mail run at)

pub letters_may_be_put : LettersMayBePut
letters_may_be_put objects t letter mail run at = ran_letters_put objects t letter mail (plain_ran objects t run) at

pub halted_letters_may_be_put : HaltedLettersMayBePut
halted_letters_may_be_put objects taken t letter mail run at = ran_letters_put objects t letter mail (taken, run) at

pub whole_letters_may_be_put : WholeLettersMayBePut
whole_letters_may_be_put objects taken t letter mail run at =
    may_be_put objects t letter mail ((by_whole_letters objects).carried t letter) (taken, run) at (whole_is_of objects t letter mail (taken, run) at)
