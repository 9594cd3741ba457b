-- The next request of an action by its body, put to the node of its home: what the works and the
-- workers are after it.
use Rattle.std.proofs.Common.{◌≡◌, ◌⊎◌, inl, inr, ℕ, ◌+◌, false, List, reverse, Option, Some, None}
use Rattle.std.proofs.Common.{sym, ap, ◌∙◌, subst}
use Rattle.cam_names.specs.declared.name.Name.{Name}
use Rattle.cam_names.specs.Names.{home_node}
use Rattle.cam_event.specs.declared.Event.{Event}
use Rattle.cam_event.specs.declared.Request.{Request}
use Rattle.cam_event.specs.declared.Want.{Want}
use Rattle.cam_event.specs.Inputs.{Requests}
use Rattle.cam_event.specs.Pasts.{plain_all}
use Rattle.cam_event.specs.Views.{view}
use Rattle.cam_body.specs.declared.Next.{Next}
use Rattle.cam_body.specs.declared.Next.TheVariants as nexts
use Rattle.cam_body.specs.Work.{child_body}
use Rattle.cam_node.specs.declared.Input.TheVariants as inputs
use Rattle.cam_node.specs.Calls.{input_of, load_of, mail_of}
use Rattle.cam_node.specs.Log.{Logged}
use Rattle.cam_runs.specs.Halts.{appends}
use Rattle.cam_runs.specs.HaltedPlaying.{given_body}
use Rattle.cam_runs.specs.Playing.{body_number, body_of}
use Rattle.cam_runs.specs.Requests.{asked_in}
use Rattle.cam_runs.specs.Standing.{Setting, Standing, made, put}
use Rattle.cam_script.specs.declared.Script.{Script}
use Rattle.cam_script.specs.declared.Statement.{Statement}
use Rattle.cam_histories.specs.InputLaws.{halt_of, held_setting}
use Rattle.cam_cluster.specs.declared.workers.Intention.{Intention}
use Rattle.cam_cluster.specs.declared.workers.Workers.{Workers}
use Rattle.cam_cluster.specs.declared.works.Put.{Put}
use Rattle.cam_cluster.specs.Goes.{HasGone, is_request, next_of}
use Rattle.cam_cluster.specs.Puts.{HasPut, IsPutAt}
use Rattle.cam_cluster.specs.SoFar.{IsBinding}
use Rattle.cam_cluster.specs.Workers.{AreWorkers, HaveCaughtUp, IsIntention}
use Rattle.cam_cluster.specs.Works.{WorksFields}
use Rattle.cam_cluster.proofs.BodyGoes.{after_bodies, after_stays, gone_on, stayed}
use Rattle.cam_cluster.proofs.BodyRequests.{child_is_bare, request_put}
use Rattle.cam_cluster.proofs.Led.{binding_is}

-- what a call of the workers says of the bodies of the script and of what stands
abbrev pub Intends : List (List Statement) → Name → Workers → Intention → Type 0
Intends bodies a caught intention =
    (st : Standing) → HaveCaughtUp st caught → IsIntention bodies st a intention

-- The workers have caught up with the events.
abbrev pub CatchesUp : List Event → Workers → Workers → Type 0
CatchesUp events old caught =
    (st : Standing) → events ≡ reverse st.running.trace → AreWorkers st old
    → AreWorkers st caught × HaveCaughtUp st caught

-- the next request, as the script's own bodies have it
module _ (bodies : List (List Statement)) (a : Name) (works : WorksFields) (old caught : Workers)
    (intention : Intention) (caught_up : CatchesUp works.events old caught)
    (intends : Intends bodies a caught intention) where
  pub is_next : (script : Script) (st : Standing) → bodies ≡ script.bodies
      → works.events ≡ reverse st.running.trace → AreWorkers st old
      → next_of script.bodies st a ≡ intention.next
  is_next script st bodies_are events are =
      ap (λ bs. next_of bs st a) (sym bodies_are)
      ∙ sym (intends st (caught_up st events are).1).next

  pub is_child : (script : Script) (st : Standing) → bodies ≡ script.bodies
      → works.events ≡ reverse st.running.trace → AreWorkers st old
      → child_body (body_of script.bodies st.running a)
      (view (plain_all st.running.trace) a)
      ≡ intention.child
  is_child script st bodies_are events are =
      ap (λ bs. child_body (body_of bs st.running a) (view (plain_all st.running.trace) a)) (sym
      bodies_are)
      ∙ sym (intends st (caught_up st events are).1).child

-- It makes none where it waits or is over.
pub rests : (n : Next) → (n ≡ nexts.Wait) ⊎ (n ≡ nexts.Over) → is_request n ≡ false
rests n so = elim so [
  | inl e ↦ ap is_request e
  | inr e ↦ ap is_request e
]

-- How it ends.
module _ (line : ℕ) (bodies : List (List Statement)) (a : Name) (old : WorksFields)
    (might : ℕ → Logged → Type 0) (before caught : Workers) (intention : Intention)
    (caught_up : CatchesUp old.events before caught)
    (intends : Intends bodies a caught intention) where
  -- The action asks for nothing.
  pub idle_gone : is_request intention.next ≡ false
      → HasGone line a bodies old might before None old might caught
  idle_gone idle script st halts restarted is bodies_are keeps are may =
      stayed _ _ _ is keeps.under may halts line restarted _ _ _ _ (is_next bodies a old
      before caught intention caught_up intends script st bodies_are keeps.events are) idle keeps
      (caught_up st keeps.events are).0

  -- It makes a request, which was put.
  pub request_gone : (want : Want) (place : ℕ) (done : Put) (new : WorksFields)
      (may_read : ℕ → Logged → Type 0) (asked : Option Name) (behind : Workers)
      → intention.next ≡ nexts.Request want → home_node a ≡ place + 1
      → HasPut line place (inputs.Request (record { action = a; want = want })) old might done new
      may_read
      → IsBinding (inputs.Request (record { action = a; want = want })) new.events done asked
      → ((z : Standing) → ((b : Name) → asked ≡ Some b → body_number z.running.bodies b ≡ None)
      → AreWorkers z caught → AreWorkers (given_body intention.child asked z) behind)
      → HasGone line a bodies old might before (Some done) new may_read behind
  request_gone want place done new may_read asked behind is_want home has binds gives script st
      halts restarted is bodies_are keeps are may =
      gone_on script st a is keeps.under may halts line restarted want done new may_read behind asks
      (λ said. has script st halts restarted is keeps put_so said)
      (λ said.
      let runs = has script st halts restarted is keeps put_so said in
      let binding =
      binding_is (inputs.Request request) c st (Requests request) new.events done asked said
      runs.events binds in
      subst (λ o. AreWorkers (given_body o (asked_in (made st now)) now) behind)
      (sym (is_child bodies a old before caught intention caught_up intends script st bodies_are
      keeps.events are))
      (subst (λ o. AreWorkers (given_body intention.child o now) behind) binding
      (gives now
      (λ b is_b.
      ap (λ given. body_number given b) bodies_stay
      ∙ child_is_bare script st a is keeps.under may halts line restarted want b asks
      (sym binding ∙ is_b)) still)))
    where
      request : Request
      request = record { action = a; want = want }

      c : Setting
      c = held_setting script.objects halts line restarted

      now : Standing
      now = put c st (Requests request)

      asks : next_of script.bodies st a ≡ nexts.Request want
      asks =
          is_next bodies a old before caught intention caught_up intends script st bodies_are
          keeps.events are ∙ is_want

      put_so : IsPutAt script st place (input_of (place + 1) (inputs.Request request))
          (mail_of (inputs.Request request)) (load_of (inputs.Request request))
      put_so = request_put _ _ _ is keeps.under may _ _ home asks

      bodies_stay : now.running.bodies ≡ st.running.bodies
      bodies_stay =
          after_bodies line (restarted (home_node a)) st (home_node a)
          (c.reading.next st.running.trace (Requests request))
          (appends c.reading st.running.trace (Requests request))
          (halt_of c st (Requests request))

      still : AreWorkers now caught
      still = after_stays _ _ _ _ _ _ _ _ (caught_up st keeps.events are).0
