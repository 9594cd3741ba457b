-- The next request of an action by its body, by cases of whether it makes one: what stands after
-- it.
use Rattle.std.proofs.Common.{◌≡◌, ℕ, Bool, true, false, [], ◌∷◌, Option, Some, None}
use Rattle.std.proofs.Common.{refl, sym, ap, ◌∙◌, subst}
use Rattle.std.proofs.lemmas.Bool.{true≢false}
use Rattle.cam_names.specs.declared.name.Name.{Name}
use Rattle.cam_event.specs.declared.Event.{Event}
use Rattle.cam_event.specs.declared.Want.{Want}
use Rattle.cam_event.specs.Inputs.{Requests}
use Rattle.cam_event.specs.Pasts.{plain_all}
use Rattle.cam_event.specs.Taken.{taken_of}
use Rattle.cam_event.specs.Views.{view}
use Rattle.cam_body.specs.declared.Next.{Next}
use Rattle.cam_body.specs.declared.Next.TheVariants as nexts
use Rattle.cam_body.specs.Work.{child_body}
use Rattle.cam_node.specs.Log.{Logged}
use Rattle.cam_runs.specs.Halts.{Halting}
use Rattle.cam_runs.specs.HaltedPlaying.{given_body, go, make_request}
use Rattle.cam_runs.specs.Playing.{body_of}
use Rattle.cam_runs.specs.Requests.{asked_in}
use Rattle.cam_runs.specs.Standing.{Setting, Standing, after_input, made, put}
use Rattle.cam_runs.specs.UnderHalts.{IsUnderHalts}
use Rattle.cam_script.specs.declared.Script.{Script}
use Rattle.cam_script.specs.Law.{IsScript}
use Rattle.cam_histories.specs.InputLaws.{halt_of, held_setting}
use Rattle.cam_cluster.specs.declared.workers.Workers.{Workers}
use Rattle.cam_cluster.specs.declared.works.Put.{Put}
use Rattle.cam_cluster.specs.Goes.{IsGone, IsSaidOf, MayGo, is_request, next_of}
use Rattle.cam_cluster.specs.Puts.{as_halt}
use Rattle.cam_cluster.specs.Workers.{AreWorkers}
use Rattle.cam_cluster.specs.Works.{KeepsRun, WorksFields}
use Rattle.cam_cluster.proofs.BodyRequests.{gone_under}
use Rattle.cam_cluster.proofs.Led.{keeps_others}
use Rattle.cam_cluster.proofs.WorkersStand.{workers_stay}

-- a body that is given changes nothing of the works
pub given_keeps : (script : Script) (body : Option ℕ) (b : Option Name) (st : Standing)
    (works : WorksFields) (may : ℕ → Logged → Type 0) → IsUnderHalts script (given_body body b st)
    → KeepsRun script st works may → KeepsRun script (given_body body b st) works may
given_keeps script (Some n) (Some b) st works may under keeps =
    keeps_others script st (given_body (Some n) (Some b) st) works works.marks may
    (record { trace = refl; lost = refl; delivered = refl }) refl refl refl keeps.all_marks under
    keeps
given_keeps script (Some n) None st works may under keeps = keeps
given_keeps script None b st works may under keeps = keeps

-- an input leaves the workers as they were
pub after_stays : (line : ℕ) (again : Bool) (st : Standing) (s : ℕ) (e : Event) (appends : Bool)
    (o : Option Bool) (workers : Workers) → AreWorkers st workers
    → AreWorkers (after_input line again st s e appends o) workers
after_stays line again st s e appends None workers are =
    workers_stay st _ workers (e ∷ []) refl refl are
after_stays line again st s e appends (Some true) workers are =
    workers_stay st _ workers (taken_of e ∷ []) refl refl are
after_stays line again st s e appends (Some false) workers are =
    workers_stay _ _ _ [] refl refl are

-- it has the bodies that stood before
pub after_bodies : (line : ℕ) (again : Bool) (st : Standing) (s : ℕ) (e : Event) (appends : Bool)
    (o : Option Bool) → (after_input line again st s e appends o).running.bodies ≡ st.running.bodies
after_bodies line again st s e appends None = refl
after_bodies line again st s e appends (Some true) = refl
after_bodies line again st s e appends (Some false) = refl

module _ (script : Script) (st : Standing) (a : Name) (is : IsScript script)
    (under : IsUnderHalts script st) (may : MayGo script st a) (halts : Halting) (line : ℕ)
    (restarted : ℕ → Bool) where
  abbrev s : Setting
  s = held_setting script.objects halts line restarted

  abbrev child : Option ℕ
  child = child_body (body_of script.bodies st.running a) (view (plain_all st.running.trace) a)

  abbrev behind : Want → Standing
  behind want = put s st (Requests (record { action = a; want = want }))

  abbrev asked : Want → Option Name
  asked want = asked_in (made st (behind want))

  go_is : (n : Next) → next_of script.bodies st a ≡ n
      → go s script.bodies st a ≡ make_request s st a child n
  go_is n e = ap (make_request s st a child) e

  -- The action made this request,
  pub gone_on : (want : Want) (done : Put) (new : WorksFields) (may_read : ℕ → Logged → Type 0)
      (workers : Workers) → next_of script.bodies st a ≡ nexts.Request want
      → (halt_of s st (Requests (record { action = a; want = want })) ≡ as_halt done
      → KeepsRun script (behind want) new may_read)
      → (halt_of s st (Requests (record { action = a; want = want })) ≡ as_halt done
      → AreWorkers (given_body child (asked want) (behind want)) workers)
      → IsGone script st s a (Some done) new may_read workers
  gone_on want done new may_read workers e keeps are = record {
    made = sym (ap is_request e);
    runs = λ said. rw (go_is (nexts.Request want) e) (given_keeps _ _ _ _ _ _ (subst
        (IsUnderHalts script) (go_is (nexts.Request want) e) (gone_under script st a is under may
        halts line restarted)) (keeps (said_of said)));
    workers = λ said. rw (go_is (nexts.Request want) e) (are (said_of said));
  }
    where
      said_of : IsSaidOf s st a (next_of script.bodies st a) (Some done)
          → halt_of s st (Requests (record { action = a; want = want })) ≡ as_halt done
      said_of = subst (λ (n : Next). IsSaidOf s st a n (Some done)) e

  -- or none.
  none_made : (n : Next) → is_request n ≡ false → make_request s st a child n ≡ st
  none_made (nexts.Request want) idle = absurd (true≢false idle)
  none_made nexts.Wait idle = refl
  none_made nexts.Over idle = refl

  pub stayed : (n : Next) (new : WorksFields) (may_read : ℕ → Logged → Type 0) (workers : Workers)
      → next_of script.bodies st a ≡ n → is_request n ≡ false → KeepsRun script st new may_read
      → AreWorkers st workers → IsGone script st s a None new may_read workers
  stayed n new may_read workers e idle keeps are = record {
    made = sym (ap is_request e ∙ idle);
    runs = λ said. rw stays keeps;
    workers = λ said. rw stays are;
  }
    where
      stays : go s script.bodies st a ≡ st
      stays = go_is n e ∙ none_made n idle
