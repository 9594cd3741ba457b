-- Each line of a script adds to what is left of the requests of its bodies no more than it costs.
use Rattle.std.proofs.Common.{◌≡◌, ℕ, ◌+◌, ◌≤◌, Bool, true, false, List, [], ◌∷◌, ◌++◌, length, Option, Some, None, refl, sym, ap, ◌∙◌, subst, arith}
use Rattle.std.specs.Prelude.{if◌then◌else◌, slice_get}
use Rattle.std.specs.Option.{option_map_or}
use Rattle.cam_names.specs.declared.name.Name.{Name}
use Rattle.cam_names.specs.Names.{home_node, name_eq}
use Rattle.cam_names.specs.Dependencies.{pairs_of}
use Rattle.cam_names.proofs.Names.{name_eq_refl}
use Rattle.cam_type.specs.Objects.{site_of}
use Rattle.cam_know.specs.declared.Reason.{Reason}
use Rattle.cam_event.specs.declared.Deed.{Deed}
use Rattle.cam_event.specs.declared.Deed.TheVariants.{Ask, Call, AskCommit, AskAbort}
use Rattle.cam_event.specs.declared.Event.{Event}
use Rattle.cam_event.specs.declared.ViewStep.{ViewStep}
use Rattle.cam_event.specs.declared.ViewStep.TheVariants as steps
use Rattle.cam_event.specs.declared.Want.{Want}
use Rattle.cam_event.specs.declared.Want.TheVariants as wants
use Rattle.cam_event.specs.ByPast.{event_of, first_informs, next as next_past}
use Rattle.cam_event.specs.History.{after, calls}
use Rattle.cam_event.specs.Inputs.{Input, Requests}
use Rattle.cam_event.specs.Pasts.{plain_all}
use Rattle.cam_event.specs.Readings.{by_pasts}
use Rattle.cam_event.specs.Rules.{child_name, stopped_by, wanted}
use Rattle.cam_event.specs.Sights.{Sight}
use Rattle.cam_event.specs.Taken.{taken_of}
use Rattle.cam_event.specs.Views.{step_of, view}
use Rattle.cam_script.specs.declared.Script.{Script}
use Rattle.cam_script.specs.declared.Statement.{Statement}
use Rattle.cam_script.specs.SoFar.{Size}
use Rattle.cam_body.specs.declared.Next.TheVariants as nexts
use Rattle.cam_body.specs.Work.{child_body, next}
use Rattle.cam_cut.proofs.NextEvent.{sight_of}
use Rattle.cam_runs.specs.Halts.{appends}
use Rattle.cam_runs.specs.Requests.{asked_in}
use Rattle.cam_runs.specs.RequestsLeft.{left_by, sum_in}
use Rattle.cam_runs.specs.Standing.{after_input, made, put, Setting, Standing}
use Rattle.cam_runs.proofs.HaltedNew.{as_long, longer, no_ask}
use Rattle.cam_runs.proofs.HaltedPuts.{pasts}
use Rattle.cam_runs.proofs.OneEvent.{first_none}
use Rattle.cam_runs.proofs.RequestsFall.{view_grows, view_lowers, Grown}
use Rattle.cam_runs.proofs.RequestsKept.{no_more, sum_lowers}
use Rattle.cam_runs.proofs.RequestSteps.{gift_of, IsStepOf}
use Rattle.cam_runs.proofs.RequestsMade.{no_give_up, request_falls}
use Rattle.cam_runs.proofs.RequestsPut.{gift_made, no_child}

-- what is left of a body, also where its action was stopped
abbrev pub cost_left : List Size → List (List Statement) → List Event → Name → ℕ → ℕ
cost_left sizes bodies t a n =
    option_map_or (λ body. left_by sizes body (view (plain_all t) a)) (slice_get bodies n) 0

abbrev pub all_left : List Size → List (List Statement) → Standing → ℕ
all_left sizes bodies st = sum_in (cost_left sizes bodies st.running.trace) st.running.bodies

-- a longer history leaves no more
grown_left : (sizes : List Size) (bodies : List (List Statement)) (t now : List Event) (a : Name)
    (n : ℕ) → Grown (plain_all t) (plain_all now) a
    → cost_left sizes bodies now a n ≤ cost_left sizes bodies t a n
grown_left sizes bodies t now a n grown = by (slice_get bodies n)
  where
    by : (o : Option (List Statement))
        → option_map_or (λ body. left_by sizes body (view (plain_all now) a)) o 0
        ≤ option_map_or (λ body. left_by sizes body (view (plain_all t) a)) o 0
    by None = no_more 0
    by (Some body) =
        subst (λ (v : List ViewStep). left_by sizes body v ≤ left_by sizes body (view (plain_all t) a))
        (sym grown.is) (view_lowers sizes body (view (plain_all t) a) grown.more)

-- AN INPUT keeps the bodies and leaves no more.
pub record Keeps (old new : Standing) : Type 0 where
  pub bodies : new.running.bodies ≡ old.running.bodies
  pub left :
      (sizes : List Size) (bs : List (List Statement)) (a : Name) (n : ℕ)
      → cost_left sizes bs new.running.trace a n ≤ cost_left sizes bs old.running.trace a n

input_keeps : (line : ℕ) (again : Bool) (st : Standing) (s : ℕ) (e : Event) (w : Bool)
    (o : Option Bool) → Keeps st (after_input line again st s e w o)
input_keeps line again st s e w None = record {
  bodies = refl;
  left = λ sizes bs a n. grown_left sizes bs st.running.trace (e ∷ st.running.trace) a n
      (view_grows (plain_all st.running.trace) e.deeds a);
}
input_keeps line again st s e w (Some true) = record {
  bodies = refl;
  left = λ sizes bs a n.
      grown_left sizes bs st.running.trace (taken_of e ∷ st.running.trace) a n
      (view_grows (plain_all st.running.trace) (taken_of e).deeds a);
}
input_keeps line again st s e w (Some false) = record {
  bodies = refl;
  left = λ sizes bs a n. no_more (cost_left sizes bs st.running.trace a n);
}

pub put_keeps : (c : Setting) (st : Standing) (input : Input) → Keeps st (put c st input)
put_keeps c st input = input_keeps c.line _ st _ _ _ _

pub kept_left : (sizes : List Size) (bodies : List (List Statement)) (old new : Standing)
    → Keeps old new → all_left sizes bodies new ≤ all_left sizes bodies old
kept_left sizes bodies old new keeps =
    subst (λ (ps : List (Name × ℕ)). sum_in (cost_left sizes bodies new.running.trace) ps
    ≤ all_left sizes bodies old) (sym keeps.bodies)
    (sum_lowers (cost_left sizes bodies old.running.trace)
    (cost_left sizes bodies new.running.trace) old.running.bodies (keeps.left sizes bodies))

-- A REQUEST by a body pays for the body of its child.
module _ (sizes : List Size) (script : Script) (st : Standing) (a : Name) (want : Want) (n : ℕ)
    (body : List Statement) (numbered : slice_get script.bodies n ≡ Some body)
    (asks : next body (view (plain_all st.running.trace) a) ≡ nexts.Request want) where
  abbrev pub t : List Event
  t = st.running.trace

  abbrev pub L : List Deed
  L = plain_all t

  abbrev pub seen : List ViewStep
  seen = view L a

  abbrev pub child : Option ℕ
  child = child_body body seen

  abbrev pub Pays : List Event → Option Name → Type 0
  Pays now asked =
      cost_left sizes script.bodies now a n + gift_made sizes child asked
      ≤ cost_left sizes script.bodies t a n

  left_is : (now : List Event)
      → cost_left sizes script.bodies now a n ≡ left_by sizes body (view (plain_all now) a)
  left_is now =
      ap (λ (o : Option (List Statement)).
      option_map_or (λ bd. left_by sizes bd (view (plain_all now) a)) o 0) numbered

  -- one that asks for no child
  none_pays : (now : List Event) (asked : Option Name) → Grown L (plain_all now) a
      → asked ≡ None → Pays now asked
  none_pays now asked grown none =
      by _ _ _ (grown_left sizes script.bodies t now a n grown)
      (ap (gift_made sizes child) none ∙ no_child sizes child)
    where
      by : (x y z : ℕ) → x ≤ z → y ≡ 0 → x + y ≤ z
      by x y z p q = omega (arith, p, q)

  -- one that stands as one deed
  deed_pays : (e : Event) (d : Deed) (s : ViewStep) → e.deeds ≡ d ∷ []
      → step_of L d a ≡ s ∷ [] → IsStepOf want s
      → gift_made sizes child (asked_in (d ∷ [])) ≡ gift_of sizes child s
      → Pays (e ∷ t) (asked_in e.deeds)
  deed_pays e d s deeds step is gift =
      by _ _ _ _ _ _ (left_is (e ∷ t) ∙ ap (left_by sizes body) view_is)
      (ap (λ (ds : List Deed). gift_made sizes child (asked_in ds)) deeds ∙ gift) (left_is t)
      (request_falls sizes body seen want s asks is)
    where
      view_is : view (plain_all (e ∷ t)) a ≡ seen ++ s ∷ []
      view_is = ap (λ (ds : List Deed). view (after L ds) a) deeds ∙ ap (λ v. seen ++ v) step

      by : (new gm old most g before : ℕ) → new ≡ most → gm ≡ g → old ≡ before
          → most + (1 + g) ≤ before → new + gm ≤ old
      by new gm old most g before p q r falls = omega (arith, p, q, r, falls)

  own : (v : List ViewStep) → (if name_eq a a then v else []) ≡ v
  own v = ap (λ b. if b then v else []) (name_eq_refl a)

  event_pays : (g : Sight) (first : List Deed) (o : Option Reason) → first ≡ []
      → Pays (event_of (home_node a) None first (stopped_by a o (wanted script.objects g a want)) ∷ t)
      (asked_in (event_of (home_node a) None first
      (stopped_by a o (wanted script.objects g a want))).deeds)
  event_pays g first (Some reason) none =
      none_pays (e ∷ t) (asked_in e.deeds) (view_grows L e.deeds a)
      (ap (λ (ds : List Deed). asked_in (ds ++ [])) none)
    where
      e : Event
      e = event_of (home_node a) None first (stopped_by a (Some reason) (wanted script.objects g a want))
  event_pays g first None none = by want refl
    where
      event : Want → Event
      event w = event_of (home_node a) None first (wanted script.objects g a w)

      by : (w : Want) → want ≡ w → Pays (event w ∷ t) (asked_in (event w).deeds)
      by (wants.Ask m) is =
          deed_pays (event (wants.Ask m)) (Ask a (child_name g a m))
          (steps.Asked (child_name g a m)) (ap (λ (ds : List Deed). ds ++ Ask a (child_name g a m) ∷ []) none)
          (own (steps.Asked (child_name g a m) ∷ [])) (subst (λ w. IsStepOf w (steps.Asked (child_name g a m))) (sym is) tt)
          (gifts child (child_name g a m))
        where
          gifts : (o : Option ℕ) (b : Name)
              → gift_made sizes o (Some b) ≡ gift_of sizes o (steps.Asked b)
          gifts None b = refl
          gifts (Some k) b = refl
      by (wants.Call x op) is =
          let count = g.known_count (site_of script.objects x) in
          let number = calls g.deeds a + 1 in
          deed_pays (event (wants.Call x op)) (Call a number x op count)
          (steps.Called number x op) (ap (λ (ds : List Deed). ds ++ Call a number x op count ∷ []) none)
          (own (steps.Called number x op ∷ [])) (subst (λ w. IsStepOf w (steps.Called number x op)) (sym is) tt)
          (gifts child number)
        where
          gifts : (o : Option ℕ) (k : ℕ)
              → gift_made sizes o None ≡ gift_of sizes o (steps.Called k x op)
          gifts None k = refl
          gifts (Some m) k = refl
      by (wants.Commit v) is =
          none_pays (event (wants.Commit v) ∷ t) (asked_in (event (wants.Commit v)).deeds)
          (view_grows L (event (wants.Commit v)).deeds a)
          (ap (λ (ds : List Deed). asked_in (ds ++ AskCommit a v ∷ [])) none)
      by wants.Abort is =
          none_pays (event wants.Abort ∷ t) (asked_in (event wants.Abort).deeds)
          (view_grows L (event wants.Abort).deeds a)
          (ap (λ (ds : List Deed). asked_in (ds ++ AskAbort a ∷ [])) none)
      by (wants.GiveUp b) is =
          absurd (no_give_up body seen b (subst (λ w. next body seen ≡ nexts.Request w) is asks))

  abbrev pub request : Input
  request = Requests (record { action = a; want = want })

  pub request_pays : (c : Setting)
      → Pays (put (pasts script c) st request).running.trace
      (asked_in (made st (put (pasts script c) st request)))
  request_pays c =
      by (c.halts st.turns (home_node a) (appends (by_pasts script.objects) t request)
      (c.restarted (home_node a)))
    where
      e : Event
      e = next_past script.objects t request

      w : Bool
      w = appends (by_pasts script.objects) t request

      after_it : Option Bool → Standing
      after_it o = after_input c.line (c.restarted (home_node a)) st (home_node a) e w o

      g : Sight
      g = sight_of script.objects t request

      by : (o : Option Bool) → Pays (after_it o).running.trace (asked_in (made st (after_it o)))
      by None =
          subst (λ (ds : List Deed). Pays (e ∷ t) (asked_in ds)) (sym (longer (length t) e.deeds []))
          (event_pays g (first_informs t (home_node a) None) (g.orphan a (pairs_of (g.deps a)))
          (first_none t (home_node a)))
      by (Some true) =
          none_pays (taken_of e ∷ t) (asked_in (made st (after_it (Some true))))
          (view_grows L (taken_of e).deeds a)
          (ap asked_in (longer (length t) (taken_of e).deeds []) ∙ no_ask e.deeds)
      by (Some false) =
          none_pays t (asked_in (made st (after_it (Some false)))) (view_grows L [] a)
          (ap asked_in (as_long (length t) _ []))
