-- A request by an action's body, put to its home: its event, or a halt, lowers what is left.
use Rattle.std.proofs.Common.{◌≡◌, ℕ, ◌+◌, ◌≤◌, Bool, true, false, ◌&&◌, ◌||◌, List, [], ◌∷◌, ◌++◌, length, Option, Some, None, refl, sym, ap, ◌∙◌, subst, arith}
use Rattle.std.specs.Prelude.{if◌then◌else◌, slice_get}
use Rattle.std.specs.List.{list_any}
use Rattle.std.specs.Option.{option_map_or}
use Rattle.std.proofs.lemmas.Bool.{eq-eqb}
use Rattle.cam_names.specs.declared.name.Name.{Name}
use Rattle.cam_names.specs.Names.{home_node, name_eq}
use Rattle.cam_names.specs.Dependencies.{pairs_of}
use Rattle.cam_names.proofs.Names.{name_eq_refl}
use Rattle.cam_type.specs.Objects.{site_of}
use Rattle.cam_know.specs.declared.Reason.{Reason}
use Rattle.cam_event.specs.declared.Deed.{Deed}
use Rattle.cam_event.specs.declared.Deed.TheVariants.{Ask, Call, AskCommit, AskAbort}
use Rattle.cam_event.specs.declared.Event.{Event}
use Rattle.cam_event.specs.declared.ViewStep.{ViewStep}
use Rattle.cam_event.specs.declared.ViewStep.TheVariants as steps
use Rattle.cam_event.specs.declared.Want.{Want}
use Rattle.cam_event.specs.declared.Want.TheVariants as wants
use Rattle.cam_event.specs.ByPast.{event_of, first_informs, next as next_past}
use Rattle.cam_event.specs.History.{after, calls}
use Rattle.cam_event.specs.Inputs.{Input, Requests}
use Rattle.cam_event.specs.Pasts.{plain_all}
use Rattle.cam_event.specs.Readings.{by_pasts}
use Rattle.cam_event.specs.Rules.{child_name, stopped_by, wanted}
use Rattle.cam_event.specs.Sights.{Sight}
use Rattle.cam_event.specs.Views.{step_of, view}
use Rattle.cam_script.specs.declared.Script.{Script}
use Rattle.cam_script.specs.declared.Statement.{Statement}
use Rattle.cam_script.specs.SoFar.{Size, cost_at}
use Rattle.cam_body.specs.declared.Next.TheVariants as nexts
use Rattle.cam_body.specs.Work.{child_body, next}
use Rattle.cam_cut.proofs.NextEvent.{sight_of}
use Rattle.cam_runs.specs.Halts.{appends}
use Rattle.cam_runs.specs.Playing.{is_stop_of}
use Rattle.cam_runs.specs.Requests.{asked_in}
use Rattle.cam_runs.specs.RequestsLeft.{left_away, left_by, left_of}
use Rattle.cam_runs.specs.Running.{has_number}
use Rattle.cam_runs.specs.Standing.{after_input, made, put, Setting, Standing}
use Rattle.cam_runs.proofs.HaltedNew.{as_long, longer, no_ask}
use Rattle.cam_runs.proofs.HaltedPuts.{pasts}
use Rattle.cam_runs.proofs.OneEvent.{first_none}
use Rattle.cam_runs.proofs.RequestSteps.{gift_of, if_most, IsStepOf}
use Rattle.cam_runs.proofs.RequestsMade.{no_give_up, request_falls, request_some}

-- what is given to a child that was asked for
abbrev pub gift_made : List Size → Option ℕ → Option Name → ℕ
gift_made sizes (Some m) (Some b) = cost_at sizes m
gift_made sizes _ _ = 0

pub no_child : (sizes : List Size) (o : Option ℕ) → gift_made sizes o None ≡ 0
no_child sizes None = refl
no_child sizes (Some m) = refl

-- An action with this body makes a request: its home is not halted, and it was never stopped there.
pub record Makes (script : Script) (st : Standing) (a : Name) (want : Want) (n : ℕ)
    (body : List Statement) : Type 0 where
  pub numbered : slice_get script.bodies n ≡ Some body
  pub asks : next body (view (plain_all st.running.trace) a) ≡ nexts.Request want
  pub awake : has_number st.halted (home_node a) ≡ false
  pub going : list_any (is_stop_of a) st.running.trace ≡ false

module _ (sizes : List Size) (script : Script) (st : Standing) (a : Name) (want : Want) (n : ℕ)
    (body : List Statement) (makes : Makes script st a want n body) where
  abbrev pub t : List Event
  t = st.running.trace

  abbrev pub L : List Deed
  L = plain_all t

  abbrev pub seen : List ViewStep
  seen = view L a

  abbrev pub child : Option ℕ
  child = child_body body seen

  -- what was left before
  abbrev pub old : ℕ
  old = left_away sizes script.bodies st.halted t a n

  old_is : old ≡ left_by sizes body seen
  old_is =
      ap (λ b. if b then 0 else left_of sizes script.bodies t a n) makes.awake
      ∙ ap (λ b. if b then 0
      else option_map_or (λ bd. left_by sizes bd seen) (slice_get script.bodies n) 0) makes.going
      ∙ ap (λ (o : Option (List Statement)). option_map_or (λ bd. left_by sizes bd seen) o 0)
      makes.numbered

  abbrev pub Lowers : List ℕ → List Event → Option Name → Type 0
  Lowers nodes now asked =
      left_away sizes script.bodies nodes now a n + (1 + gift_made sizes child asked) ≤ old

  -- where nothing is left afterwards
  none_lowers : (nodes : List ℕ) (now : List Event) (asked : Option Name)
      → left_away sizes script.bodies nodes now a n ≡ 0 → asked ≡ None → Lowers nodes now asked
  none_lowers nodes now asked none no_asked =
      by _ _ none (ap (gift_made sizes child) no_asked ∙ no_child sizes child)
      (subst (λ k. 1 ≤ k) (sym old_is) (request_some sizes body seen want makes.asks))
    where
      by : (x y : ℕ) → x ≡ 0 → y ≡ 0 → 1 ≤ old → x + (1 + y) ≤ old
      by x y p q some = omega (arith, p, q, some)

  -- at a halt the home is halted
  halted_there : (now : List Event)
      → left_away sizes script.bodies (home_node a ∷ st.halted) now a n ≡ 0
  halted_there now =
      ap (λ b. if b || has_number st.halted (home_node a) then 0
      else left_of sizes script.bodies now a n) (eq-eqb (home_node a) (home_node a) refl)

  -- a request that stands as one deed
  deed_lowers : (e : Event) (d : Deed) (s : ViewStep) → e.deeds ≡ d ∷ []
      → step_of L d a ≡ s ∷ [] → IsStepOf want s
      → gift_made sizes child (asked_in (d ∷ [])) ≡ gift_of sizes child s
      → Lowers st.halted (e ∷ t) (asked_in e.deeds)
  deed_lowers e d s deeds step is gift =
      by _ _ _ _ _ new_most (ap (λ (ds : List Deed). gift_made sizes child (asked_in ds)) deeds ∙ gift)
      old_is (request_falls sizes body seen want s makes.asks is)
    where
      view_is : view (plain_all (e ∷ t)) a ≡ seen ++ s ∷ []
      view_is = ap (λ (ds : List Deed). view (after L ds) a) deeds ∙ ap (λ v. seen ++ v) step

      new_most : left_away sizes script.bodies st.halted (e ∷ t) a n
          ≤ left_by sizes body (seen ++ s ∷ [])
      new_most =
          if_most (has_number st.halted (home_node a)) _ _
          (if_most (list_any (is_stop_of a) (e ∷ t)) _ _
          (subst (λ (o : Option (List Statement)).
          option_map_or (λ bd. left_by sizes bd (view (plain_all (e ∷ t)) a)) o 0
          ≤ left_by sizes body (seen ++ s ∷ [])) (sym makes.numbered)
          (subst (λ v. left_by sizes body v ≤ left_by sizes body (seen ++ s ∷ [])) (sym view_is)
          (same (left_by sizes body (seen ++ s ∷ []))))))
        where
          same : (k : ℕ) → k ≤ k
          same k = omega arith

      by : (new most gm g before : ℕ) → new ≤ most → gm ≡ g → before ≡ left_by sizes body seen
          → most + (1 + g) ≤ left_by sizes body seen → new + (1 + gm) ≤ before
      by new most gm g before h p q falls = omega (arith, h, p, q, falls)

  -- its own deed in its view
  own : (v : List ViewStep) → (if name_eq a a then v else []) ≡ v
  own v = ap (λ b. if b then v else []) (name_eq_refl a)

  -- THE EVENT by the pasts, whatever the node goes by
  event_lowers : (g : Sight) (first : List Deed) (o : Option Reason) → first ≡ []
      → Lowers st.halted
      (event_of (home_node a) None first (stopped_by a o (wanted script.objects g a want)) ∷ t)
      (asked_in (event_of (home_node a) None first
      (stopped_by a o (wanted script.objects g a want))).deeds)
  event_lowers g first (Some reason) none =
      none_lowers st.halted (e ∷ t) (asked_in e.deeds)
      (ap (λ b. if b then 0 else left_of sizes script.bodies (e ∷ t) a n) makes.awake
      ∙ ap (λ b. if b || list_any (is_stop_of a) t then 0
      else option_map_or (λ bd. left_by sizes bd (view (plain_all (e ∷ t)) a))
      (slice_get script.bodies n) 0) stopped)
      (ap (λ (ds : List Deed). asked_in (ds ++ [])) none)
    where
      e : Event
      e = event_of (home_node a) None first (stopped_by a (Some reason) (wanted script.objects g a want))

      stopped : is_stop_of a e ≡ true
      stopped = λ i. eq-eqb (home_node a) (home_node a) refl i && name_eq_refl a i
  event_lowers g first None none = by want refl
    where
      event : Want → Event
      event w = event_of (home_node a) None first (wanted script.objects g a w)

      by : (w : Want) → want ≡ w
          → Lowers st.halted (event w ∷ t) (asked_in (event w).deeds)
      by (wants.Ask m) is =
          deed_lowers (event (wants.Ask m)) (Ask a (child_name g a m))
          (steps.Asked (child_name g a m)) (ap (λ (ds : List Deed). ds ++ Ask a (child_name g a m) ∷ []) none)
          (own (steps.Asked (child_name g a m) ∷ [])) (subst (λ w. IsStepOf w (steps.Asked (child_name g a m))) (sym is) tt)
          (gifts child (child_name g a m))
        where
          gifts : (o : Option ℕ) (b : Name)
              → gift_made sizes o (Some b) ≡ gift_of sizes o (steps.Asked b)
          gifts None b = refl
          gifts (Some k) b = refl
      by (wants.Call x op) is =
          let count = g.known_count (site_of script.objects x) in
          let number = calls g.deeds a + 1 in
          deed_lowers (event (wants.Call x op)) (Call a number x op count)
          (steps.Called number x op) (ap (λ (ds : List Deed). ds ++ Call a number x op count ∷ []) none)
          (own (steps.Called number x op ∷ [])) (subst (λ w. IsStepOf w (steps.Called number x op)) (sym is) tt)
          (gifts child number)
        where
          gifts : (o : Option ℕ) (k : ℕ)
              → gift_made sizes o None ≡ gift_of sizes o (steps.Called k x op)
          gifts None k = refl
          gifts (Some m) k = refl
      by (wants.Commit v) is =
          deed_lowers (event (wants.Commit v)) (AskCommit a v) (steps.CommitAsked v)
          (ap (λ (ds : List Deed). ds ++ AskCommit a v ∷ []) none)
          (own (steps.CommitAsked v ∷ [])) (subst (λ w. IsStepOf w (steps.CommitAsked v)) (sym is) tt)
          (gifts child)
        where
          gifts : (o : Option ℕ) → gift_made sizes o None ≡ gift_of sizes o (steps.CommitAsked v)
          gifts None = refl
          gifts (Some m) = refl
      by wants.Abort is =
          deed_lowers (event wants.Abort) (AskAbort a) steps.AbortAsked
          (ap (λ (ds : List Deed). ds ++ AskAbort a ∷ []) none)
          (own (steps.AbortAsked ∷ [])) (subst (λ w. IsStepOf w steps.AbortAsked) (sym is) tt)
          (gifts child)
        where
          gifts : (o : Option ℕ) → gift_made sizes o None ≡ gift_of sizes o steps.AbortAsked
          gifts None = refl
          gifts (Some m) = refl
      by (wants.GiveUp b) is =
          absurd (no_give_up body seen b (subst (λ w. next body seen ≡ nexts.Request w) is makes.asks))

  abbrev pub request : Input
  request = Requests (record { action = a; want = want })

  -- THE LAW of one request, at a halt too.
  pub request_lowers : (c : Setting)
      → Lowers (put (pasts script c) st request).halted
      (put (pasts script c) st request).running.trace
      (asked_in (made st (put (pasts script c) st request)))
  request_lowers c =
      by (c.halts st.turns (home_node a) (appends (by_pasts script.objects) t request)
      (c.restarted (home_node a)))
    where
      e : Event
      e = next_past script.objects t request

      w : Bool
      w = appends (by_pasts script.objects) t request

      after_it : Option Bool → Standing
      after_it o = after_input c.line (c.restarted (home_node a)) st (home_node a) e w o

      g : Sight
      g = sight_of script.objects t request

      by : (o : Option Bool) → Lowers (after_it o).halted (after_it o).running.trace
          (asked_in (made st (after_it o)))
      by None =
          subst (λ (ds : List Deed). Lowers st.halted (e ∷ t) (asked_in ds))
          (sym (longer (length t) e.deeds []))
          (event_lowers g (first_informs t (home_node a) None) (g.orphan a (pairs_of (g.deps a)))
          (first_none t (home_node a)))
      by (Some true) =
          none_lowers (home_node a ∷ st.halted) (after_it (Some true)).running.trace
          (asked_in (made st (after_it (Some true))))
          (halted_there (after_it (Some true)).running.trace)
          (ap asked_in (longer (length t) _ []) ∙ no_ask e.deeds)
      by (Some false) =
          none_lowers (home_node a ∷ st.halted) t (asked_in (made st (after_it (Some false))))
          (halted_there t) (ap asked_in (as_long (length t) _ []))
