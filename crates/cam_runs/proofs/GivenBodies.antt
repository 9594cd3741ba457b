-- The bodies of actions: what they cost, what is left of them where a child gets one, and which makes a
-- request.
use Rattle.std.proofs.Common.{◌≡◌, ℕ, ◌+◌, ◌≤◌, Bool, true, false, List, [], ◌∷◌, ◌++◌, Option, Some, None, refl, ap, ◌∙◌, subst, arith}
use Rattle.std.specs.Prelude.{if◌then◌else◌, option_and_then, slice_get, unwrap_or}
use Rattle.std.specs.List.{list_any}
use Rattle.std.specs.Option.{option_map_or}
use Rattle.cam_names.specs.declared.name.Name.{Name}
use Rattle.cam_names.specs.Names.{home_node}
use Rattle.cam_event.specs.declared.Event.{Event}
use Rattle.cam_event.specs.declared.ViewStep.{ViewStep}
use Rattle.cam_event.specs.declared.Want.{Want}
use Rattle.cam_event.specs.Pasts.{plain_all}
use Rattle.cam_event.specs.Views.{view}
use Rattle.cam_script.specs.declared.Script.{Script}
use Rattle.cam_script.specs.declared.Statement.{Statement}
use Rattle.cam_script.specs.SoFar.{Size, cost_at, cost_of}
use Rattle.cam_body.specs.declared.Next.TheVariants as nexts
use Rattle.cam_body.specs.Work.{Place, Try, after_tries, after_try, has_ended, next, next_at, place_of, start_of, tail, tries_after}
use Rattle.cam_body.specs.Work.Try.{Worked, Failed, Open}
use Rattle.cam_runs.specs.HaltedPlaying.{given_body}
use Rattle.cam_runs.specs.Playing.{body_number, body_of, is_stop_of}
use Rattle.cam_runs.specs.RequestsLeft.{left_away, left_by, sum_in}
use Rattle.cam_runs.specs.Running.{has_number, Running}
use Rattle.cam_runs.specs.Standing.{Standing}
use Rattle.cam_runs.proofs.RequestsFall.{first_left, view_lowers}
use Rattle.cam_runs.proofs.RequestsKept.{below_all, sum_behind}
use Rattle.cam_runs.proofs.RequestSteps.{if_most}
use Rattle.cam_runs.proofs.RequestsPut.{gift_made}

-- a body costs no more than its size says
abbrev pub HasCosts : List Size → List (List Statement) → Type 0
HasCosts sizes bodies =
    (m : ℕ) (body : List Statement) → slice_get bodies m ≡ Some body
    → cost_of sizes body ≤ cost_at sizes m

-- what is left in all, but for the actions at these nodes
abbrev pub total : List Size → List (List Statement) → List ℕ → Standing → ℕ
total sizes bodies nodes st =
    sum_in (left_away sizes bodies nodes st.running.trace) st.running.bodies

-- an action that has just a body has its cost left at most
fresh_left : (sizes : List Size) (bodies : List (List Statement)) → HasCosts sizes bodies
    → (nodes : List ℕ) (t : List Event) (b : Name) (m : ℕ)
    → left_away sizes bodies nodes t b m ≤ cost_at sizes m
fresh_left sizes bodies costs nodes t b m =
    if_most (has_number nodes (home_node b)) _ _
    (if_most (list_any (is_stop_of b) t) _ _ (by (slice_get bodies m) refl))
  where
    v : List ViewStep
    v = view (plain_all t) b

    by : (o : Option (List Statement)) → slice_get bodies m ≡ o
        → option_map_or (λ body. left_by sizes body v) o 0 ≤ cost_at sizes m
    by None at = below_all (cost_at sizes m)
    by (Some body) at =
        let less = view_lowers sizes body [] v in
        let first = first_left sizes body in
        let cost = costs m body at in
        omega (arith, less, first, cost)

-- a child gets its body
pub given_lowers : (sizes : List Size) (bodies : List (List Statement)) → HasCosts sizes bodies
    → (nodes : List ℕ) (child : Option ℕ) (asked : Option Name) (st : Standing) (old : ℕ)
    → total sizes bodies nodes st + (1 + gift_made sizes child asked) ≤ old
    → total sizes bodies nodes (given_body child asked st) + 1 ≤ old
given_lowers sizes bodies costs nodes None asked st old h = h
given_lowers sizes bodies costs nodes (Some m) None st old h = h
given_lowers sizes bodies costs nodes (Some m) (Some b) st old h =
    let f = left_away sizes bodies nodes st.running.trace in
    let more = sum_behind f st.running.bodies ((b, m) ∷ []) in
    let fresh = fresh_left sizes bodies costs nodes st.running.trace b m in
    by (sum_in f (st.running.bodies ++ (b, m) ∷ [])) (sum_in f st.running.bodies) (f b m)
    (cost_at sizes m) more fresh h
  where
    by : (all some one cost : ℕ) → all ≡ some + (one + 0) → one ≤ cost
        → some + (1 + cost) ≤ old → all + 1 ≤ old
    by all some one cost a b c = omega (arith, a, b, c)

-- a body without statements asks for nothing
nothing_rests : (place : Place) (ts : List Try) → place.rest ≡ [] → (after_tries place ts).rest ≡ []
nothing_rests place [] h = h
nothing_rests place (Worked v ∷ ts) h =
    nothing_rests (after_try place (Worked v)) ts (ap tail h)
nothing_rests place (Failed ∷ ts) h = nothing_rests (after_try place Failed) ts h
nothing_rests place (Open ∷ ts) h = nothing_rests (after_try place Open) ts h

nothing_asked : (v : List ViewStep) (want : Want) → next [] v ≡ nexts.Request want → ⊥
nothing_asked v want asks =
    by (has_ended v) (place_of [] v).is_open
    (subst (λ (rest : List Statement). (if has_ended v then nexts.Over
    else if (place_of [] v).is_open then nexts.Wait
    else next_at rest (place_of [] v).failed (place_of [] v).values) ≡ nexts.Request want)
    (nothing_rests (start_of []) (tries_after [] v) refl) asks)
  where
    by : (e o : Bool)
        → (if e then nexts.Over else if o then nexts.Wait else nexts.Over) ≡ nexts.Request want → ⊥
    by true o h = cc
    by false true h = cc
    by false false h = cc

-- the body of an action, where it makes a request
pub record HasBody (script : Script) (r : Running) (a : Name) : Type 0 where
  pub number : ℕ
  pub body : List Statement
  pub found : body_number r.bodies a ≡ Some number
  pub numbered : slice_get script.bodies number ≡ Some body
  pub is : body_of script.bodies r a ≡ body

pub has_body : (script : Script) (r : Running) (a : Name) (v : List ViewStep) (want : Want)
    → next (body_of script.bodies r a) v ≡ nexts.Request want → HasBody script r a
has_body script r a v want asks = by (body_number r.bodies a) refl
  where
    by : (o : Option ℕ) → body_number r.bodies a ≡ o → HasBody script r a
    by None found =
        absurd (nothing_asked v want (subst (λ (o : Option ℕ).
        next (unwrap_or (option_and_then (λ n. slice_get script.bodies n) o) []) v
        ≡ nexts.Request want) found asks))
    by (Some n) found = test (slice_get script.bodies n) refl
      where
        test : (o : Option (List Statement)) → slice_get script.bodies n ≡ o
            → HasBody script r a
        test None at =
            absurd (nothing_asked v want (subst (λ (o : Option (List Statement)).
            next (unwrap_or o []) v ≡ nexts.Request want) at
            (subst (λ (o : Option ℕ).
            next (unwrap_or (option_and_then (λ k. slice_get script.bodies k) o) []) v
            ≡ nexts.Request want) found asks)))
        test (Some body) at = record {
          number = n;
          body = body;
          found = found;
          numbered = at;
          is = ap (λ (o : Option ℕ).
              unwrap_or (option_and_then (λ k. slice_get script.bodies k) o) []) found
              ∙ ap (λ (o : Option (List Statement)). unwrap_or o []) at;
        }
