-- The turns of the actions of a round, one after another.
use Rattle.std.proofs.Common.{◌≡◌, ℕ, zero, suc, true, false, ◌&&◌, if◌then◌else◌, List, [], ◌∷◌}
use Rattle.std.proofs.Common.{◌++◌, Option, Some, None, Bool, refl, sym, subst, is_some}
use Rattle.std.proofs.Common.{true≢false}
use Rattle.std.specs.Prelude.{slice_get}
use Rattle.std.specs.List.{AllByRecursion}
use Rattle.std.proofs.lemmas.Option.{same_Some}
use Rattle.cam_names.specs.declared.name.Name.{Name}
use Rattle.cam_names.specs.Names.{home_node}
use Rattle.cam_body.specs.declared.Next.{Next}
use Rattle.cam_body.specs.declared.Next.TheVariants as nexts
use Rattle.cam_body.specs.Work.{child_body}
use Rattle.cam_event.specs.Inputs.{Input, Requests}
use Rattle.cam_event.specs.Pasts.{plain_all}
use Rattle.cam_event.specs.Views.{view}
use Rattle.cam_node.specs.Log.{Logged}
use Rattle.cam_runs.specs.Halts.{accepted, appends}
use Rattle.cam_runs.specs.HaltedPlaying.{go, go_in_round, make_request, may_go_on}
use Rattle.cam_runs.specs.Playing.{body_of}
use Rattle.cam_runs.specs.Requests.{asked_in}
use Rattle.cam_runs.specs.Standing.{Setting, Standing, made as made_by, put}
use Rattle.cam_script.specs.declared.Statement.{Statement}
use Rattle.cam_histories.specs.InputLaws.{held_setting}
use Rattle.cam_cluster.specs.declared.works.Put.{Put}
use Rattle.cam_cluster.specs.declared.workers.Workers.{Workers}
use Rattle.cam_cluster.specs.Goes.{IsSaidOf, KeepsWorkersAsBefore, is_request, next_of}
use Rattle.cam_cluster.specs.Making.{AreCounted, AreSaidFrom}
use Rattle.cam_cluster.specs.Puts.{KeepsAsBefore}
use Rattle.cam_cluster.specs.Rounds.{AreTurnsOfSome, HasHadTurn, HaveHadTurns}
use Rattle.cam_cluster.specs.Rounds.{IsTurnOfSome, after_name, makes_one, turns_of}
use Rattle.cam_cluster.specs.VariableLines.{IsAtNode}
use Rattle.cam_cluster.specs.Works.{WorksFields}
use Rattle.cam_cluster.proofs.Counts.{given_counted, none_counted, put_counted}
use Rattle.cam_cluster.proofs.Made.{made_as, made_on, made_wanting, none_made}
use Rattle.cam_cluster.proofs.Made.{stands_behind}

-- the ends of a turn: of its request, where it made one
abbrev ends_of : Option Put → List Put
ends_of None = []
ends_of (Some done) = done ∷ []

-- The turn of an action is counted.
module _ (c : Setting) (bodies : List (List Statement)) (st : Standing) (a : Name) where
  made_counted : (child : Option ℕ) (n : Next) (end : Option Put) → is_some end ≡ is_request n
      → IsSaidOf c st a n end → AreCounted st (make_request c st a child n) (ends_of end)
  made_counted child (nexts.Request want) (Some done) made said =
      let request : Input = Requests (record { action = a; want = want }) in
      given_counted st (put c st request) (done ∷ []) child (asked_in (made_by st (put c st
      request))) (put_counted c _ request _ said)
  made_counted child (nexts.Request want) None made said = absurd (true≢false (sym made))
  made_counted child nexts.Wait None made said = none_counted _
  made_counted child nexts.Wait (Some done) made said = absurd (true≢false made)
  made_counted child nexts.Over None made said = none_counted _
  made_counted child nexts.Over (Some done) made said = absurd (true≢false made)

  turn_counted : (end : Option Put) → is_some end ≡ makes_one c bodies st a
      → IsSaidOf c st a (next_of bodies st a) end
      → AreCounted st (after_name c bodies st a) (ends_of end)
  turn_counted end made said = by (may_go_on c st a) end made said
    where
      by : (b : Bool) (o : Option Put) → is_some o ≡ (b && is_request (next_of bodies st a))
          → IsSaidOf c st a (next_of bodies st a) o
          → AreCounted st (if b then go c bodies st a else st) (ends_of o)
      by true o made_so said_so =
          made_counted (child_body (body_of bodies st.running a) (view (plain_all st.running.trace)
          a)) (next_of bodies st a) o made_so said_so
      by false None made_so said_so = none_counted _
      by false (Some done) made_so said_so = absurd (true≢false made_so)

  -- What is said of the next input is said of its request.
  said_of_turn : (n : Next) (end : Option Put)
      → AreSaidFrom c.halts (accepted st.turns) (ends_of end) → IsSaidOf c st a n end
  said_of_turn (nexts.Request want) (Some done) said =
      said.0 st.turns (home_node a)
      (appends c.reading st.running.trace (Requests (record { action = a; want = want })))
      (c.restarted (home_node a)) refl
  said_of_turn (nexts.Request want) None said = tt
  said_of_turn nexts.Wait end said = tt
  said_of_turn nexts.Over end said = tt

-- One action had its turn;
one_turn : (line : ℕ) (a : Name) (bodies : List (List Statement)) (old new : WorksFields)
    (might may : ℕ → Logged → Type 0) (before after : Workers) (end : Option Put)
    → HasHadTurn line a bodies old might before end new may after
    → HaveHadTurns line (a ∷ []) bodies old might before new may after
one_turn line a bodies old new might may before after end has = record {
  ends = ends_of end;
  made = λ script st halts restarted is bodies_are keeps said.
      let c = held_setting script.objects halts line restarted in
      let turn = has script st halts restarted is bodies_are keeps.runs keeps.workers in
      let said_so = said_of_turn c script.bodies st a (next_of script.bodies st a) end said in
      record {
        counted = turn_counted c script.bodies st a end turn.made said_so;
        keeps = record { runs = turn.runs said_so; workers = turn.workers said_so };
      };
}

-- after others it is one turn more
one_more : (c : Setting) (bodies : List (List Statement)) (a : Name) (names : List Name)
    (st : Standing)
    → go_in_round c bodies (a ∷ []) (go_in_round c bodies names st)
    ≡ go_in_round c bodies (names ++ a ∷ []) st
one_more c bodies a [] st = refl
one_more c bodies a (b ∷ names) st = one_more c bodies a names (after_name c bodies st b)

-- no action had its turn so far,
pub no_turn : (line : ℕ) (bodies : List (List Statement)) (works : WorksFields)
    (may : ℕ → Logged → Type 0) (workers : Workers)
    → HaveHadTurns line [] bodies works may workers works may workers
no_turn line bodies works may workers = none_made _ _ _ _ _

module _ (line : ℕ) (names : List Name) (bodies : List (List Statement))
    (old mid new : WorksFields) (might mays may : ℕ → Logged → Type 0)
    (before during after : Workers)
    (some : HaveHadTurns line names bodies old might before mid mays during) where
  -- and one more had it.
  pub next_turn : (a : Name) (end : Option Put)
      → HasHadTurn line a bodies mid mays during end new may after
      → HaveHadTurns line (names ++ a ∷ []) bodies old might before new may after
  next_turn a end has =
      made_as (λ c bs st. go_in_round c bs (a ∷ []) (go_in_round c bs names st)) (turns_of (names ++
      a ∷ [])) line bodies old new might may before after (λ script halts restarted st keeps.
      one_more (held_setting script.objects halts line restarted) script.bodies a names st) (made_on
      (turns_of names) (turns_of (a ∷ [])) line bodies old mid new might mays may before during
      after some (one_turn _ _ _ _ _ _ _ _ _ _ has))

  -- Then memory ran out.
  pub turns_wanting : KeepsAsBefore mid mays new may → KeepsWorkersAsBefore mid mays during after
      → HaveHadTurns line names bodies old might before new may after
  turns_wanting keep workers_keep =
      made_wanting _ _ _ _ _ _ _ _ _ _ _ _ some keep workers_keep

-- what holds of all holds of each
holds_at : (P : Name → Type 0) (xs : List Name) (k : ℕ) (a : Name) → AllByRecursion P xs
    → slice_get xs k ≡ Some a → P a
holds_at P [] k a all at = let gone : ◌≡◌ {A = Option Name} None (Some a) = at in cc
holds_at P (x ∷ xs) zero a all at = subst P (same_Some x a at) all.0
holds_at P (x ∷ xs) (suc k) a all at = holds_at P xs k a all.1 at

module _ (names : List Name) (line : ℕ) (a : Name) (bodies : List (List Statement))
    (old new : WorksFields) (might may : ℕ → Logged → Type 0) (before after : Workers)
    (some : AreTurnsOfSome names bodies old might before) where
  pub turn_of_some : (i : ℕ) → slice_get names i ≡ Some a → IsTurnOfSome a bodies old might before
  turn_of_some i at = record {
    script = some.script;
    standing = some.standing;
    is_script = some.is_script;
    bodies_are = some.bodies_are;
    keeps = some.keeps;
    are_workers = some.are_workers;
    placed = holds_at (IsAtNode some.script.nodes) _ _ _ some.placed at;
  }

  -- Some run is kept after a turn.
  pub some_turn_behind : (end : Option Put)
      → HasHadTurn line a bodies old might before end new may after
      → AreTurnsOfSome names bodies new may after
  some_turn_behind end has =
      let one = one_turn _ _ _ _ _ _ _ _ _ _ has in
      let behind =
      stands_behind (turns_of (a ∷ [])) line _ _ _ _ _ _ _ one _ _ some.is_script
      some.bodies_are (record { runs = some.keeps; workers = some.are_workers }) in
      record {
        script = some.script;
        standing =
            after_name (held_setting some.script.objects behind.halts line (λ s. false))
            some.script.bodies some.standing a;
        is_script = some.is_script;
        bodies_are = some.bodies_are;
        keeps = behind.put.keeps.runs;
        are_workers = behind.put.keeps.workers;
        placed = some.placed;
      }
