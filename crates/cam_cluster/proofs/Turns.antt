-- The turn of an action in a round: its request where it may go on, and else nothing.
use Rattle.std.proofs.Common.{◌≡◌, ℕ, Bool, true, false, not, ◌&&◌, if◌then◌else◌, List, Option}
use Rattle.std.proofs.Common.{None, Result, Ok, Err, refl, sym, ap, ◌∙◌, subst}
use Rattle.std.specs.Prelude.{IfOk, OnErr, OnOk}
use Rattle.std.proofs.lemmas.Bool.{and_parts}
use Rattle.cam_names.specs.declared.name.Name.{Name}
use Rattle.cam_names.specs.Names.{home_node}
use Rattle.cam_event.specs.Readings.{by_knowledge}
use Rattle.cam_node.specs.Log.{Logged}
use Rattle.cam_runs.specs.Halts.{Halting}
use Rattle.cam_runs.specs.HaltedPlaying.{go, may_go_on}
use Rattle.cam_runs.specs.Playing.{may_go}
use Rattle.cam_runs.specs.Requests.{home_sight}
use Rattle.cam_runs.specs.Running.{has_number}
use Rattle.cam_runs.specs.Standing.{Standing}
use Rattle.cam_runs.proofs.Going.{may_parts}
use Rattle.cam_script.specs.declared.Script.{Script}
use Rattle.cam_script.specs.declared.Statement.{Statement}
use Rattle.cam_script.specs.Law.{IsScript}
use Rattle.cam_histories.specs.InputLaws.{held_setting}
use Rattle.cam_cluster.specs.declared.works.Put.{Put}
use Rattle.cam_cluster.specs.declared.workers.Workers.{Workers}
use Rattle.cam_cluster.specs.declared.works.round.Outlook.TheVariants as outlooks
use Rattle.cam_cluster.specs.Goes.{GoesOfSome, HasGone, KeepsWorkersAsBefore, MayGo, is_request}
use Rattle.cam_cluster.specs.Goes.{next_of}
use Rattle.cam_cluster.specs.Over.{is_over}
use Rattle.cam_cluster.specs.Rounds.{HasHadTurn, IsAtNodeOfSome, IsOutlook, IsTurnOfSome}
use Rattle.cam_cluster.specs.Rounds.{after_name}
use Rattle.cam_cluster.specs.VariableLines.{IsAtNode}
use Rattle.cam_cluster.specs.Workers.{AreWorkers, HaveCaughtUp}
use Rattle.cam_cluster.specs.Works.{KeepsRun, WorksFields}
use Rattle.cam_cluster.proofs.GoneOn.{CatchesUp}
use Rattle.cam_cluster.proofs.Over.{over_goes_not_on}

-- what is said of the outcome gives the other
pub on_err_gives : {T E : Type 0} (result : Result T E) (P Q : Type 0) → (P → Q) → OnErr result P
    → OnErr result Q
on_err_gives (Ok x) P Q gives said = tt
on_err_gives (Err e) P Q gives said = gives said

pub on_ok_gives : {T E : Type 0} (result : Result T E) (P Q : Type 0) → (P → Q) → OnOk result P
    → OnOk result Q
on_ok_gives (Ok x) P Q gives said = gives said
on_ok_gives (Err e) P Q gives said = tt

pub if_ok_gives : {T E : Type 0} (result : Result T E) (P Q : T → Type 0) → ((x : T) → P x → Q x)
    → IfOk result P → IfOk result Q
if_ok_gives (Ok x) P Q gives said = gives x said
if_ok_gives (Err e) P Q gives said = tt

is_false : (b : Bool) → not b ≡ true → b ≡ false
is_false true h = cc
is_false false h = refl

-- an action that may go on in a round may go
may_of : (script : Script) (st : Standing) (halts : Halting) (line : ℕ) (restarted : ℕ → Bool)
    (a : Name) → IsAtNode script.nodes a
    → may_go_on (held_setting script.objects halts line restarted) st a ≡ true
    → MayGo script st a
may_of script st halts line restarted a placed told =
    let parts = and_parts (may_go (home_sight (by_knowledge script.objects) st.running a) st.running
    a) (not (has_number st.halted (home_node a))) told in
    let goes = may_parts (home_sight (by_knowledge script.objects) st.running a) st.running a
    parts.0 in
    record {
      low = placed.0;
      high = placed.1;
      awake = is_false _ parts.1;
      running = goes.0;
      is_open = goes.1;
    }

module _ (line : ℕ) (a : Name) (bodies : List (List Statement)) (old : WorksFields)
    (might : ℕ → Logged → Type 0) (before caught : Workers)
    (some : IsTurnOfSome a bodies old might before)
    (caught_up : CatchesUp old.events before caught) where
  pub at_node : IsAtNodeOfSome a old might
  at_node = record {
    script = some.script;
    standing = some.standing;
    is_script = some.is_script;
    keeps = some.keeps;
    placed = some.placed;
  }

  -- the home is a node of each such script
  placed_in : (script : Script) (st : Standing) → KeepsRun script st old might
      → IsAtNode script.nodes a
  placed_in script st keeps =
      subst (λ (n : ℕ). IsAtNode n a) (sym some.keeps.one_each ∙ keeps.one_each) some.placed

  pub turn_goes : IsOutlook a old might caught outlooks.GoesOn
      → GoesOfSome a bodies old might caught
  turn_goes told =
      let up = caught_up some.standing some.keeps.events some.are_workers in
      record {
        script = some.script;
        standing = some.standing;
        is_script = some.is_script;
        bodies_are = some.bodies_are;
        keeps = some.keeps;
        are_workers = up.0;
        may =
            may_of _ _ (λ turns s appends restarted. None) line (λ s. false) _ some.placed (told
            some.script some.standing (λ turns s appends restarted. None) line (λ s. false)
            some.is_script some.keeps up.1);
      }

  -- It does not go on, and the workers still are those of the run.
  no_turn_had : (after : Workers)
      → ((script : Script) (st : Standing) (halts : Halting) (restarted : ℕ → Bool)
      → IsScript script → KeepsRun script st old might → AreWorkers st caught
      → HaveCaughtUp st caught
      → (may_go_on (held_setting script.objects halts line restarted) st a ≡ false)
      × AreWorkers st after)
      → HasHadTurn line a bodies old might before None old might after
  no_turn_had after rests script st halts restarted is bodies_are keeps are =
      let c = held_setting script.objects halts line restarted in
      let up = caught_up st keeps.events are in
      let so = rests script st halts restarted is keeps up.0 up.1 in
      let stays : st ≡ after_name c script.bodies st a =
      sym (ap (λ (b : Bool). if b then go c script.bodies st a else st) so.0) in
      record {
        made = sym (ap (λ (b : Bool). b && is_request (next_of script.bodies st a)) so.0);
        runs = λ said. rw (← stays) keeps;
        workers = λ said. rw (← stays) so.1;
      }

  pub turn_waits : IsOutlook a old might caught outlooks.Waits
      → HasHadTurn line a bodies old might before None old might caught
  turn_waits told =
      no_turn_had caught (λ script st halts restarted is keeps are up.
      (told script st halts line restarted is keeps up, are))

  pub turn_over : (after : Workers) → IsOutlook a old might caught outlooks.Over
      → ((st : Standing) → AreWorkers st caught → is_over st.running.trace a ≡ true
      → AreWorkers st after)
      → HasHadTurn line a bodies old might before None old might after
  turn_over after told passes =
      no_turn_had after (λ script st halts restarted is keeps are up.
      let over = told script st halts line restarted is keeps up in
      (over_goes_not_on script.objects halts line restarted st a over, passes st are over))

  pub turn_gone : (end : Option Put) (new : WorksFields) (may : ℕ → Logged → Type 0)
      (behind : Workers) → IsOutlook a old might caught outlooks.GoesOn
      → HasGone line a bodies old might caught end new may behind
      → HasHadTurn line a bodies old might before end new may behind
  turn_gone end new may behind told has script st halts restarted is bodies_are keeps are =
      let c = held_setting script.objects halts line restarted in
      let up = caught_up st keeps.events are in
      let goes_on = told script st halts line restarted is keeps up.1 in
      let goes = sym goes_on in
      let so = has script st halts restarted is bodies_are keeps up.0 (may_of _ _ halts line
      restarted _ (placed_in script st keeps) goes_on) in
      record {
        made = so.made ∙ ap (λ (b : Bool). b && is_request (next_of script.bodies st a)) goes;
        runs = λ said. rw (← (ap (λ (b : Bool). if b then go c script.bodies st a else st) goes)) (so.runs said);
        workers = λ said. rw (← (ap (λ (b : Bool). if b then go c script.bodies st a else st) goes)) (so.workers said);
      }

  pub workers_before : (behind : Workers) → KeepsWorkersAsBefore old might caught behind
      → KeepsWorkersAsBefore old might before behind
  workers_before behind has script st keeps are =
      has script st keeps (caught_up st keeps.events are).0
