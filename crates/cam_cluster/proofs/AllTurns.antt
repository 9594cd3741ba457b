-- The turns of all actions with a body, in order of their names.
use Rattle.std.proofs.Common.{◌≡◌, ℕ, Bool, List, take, sym, ap, ◌∙◌, subst}
use Rattle.std.specs.Prelude.{filter}
use Rattle.std.specs.BTreeMap.{keys}
use Rattle.std.specs.List.{AllByRecursion}
use Rattle.cam_names.specs.declared.name.Name.{Name}
use Rattle.cam_node.specs.Log.{Logged}
use Rattle.cam_runs.specs.Halts.{Halting}
use Rattle.cam_runs.specs.HaltedPlaying.{go_in_round}
use Rattle.cam_runs.specs.Playing.{in_order}
use Rattle.cam_runs.specs.Standing.{Standing}
use Rattle.cam_script.specs.declared.Script.{Script}
use Rattle.cam_script.specs.declared.Statement.{Statement}
use Rattle.cam_histories.specs.InputLaws.{held_setting}
use Rattle.cam_cluster.specs.declared.workers.Workers.{Workers}
use Rattle.cam_cluster.specs.Goes.{KeepsWorkersAsBefore}
use Rattle.cam_cluster.specs.Making.{HaveMade, KeepsAtWork}
use Rattle.cam_cluster.specs.Plays.{HasPlayedSome, IsPlayOfSome, all_turns, round_part}
use Rattle.cam_cluster.specs.Rounds.{AreTurnsOfSome, HaveHadSomeTurns, HaveHadTurns, turns_of}
use Rattle.cam_cluster.specs.VariableLines.{IsAtNode}
use Rattle.cam_cluster.specs.Workers.{HaveCaughtUp, plays_on}
use Rattle.cam_cluster.specs.Works.{WorksFields}
use Rattle.cam_cluster.proofs.GoneOn.{CatchesUp}
use Rattle.cam_cluster.proofs.Made.{made_as, made_caught_up, none_made}
use Rattle.cam_cluster.proofs.PassedOver.{rounds_pass_over}
use Rattle.cam_cluster.proofs.PlayPlaced.{in_order_placed}
use Rattle.cam_cluster.proofs.PlayingNames.{kept_all, reach, reached}

-- Memory ran out before the first turn.
pub no_turns : (line : ℕ) (bodies : List (List Statement)) (works : WorksFields)
    (may : ℕ → Logged → Type 0) (before after : Workers)
    → KeepsWorkersAsBefore works may before after
    → HasPlayedSome line bodies works may before works may after
no_turns line bodies works may before after stay = record {
  requests = 0;
  number = 0;
  made = made_caught_up _ _ _ _ _ _ _ _ _ _ stay (none_made _ _ _ _ _);
}

-- The turns of all actions, by their names as the workers that have caught up give them.
module _ (line : ℕ) (bodies : List (List Statement)) (old : WorksFields)
    (might : ℕ → Logged → Type 0) (before caught : Workers)
    (caught_up : CatchesUp old.events before caught) where
  stay : KeepsWorkersAsBefore old might before caught
  stay script st keeps are = (caught_up st keeps.events are).0

  module _ (names : List Name)
      (are_names : (st : Standing) → HaveCaughtUp st caught
      → names ≡ filter (plays_on caught) (in_order st.running.bodies))
    where
      pub turns_of_all : IsPlayOfSome bodies old might before
          → AreTurnsOfSome names bodies old might caught
      turns_of_all some =
          let up = caught_up some.standing some.keeps.runs.events some.keeps.workers in
          record {
            script = some.script;
            standing = some.standing;
            is_script = some.is_script;
            bodies_are = some.bodies_are;
            keeps = some.keeps.runs;
            are_workers = up.0;
            placed =
                subst (AllByRecursion (IsAtNode some.script.nodes)) (sym (are_names some.standing
                up.1)) (kept_all (IsAtNode some.script.nodes) _ _ (in_order_placed _ _
                some.placed));
          }

      -- Those that do not play on are over, so the turns of all come to the same,
      same_turns : (script : Script) (halts : Halting) (restarted : ℕ → Bool) (st : Standing)
          → KeepsAtWork script st old might before
          → go_in_round (held_setting script.objects halts line restarted) script.bodies names st
          ≡ go_in_round (held_setting script.objects halts line restarted) script.bodies
          (in_order st.running.bodies) st
      same_turns script halts restarted st keeps =
          let c = held_setting script.objects halts line restarted in
          let up = (caught_up st keeps.runs.events keeps.workers).1 in
          ap (λ (ns : List Name). go_in_round c script.bodies ns st) (are_names st up)
          ∙ rounds_pass_over script.objects halts line restarted script.bodies st (plays_on caught)
          (in_order st.running.bodies) up.playing.others

      pub all_had : (new : WorksFields) (may : ℕ → Logged → Type 0) (after : Workers)
          → HaveHadTurns line names bodies old might caught new may after
          → HaveMade all_turns line bodies old might before new may after
      all_had new may after had =
          made_as (turns_of names) all_turns line bodies old new might may before after same_turns
          (made_caught_up _ _ _ _ _ _ _ _ _ _ stay had)

      -- and the first turns come to the first of all.
      abbrev first_of_all : ℕ → ℕ
      first_of_all many = reach (plays_on caught) (keys caught.bodies) many

      same_first : (many : ℕ) (script : Script) (halts : Halting) (restarted : ℕ → Bool)
          (st : Standing) → KeepsAtWork script st old might before
          → go_in_round (held_setting script.objects halts line restarted) script.bodies
          (take many names) st
          ≡ go_in_round (held_setting script.objects halts line restarted) script.bodies
          (take (first_of_all many) (in_order st.running.bodies)) st
      same_first many script halts restarted st keeps =
          let c = held_setting script.objects halts line restarted in
          let up = (caught_up st keeps.runs.events keeps.workers).1 in
          let all = in_order st.running.bodies in
          ap (λ (ns : List Name). go_in_round c script.bodies (take many ns) st) (are_names st up)
          ∙ ap (λ (ns : List Name). go_in_round c script.bodies ns st)
          (reached (plays_on caught) all many)
          ∙ rounds_pass_over script.objects halts line restarted script.bodies st (plays_on caught)
          (take (reach (plays_on caught) all many) all) up.playing.others
          ∙ ap (λ (ns : List Name). go_in_round c script.bodies
          (take (reach (plays_on caught) ns many) all) st) (sym up.table.names)

      pub some_had : (new : WorksFields) (may : ℕ → Logged → Type 0) (after : Workers)
          → HaveHadSomeTurns line names bodies old might caught new may after
          → HasPlayedSome line bodies old might before new may after
      some_had new may after had = record {
        requests = first_of_all had.many;
        number = 0;
        made =
            made_as (turns_of (take had.many names)) (round_part (first_of_all had.many) 0) line
            bodies old new might may before after (same_first had.many) (made_caught_up _ _ _ _
            _ _ _ _ _ _ stay had.first);
      }
