-- The rounds of a play, one after another, until the first without an input.
use Rattle.std.proofs.Common.{◌≡◌, ℕ, suc, ◌+◌, ◌-◌, ◌<◌, Bool, true, false, List, ◌++◌, length}
use Rattle.std.proofs.Common.{sym, ◌∙◌, subst, arith}
use Rattle.std.specs.Prelude.{nat_lt}
use Rattle.cam_node.specs.Log.{Logged}
use Rattle.cam_runs.specs.Halts.{Halting, accepted}
use Rattle.cam_runs.specs.HaltedPlaying.{play, round}
use Rattle.cam_runs.specs.Standing.{Standing}
use Rattle.cam_script.specs.declared.Script.{Script}
use Rattle.cam_script.specs.declared.Statement.{Statement}
use Rattle.cam_script.specs.Law.{IsScript}
use Rattle.cam_histories.specs.InputLaws.{held_setting}
use Rattle.cam_cluster.specs.declared.workers.Workers.{Workers}
use Rattle.cam_cluster.specs.Making.{AreSaidFrom, HaveBeenPut, HaveMade, KeepsAtWork, Making}
use Rattle.cam_cluster.specs.Plays.{HasPlayedPart, HasPlayedRound, HasPlayedSome, IsPlayOfSome}
use Rattle.cam_cluster.specs.Plays.{round_part, rounds_whole}
use Rattle.cam_cluster.specs.Works.{WorksFields}
use Rattle.cam_cluster.proofs.Made.{made_as, made_on, none_made, said_parts}
use Rattle.cam_cluster.proofs.Made.{stands_behind}
use Rattle.cam_cluster.proofs.PlayPlaced.{held_round_placed}
use Rattle.cam_cluster.proofs.RoundsOn.{EachPuts, each_more, ended_by, more_accepted, one_more}
use Rattle.cam_cluster.proofs.RoundsOn.{puts_one, rounds_on}

abbrev pub whole_rounds : ℕ → Making
whole_rounds n c bodies st = rounds_whole c bodies n st

-- So many rounds were played, in each of which an input was put.
pub record PlayedRounds (n : ℕ) (line : ℕ) (bodies : List (List Statement)) (old : WorksFields)
    (might : ℕ → Logged → Type 0) (before : Workers) (new : WorksFields)
    (may : ℕ → Logged → Type 0) (after : Workers) : Type 0 where
  pub made : HaveMade (whole_rounds n) line bodies old might before new may after
  pub each :
      (script : Script) (st : Standing) (halts : Halting) (restarted : ℕ → Bool)
      → IsScript script → bodies ≡ script.bodies → KeepsAtWork script st old might before
      → AreSaidFrom halts (accepted st.turns) made.ends
      → EachPuts (held_setting script.objects halts line restarted) script.bodies n st

-- No round was played so far,
pub no_round : (line : ℕ) (bodies : List (List Statement)) (works : WorksFields)
    (may : ℕ → Logged → Type 0) (workers : Workers)
    → PlayedRounds 0 line bodies works may workers works may workers
no_round line bodies works may workers = record {
  made = none_made _ _ _ _ _;
  each = λ script st halts restarted is bodies_are keeps said. tt;
}

module _ (n line : ℕ) (bodies : List (List Statement)) (old mid new : WorksFields)
    (might mays may : ℕ → Logged → Type 0) (before during after : Workers)
    (some : PlayedRounds n line bodies old might before mid mays during) where
  abbrev both : HaveMade round line bodies mid mays during new may after
      → HaveMade (λ c bs st. round c bs (rounds_whole c bs n st)) line bodies old might before new
      may after
  both one =
      made_on (whole_rounds n) round line bodies old mid new might mays may before during after
      some.made one

  -- what was put in the rounds, and whether an input was put in one more
  one_behind : (one : HaveMade round line bodies mid mays during new may after) (script : Script)
      (st : Standing) (halts : Halting) (restarted : ℕ → Bool) → IsScript script
      → bodies ≡ script.bodies → KeepsAtWork script st old might before
      → AreSaidFrom halts (accepted st.turns) (some.made.ends ++ one.ends)
      → (let c = held_setting script.objects halts line restarted in
      EachPuts c script.bodies n st
      × (puts_one c script.bodies (rounds_whole c script.bodies n st)
      ≡ nat_lt 0 (length one.ends)))
  one_behind one script st halts restarted is bodies_are keeps said =
      let c = held_setting script.objects halts line restarted in
      let parts = said_parts _ _ _ _ said in
      let so = some.made.made script st halts restarted is bodies_are keeps parts.0 in
      let at = rounds_whole c script.bodies n st in
      let behind =
      one.made script at halts restarted is bodies_are so.keeps (rw so.counted.inputs parts.1) in (
        some.each script st halts restarted is bodies_are keeps parts.0,
        more_accepted _ _
            _ behind.counted.inputs,
      )

  -- one more was,
  pub next_round : HasPlayedRound line bodies mid mays during true new may after
      → PlayedRounds (n + 1) line bodies old might before new may after
  next_round one =
      let next : suc n ≡ n + 1 = omega arith in
      rw (← next) (record {
        made =
            made_as (λ c bs st. round c bs (rounds_whole c bs n st)) (whole_rounds (suc n)) line
            bodies old new might may before after (λ script halts restarted st keeps. one_more
            (held_setting script.objects halts line restarted) script.bodies n st) (both one.made);
        each = λ script st halts restarted is bodies_are keeps said.
            let c = held_setting script.objects halts line restarted in
            let behind = one_behind one.made script st halts restarted is bodies_are keeps said in
            each_more c script.bodies _ st behind.0 (behind.1 ∙ sym one.whether);
      })

  -- and no input was put in it: the play is over.
  pub last_round : HasPlayedRound line bodies mid mays during false new may after → n < 514
      → HaveMade play line bodies old might before new may after
  last_round one few = record {
    ends = some.made.ends ++ one.made.ends;
    made = λ script st halts restarted is bodies_are keeps said.
        let c = held_setting script.objects halts line restarted in
        let behind = one_behind one.made script st halts restarted is bodies_are keeps said in
        let room : 514 ≡ n + suc (513 - n) = omega (arith, few) in
        subst (λ z. HaveBeenPut script st z (some.made.ends ++ one.made.ends) new may after)
        (ended_by c script.bodies _ _ _ st room behind.0 (behind.1 ∙ sym one.whether)) ((both
        one.made).made script st halts restarted is bodies_are keeps said);
  }

  -- Memory ran out in it.
  pub rounds_wanting : HasPlayedSome line bodies mid mays during new may after
      → HasPlayedPart line bodies old might before new may after
  rounds_wanting part = record {
    whole = n;
    requests = part.requests;
    number = part.number;
    made =
        made_on (whole_rounds n) (round_part part.requests part.number) line bodies old mid new
        might mays may before during after some.made part.made;
  }

-- As many rounds were played as a play has.
pub all_rounds : (n line : ℕ) (bodies : List (List Statement)) (old new : WorksFields)
    (might may : ℕ → Logged → Type 0) (before after : Workers)
    → PlayedRounds n line bodies old might before new may after → 514 ≡ n
    → HaveMade play line bodies old might before new may after
all_rounds n line bodies old new might may before after some all = record {
  ends = some.made.ends;
  made = λ script st halts restarted is bodies_are keeps said.
      let c = held_setting script.objects halts line restarted in
      let room : 514 ≡ n + 0 = omega (arith, all) in
      rw (rounds_on c script.bodies _ _ _ _ room (some.each script st halts restarted is
      bodies_are keeps said)) (some.made.made script st halts restarted is bodies_are keeps said);
}

-- After a round some run is kept whose actions with a body are at nodes of the script.
pub some_behind_round : (line : ℕ) (bodies : List (List Statement)) (old new : WorksFields)
    (might may : ℕ → Logged → Type 0) (before after : Workers)
    → IsPlayOfSome bodies old might before
    → HaveMade round line bodies old might before new may after
    → IsPlayOfSome bodies new may after
some_behind_round line bodies old new might may before after some one =
    let behind =
    stands_behind round line bodies old new might may before after one some.script some.standing
    some.is_script some.bodies_are some.keeps in
    let c = held_setting some.script.objects behind.halts line (λ s. false) in
    record {
      script = some.script;
      standing = round c some.script.bodies some.standing;
      is_script = some.is_script;
      bodies_are = some.bodies_are;
      keeps = behind.put.keeps;
      placed =
          held_round_placed some.script behind.halts line (λ s. false) some.standing some.is_script
          some.placed;
    }
