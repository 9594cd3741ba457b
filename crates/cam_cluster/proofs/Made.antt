-- What inputs make that are put one after another, where actions work at bodies.
use Rattle.std.proofs.Common.{◌≡◌, ℕ, ◌+◌, Bool, false, List, [], ◌∷◌, ◌++◌, length, sym}
use Rattle.std.proofs.Common.{subst, arith}
use Rattle.std.proofs.lemmas.List.{append-nil}
use Rattle.cam_node.specs.Log.{Logged}
use Rattle.cam_runs.specs.Halts.{Halting, accepted, given}
use Rattle.cam_runs.specs.Standing.{Standing}
use Rattle.cam_script.specs.declared.Script.{Script}
use Rattle.cam_script.specs.declared.Statement.{Statement}
use Rattle.cam_script.specs.Law.{IsScript}
use Rattle.cam_histories.specs.InputLaws.{held_setting}
use Rattle.cam_cluster.specs.declared.works.Put.{Put}
use Rattle.cam_cluster.specs.declared.workers.Workers.{Workers}
use Rattle.cam_cluster.specs.Between.{halts_from}
use Rattle.cam_cluster.specs.Goes.{KeepsWorkersAsBefore}
use Rattle.cam_cluster.specs.Making.{AreSaidFrom, HaveBeenPut, HaveMade, KeepsAtWork, Making}
use Rattle.cam_cluster.specs.Puts.{KeepsAsBefore}
use Rattle.cam_cluster.specs.Works.{WorksFields}
use Rattle.cam_cluster.proofs.Counts.{counted_on, none_counted}
use Rattle.cam_cluster.proofs.EndsSaid.{given_said}

-- what is said of the first of these inputs, and of the others
pub said_parts : (halts : Halting) (k : ℕ) (ends more : List Put)
    → AreSaidFrom halts k (ends ++ more)
    → AreSaidFrom halts k ends × AreSaidFrom halts (k + length ends) more
said_parts halts k [] more said = (tt, rw (← (let e : k ≡ k + 0 = omega arith in e)) said)
said_parts halts k (end ∷ ends) more said =
    let rest = said_parts halts (k + 1) ends more said.1 in
    let place : k + 1 + length ends ≡ k + length (end ∷ ends) = omega arith in
    ((said.0, rest.0), rw (← place) rest.1)

-- No input was put.
pub none_made : (line : ℕ) (bodies : List (List Statement)) (works : WorksFields)
    (may : ℕ → Logged → Type 0) (workers : Workers)
    → HaveMade (λ c bs st. st) line bodies works may workers works may workers
none_made line bodies works may workers = record {
  ends = [];
  made = λ script st halts restarted is bodies_are keeps said. record {
    counted = none_counted _;
    keeps = keeps;
  };
}

-- Some were put, and others after them.
abbrev pub made_on : (one other : Making) (line : ℕ) (bodies : List (List Statement))
    (old mid new : WorksFields) (might mays may : ℕ → Logged → Type 0)
    (before during after : Workers)
    → HaveMade one line bodies old might before mid mays during
    → HaveMade other line bodies mid mays during new may after
    → HaveMade (λ c bs st. other c bs (one c bs st)) line bodies old might before new may after
made_on one other line bodies old mid new might mays may before during after first second = record {
  ends = first.ends ++ second.ends;
  made = λ script st halts restarted is bodies_are keeps said.
      let c = held_setting script.objects halts line restarted in
      let parts = said_parts _ _ _ _ said in
      let so = first.made script st halts restarted is bodies_are keeps parts.0 in
      let at = one c script.bodies st in
      let behind =
      second.made script at halts restarted is bodies_are so.keeps (rw so.counted.inputs parts.1) in
      record {
        counted = counted_on _ _ _ _ _ so.counted behind.counted;
        keeps = behind.keeps;
      };
}

-- Then memory ran out, and what was kept is kept.
pub made_wanting : (making : Making) (line : ℕ) (bodies : List (List Statement))
    (old mid new : WorksFields) (might mays may : ℕ → Logged → Type 0)
    (before during after : Workers)
    → HaveMade making line bodies old might before mid mays during
    → KeepsAsBefore mid mays new may → KeepsWorkersAsBefore mid mays during after
    → HaveMade making line bodies old might before new may after
made_wanting making line bodies old mid new might mays may before during after some keep workers =
    record {
      ends = some.ends;
      made = λ script st halts restarted is bodies_are keeps said.
          let so = some.made script st halts restarted is bodies_are keeps said in
          let at = making (held_setting script.objects halts line restarted) script.bodies st in
          record {
            counted = so.counted;
            keeps = record {
              runs = keep script at is so.keeps.runs;
              workers = workers script at so.keeps.runs so.keeps.workers;
            };
          };
    }

-- What makes the same of each run that was kept was made too.
abbrev pub made_as : (one other : Making) (line : ℕ) (bodies : List (List Statement))
    (old new : WorksFields) (might may : ℕ → Logged → Type 0) (before after : Workers)
    → ((script : Script) (halts : Halting) (restarted : ℕ → Bool) (st : Standing)
    → KeepsAtWork script st old might before
    → one (held_setting script.objects halts line restarted) script.bodies st
    ≡ other (held_setting script.objects halts line restarted) script.bodies st)
    → HaveMade one line bodies old might before new may after
    → HaveMade other line bodies old might before new may after
made_as one other line bodies old new might may before after same some = record {
  ends = some.ends;
  made = λ script st halts restarted is bodies_are keeps said. rw (← (same script halts restarted st
      keeps)) (some.made script st halts restarted is bodies_are keeps said);
}

-- The workers had caught up before.
pub made_caught_up : (making : Making) (line : ℕ) (bodies : List (List Statement))
    (old new : WorksFields) (might may : ℕ → Logged → Type 0) (before caught after : Workers)
    → KeepsWorkersAsBefore old might before caught
    → HaveMade making line bodies old might caught new may after
    → HaveMade making line bodies old might before new may after
made_caught_up making line bodies old new might may before caught after stay some = record {
  ends = some.ends;
  made = λ script st halts restarted is bodies_are keeps said.
      some.made script st halts restarted is bodies_are
      (record { runs = keeps.runs; workers = stay script st keeps.runs keeps.workers }) said;
}

-- What stands after inputs, of some way in which nodes halt.
pub record StandsBehind (making : Making) (line : ℕ) (script : Script) (st : Standing)
    (ends : List Put) (new : WorksFields) (may : ℕ → Logged → Type 0) (after : Workers) :
    Type 0 where
  pub halts : Halting
  pub put :
      HaveBeenPut script st
      (making (held_setting script.objects halts line (λ s. false)) script.bodies st) ends new may
      after

-- So it is of each run that was kept, with the halts of their ends.
pub stands_behind : (making : Making) (line : ℕ) (bodies : List (List Statement))
    (old new : WorksFields) (might may : ℕ → Logged → Type 0) (before after : Workers)
    (some : HaveMade making line bodies old might before new may after) (script : Script)
    (st : Standing) → IsScript script → bodies ≡ script.bodies
    → KeepsAtWork script st old might before
    → StandsBehind making line script st some.ends new may after
stands_behind making line bodies old new might may before after some script st is bodies_are keeps =
    let halts = halts_from (accepted st.turns) some.ends in
    record {
      halts = given halts;
      put =
          some.made script st (given halts) (λ s. false) is bodies_are keeps (given_said _ _ _ _
          (sym (append-nil halts)) tt);
    }
