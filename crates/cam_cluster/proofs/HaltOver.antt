-- The halt of a node is over once the node has had another input.
use Rattle.std.proofs.Common.{◌≡◌, ℕ, ◌<◌, Bool, true, if◌then◌else◌, List, [], ◌∷◌, Some, refl, ap}
use Rattle.std.proofs.Common.{◌∙◌, arith}
use Rattle.std.proofs.lemmas.Bool.{eq-eqb}
use Rattle.cam_event.specs.Inputs.{Restarts}
use Rattle.cam_event.specs.Readings.{by_pasts}
use Rattle.cam_script.specs.declared.Script.{Script}
use Rattle.cam_script.specs.declared.Step.{Step}
use Rattle.cam_runs.specs.Halts.{Turn, Input, Restart, accepted, Halting, appends}
use Rattle.cam_runs.specs.Standing.{Standing, Setting, ended_halt}
use Rattle.cam_runs.specs.HaltedLines.{act, after_line, setting, is_restart_act}
use Rattle.cam_runs.proofs.HaltGrows.{Grows, after_turns}
use Rattle.cam_histories.specs.Found.{last_input, HasBeyond, after_step}
use Rattle.cam_cluster.specs.FoundHalts.{input_node}
use Rattle.cam_runs.proofs.LinesAdded.{restart_is}
use Rattle.cam_cluster.proofs.LastInputs.{last_node, node_stays, last_grows, accepted_more}

-- The node of the input has had another since: its halt is over.
pub record IsOver (k : ℕ) (lost : Standing) : Type 0 where
  pub node : ℕ
  pub at : input_node lost.turns k ≡ Some node
  pub accepts : k < accepted lost.turns
  pub number : ℕ
  pub last : last_input lost.turns node ≡ Some number
  pub later : k < number

-- over stays over
pub over_stays : (k : ℕ) (old new : Standing) → Grows old new → IsOver k old → IsOver k new
over_stays k old new grows over =
    let rest = last_grows grows.more old.turns over.node over.number over.last in
    record {
      node = over.node;
      at =
          ap (λ t. input_node t k) grows.is ∙ node_stays grows.more old.turns k over.accepts
          ∙ over.at;
      accepts =
          let low = accepted_more grows.more old.turns in
          let is = ap accepted grows.is in
          let was = over.accepts in
          omega (arith, low, is, was);
      number = rest.number;
      last = ap (λ t. last_input t over.node) grows.is ∙ rest.last;
      later = let low = rest.later in let was = over.later in omega (arith, low, was);
    }

-- what a restart of the node leaves
pub restart_over : (script : Script) (k : ℕ) (halts : Halting) (lost found : Standing) (step : Step)
    (later : List Step) → (b : HasBeyond script.objects k lost found)
    → is_restart_act b.node step.act ≡ true → IsOver k (after_step halts later script lost step)
restart_over script k halts lost found step later b is = record {
  node = s;
  at =
      ap (λ t. input_node t k) turns ∙ node_stays (newest ∷ Restart s ∷ []) lost.turns _
      b.beyond.passed ∙ last_node lost.turns _ _ b.beyond.last;
  accepts =
      let same = ap accepted turns in
      let passed = b.beyond.passed in
      omega (arith, same, passed);
  number = accepted lost.turns;
  last =
      ap (λ t. last_input t s) turns ∙ ap (λ c. if c then Some (accepted lost.turns) else last_input
      lost.turns s) (eq-eqb s s refl);
  later = b.beyond.passed;
}
  where
    s : ℕ
    s = b.node

    c : Setting
    c = setting (by_pasts script.objects) halts step later

    w : Bool
    w = appends (by_pasts script.objects) lost.running.trace (Restarts s)

    newest : Turn
    newest = Input s step.line w (c.restarted s)

    turns : (after_step halts later script lost step).turns ≡ newest ∷ Restart s ∷ lost.turns
    turns =
        ap (λ does. (after_line lost step.line (act c script.bodies lost does)).turns)
        (restart_is s step.act is)
        ∙ after_turns step.line (c.restarted s) (ended_halt lost s) s
        ((by_pasts script.objects).next lost.running.trace (Restarts s)) w
        (c.halts (Restart s ∷ lost.turns) s w (c.restarted s))
