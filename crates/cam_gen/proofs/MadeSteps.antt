-- Each step of a script that is made is read: its line is plain and short, and behind it stands one
-- step more.
use Rattle.std.proofs.Common.{◌≡◌, ℕ, ◌+◌, ◌<◌, le-ltb, List, [], ◌∷◌, ◌++◌, Result, Ok, codes, decimal, refl, arith}
use Rattle.std.specs.Prelude.{pos}
use Rattle.cam_base.specs.Lines.{words}
use Rattle.cam_words.specs.declared.fault.ScriptFault.{ScriptFault}
use Rattle.cam_script.specs.declared.Act.{Act}
use Rattle.cam_script.specs.declared.Act.TheVariants as acts
use Rattle.cam_script.specs.declared.Form.TheVariants as forms
use Rattle.cam_script.specs.declared.Step.{Step}
use Rattle.cam_script.specs.Operations.{as_op}
use Rattle.cam_script.specs.SoFar.{SoFar, Variable}
use Rattle.cam_script.specs.Steps.{abort_line, call_line, commit_line, drain_line, restart_line}
use Rattle.cam_gen.specs.Script.{object_word, op_words, variable}
use Rattle.cam_gen.proofs.PlainWords.{IsPlain, end_is, reads_first, reads_next, words_are, words_shown}
use Rattle.cam_gen.proofs.ReadWords.{declared_read, node_read, value_read, variable_read}
use Rattle.cam_gen.proofs.Numerals.{node_is, short_node, short_variable}
use Rattle.cam_gen.proofs.MadeLines.{Goes, Has, found, labels, line_is, made, stands}
use Rattle.cam_gen.proofs.MadeText.{IsLine, line_few, one_short}
use Rattle.cam_gen.proofs.MadeCalls.{object_is, operation_is}

module _ (steps : List Step) (vs : List Variable) (k spent number : ℕ) (has : Has vs k)
    (small : k < 512) (room : spent < 512) where
  -- a step that binds no variable
  act_goes : (act : Act) (read : Result SoFar ScriptFault) → read
      ≡ Ok (made (steps ++ record { line = number; act = act } ∷ []) vs (spent + 1))
      → Goes read k (spent + 1)
  act_goes act read is = record {
    steps = steps ++ record { line = number; act = act } ∷ [];
    variables = vs;
    is = is;
    has = has;
  }

  pub drain_is : IsLine steps vs spent number (words (codes "drain" ∷ []) ++ 10 ∷ []) k
  unfolding drain_line
  drain_is =
      let line = words (codes "drain" ∷ []) in
      let r = reads_first line (codes "drain") [] (record { shown = refl; some = omega arith })
      (words_are (codes "drain") []) in
      record {
        line = line;
        is = refl;
        shown = refl;
        few = omega arith;
        goes =
            act_goes acts.Drain _
            (line_is (made steps vs spent) _ number line (codes "drain") [] forms.Drain r
            refl refl refl
            (stands steps forms.Drain refl) (le-ltb 512 (spent + 1) (omega (arith, room)))
            (rw (end_is line r.word.end number r.behind) refl));
      }

  pub restart_is : (node : ℕ) → node < 3 → IsLine steps vs spent number
      (words (codes "restart" ∷ decimal (node + 1) ∷ []) ++ 10 ∷ []) k
  unfolding restart_line
  restart_is node there =
      let w = decimal (node + 1) in
      let short = short_node node there in
      let line = words (codes "restart" ∷ w ∷ []) in
      let plain : IsPlain (codes "restart") = record { shown = refl; some = omega arith } in
      let r = reads_first line (codes "restart") (w ∷ []) plain
      (words_are (codes "restart") (w ∷ [])) in
      let s = reads_next line w [] r.word.end short.plain r.behind in
      record {
        line = line;
        is = refl;
        shown = words_shown (codes "restart") (w ∷ []) plain (short.plain, tt);
        few = line_few (codes "restart") (w ∷ []) (omega (arith, one_short w [], short.few));
        goes =
            act_goes (acts.Restart (node + 1)) _
            (line_is (made steps vs spent) _ number line (codes "restart") (w ∷ []) forms.Restart r
            (words_shown (codes "restart") (w ∷ []) plain (short.plain, tt)) refl
            refl (stands steps forms.Restart refl) (le-ltb 512 (spent + 1) (omega (arith, room)))
            (rw (
              node_read line w [] r.word.end number s (node + 1) (node_is node there)
                  (omega arith) (omega (arith, there)),
              end_is line s.word.end number s.behind,
            ) refl));
      }

  pub abort_is : (x : ℕ) → x < k
      → IsLine steps vs spent number (words (codes "abort" ∷ variable x ∷ []) ++ 10 ∷ []) k
  unfolding abort_line
  abort_is x below =
      let w = variable x in
      let short = short_variable x (omega (arith, below, small)) in
      let v = found vs k x has below small in
      let line = words (codes "abort" ∷ w ∷ []) in
      let plain : IsPlain (codes "abort") = record { shown = refl; some = omega arith } in
      let shown = words_shown (codes "abort") (w ∷ []) plain (short.plain, tt) in
      let r = reads_first line (codes "abort") (w ∷ []) plain
      (words_are (codes "abort") (w ∷ [])) in
      let s = reads_next line w [] r.word.end short.plain r.behind in
      record {
        line = line;
        is = refl;
        shown = shown;
        few = line_few (codes "abort") (w ∷ []) (omega (arith, one_short w [], short.few));
        goes =
            act_goes (acts.Abort v.v.step) _
            (line_is (made steps vs spent) _ number line (codes "abort") (w ∷ []) forms.Abort r
            shown refl refl
            (stands steps forms.Abort refl) (le-ltb 512 (spent + 1) (omega (arith, room)))
            (rw (
              variable_read line w [] r.word.end number s vs v.v v.is v.usable,
              end_is line s.word.end number s.behind,
            ) refl));
      }

  pub commit_is : (x : ℕ) → x < k → IsLine steps vs spent number
      (words (codes "commit" ∷ variable x ∷ codes "0" ∷ []) ++ 10 ∷ []) k
  unfolding commit_line
  commit_is x below =
      let w = variable x in
      let short = short_variable x (omega (arith, below, small)) in
      let v = found vs k x has below small in
      let rest : List (List ℕ) = w ∷ codes "0" ∷ [] in
      let line = words (codes "commit" ∷ rest) in
      let plain : IsPlain (codes "commit") = record { shown = refl; some = omega arith } in
      let nought : IsPlain (codes "0") = record { shown = refl; some = omega arith } in
      let shown = words_shown (codes "commit") rest plain (short.plain, (nought, tt)) in
      let r = reads_first line (codes "commit") rest plain (words_are (codes "commit") rest) in
      let s = reads_next line w (codes "0" ∷ []) r.word.end short.plain r.behind in
      let t = reads_next line (codes "0") [] s.word.end nought s.behind in
      record {
        line = line;
        is = refl;
        shown = shown;
        few = line_few (codes "commit") rest
            (omega (arith, one_short w (codes "0" ∷ []), short.few));
        goes =
            act_goes (acts.Commit v.v.step (pos 0)) _
            (line_is (made steps vs spent) _ number line (codes "commit") rest forms.Commit r
            shown refl refl
            (stands steps forms.Commit refl) (le-ltb 512 (spent + 1) (omega (arith, room)))
            (rw (
              variable_read line w (codes "0" ∷ []) r.word.end number s vs v.v v.is v.usable,
              value_read line (codes "0") [] s.word.end number t (pos 0) refl,
              end_is line t.word.end number t.behind,
            ) refl));
      }

  pub call_is : (x object op value : ℕ) → x < k → object < 4 → op < 3 → value < 100
      → IsLine steps vs spent number
      (words (codes "call" ∷ variable x ∷ object_word object ∷ op_words object op value)
      ++ 10 ∷ []) k
  unfolding call_line
  call_is x object op value below an_object an_op a_value =
      let w = variable x in
      let short = short_variable x (omega (arith, below, small)) in
      let v = found vs k x has below small in
      let o = object_is object an_object in
      let p = operation_is object op value an_object an_op a_value in
      let ws = op_words object op value in
      let rest : List (List ℕ) = w ∷ object_word object ∷ ws in
      let line = words (codes "call" ∷ rest) in
      let plain : IsPlain (codes "call") = record { shown = refl; some = omega arith } in
      let shown = words_shown (codes "call") rest plain (short.plain, (o.plain, p.plain)) in
      let r = reads_first line (codes "call") rest plain (words_are (codes "call") rest) in
      let s = reads_next line w (object_word object ∷ ws) r.word.end short.plain r.behind in
      let t = reads_next line (object_word object) ws s.word.end o.plain s.behind in
      let u = p.reads line t.word.end number t.behind in
      record {
        line = line;
        is = refl;
        shown = shown;
        few = line_few (codes "call") rest
            (omega (
              arith,
              one_short w (object_word object ∷ ws),
              one_short (object_word object) ws,
              short.few,
              o.few,
              p.few,
            ));
        goes =
            act_goes (acts.Call v.v.step object (as_op u.op)) _
            (line_is (made steps vs spent) _ number line (codes "call") rest forms.Call r
            shown refl refl
            (stands steps forms.Call refl) (le-ltb 512 (spent + 1) (omega (arith, room)))
            (rw (
              variable_read line w (object_word object ∷ ws) r.word.end number s vs v.v
                  v.is v.usable,
              declared_read line (object_word object) ws s.word.end number t labels object o.place,
              u.is,
              end_is line u.end number u.behind,
            ) refl));
      }
