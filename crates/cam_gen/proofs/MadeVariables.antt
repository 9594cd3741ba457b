-- Each line that binds a variable is read: behind it stands one variable more.
use Rattle.std.proofs.Common.{◌≡◌, ℕ, ◌+◌, ◌<◌, le-ltb, List, [], ◌∷◌, ◌++◌, length, Result, Ok, codes, decimal, refl, ap, ◌∙◌, arith}
use Rattle.cam_base.specs.Lines.{words}
use Rattle.cam_words.specs.declared.fault.ScriptFault.{ScriptFault}
use Rattle.cam_words.specs.declared.word.Word.{Word}
use Rattle.cam_words.specs.Words.{◌>>=◌, text_of}
use Rattle.cam_script.specs.declared.Act.{Act}
use Rattle.cam_script.specs.declared.Act.TheVariants as acts
use Rattle.cam_script.specs.declared.Binding.{Binding}
use Rattle.cam_script.specs.declared.Binding.TheVariants as bindings
use Rattle.cam_script.specs.declared.Form.TheVariants as forms
use Rattle.cam_script.specs.declared.Step.{Step}
use Rattle.cam_script.specs.Grammar.{bound}
use Rattle.cam_script.specs.SoFar.{Variable, with_binding_step}
use Rattle.cam_script.specs.Steps.{ask_line, begin_line}
use Rattle.cam_gen.specs.Script.{variable}
use Rattle.cam_gen.proofs.PlainWords.{IsPlain, end_is, reads_first, reads_next, words_are, words_shown}
use Rattle.cam_gen.proofs.ReadWords.{new_name_read, node_read, variable_read}
use Rattle.cam_gen.proofs.Numerals.{named_variable, node_is, short_node, short_variable}
use Rattle.cam_gen.proofs.MadeLines.{Has, found, has_more, line_is, made, new, stands}
use Rattle.cam_gen.proofs.MadeText.{IsLine, line_few, one_short}

module _ (steps : List Step) (vs : List Variable) (k spent number : ℕ) (has : Has vs k)
    (small : k < 512) (room : spent < 512) where
  -- what such a line said, with the word of its variable
  bound_is : (act : Act) (binding : Binding) (line : List ℕ) (word : Word)
      (said : Result (Word × Act) ScriptFault) → said ≡ Ok (word, act)
      → text_of word line ≡ variable k → (said >>= bound (made steps vs spent) binding number line)
      ≡ Ok (with_binding_step (made steps vs spent) number (variable k) binding act)
  bound_is act binding line word said is text =
      ap (λ (r : Result (Word × Act) ScriptFault).
      r >>= bound (made steps vs spent) binding number line) is
      ∙ ap (λ (t : List ℕ). Ok (with_binding_step (made steps vs spent) number t binding act)) text

  pub begin_is : (node : ℕ) → node < 3 → IsLine steps vs spent number
      (words (codes "begin" ∷ variable k ∷ decimal (node + 1) ∷ []) ++ 10 ∷ []) (k + 1)
  unfolding begin_line
  begin_is node there =
      let w = variable k in
      let n = decimal (node + 1) in
      let short = short_variable k small in
      let one = short_node node there in
      let rest : List (List ℕ) = w ∷ n ∷ [] in
      let line = words (codes "begin" ∷ rest) in
      let plain : IsPlain (codes "begin") = record { shown = refl; some = omega arith } in
      let shown = words_shown (codes "begin") rest plain (short.plain, (one.plain, tt)) in
      let r = reads_first line (codes "begin") rest plain (words_are (codes "begin") rest) in
      let s = reads_next line w (n ∷ []) r.word.end short.plain r.behind in
      let t = reads_next line n [] s.word.end one.plain s.behind in
      let v : Variable = record { name = w; step = length steps; binding = bindings.Begin } in
      record {
        line = line;
        is = refl;
        shown = shown;
        few = line_few (codes "begin") rest
            (omega (arith, one_short w (n ∷ []), one_short n [], short.few, one.few));
        goes = record {
          steps = steps ++ record { line = number; act = acts.Begin (node + 1) } ∷ [];
          variables = vs ++ v ∷ [];
          is =
              line_is (made steps vs spent) _ number line (codes "begin") rest forms.Begin r
              shown refl refl
              (stands steps forms.Begin refl) (le-ltb 512 (spent + 1) (omega (arith, room)))
              (bound_is (acts.Begin (node + 1)) bindings.Begin line s.word _
              (rw (
                new_name_read line w (n ∷ []) r.word.end number s _ (named_variable k small)
                    (new vs k has small),
                node_read line n [] s.word.end number t (node + 1) (node_is node there)
                    (omega arith) (omega (arith, there)),
                end_is line t.word.end number t.behind,
              ) refl) s.text);
          has = has_more vs k v has refl refl;
        };
      }

  pub ask_is : (x node : ℕ) → x < k → node < 3 → IsLine steps vs spent number
      (words (codes "ask" ∷ variable x ∷ variable k ∷ decimal (node + 1) ∷ []) ++ 10 ∷ []) (k + 1)
  unfolding ask_line
  ask_is x node below there =
      let p = variable x in
      let w = variable k in
      let n = decimal (node + 1) in
      let parent = short_variable x (omega (arith, below, small)) in
      let short = short_variable k small in
      let one = short_node node there in
      let u = found vs k x has below small in
      let rest : List (List ℕ) = p ∷ w ∷ n ∷ [] in
      let line = words (codes "ask" ∷ rest) in
      let plain : IsPlain (codes "ask") = record { shown = refl; some = omega arith } in
      let shown = words_shown (codes "ask") rest plain
      (parent.plain, (short.plain, (one.plain, tt))) in
      let r = reads_first line (codes "ask") rest plain (words_are (codes "ask") rest) in
      let q = reads_next line p (w ∷ n ∷ []) r.word.end parent.plain r.behind in
      let s = reads_next line w (n ∷ []) q.word.end short.plain q.behind in
      let t = reads_next line n [] s.word.end one.plain s.behind in
      let v : Variable = record { name = w; step = length steps; binding = bindings.Ask } in
      record {
        line = line;
        is = refl;
        shown = shown;
        few = line_few (codes "ask") rest
            (omega (
              arith,
              one_short p (w ∷ n ∷ []),
              one_short w (n ∷ []),
              one_short n [],
              parent.few,
              short.few,
              one.few,
            ));
        goes = record {
          steps = steps ++ record { line = number; act = acts.Ask u.v.step (node + 1) } ∷ [];
          variables = vs ++ v ∷ [];
          is =
              line_is (made steps vs spent) _ number line (codes "ask") rest forms.Ask r
              shown refl refl
              (stands steps forms.Ask refl) (le-ltb 512 (spent + 1) (omega (arith, room)))
              (bound_is (acts.Ask u.v.step (node + 1)) bindings.Ask line s.word _
              (rw (
                variable_read line p (w ∷ n ∷ []) r.word.end number q vs u.v u.is u.usable,
                new_name_read line w (n ∷ []) q.word.end number s _ (named_variable k small)
                    (new vs k has small),
                node_read line n [] s.word.end number t (node + 1) (node_is node there)
                    (omega arith) (omega (arith, there)),
                end_is line t.word.end number t.behind,
              ) refl) s.text);
          has = has_more vs k v has refl refl;
        };
      }
