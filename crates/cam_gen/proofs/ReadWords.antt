-- What the grammar reads at a plain word: a value, a node, a new name, a declared name, a variable,
-- an operation.
use Rattle.std.proofs.Common.{◌≡◌, ℕ, ◌≤◌, List, le-leb, le-ltb, Some, None, Ok, true, refl}
use Rattle.std.specs.Prelude.{ℤ}
use Rattle.cam_type.specs.declared.Kind.{Kind}
use Rattle.cam_words.specs.Words.{looked_up, place_of}
use Rattle.cam_words.specs.Numbers.{declared_at, is_name, new_name_at, node_at, number_of, value_at, value_of}
use Rattle.cam_script.specs.declared.OpWith.{OpWith}
use Rattle.cam_script.specs.declared.Use.TheVariants as uses
use Rattle.cam_script.specs.Operations.{op_word_at, words_of}
use Rattle.cam_script.specs.SoFar.{Variable}
use Rattle.cam_script.specs.Variables.{against, variable_at, variable_of}
use Rattle.cam_gen.proofs.PlainWords.{Reads, word_is}

module _ (line w : List ℕ) (ws : List (List ℕ)) (at number : ℕ) (r : Reads line at w ws) where
  pub value_read : (v : ℤ) → value_of w ≡ Some v → value_at number at line ≡ Ok (v, r.word.end)
  unfolding value_at
  value_read v is = rw (word_is line w ws at number r, r.text, is) refl

  pub node_read : (n : ℕ) → number_of 8 w ≡ Some n → 1 ≤ n → n ≤ 3
      → node_at 3 number at line ≡ Ok (n, r.word.end)
  unfolding node_at
  node_read n is low high =
      rw (word_is line w ws at number r, r.text, is, le-leb 1 n low, le-ltb 3 n high) refl

  pub new_name_read : (names : List (List ℕ)) → is_name w ≡ true → place_of names w ≡ None
      → new_name_at names number at line ≡ Ok r.word
  unfolding new_name_at
  new_name_read names named new = rw (word_is line w ws at number r, r.text, named, new) refl

  pub declared_read : (names : List (List ℕ)) (place : ℕ) → place_of names w ≡ Some place
      → declared_at names number at line ≡ Ok (place, r.word.end)
  unfolding declared_at
  declared_read names place is = rw (word_is line w ws at number r, r.text, is) refl

  pub variable_read : (variables : List Variable) (v : Variable) → variable_of variables w ≡ Some v
      → against uses.Request v.binding ≡ None
      → variable_at uses.Request variables number at line ≡ Ok (v.step, r.word.end)
  unfolding variable_at
  variable_read variables v is allowed =
      rw (word_is line w ws at number r, r.text, is, allowed) refl

  pub op_word_read : (kind : Kind) (op : OpWith (Unit {0})) → looked_up (words_of kind) w ≡ Some op
      → op_word_at kind number at line ≡ Ok (op, r.word.end)
  unfolding op_word_at
  op_word_read kind op is = rw (word_is line w ws at number r, r.text, is) refl
