-- A word that does not begin with `-` goes to the next value.
use Rattle.std.proofs.Common.{◌≡◌, ◌∙◌, ℕ, Bool, false, refl, ap, ap₂, List, [], ◌∷◌, None, if◌then◌else◌}
use Rattle.std.specs.Str.{bytes_eq}
use Rattle.std.specs.Prelude.{option_and_then}
use Rattle.std.specs.Option.{option_map_or}
use Rattle.clap.specs.Lexer.{strip_byte, long_of, long_of_rest, short_of, short_of_rest}
use Rattle.clap.specs.Walk.{Held, Names, Rule, Step, Text, Walk, idle, value, trailing, arg_by_index, after_step, to_positional, subcommand_met, word_met, long_or_other, short_or_plain, walked}
use Rattle.clap.specs.Simple.{Shape}
use Rattle.clap.specs.Kinds.{or_else}
use Rattle.clap.specs.Faults.{bundle_fault, flag_word_fault, step_fault, walk_fault, word_fault, turn_fault}
use Rattle.cam_args.specs.Line.{is_dashed}

-- where the walk stands when a value is next
abbrev pub at : Held → ℕ → Walk
at held position =
    record { held = held; waiting = idle; position = position; is_trailing = false; stopped = None }

no_minus : (v : Text) → is_dashed v ≡ false → strip_byte 45 v ≡ None
no_minus [] e = refl
no_minus (b ∷ bs) e = rw e refl

no_dashes : (v : Text) → is_dashed v ≡ false → bytes_eq v (45 ∷ 45 ∷ []) ≡ false
no_dashes [] e = refl
no_dashes (b ∷ bs) e = rw e refl

no_long : (v : Text) → is_dashed v ≡ false → long_of v ≡ None
no_long v e = ap (λ o. option_and_then long_of_rest (option_and_then (strip_byte 45) o))
    (no_minus v e)

no_short : (v : Text) → is_dashed v ≡ false → short_of v ≡ None
no_short v e = ap (option_and_then short_of_rest) (no_minus v e)

module _ (names : Names) (v : Text) (plain : is_dashed v ≡ false)
    (unnamed : subcommand_met names idle v ≡ None) where
  is_value : (c : List Rule) (h : Held) (p : ℕ) → word_met c names false idle p v h ≡ (h, value)
  is_value c h p = ap (λ o. Rattle.clap.specs.Walk.subcommand_or_other c o idle p v h) unnamed
      ∙ ap (λ (t : Bool). if t then (h, trailing p) else long_or_other c idle v (long_of v) h)
      (no_dashes v plain)
      ∙ ap (λ o. long_or_other c idle v o h) (no_long v plain)
      ∙ ap (λ o. short_or_plain c idle v o h) (no_short v plain)

  -- the walk after one more value
  pub walk_step : (c : List Rule) (h : Held) (p : ℕ)
      → walked c names (at h p) v ≡ to_positional c (arg_by_index c p) v (at h p) h
  unfolding walked
  walk_step c h p = ap (λ (met : Held × Step). after_step c v (at h p) met.0 met.1) (is_value c h p)

  no_flag : (s : Shape) (h : Held) → word_fault s names false idle v h ≡ []
  no_flag s h = ap (λ o. Rattle.clap.specs.Faults.other_fault s o v h) unnamed
      ∙ ap (λ (t : Bool). if t then []
      else flag_word_fault s.rules s.args_override_self (long_of v) v h) (no_dashes v plain)
      ∙ ap (λ o. flag_word_fault s.rules s.args_override_self o v h) (no_long v plain)
      ∙ ap (λ o. option_map_or (λ flags. bundle_fault s.rules s.args_override_self flags h) o [])
      (no_short v plain)

  -- the faults from one more value on
  pub fault_step : (s : Shape) (h : Held) (p : ℕ) (rest : List Text)
      → walk_fault s names (at h p) (v ∷ rest)
      ≡ or_else (step_fault s p h value)
      (walk_fault s names (to_positional s.rules (arg_by_index s.rules p) v (at h p) h) rest)
  unfolding walk_fault
  fault_step s h p rest = ap₂ or_else
      (ap₂ or_else (no_flag s h)
      (ap (λ (met : Held × Step). step_fault s p met.0 met.1) (is_value s.rules h p)))
      (ap (λ (w : Walk). walk_fault s names w rest) (walk_step s.rules h p))
