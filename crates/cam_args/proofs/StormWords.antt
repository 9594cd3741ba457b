-- `storm` takes four words, each in its place.
use Rattle.std.proofs.Common.{◌≡◌, ◌∙◌, false, refl, ap, List, [], ◌∷◌, codes}
use Rattle.std.specs.List.{fold, list_any}
use Rattle.clap.specs.Walk.{Text, nothing_held, walked}
use Rattle.clap.specs.Simple.{Shape}
use Rattle.clap.proofs.OnLiterals.{clap_on_literals}
use Rattle.cam_args.specs.Line.{is_dashed}
use Rattle.cam_args.proofs.Walking.{at}
use Rattle.cam_args.proofs.Values.{is_refused, first_plain, rest_plain, command_shape, faults_at, faults_from, step, walk_on, held_1, held_2, held_3, held_4, read, values_read}

abbrev pub storm_values : List Text
storm_values = codes "seed" ∷ codes "actions" ∷ codes "threads" ∷ codes "mode" ∷ []

abbrev pub stormy : Shape
stormy = command_shape (codes "storm") storm_values

-- the first four of the words, each in its place
module _ (a b c d : Text) (rest : List Text) (first : is_dashed a ≡ false)
    (second : is_dashed b ≡ false) (third : is_dashed c ≡ false)
    (fourth : is_dashed d ≡ false) where
  four_steps : faults_at stormy (a ∷ b ∷ c ∷ d ∷ rest)
      ≡ faults_from stormy (at (held_4 stormy a b c d) 5) rest
  unfolding clap_on_literals
  four_steps = step stormy nothing_held 1 a (b ∷ c ∷ d ∷ rest) first
      ∙ step stormy (held_1 stormy a) 2 b (c ∷ d ∷ rest) second
      ∙ step stormy (held_2 stormy a b) 3 c (d ∷ rest) third
      ∙ step stormy (held_3 stormy a b c) 4 d rest fourth

  four_walks : fold (walked stormy.rules []) (at nothing_held 1) (a ∷ b ∷ c ∷ d ∷ rest)
      ≡ fold (walked stormy.rules []) (at (held_4 stormy a b c d) 5) rest
  unfolding clap_on_literals
  four_walks = walk_on stormy nothing_held 1 a (b ∷ c ∷ d ∷ rest) first
      ∙ walk_on stormy (held_1 stormy a) 2 b (c ∷ d ∷ rest) second
      ∙ walk_on stormy (held_2 stormy a b) 3 c (d ∷ rest) third
      ∙ walk_on stormy (held_3 stormy a b c) 4 d rest fourth

pub storm_fits : (words : List Text) → list_any is_dashed words ≡ false
    → faults_at stormy words ≡ [] → values_read stormy storm_values words ≡ words
unfolding clap_on_literals
storm_fits [] plain none = absurd (is_refused _ _ refl refl none)
storm_fits (a ∷ []) plain none =
    absurd (is_refused _ _ (step stormy nothing_held 1 a [] (first_plain a [] plain)) refl none)
storm_fits (a ∷ b ∷ []) plain none =
    let behind_a = rest_plain a (b ∷ []) plain in
    absurd (is_refused _ _ (step stormy nothing_held 1 a (b ∷ []) (first_plain a (b ∷ []) plain)
    ∙ step stormy (held_1 stormy a) 2 b [] (first_plain b [] behind_a)) refl none)
storm_fits (a ∷ b ∷ c ∷ []) plain none =
    let behind_a = rest_plain a (b ∷ c ∷ []) plain in
    let behind_b = rest_plain b (c ∷ []) behind_a in
    absurd
    (is_refused _ _ (step stormy nothing_held 1 a (b ∷ c ∷ []) (first_plain a (b ∷ c ∷ []) plain)
    ∙ step stormy (held_1 stormy a) 2 b (c ∷ []) (first_plain b (c ∷ []) behind_a)
    ∙ step stormy (held_2 stormy a b) 3 c [] (first_plain c [] behind_b)) refl none)
storm_fits (a ∷ b ∷ c ∷ d ∷ []) plain none =
    let behind_a = rest_plain a (b ∷ c ∷ d ∷ []) plain in
    let behind_b = rest_plain b (c ∷ d ∷ []) behind_a in
    let behind_c = rest_plain c (d ∷ []) behind_b in
    ap (read stormy storm_values) (four_walks a b c d [] (first_plain a (b ∷ c ∷ d ∷ []) plain)
    (first_plain b (c ∷ d ∷ []) behind_a)
    (first_plain c (d ∷ []) behind_b) (first_plain d [] behind_c))
storm_fits (a ∷ b ∷ c ∷ d ∷ e ∷ rest) plain none =
    let behind_a = rest_plain a (b ∷ c ∷ d ∷ e ∷ rest) plain in
    let behind_b = rest_plain b (c ∷ d ∷ e ∷ rest) behind_a in
    let behind_c = rest_plain c (d ∷ e ∷ rest) behind_b in
    let behind_d = rest_plain d (e ∷ rest) behind_c in
    absurd
    (is_refused _ _ (four_steps a b c d (e ∷ rest) (first_plain a (b ∷ c ∷ d ∷ e ∷ rest) plain)
    (first_plain b (c ∷ d ∷ e ∷ rest) behind_a)
    (first_plain c (d ∷ e ∷ rest) behind_b) (first_plain d (e ∷ rest) behind_c)
    ∙ step stormy (held_4 stormy a b c d) 5 e rest (first_plain e rest behind_d)) refl none)

pub storm_passes : (a b c d : Text) → is_dashed a ≡ false → is_dashed b ≡ false
    → is_dashed c ≡ false → is_dashed d ≡ false
    → faults_at stormy (a ∷ b ∷ c ∷ d ∷ []) ≡ []
unfolding clap_on_literals
storm_passes a b c d first second third fourth = four_steps a b c d [] first second third fourth
