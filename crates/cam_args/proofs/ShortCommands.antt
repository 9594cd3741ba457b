-- A command of at most two values takes as many words as it has values, each in its place.
use Rattle.std.proofs.Common.{◌≡◌, ◌∙◌, false, refl, ap, List, [], ◌∷◌, codes}
use Rattle.std.specs.List.{list_any}
use Rattle.clap.specs.Walk.{Text, nothing_held}
use Rattle.clap.specs.Simple.{Shape}
use Rattle.clap.proofs.OnLiterals.{clap_on_literals}
use Rattle.cam_args.specs.Line.{is_dashed}
use Rattle.cam_args.proofs.Walking.{at}
use Rattle.cam_args.proofs.Values.{is_refused, first_plain, rest_plain, command_shape, faults_at, step, walk_on, held_1, held_2, read, values_read}

module _ (name : Text) where
  abbrev bare : Shape
  bare = command_shape name []

  pub none_fits : (words : List Text) → list_any is_dashed words ≡ false → faults_at bare words ≡ []
      → [] ≡ words
  unfolding clap_on_literals
  none_fits [] plain none = refl
  none_fits (v ∷ vs) plain none =
      absurd (is_refused _ _ (step bare nothing_held 1 v vs (first_plain v vs plain)) refl none)

  pub none_passes : faults_at bare [] ≡ []
  unfolding clap_on_literals
  none_passes = refl

abbrev pub one_name : List Text
one_name = codes "name" ∷ []

abbrev pub named : Shape
named = command_shape (codes "witness") one_name

pub name_fits : (words : List Text) → list_any is_dashed words ≡ false → faults_at named words ≡ []
    → values_read named one_name words ≡ words
unfolding clap_on_literals
name_fits [] plain none = absurd (is_refused _ _ refl refl none)
name_fits (a ∷ []) plain none =
    ap (read named one_name) (walk_on named nothing_held 1 a [] (first_plain a [] plain))
name_fits (a ∷ b ∷ rest) plain none =
    let after = rest_plain a (b ∷ rest) plain in
    absurd (is_refused _ _ (step named nothing_held 1 a (b ∷ rest) (first_plain a (b ∷ rest) plain)
    ∙ step named (held_1 named a) 2 b rest (first_plain b rest after)) refl none)

pub name_passes : (a : Text) → is_dashed a ≡ false → faults_at named (a ∷ []) ≡ []
unfolding clap_on_literals
name_passes a plain = step named nothing_held 1 a [] plain

abbrev pub one_event : List Text
one_event = codes "event" ∷ []

abbrev pub numbered : Shape
numbered = command_shape (codes "why") one_event

pub event_fits : (words : List Text) → list_any is_dashed words ≡ false
    → faults_at numbered words ≡ [] → values_read numbered one_event words ≡ words
unfolding clap_on_literals
event_fits [] plain none = absurd (is_refused _ _ refl refl none)
event_fits (a ∷ []) plain none =
    ap (read numbered one_event) (walk_on numbered nothing_held 1 a [] (first_plain a [] plain))
event_fits (a ∷ b ∷ rest) plain none =
    let after = rest_plain a (b ∷ rest) plain in
    absurd
    (is_refused _ _ (step numbered nothing_held 1 a (b ∷ rest) (first_plain a (b ∷ rest) plain)
    ∙ step numbered (held_1 numbered a) 2 b rest (first_plain b rest after)) refl none)

pub event_passes : (a : Text) → is_dashed a ≡ false → faults_at numbered (a ∷ []) ≡ []
unfolding clap_on_literals
event_passes a plain = step numbered nothing_held 1 a [] plain

abbrev pub seed_and_size : List Text
seed_and_size = codes "seed" ∷ codes "size" ∷ []

abbrev pub sized : Shape
sized = command_shape (codes "gen") seed_and_size

pub size_fits : (words : List Text) → list_any is_dashed words ≡ false → faults_at sized words ≡ []
    → values_read sized seed_and_size words ≡ words
unfolding clap_on_literals
size_fits [] plain none = absurd (is_refused _ _ refl refl none)
size_fits (a ∷ []) plain none =
    absurd (is_refused _ _ (step sized nothing_held 1 a [] (first_plain a [] plain)) refl none)
size_fits (a ∷ b ∷ []) plain none =
    let after = rest_plain a (b ∷ []) plain in
    ap (read sized seed_and_size)
    (walk_on sized nothing_held 1 a (b ∷ []) (first_plain a (b ∷ []) plain)
    ∙ walk_on sized (held_1 sized a) 2 b [] (first_plain b [] after))
size_fits (a ∷ b ∷ c ∷ rest) plain none =
    let after = rest_plain a (b ∷ c ∷ rest) plain in
    let last = rest_plain b (c ∷ rest) after in
    absurd
    (is_refused _ _ (step sized nothing_held 1 a (b ∷ c ∷ rest) (first_plain a (b ∷ c ∷ rest) plain)
    ∙ step sized (held_1 sized a) 2 b (c ∷ rest) (first_plain b (c ∷ rest) after)
    ∙ step sized (held_2 sized a b) 3 c rest (first_plain c rest last)) refl none)

pub size_passes : (a b : Text) → is_dashed a ≡ false → is_dashed b ≡ false
    → faults_at sized (a ∷ b ∷ []) ≡ []
unfolding clap_on_literals
size_passes a b first second = step sized nothing_held 1 a (b ∷ []) first
    ∙ step sized (held_1 sized a) 2 b [] second
