-- A command takes its values from words in their places: what is held, and which faults there are,
-- value by value.
use Rattle.std.proofs.Common.{◌≡◌, ◌∙◌, ◌||◌, ℕ, Bool, true, false, refl, sym, ap, ap₂, List, [], ◌∷◌, map, true≢false}
use Rattle.std.specs.List.{fold, list_any}
use Rattle.clap.specs.Walk.{Held, Text, Walk, value, arg_by_index, finished, nothing_held, rows_after, settled, to_positional, walked}
use Rattle.clap.specs.Simple.{Shape, built_leaf, inherited}
use Rattle.clap.specs.Kinds.{Kinds, or_else}
use Rattle.clap.specs.Faults.{check_fault, defaults_fault, level_fault, settle_fault, step_fault, walk_fault}
use Rattle.cam_args.specs.Line.{command_app, empty_line, is_dashed, value_at}
use Rattle.cam_args.proofs.Walking.{at, fault_step, walk_step}

abbrev has_fault : Kinds → Bool
has_fault [] = false
has_fault (k ∷ ks) = true

-- faults that are not empty are not none
pub is_refused : (x y : Kinds) → x ≡ y → has_fault y ≡ true → x ≡ [] → ⊥
is_refused x y same some none = true≢false (sym some ∙ ap has_fault (sym same ∙ none))

-- where no word begins with `-`, the first does not
pub first_plain : (v : Text) (vs : List Text) → (is_dashed v || list_any is_dashed vs) ≡ false
    → is_dashed v ≡ false
first_plain v vs e = by (is_dashed v) e
  where
    by : (b : Bool) → (b || list_any is_dashed vs) ≡ false → b ≡ false
    by true e = e
    by false e = refl

-- and none of the others does
pub rest_plain : (v : Text) (vs : List Text) → (is_dashed v || list_any is_dashed vs) ≡ false
    → list_any is_dashed vs ≡ false
rest_plain v vs e = by (is_dashed v) e
  where
    by : (b : Bool) → (b || list_any is_dashed vs) ≡ false → list_any is_dashed vs ≡ false
    by true e = absurd (true≢false e)
    by false e = e

-- a command with these values, as clap builds it
abbrev pub command_shape : Text → List Text → Shape
command_shape name values = built_leaf (inherited empty_line.top (command_app name values).top)

-- the faults of a command's words
abbrev pub faults_at : Shape → List Text → Kinds
faults_at s words = level_fault s [] nothing_held words false []

-- the faults after the walk
abbrev pub end_fault : Shape → Walk → Kinds
end_fault s w = or_else (settle_fault s.rules s.args_override_self w.held)
    (or_else (defaults_fault (settled s.rules w.held).rows s.rules)
    (check_fault s (finished s.rules w.held) false))

-- the faults from a place on
abbrev pub faults_from : Shape → Walk → List Text → Kinds
faults_from s w words = or_else (walk_fault s [] w words)
    (end_fault s (fold (walked s.rules []) w words))

-- what follows a value at a place
abbrev pub next : Shape → Held → ℕ → Text → Walk
next s h p v = to_positional s.rules (arg_by_index s.rules p) v (at h p) h

-- the faults from a value on are its own, and those of what follows
pub step : (s : Shape) (h : Held) (p : ℕ) (v : Text) (rest : List Text) → is_dashed v ≡ false
    → faults_from s (at h p) (v ∷ rest)
    ≡ or_else (or_else (step_fault s p h value) (walk_fault s [] (next s h p v) rest))
    (end_fault s (fold (walked s.rules []) (next s h p v) rest))
step s h p v rest plain =
    ap₂ (λ (f : Kinds) (w : Walk). or_else f (end_fault s (fold (walked s.rules []) w rest)))
    (fault_step [] v plain refl s h p rest) (walk_step [] v plain refl s.rules h p)

-- the walk goes on from the next place
pub walk_on : (s : Shape) (h : Held) (p : ℕ) (v : Text) (rest : List Text) → is_dashed v ≡ false
    → fold (walked s.rules []) (at h p) (v ∷ rest) ≡ fold (walked s.rules []) (next s h p v) rest
walk_on s h p v rest plain = ap (λ (w : Walk). fold (walked s.rules []) w rest)
    (walk_step [] v plain refl s.rules h p)

-- what is held after each value
abbrev pub held_1 : Shape → Text → Held
held_1 s a = (next s nothing_held 1 a).held

abbrev pub held_2 : Shape → Text → Text → Held
held_2 s a b = (next s (held_1 s a) 2 b).held

abbrev pub held_3 : Shape → Text → Text → Text → Held
held_3 s a b c = (next s (held_2 s a b) 3 c).held

abbrev pub held_4 : Shape → Text → Text → Text → Text → Held
held_4 s a b c d = (next s (held_3 s a b c) 4 d).held

-- the values that the words are read as
abbrev pub read : Shape → List Text → Walk → List Text
read s values w = map (value_at (finished s.rules w.held)) values

-- the values in their places after these words
abbrev pub values_read : Shape → List Text → List Text → List Text
values_read s values words = map (value_at (rows_after s.rules [] words)) values
