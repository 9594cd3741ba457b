-- The first word is a command's, which takes the words behind it.
use Rattle.std.proofs.Common.{◌≡◌, ◌∙◌, ◌⊎◌, inl, inr, ◌||◌, Bool, true, false, refl, sym, ap, ap₂, subst, List, [], ◌∷◌, ◌++◌, map, Some, None, codes, is_some, option_map, if◌then◌else◌}
use Rattle.std.specs.List.{find, fold, list_any}
use Rattle.std.specs.Str.{bytes_eq}
use Rattle.std.specs.Cmp.Lexicographic.{bytes_decides}
use Rattle.clap.specs.Walk.{Names, Text, Walk, answers_to, finished, idle, nothing_held, settled, subcommand_met, walk, walked}
use Rattle.clap.specs.Simple.{App, Shape, built, entered, names_of, subcommand_of}
use Rattle.clap.specs.Kinds.{Kinds, or_else}
use Rattle.clap.specs.Faults.{check_fault, defaults_fault, entered_fault, fault_of, settle_fault, turn_fault, walk_fault}
use Rattle.clap.proofs.OnLiterals.{clap_on_literals}
use Rattle.clap.proofs.WalkLemmas.{walk_stopped}
use Rattle.cam_args.specs.Line.{command_line, is_dashed, words_in, first_words}
use Rattle.cam_args.proofs.Walking.{at, fault_step}
use Rattle.cam_args.proofs.Values.{is_refused, first_plain, rest_plain, command_shape, faults_at, values_read}
use Rattle.cam_args.proofs.ShortCommands.{none_fits, name_fits, event_fits, size_fits, named, one_name, numbered, one_event, sized, seed_and_size}
use Rattle.cam_args.proofs.StormWords.{storm_fits, stormy, storm_values}

abbrev whole : App
whole = built command_line

abbrev names : Names
names = names_of whole

abbrev start : Walk
start = at nothing_held 1

abbrev stopped_at : Text → List Text → Walk
stopped_at name words = record start { stopped = Some (name, words) }

-- the faults of a line behind the walk over its words, which has these
abbrev ends : Walk → Kinds → Kinds
ends w walking = or_else walking
    (or_else (entered_fault whole w.stopped)
    (or_else (settle_fault whole.top.rules whole.top.args_override_self w.held)
    (or_else (defaults_fault (settled whole.top.rules w.held).rows whole.top.rules)
    (check_fault whole.top (finished whole.top.rules w.held) (is_some (entered whole w.stopped))))))

-- behind a command the walk asks nothing of the words
stopped_fault : (s : Shape) (ns : Names) (w : Walk) (name : Text) (seen words : List Text)
    → walk_fault s ns (record w { stopped = Some (name, seen) }) words ≡ []
unfolding walk_fault walked
stopped_fault s ns w name seen [] = refl
stopped_fault s ns w name seen (x ∷ xs) = stopped_fault s ns w name (seen ++ x ∷ []) xs

module _ (name : Text) (words : List Text) (stops : walked [] names start name ≡ stopped_at name [])
    (quiet : turn_fault whole.top names start name ≡ []) where
  walk_is : walk [] names nothing_held (name ∷ words) ≡ stopped_at name words
  walk_is = ap (λ (w : Walk). fold (walked [] names) w words) stops
      ∙ sym (walk_stopped [] names start name [] words)

  pub fault_is : fault_of command_line (name ∷ words) ≡ ends (stopped_at name words) []
  unfolding walk_fault
  fault_is = ap₂ ends walk_is
      (ap₂ or_else quiet (ap (λ (w : Walk). walk_fault whole.top names w words) stops
      ∙ stopped_fault whole.top names start name [] words))

  pub matches_are : subcommand_of command_line (name ∷ words) ≡ entered whole (Some (name, words))
  matches_are = ap (λ (w : Walk). entered whole w.stopped) walk_is

no_more : (x y : Kinds) → or_else x y ≡ [] → x ≡ []
no_more [] y e = refl
no_more (k ∷ ks) y e = e

-- a command that takes no more words than these is met by them
back : (name : Text) (words values : List Text) (faults : Kinds)
    → walked [] names start name ≡ stopped_at name [] → turn_fault whole.top names start name ≡ []
    → words_in (entered whole (Some (name, words))) ≡ name ∷ values
    → ends (stopped_at name words) [] ≡ or_else faults []
    → (faults ≡ [] → values ≡ words) → fault_of command_line (name ∷ words) ≡ []
    → words_in (subcommand_of command_line (name ∷ words)) ≡ name ∷ words
back name words values faults stops quiet reads refuses fits none =
    ap words_in (matches_are name words stops quiet) ∙ reads
    ∙ ap (λ (vs : List Text). name ∷ vs)
    (fits (no_more faults [] (sym refuses ∙ sym (fault_is name words stops quiet) ∙ none)))

-- and is not refused where it takes them
pub passes : (name : Text) (words : List Text) (faults : Kinds)
    → walked [] names start name ≡ stopped_at name [] → turn_fault whole.top names start name ≡ []
    → ends (stopped_at name words) [] ≡ or_else faults [] → faults ≡ []
    → fault_of command_line (name ∷ words) ≡ []
passes name words faults stops quiet refuses none = fault_is name words stops quiet ∙ refuses
    ∙ ap (λ (f : Kinds). or_else f []) none

-- a word is one of the names
abbrev IsOneOf : List Text → Text → Type 0
IsOneOf [] w = ⊥
IsOneOf (n ∷ ns) w = (n ≡ w) ⊎ IsOneOf ns w

-- a word is one of the names, or none answers to it
named_or_not : (ns : List Text) (w : Text) → (subcommand_met (map (λ n. (n, [])) ns) idle w ≡ None)
    ⊎ IsOneOf ns w
named_or_not [] w = inl refl
named_or_not (n ∷ ns) w = by (bytes_eq n w) refl (named_or_not ns w)
  where
    by : (b : Bool) → bytes_eq n w ≡ b → (subcommand_met (map (λ n. (n, [])) ns) idle w ≡ None)
        ⊎ IsOneOf ns w → (subcommand_met ((n, []) ∷ map (λ n. (n, [])) ns) idle w ≡ None)
        ⊎ ((n ≡ w) ⊎ IsOneOf ns w)
    by true e rest = inr (inl ((bytes_decides n w).0 e))
    by false e (inl none) = inl (
        ap
        (λ (b : Bool). option_map (λ s. s.0) (if b || false then Some (n, [])
        else find (answers_to w) (map (λ n. (n, [])) ns))) e ∙ none)
    by false e (inr some) = inr (inr some)

module _ (words : List Text) (plain : list_any is_dashed words ≡ false) where
  abbrev ReadsBack : Text → Type 0
  ReadsBack name = fault_of command_line (name ∷ words) ≡ []
      → words_in (subcommand_of command_line (name ∷ words)) ≡ name ∷ words

  run_back : ReadsBack (codes "run")
  unfolding clap_on_literals
  run_back = back (codes "run") words [] (faults_at (command_shape (codes "run") []) words) refl
      refl refl refl (none_fits (codes "run") words plain)

  trace_back : ReadsBack (codes "trace")
  unfolding clap_on_literals
  trace_back = back (codes "trace") words [] (faults_at (command_shape (codes "trace") []) words)
      refl refl refl refl (none_fits (codes "trace") words plain)

  witness_back : ReadsBack (codes "witness")
  unfolding clap_on_literals
  witness_back = back (codes "witness") words (values_read named one_name words)
      (faults_at named words) refl refl refl refl (name_fits words plain)

  gen_back : ReadsBack (codes "gen")
  unfolding clap_on_literals
  gen_back = back (codes "gen") words (values_read sized seed_and_size words)
      (faults_at sized words) refl refl refl refl (size_fits words plain)

  storm_back : ReadsBack (codes "storm")
  unfolding clap_on_literals
  storm_back = back (codes "storm") words (values_read stormy storm_values words)
      (faults_at stormy words) refl refl refl refl (storm_fits words plain)

  inspect_back : ReadsBack (codes "inspect")
  unfolding clap_on_literals
  inspect_back = back (codes "inspect") words []
      (faults_at (command_shape (codes "inspect") []) words) refl refl refl refl
      (none_fits (codes "inspect") words plain)

  upgrade_back : ReadsBack (codes "upgrade")
  unfolding clap_on_literals
  upgrade_back = back (codes "upgrade") words []
      (faults_at (command_shape (codes "upgrade") []) words) refl refl refl refl
      (none_fits (codes "upgrade") words plain)

  why_back : ReadsBack (codes "why")
  unfolding clap_on_literals
  why_back = back (codes "why") words (values_read numbered one_event words)
      (faults_at numbered words) refl refl refl refl (event_fits words plain)

  timed_back : ReadsBack (codes "timed")
  unfolding clap_on_literals
  timed_back = back (codes "timed") words [] (faults_at (command_shape (codes "timed") []) words)
      refl refl refl refl (none_fits (codes "timed") words plain)

  by_name : (w : Text) → IsOneOf first_words w → ReadsBack w
  by_name w (inl e) = subst ReadsBack e run_back
  by_name w (inr (inl e)) = subst ReadsBack e trace_back
  by_name w (inr (inr (inl e))) = subst ReadsBack e witness_back
  by_name w (inr (inr (inr (inl e)))) = subst ReadsBack e gen_back
  by_name w (inr (inr (inr (inr (inl e))))) = subst ReadsBack e storm_back
  by_name w (inr (inr (inr (inr (inr (inl e)))))) = subst ReadsBack e inspect_back
  by_name w (inr (inr (inr (inr (inr (inr (inl e))))))) = subst ReadsBack e upgrade_back
  by_name w (inr (inr (inr (inr (inr (inr (inr (inl e)))))))) = subst ReadsBack e why_back
  by_name w (inr (inr (inr (inr (inr (inr (inr (inr (inl e))))))))) = subst ReadsBack e timed_back
  by_name w (inr (inr (inr (inr (inr (inr (inr (inr (inr none))))))))) = absurd none

  -- a word that no command has for its name is refused
  stray : (w : Text) → is_dashed w ≡ false → subcommand_met names idle w ≡ None → ReadsBack w
  unfolding clap_on_literals
  stray w undashed unnamed none = absurd (is_refused _ _
      (ap (ends (walk [] names nothing_held (w ∷ words)))
      (fault_step names w undashed unnamed whole.top nothing_held 1 words)) refl none)

-- of words of which none begins with `-`: where clap refuses nothing, they are those of the command
-- that it matched
pub reads_back : (words : List Text) → list_any is_dashed words ≡ false
    → fault_of command_line words ≡ [] → words_in (subcommand_of command_line words) ≡ words
unfolding clap_on_literals
reads_back [] plain none = absurd (is_refused _ _ refl refl none)
reads_back (w ∷ words) plain none = elim (named_or_not first_words w) [
  | inl unnamed ↦ stray words (rest_plain w words plain) w (first_plain w words plain) unnamed none
  | inr known ↦ by_name words (rest_plain w words plain) w known none
]
