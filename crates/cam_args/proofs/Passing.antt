-- No word of a form begins with `-`, and clap refuses no form.
use Rattle.std.proofs.Common.{◌≡◌, ◌∙◌, ◌⊎◌, inl, inr, ◌<◌, ◌^◌, ◌||◌, ◌++◌, ℕ, Bool, true, false, refl, sym, ap, ap₂, subst, arith, List, [], ◌∷◌, codes, decimal, Err, ne_eqb, Option}
use Rattle.std.specs.List.{flat_map, list_any}
use mathlib.Core.Bool.{true≢false}
use Rattle.cam_names.specs.Names.{IsName}
use Rattle.cam_names.specs.Part.{PartFields}
use Rattle.cam_names.specs.Text.{below_text, name_text}
use Rattle.clap.specs.Walk.{Row, Text}
use Rattle.clap.specs.Simple.{App, is_simple, subcommand_of}
use Rattle.clap.specs.Kinds.{IsAmong}
use Rattle.clap.specs.Faults.{fault_of, is_simple_and_free}
use Rattle.clap.specs.declared.error.kind.ErrorKind.{ErrorKind}
use Rattle.clap.specs.declared.error.kind.ErrorKind.TheVariants as kinds
use Rattle.clap.proofs.OnLiterals.{clap_on_literals}
use Rattle.cam_args.specs.declared.Command.{Command}
use Rattle.cam_args.specs.declared.Command.TheVariants.{Run, Trace, Witness, Gen, Storm, Inspect, Upgrade, Why, Timed}
use Rattle.cam_args.specs.declared.ArgsFault.{ArgsFault}
use Rattle.cam_args.specs.declared.ArgsFault.TheVariants.{Usage, NoMemory}
use Rattle.cam_args.specs.Numbers.{is_plain}
use Rattle.cam_args.specs.Forms.{IsCommand, IsForm, IsNoForm, Finds, mode_word, words_of}
use Rattle.cam_args.specs.Line.{command_line, fault_of_kind, is_dashed, words_in}
use Rattle.cam_args.proofs.Spelling.{decimal_plain, no_plus}
use Rattle.cam_args.proofs.Values.{command_shape, faults_at}
use Rattle.cam_args.proofs.ShortCommands.{none_passes, named, name_passes, numbered, event_passes, sized, size_passes}
use Rattle.cam_args.proofs.StormWords.{stormy, storm_passes}
use Rattle.cam_args.proofs.Commands.{passes, reads_back}

-- the text of a name that begins with these digits
abbrev text_from : List ℕ → PartFields → List PartFields → List ℕ
text_from ds p a = (ds ++ 46 ∷ decimal p.count ++ 46 ∷ decimal p.number) ++ flat_map below_text a

from_undashed : (ds : List ℕ) (p : PartFields) (a : List PartFields) → is_plain ds ≡ true
    → is_dashed (text_from ds p a) ≡ false
from_undashed [] p a plain = absurd (true≢false (sym plain))
from_undashed (b ∷ bs) p a plain =
    ne_eqb b 45 (λ (e : b ≡ 45). omega (arith, e, no_plus (b ∷ bs) plain))

number_undashed : (n : ℕ) → n < 2 ^ 64 → is_dashed (decimal n) ≡ false
number_undashed n small = by (decimal n) (decimal_plain n small)
  where
    by : (ds : List ℕ) → is_plain ds ≡ true → is_dashed ds ≡ false
    by [] plain = refl
    by (b ∷ bs) plain = ne_eqb b 45 (λ (e : b ≡ 45). omega (arith, e, no_plus (b ∷ bs) plain))

name_undashed : (a : List PartFields) → IsName a → is_dashed (name_text a) ≡ false
name_undashed [] is = refl
name_undashed (p ∷ a) is = from_undashed (decimal p.node) p a
    (decimal_plain p.node (omega (arith, is.parts.0.node_to)))

mode_undashed : (calm : Bool) → is_dashed (mode_word calm) ≡ false
mode_undashed true = refl
mode_undashed false = refl

none_dashed_1 : (a : Text) → is_dashed a ≡ false → list_any is_dashed (a ∷ []) ≡ false
none_dashed_1 a first = ap (λ (b : Bool). b || false) first

none_dashed : (a : Text) (rest : List Text) → is_dashed a ≡ false → list_any is_dashed rest ≡ false
    → list_any is_dashed (a ∷ rest) ≡ false
none_dashed a rest first others = ap₂ (λ (b t : Bool). b || t) first others

words_undashed : (command : Command) → IsCommand command
    → list_any is_dashed (words_of command) ≡ false
words_undashed Run is = refl
words_undashed Trace is = refl
words_undashed (Witness a) is = none_dashed_1 (name_text a) (name_undashed a is)
words_undashed (Gen seed size) is =
    none_dashed (decimal seed) (decimal size ∷ []) (number_undashed seed (omega (arith, is.0.1)))
    (none_dashed_1 (decimal size) (number_undashed size (omega (arith, is.1.1))))
words_undashed (Storm seed actions threads calm) is =
    none_dashed (decimal seed) (decimal actions ∷ decimal threads ∷ mode_word calm ∷ [])
    (number_undashed seed (omega (arith, is.0.1)))
    (none_dashed (decimal actions) (decimal threads ∷ mode_word calm ∷ [])
    (number_undashed actions (omega (arith, is.1.1)))
    (none_dashed (decimal threads) (mode_word calm ∷ [])
    (number_undashed threads (omega (arith, is.2.1)))
    (none_dashed_1 (mode_word calm) (mode_undashed calm))))
words_undashed Inspect is = refl
words_undashed Upgrade is = refl
words_undashed (Why event) is =
    none_dashed_1 (decimal event) (number_undashed event (omega (arith, is.1)))
words_undashed Timed is = refl

pub dashed_is_no_form : (words : List Text) → list_any is_dashed words ≡ true → IsNoForm words
dashed_is_no_form words dashed command form =
    true≢false (sym dashed ∙ ap (list_any is_dashed) form.spelt ∙ words_undashed command form.is)

words_pass : (command : Command) → IsCommand command → fault_of command_line (words_of command) ≡ []
unfolding clap_on_literals
words_pass Run is = passes (codes "run") [] (faults_at (command_shape (codes "run") []) []) refl
    refl refl (none_passes (codes "run"))
words_pass Trace is = passes (codes "trace") [] (faults_at (command_shape (codes "trace") []) [])
    refl refl refl (none_passes (codes "trace"))
words_pass (Witness a) is =
    passes (codes "witness") (name_text a ∷ []) (faults_at named (name_text a ∷ [])) refl refl refl
    (name_passes (name_text a) (name_undashed a is))
words_pass (Gen seed size) is =
    let words = decimal seed ∷ decimal size ∷ [] in
    passes (codes "gen") words (faults_at sized words) refl refl refl
    (size_passes (decimal seed) (decimal size) (number_undashed seed (omega (arith, is.0.1)))
    (number_undashed size (omega (arith, is.1.1))))
words_pass (Storm seed actions threads calm) is =
    let words = decimal seed ∷ decimal actions ∷ decimal threads ∷ mode_word calm ∷ [] in
    passes (codes "storm") words (faults_at stormy words) refl refl refl
    (storm_passes (decimal seed) (decimal actions) (decimal threads) (mode_word calm)
    (number_undashed seed (omega (arith, is.0.1))) (number_undashed actions (omega (arith, is.1.1)))
    (number_undashed threads (omega (arith, is.2.1))) (mode_undashed calm))
words_pass Inspect is = passes (codes "inspect") []
    (faults_at (command_shape (codes "inspect") []) []) refl refl refl
    (none_passes (codes "inspect"))
words_pass Upgrade is = passes (codes "upgrade") []
    (faults_at (command_shape (codes "upgrade") []) []) refl refl refl
    (none_passes (codes "upgrade"))
words_pass (Why event) is =
    passes (codes "why") (decimal event ∷ []) (faults_at numbered (decimal event ∷ []))
    refl refl refl
    (event_passes (decimal event) (number_undashed event (omega (arith, is.1))))
words_pass Timed is = passes (codes "timed") [] (faults_at (command_shape (codes "timed") []) [])
    refl refl refl (none_passes (codes "timed"))

form_passes : (words : List Text) (command : Command) → IsForm words command
    → fault_of command_line words ≡ []
form_passes words command form = ap (fault_of command_line) form.spelt ∙ words_pass command form.is

line_is_free : is_simple_and_free command_line ≡ true
line_is_free = refl

line_is_simple : is_simple command_line ≡ true
line_is_simple = refl

-- what clap matched are the words
pub clap_reads : (line : App) (words : List Text) (found : Option (Text × List Row))
    → line ≡ command_line → (is_simple_and_free line ≡ true → fault_of line words ≡ [])
    → (is_simple line ≡ true → found ≡ subcommand_of line words)
    → list_any is_dashed words ≡ false → words_in found ≡ words
clap_reads line words found is kinds matches plain =
    ap words_in (matches (ap is_simple is ∙ line_is_simple)
    ∙ ap (λ (a : App). subcommand_of a words) is)
    ∙ reads_back words plain (sym (ap (λ (a : App). fault_of a words) is)
    ∙ kinds (ap is_simple_and_free is ∙ line_is_free))

abbrev is_usage : ArgsFault → Bool
is_usage Usage = true
is_usage NoMemory = false

refused_form : (words : List Text) (fault : ArgsFault) → (fault ≡ NoMemory) ⊎ IsNoForm words
    → Finds words (Err fault)
refused_form words NoMemory why = tt
refused_form words Usage (inl e) = absurd (true≢false (ap is_usage e))
refused_form words Usage (inr none) = λ command form. absurd (none command form)

-- what clap refuses is no form, unless memory ran out
pub clap_refuses : (line : App) (words : List Text) (kind : ErrorKind) (fault : ArgsFault)
    → line ≡ command_line → fault ≡ fault_of_kind kind
    → (is_simple_and_free line ≡ true → (kind ≡ kinds.OutOfMemory)
    ⊎ IsAmong kind (fault_of line words)) → Finds words (Err fault)
clap_refuses line words kind fault is same told =
    refused_form words fault (elim (told (ap is_simple_and_free is ∙ line_is_free)) [
      | inl memory ↦ inl (same ∙ ap fault_of_kind memory)
      | inr among ↦ inr (λ command form.
          subst (IsAmong kind) (ap (λ (a : App). fault_of a words) is
          ∙ form_passes words command form) among)
    ])
