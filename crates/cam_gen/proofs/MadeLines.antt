-- How each line of a script that is made is read, behind the lines before it.
use Rattle.std.proofs.Common.{◌≡◌, ℕ, zero, suc, ◌+◌, ◌<◌, Bool, true, false, ◌||◌, List, [], ◌∷◌, ◌++◌, length, get_or, Option, Some, None, Result, Ok, codes, refl, ap, ◌∙◌, arith, length-append}
use Rattle.std.specs.Prelude.{pos, option_and_then, slice_get}
use Rattle.std.proofs.lemmas.Option.{slice_get-get_or}
use Rattle.cam_type.specs.declared.ObjectDecl.{ObjectDecl}
use Rattle.cam_type.specs.declared.State.TheVariants.{Register, Queue}
use Rattle.cam_words.specs.declared.fault.ScriptFault.{ScriptFault}
use Rattle.cam_words.specs.declared.word.Word.{Word}
use Rattle.cam_words.specs.Words.{looked_up, place_of}
use Rattle.cam_script.specs.declared.Binding.TheVariants as bindings
use Rattle.cam_script.specs.declared.Form.{Form}
use Rattle.cam_script.specs.declared.Step.{Step}
use Rattle.cam_script.specs.declared.Use.TheVariants as uses
use Rattle.cam_script.specs.Forms.{form_words}
use Rattle.cam_script.specs.Grammar.{begins_with_hash, by_place, from_word, read_line, with_word}
use Rattle.cam_script.specs.Order.{is_declaration, is_step, is_too_many, may_stand, section_of, section_outside}
use Rattle.cam_script.specs.SoFar.{SoFar, Variable, variable_names}
use Rattle.cam_script.specs.Variables.{against, variable_of}
use Rattle.cam_gen.specs.Script.{variable}
use Rattle.cam_gen.proofs.PlainWords.{Reads, all_from, no_bad_byte}
use Rattle.cam_gen.proofs.Variables.{names_from, names_more, place_found, place_new}

-- the objects, and what is declared behind so many steps
abbrev pub objects : List ObjectDecl
objects =
    record { node = 1; start = Register (pos 0) } ∷ record { node = 2; start = Register (pos 0) }
    ∷ record { node = 3; start = Register (pos 0) }
    ∷ record { node = 1; start = Queue [] } ∷ []

abbrev pub labels : List (List ℕ)
labels = codes "r1" ∷ codes "r2" ∷ codes "r3" ∷ codes "q1" ∷ []

abbrev pub made : List Step → List Variable → ℕ → SoFar
made steps variables spent =
    record {
      script = record { nodes = 3; objects = objects; labels = labels; bodies = []; steps = steps };
      body_names = [];
      sizes = [];
      variables = variables;
      spent = spent;
      writing = None;
    }

-- so many variables, each of which may make requests
abbrev Usable : List Variable → Type 0
Usable [] = Unit {0}
Usable (v ∷ vs) = (against uses.Request v.binding ≡ None) × Usable vs

pub record Has (variables : List Variable) (k : ℕ) : Type 0 where
  pub names : variable_names variables ≡ names_from 0 k
  pub many : length variables ≡ k
  pub usable : Usable variables

usable_more : (vs : List Variable) (v : Variable) → Usable vs
    → against uses.Request v.binding ≡ None → Usable (vs ++ v ∷ [])
usable_more [] v u one = (one, tt)
usable_more (x ∷ vs) v u one = (u.0, usable_more vs v u.1 one)

usable_at : (vs : List Variable) (x : ℕ) (d : Variable) → Usable vs → x < length vs
    → against uses.Request (get_or vs x d).binding ≡ None
usable_at [] x d u below = absurd (omega (arith, below))
usable_at (v ∷ vs) zero d u below = u.0
usable_at (v ∷ vs) (suc x) d u below = usable_at vs x d u.1 (omega (arith, below))

names_append : (vs : List Variable) (v : Variable)
    → variable_names (vs ++ v ∷ []) ≡ variable_names vs ++ v.name ∷ []
names_append [] v = refl
names_append (x ∷ vs) v = ap (λ (ns : List (List ℕ)). x.name ∷ ns) (names_append vs v)

pub has_more : (vs : List Variable) (k : ℕ) (v : Variable) → Has vs k → v.name ≡ variable k
    → against uses.Request v.binding ≡ None → Has (vs ++ v ∷ []) (k + 1)
has_more vs k v has named one =
    record {
      names =
          names_append vs v ∙ ap (λ (ns : List (List ℕ)). ns ++ v.name ∷ []) has.names
          ∙ ap (λ (n : List ℕ). names_from 0 k ++ n ∷ []) named
          ∙ ap (λ (n : ℕ). names_from 0 k ++ variable n ∷ []) (let e : k ≡ 0 + k = omega arith in e)
          ∙ names_more 0 k
          ∙ ap (λ (n : ℕ). names_from 0 n) (let e : suc k ≡ k + 1 = omega arith in e);
      many = length-append vs (v ∷ []) ∙ omega (arith, has.many);
      usable = usable_more vs v has.usable one;
    }

-- the variable of a word
pub record Found (variables : List Variable) (x : ℕ) : Type 0 where
  pub v : Variable
  pub is : variable_of variables (variable x) ≡ Some v
  pub usable : against uses.Request v.binding ≡ None

unused : Variable
unused = record { name = []; step = 0; binding = bindings.Begin }

pub found : (vs : List Variable) (k x : ℕ) → Has vs k → x < k → k < 512 → Found vs x
found vs k x has below small =
    let place : place_of (variable_names vs) (variable x) ≡ Some x =
    ap (λ (ns : List (List ℕ)). place_of ns (variable x)) has.names
    ∙ place_found 0 0 k x (omega arith) (omega (arith, below)) (omega (arith, below, small))
    ∙ ap (λ (n : ℕ). Some n) (omega arith) in
    record {
      v = get_or vs x unused;
      is = ap (λ (p : Option ℕ). option_and_then (λ n. slice_get vs n) p) place
          ∙ slice_get-get_or vs x unused (omega (arith, below, has.many));
      usable = usable_at vs x unused has.usable (omega (arith, below, has.many));
    }

pub new : (vs : List Variable) (k : ℕ) → Has vs k → k < 512
    → place_of (variable_names vs) (variable k) ≡ None
new vs k has small = ap (λ (ns : List (List ℕ)). place_of ns (variable k)) has.names
    ∙ place_new 0 0 k k (omega arith) small

-- A line by its first word and what is read behind it.
pub stands : (steps : List Step) (form : Form) → is_step form ≡ true
    → may_stand (section_outside steps) form ≡ true
stands [] form e = or_true (is_declaration_of form) (is_step form) e
  where
    is_declaration_of : Form → Bool
    is_declaration_of form = is_declaration form

    or_true : (a b : Bool) → b ≡ true → (a || b) ≡ true
    or_true true b e = refl
    or_true false b e = e
stands (s ∷ steps) form e = e

pub line_is : (d next : SoFar) (number : ℕ) (line w : List ℕ) (ws : List (List ℕ)) (form : Form)
    (r : Reads line 0 w ws)
    → all_from 32 line ≡ true → begins_with_hash w ≡ false → looked_up form_words w ≡ Some form
    → may_stand (section_of d) form ≡ true
    → is_too_many d form r.word.end line ≡ false → by_place d.writing d form number r.word.end line
    ≡ Ok next → read_line d number line ≡ Ok next
unfolding read_line with_word
line_is d next number line w ws form r shown hash known stand room is =
    rw (no_bad_byte 0 line shown)
    (ap (λ (word : Word). from_word d number word line) r.next
    ∙ rw (
      r.some,
      ap begins_with_hash r.text ∙ hash,
      ap (λ (t : List ℕ). looked_up form_words t) r.text ∙ known,
      stand,
      room,
    ) is)

-- behind a line: so many variables, and one step more
pub record Goes (read : Result SoFar ScriptFault) (k spent : ℕ) : Type 0 where
  pub steps : List Step
  pub variables : List Variable
  pub is : read ≡ Ok (made steps variables spent)
  pub has : Has variables k
