-- Lines of plain words: how they stand in a text, and how their words are read one after another.
use Rattle.std.proofs.Common.{◌≡◌, ℕ, ◌+◌, ◌<◌, ◌≤◌, Bool, true, false, ◌&&◌, nat_le, leb-true, le-leb, ne_eqb, eq-eqb, List, [], ◌∷◌, ◌++◌, length, take, drop, flat_map, None, Ok, refl, sym, ap, ◌∙◌, arith, append-nil}
use Rattle.std.proofs.lemmas.List.{take_at, drop_at, drop-drop}
use Rattle.cam_base.specs.Lines.{words}
use Rattle.cam_words.specs.declared.word.Word.{Word}
use Rattle.cam_words.specs.Lines.{bad_byte, in_first, lines_of}
use Rattle.cam_words.specs.Words.{blanks_end, end_at, is_blank, is_missing, next_word, no_word, some_word, text_of, word_at, word_end, word_from}

-- each byte stands from this one to ~
abbrev pub all_from : ℕ → List ℕ → Bool
all_from least [] = true
all_from least (b ∷ bs) = nat_le least b && (nat_le b 126 && all_from least bs)

-- a word: bytes from ! to ~, one at least
pub record IsPlain (w : List ℕ) : Type 0 where
  pub shown : all_from 33 w ≡ true
  pub some : 0 < length w

both : (a b : Bool) → (a && b) ≡ true → (a ≡ true) × (b ≡ true)
both true true e = (refl, refl)
both true false e = absurd cc
both false b e = absurd cc

-- the first byte and the others
record Shown (least b : ℕ) (bs : List ℕ) : Type 0 where
  low : least ≤ b
  high : b ≤ 126
  rest : all_from least bs ≡ true

shown : (least b : ℕ) (bs : List ℕ) → all_from least (b ∷ bs) ≡ true → Shown least b bs
shown least b bs e =
    let (low, others) = both (nat_le least b) (nat_le b 126 && all_from least bs) e in
    let (high, rest) = both (nat_le b 126) (all_from least bs) others in
    record { low = leb-true least b low; high = leb-true b 126 high; rest = rest }

-- such bytes behind others
pub all_append : (least : ℕ) (xs ys : List ℕ) → all_from least xs ≡ true → all_from least ys ≡ true
    → all_from least (xs ++ ys) ≡ true
all_append least [] ys e f = f
all_append least (x ∷ xs) ys e f = by (nat_le least x) (nat_le x 126) (all_from least xs)
    (all_from least (xs ++ ys)) e (λ g. all_append least xs ys g f)
  where
    by : (a b c d : Bool) → (a && (b && c)) ≡ true → (c ≡ true → d ≡ true) → (a && (b && d)) ≡ true
    by true true true d e go = go refl
    by true true false d e go = absurd cc
    by true false c d e go = absurd cc
    by false b c d e go = absurd cc

-- a blank or a byte that is not LF or CR
not_blank : (b : ℕ) → 33 ≤ b → is_blank b ≡ false
not_blank b low = rw (ne_eqb b 32 (omega (arith, low)), ne_eqb b 9 (omega (arith, low))) refl

-- words, each behind a blank
abbrev pub spaced : List (List ℕ) → List ℕ
spaced ws = flat_map (λ w. 32 ∷ w) ws

pub words_are : (w : List ℕ) (ws : List (List ℕ)) → words (w ∷ ws) ≡ w ++ spaced ws
words_are w [] = sym (append-nil w)
words_are w (v ∷ vs) = ap (λ (t : List ℕ). w ++ 32 ∷ t) (words_are v vs)

-- a line of plain words has no byte below a blank
abbrev pub ArePlain : List (List ℕ) → Type 0
ArePlain [] = Unit {0}
ArePlain (w ∷ ws) = IsPlain w × ArePlain ws

wider : (bs : List ℕ) → all_from 33 bs ≡ true → all_from 32 bs ≡ true
wider [] e = refl
wider (b ∷ bs) e =
    let s = shown 33 b bs e in
    rw (le-leb 32 b (omega (arith, s.low)), le-leb b 126 s.high) (wider bs s.rest)

spaced_shown : (ws : List (List ℕ)) → ArePlain ws → all_from 32 (spaced ws) ≡ true
spaced_shown [] are = refl
spaced_shown (w ∷ ws) are = all_append 32 w (spaced ws) (wider w are.0.shown)
    (spaced_shown ws are.1)

pub words_shown : (w : List ℕ) (ws : List (List ℕ)) → IsPlain w → ArePlain ws
    → all_from 32 (words (w ∷ ws)) ≡ true
words_shown w ws plain are =
    ap (λ (t : List ℕ). all_from 32 t) (words_are w ws)
    ∙ all_append 32 w (spaced ws) (wider w plain.shown) (spaced_shown ws are)

-- it is the next line of a text
pub next_line : (line rest : List ℕ) → all_from 32 line ≡ true
    → lines_of (line ++ 10 ∷ rest) ≡ line ∷ lines_of rest
next_line [] rest e = refl
next_line (b ∷ bs) rest e =
    let s = shown 32 b bs e in
    rw (ne_eqb b 10 (omega (arith, s.low)), ne_eqb b 13 (omega (arith, s.low)))
    (ap (λ (ls : List (List ℕ)). in_first b ls) (next_line bs rest s.rest))

pub no_bad_byte : (at : ℕ) (line : List ℕ) → all_from 32 line ≡ true → bad_byte at line ≡ None
no_bad_byte at [] e = refl
no_bad_byte at (b ∷ bs) e =
    let s = shown 32 b bs e in
    rw (
      ne_eqb b 9 (omega (arith, s.low)),
      ne_eqb b 10 (omega (arith, s.low)),
      ne_eqb b 13 (omega (arith, s.low)),
      le-leb 32 b s.low,
      le-leb b 126 s.high,
    )
    (no_bad_byte (at + 1) bs s.rest)

-- where a word ends
blank_ends : (at : ℕ) (ws : List (List ℕ)) → word_end at (spaced ws) ≡ at
blank_ends at [] = refl
blank_ends at (w ∷ ws) = refl

ends : (at : ℕ) (w : List ℕ) (ws : List (List ℕ)) → all_from 33 w ≡ true
    → word_end at (w ++ spaced ws) ≡ at + length w
ends at [] ws e = blank_ends at ws ∙ omega arith
ends at (b ∷ bs) ws e = let s = shown 33 b bs e in
    rw (not_blank b s.low) (ends (at + 1) bs ws s.rest ∙ omega arith)

begins : (at : ℕ) (w : List ℕ) (ws : List (List ℕ)) → IsPlain w
    → blanks_end at (w ++ spaced ws) ≡ at
begins at [] ws plain = absurd (omega (arith, plain.some))
begins at (b ∷ bs) ws plain = rw (not_blank b (shown 33 b bs plain.shown).low) refl

-- The next word from a place on, with words behind it.
pub record Reads (line : List ℕ) (at : ℕ) (w : List ℕ) (ws : List (List ℕ)) : Type 0 where
  pub word : Word
  pub next : next_word at line ≡ word
  pub text : text_of word line ≡ w
  pub some : is_missing word ≡ false
  pub behind : drop word.end line ≡ spaced ws

reads_from : (line : List ℕ) (at start : ℕ) (w : List ℕ) (ws : List (List ℕ)) → IsPlain w
    → blanks_end at (drop at line) ≡ start → drop start line ≡ w ++ spaced ws
    → Reads line at w ws
reads_from line at start w ws plain begun here =
    let ended : word_end start (drop start line) ≡ start
    + length w = ap (λ (t : List ℕ). word_end start t) here ∙ ends start w ws plain.shown in
    record {
      word = record { start = start; end = start + length w };
      next = ap (λ (s : ℕ). word_from s line) begun ∙ ap (λ (e : ℕ). word_of start e) ended;
      text = ap (λ (n : ℕ). take n (drop start line)) (omega arith)
          ∙ ap (λ (t : List ℕ). take (length w) t) here ∙ take_at w (spaced ws) (length w) refl;
      some = ne_eqb start (start + length w) (omega (arith, plain.some));
      behind = sym (drop-drop (length w) start line) ∙ ap (λ (t : List ℕ). drop (length w) t) here
          ∙ drop_at w (spaced ws) (length w) refl;
    }
  where
    word_of : ℕ → ℕ → Word
    word_of s e = record { start = s; end = e }

pub reads_first : (line w : List ℕ) (ws : List (List ℕ)) → IsPlain w → line ≡ w ++ spaced ws
    → Reads line 0 w ws
reads_first line w ws plain is =
    reads_from line 0 0 w ws plain (ap (λ (t : List ℕ). blanks_end 0 t) is ∙ begins 0 w ws plain) is

pub reads_next : (line w : List ℕ) (ws : List (List ℕ)) (at : ℕ) → IsPlain w
    → drop at line ≡ spaced (w ∷ ws) → Reads line at w ws
reads_next line w ws at plain is =
    reads_from line at (at + 1) w ws plain
    (ap (λ (t : List ℕ). blanks_end at t) is ∙ begins (at + 1) w ws plain)
    (sym (drop-drop 1 at line) ∙ ap (λ (t : List ℕ). drop 1 t) is)

pub word_is : (line w : List ℕ) (ws : List (List ℕ)) (at number : ℕ) (r : Reads line at w ws)
    → word_at number at line ≡ Ok r.word
word_is line w ws at number r = ap (λ (x : Word). some_word number at x) r.next ∙ rw r.some refl

pub end_is : (line : List ℕ) (at number : ℕ) → drop at line ≡ [] → end_at number at line ≡ Ok tt
end_is line at number is =
    ap (λ (x : Word). no_word number x) (ap (λ (t : List ℕ). word_from (blanks_end at t) line) is
    ∙ ap (λ (t : List ℕ). word_of at (word_end at t)) is)
    ∙ rw (eq-eqb at at refl) refl
  where
    word_of : ℕ → ℕ → Word
    word_of s e = record { start = s; end = e }
