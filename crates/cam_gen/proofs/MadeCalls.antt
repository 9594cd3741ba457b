-- The objects and operations of calls, by their draws: their words are plain, and are read as what
-- was drawn.
use Rattle.std.proofs.Common.{◌≡◌, ℕ, zero, suc, ◌<◌, ◌≤◌, List, [], ◌∷◌, length, drop, Some, Ok, codes, decimal, refl, ◌∙◌, arith, length-append}
use Rattle.std.specs.Prelude.{ℤ, pos}
use Rattle.std.specs.Fmt.{digits}
use Rattle.cam_type.specs.declared.Kind.{Kind}
use Rattle.cam_type.specs.declared.Kind.TheVariants as kinds
use Rattle.cam_words.specs.Words.{◌>>=◌, looked_up, place_of}
use Rattle.cam_words.specs.Numbers.{value_at}
use Rattle.cam_script.specs.declared.OpWith.{OpWith}
use Rattle.cam_script.specs.declared.OpWith.TheVariants as ops
use Rattle.cam_script.specs.Operations.{kind_at, op_at, op_of, with_value, words_of}
use Rattle.cam_gen.specs.Script.{object_word, op_words}
use Rattle.cam_gen.proofs.PlainWords.{ArePlain, IsPlain, reads_next, spaced}
use Rattle.cam_gen.proofs.ReadWords.{op_word_read, value_read}
use Rattle.cam_gen.proofs.Numerals.{short_value, value_is}
use Rattle.cam_gen.proofs.MadeLines.{labels, objects}

-- what holds of each number below 3, and below 4
below3 : (P : ℕ → Type 0) → P 0 → P 1 → P 2 → (n : ℕ) → n < 3 → P n
below3 P a b c zero below = a
below3 P a b c (suc zero) below = b
below3 P a b c (suc (suc zero)) below = c
below3 P a b c (suc (suc (suc n))) below = absurd (omega (arith, below))

below4 : (P : ℕ → Type 0) → P 0 → P 1 → P 2 → P 3 → (n : ℕ) → n < 4 → P n
below4 P a b c d zero below = a
below4 P a b c d (suc zero) below = b
below4 P a b c d (suc (suc zero)) below = c
below4 P a b c d (suc (suc (suc zero))) below = d
below4 P a b c d (suc (suc (suc (suc n)))) below = absurd (omega (arith, below))

-- an object
pub record IsObject (object : ℕ) : Type 0 where
  pub plain : IsPlain (object_word object)
  pub few : length (object_word object) ≤ 2
  pub place : place_of labels (object_word object) ≡ Some object

pub object_is : (object : ℕ) → object < 4 → IsObject object
unfolding digits
object_is =
    below4 IsObject
    (record {
      plain = record { shown = refl; some = omega arith };
      few = omega arith;
      place = refl;
    })
    (record {
      plain = record { shown = refl; some = omega arith };
      few = omega arith;
      place = refl;
    })
    (record {
      plain = record { shown = refl; some = omega arith };
      few = omega arith;
      place = refl;
    })
    (record {
      plain = record { shown = refl; some = omega arith };
      few = omega arith;
      place = refl;
    })

-- an operation, at the end of its line
pub record OpReads (kind : Kind) (number at : ℕ) (line : List ℕ) : Type 0 where
  pub op : OpWith ℤ
  pub end : ℕ
  pub is : op_at value_at kind number at line ≡ Ok (op, end)
  pub behind : drop end line ≡ []

pub record IsOperation (kind : Kind) (ws : List (List ℕ)) : Type 0 where
  pub plain : ArePlain ws
  pub few : length (spaced ws) ≤ 9
  pub reads : (line : List ℕ) (at number : ℕ) → drop at line ≡ spaced ws
      → OpReads kind number at line

-- one of a word alone
alone : (kind : Kind) (w : List ℕ) (form : OpWith (Unit {0})) (said : OpWith ℤ) → IsPlain w
    → length w ≤ 5 → looked_up (words_of kind) w ≡ Some form
    → ((number at : ℕ) (line : List ℕ) → op_of value_at form number at line ≡ Ok (said, at))
    → IsOperation kind (w ∷ [])
unfolding op_at
alone kind w form said plain few known of =
    record {
      plain = (plain, tt);
      few = omega (arith, few, length-append w []);
      reads = λ line at number here.
          let r = reads_next line w [] at plain here in
          record {
            op = said;
            end = r.word.end;
            is = rw (op_word_read line w [] at number r kind form known)
                (of number r.word.end line);
            behind = r.behind;
          };
    }

-- one with a value
valued : (kind : Kind) (w : List ℕ) (form : OpWith (Unit {0})) (op : ℤ → OpWith ℤ) (value : ℕ)
    → IsPlain w → length w ≤ 5 → value < 100
    → looked_up (words_of kind) w ≡ Some form
    → ((number at : ℕ) (line : List ℕ) → op_of value_at form number at line
    ≡ (value_at number at line >>= with_value op)) → IsOperation kind (w ∷ decimal value ∷ [])
unfolding op_at
valued kind w form op value plain few small known of =
    let short = short_value value small in
    record {
      plain = (plain, (short.plain, tt));
      few = omega (
        arith,
        few,
        short.few,
        length-append w (spaced (decimal value ∷ [])),
        length-append (decimal value) [],
      );
      reads = λ line at number here.
          let r = reads_next line w (decimal value ∷ []) at plain here in
          let s = reads_next line (decimal value) [] r.word.end short.plain r.behind in
          record {
            op = op (pos value);
            end = s.word.end;
            is = rw (op_word_read line w (decimal value ∷ []) at number r kind form known)
                (of number r.word.end line ∙ rw
                (value_read line (decimal value) [] r.word.end number s (pos value)
                (value_is value small)) refl);
            behind = s.behind;
          };
    }

on_register : (value : ℕ) → value < 100 → (op : ℕ) → op < 3
    → IsOperation kinds.Register (op_words 0 op value)
unfolding op_of
on_register value small =
    below3 (λ op. IsOperation kinds.Register (op_words 0 op value))
    (alone kinds.Register (codes "read") ops.Read ops.Read
    (record { shown = refl; some = omega arith }) (omega arith) refl (λ number at line. refl))
    (valued kinds.Register (codes "write") (ops.Write tt) (λ v. ops.Write v) value
    (record { shown = refl; some = omega arith }) (omega arith) small refl (λ number at line. refl))
    (valued kinds.Register (codes "swap") (ops.Swap tt) (λ v. ops.Swap v) value
    (record { shown = refl; some = omega arith }) (omega arith) small refl (λ number at line. refl))

on_queue : (value : ℕ) → value < 100 → (op : ℕ) → op < 3
    → IsOperation kinds.Queue (op_words 3 op value)
unfolding op_of
on_queue value small =
    below3 (λ op. IsOperation kinds.Queue (op_words 3 op value))
    (alone kinds.Queue (codes "size") ops.Size ops.Size
    (record { shown = refl; some = omega arith }) (omega arith) refl (λ number at line. refl))
    (valued kinds.Queue (codes "put") (ops.Put tt) (λ v. ops.Put v) value
    (record { shown = refl; some = omega arith }) (omega arith) small refl (λ number at line. refl))
    (alone kinds.Queue (codes "take") ops.Take ops.Take
    (record { shown = refl; some = omega arith }) (omega arith) refl (λ number at line. refl))

pub operation_is : (object op value : ℕ) → object < 4 → op < 3 → value < 100
    → IsOperation (kind_at objects object) (op_words object op value)
operation_is object op value few op_few small =
    below4 (λ x. IsOperation (kind_at objects x) (op_words x op value))
    (on_register value small op op_few) (on_register value small op op_few)
    (on_register value small op op_few) (on_queue value small op op_few) object few
