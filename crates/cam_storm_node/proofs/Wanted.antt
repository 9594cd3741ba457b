-- What an action of a storm may ask for: a child at one of the eight nodes, or a call of a
-- register.
use Rattle.std.proofs.Common.{◌≡◌, ℕ, zero, suc, ◌+◌, ◌<◌, ◌≤◌, Bool, true, false, if◌then◌else◌, List, [], ◌∷◌, map, length, refl, sym, ap, ◌∙◌, arith}
use Rattle.std.specs.Prelude.{◌%◌}
use Rattle.std.specs.List.{AllByRecursion}
use Rattle.std.specs.Option.{option_map_or}
use Rattle.std.proofs.lemmas.Bool.{true≢false}
use Rattle.std.proofs.lemmas.Option.{slice_get_past}
use Rattle.cam_type.specs.declared.ObjectDecl.{ObjectDecl}
use Rattle.cam_type.specs.declared.Kind.TheVariants as kinds
use Rattle.cam_type.specs.declared.Op.{Op}
use Rattle.cam_type.specs.Objects.{is_fit, site_of}
use Rattle.cam_type.specs.Table.{fits, kind_of}
use Rattle.cam_event.specs.Runs.{IsNode}
use Rattle.cam_gen.specs.Storms.{Words, numbers, objects_of, register_at}

-- an object that is a register, at one of the eight nodes
abbrev IsRegister : ObjectDecl → Type 0
IsRegister o = (kind_of o.start ≡ kinds.Register) × IsNode o.node

all_made : (f : ℕ → ObjectDecl) → ((n : ℕ) → IsRegister (f n)) → (ns : List ℕ)
    → AllByRecursion IsRegister (map f ns)
all_made f holds [] = tt
all_made f holds (n ∷ ns) = (holds n, all_made f holds ns)

near : (n : ℕ) → 1 ≤ n → n ≤ 8 → IsRegister (register_at n)
near n low high = (refl, (low, high))

-- each object of a storm is one
all_registers : (words : Words) → AllByRecursion IsRegister (objects_of words)
all_registers words = by words.calm
  where
    by : (calm : Bool)
        → AllByRecursion IsRegister
        (if calm then map (λ (i : ℕ). register_at (1 + i % 4)) (numbers words.actions)
        else map register_at (numbers 4))
    by true =
        all_made (λ (i : ℕ). register_at (1 + i % 4))
        (λ i. near (1 + i % 4) (omega arith) (omega arith)) (numbers words.actions)
    by false = (
      near 1 (omega arith) (omega arith),
      (
        near 2 (omega arith) (omega arith),
        (near 3 (omega arith) (omega arith), (near 4 (omega arith) (omega arith), tt)),
      ),
    )

-- a call of one that is declared fits where it is a call of a register
declared : (objects : List ObjectDecl) (x : ℕ) (op : Op) → AllByRecursion IsRegister objects
    → x < length objects
    → (is_fit objects x op ≡ fits kinds.Register op) × IsNode (site_of objects x)
declared [] x op all less = absurd (omega (arith, less))
declared (o ∷ objects) zero op all less = (ap (λ k. fits k op) all.0.0, all.0.1)
declared (o ∷ objects) (suc x) op all less = declared objects x op all.1 (omega (arith, less))

pub call_fits : (words : Words) (x : ℕ) (op : Op) → x < length (objects_of words)
    → fits kinds.Register op ≡ true
    → (is_fit (objects_of words) x op ≡ true) × IsNode (site_of (objects_of words) x)
call_fits words x op less fit =
    let found = declared (objects_of words) x op (all_registers words) less in
    (found.0 ∙ fit, found.1)

-- one that fits is a call of a register
pub fit_calls : (words : Words) (x : ℕ) (op : Op) → is_fit (objects_of words) x op ≡ true
    → x < length (objects_of words) → fits kinds.Register op ≡ true
fit_calls words x op fit less =
    sym (declared (objects_of words) x op (all_registers words) less).0 ∙ fit

-- and what is not declared fits no call
pub undeclared : (words : Words) (x : ℕ) (op : Op) → is_fit (objects_of words) x op ≡ true
    → length (objects_of words) ≤ x → ⊥
undeclared words x op fit beyond =
    true≢false (sym fit
    ∙ ap (λ o. option_map_or (λ (d : ObjectDecl). fits (kind_of d.start) op) o false)
    (slice_get_past (objects_of words) x beyond))
