-- The word of an action whose ancestor has a variable.
use Rattle.std.proofs.Common.{◌≡◌, ℕ, zero, suc, ◌++◌, length, drop, Some, ap, refl}
use Rattle.std.specs.List.{flat_map}
use Rattle.std.specs.Option.{option_map_or}
use Rattle.std.specs.BTreeMap.{BTreeMap, get}
use Rattle.cam_names.specs.declared.name.Name.{Name}
use Rattle.cam_names.specs.Names.{name_cmp, parent}
use Rattle.cam_names.specs.Text.{name_text}
use Rattle.cam_scope.specs.declared.names.Variable.{Variable}
use Rattle.cam_scope.specs.Words.{by_variable, place_text, word_from}

pub bound_word : (vs : BTreeMap Name Variable) (n : ℕ) (u a : Name) (v : Variable) → (n ≡ 0 → ⊥) → get name_cmp vs u ≡ Some v
    → word_from vs n u a ≡ v.label ++ flat_map place_text (drop (length u) a)
bound_word vs zero u a v some e = absurd (some refl)
bound_word vs (suc n) u a v some e =
    ap (λ o. by_variable o (flat_map place_text (drop (length u) a)) (option_map_or (λ p. word_from vs n p a) (parent u) (name_text a))) e
