-- One flag more, for a set of positions.
use Rattle.std.proofs.Common.{◌≡◌, inl, inr, ℕ, ◌+◌, ◌<◌, Bool, false, List, [], ◌∷◌, ◌++◌, length, sym, ap, ◌∙◌, arith, length-append}
use Rattle.std.proofs.lemmas.Bool.Decides.{eqb_tells}
use Rattle.std.proofs.lemmas.List.{get_or_append_left, get_or_push}
use Rattle.std.proofs.lemmas.Option.{unwrap_or-slice_get}
use Rattle.cam_draw.specs.Light.{is_set}

pub set_more : (flags now : List Bool) (b : Bool) (n : ℕ) (S : ℕ → Bool) → length flags ≡ n → now ≡ flags ++ b ∷ [] → b ≡ S n
    → ((i : ℕ) → i < n → is_set flags i ≡ S i) → (length now ≡ n + 1) × ((i : ℕ) → i < n + 1 → is_set now i ≡ S i)
set_more flags now b n S long is told before =
    (ap length is ∙ length-append flags (b ∷ []) ∙ ap (λ m. m + 1) long, λ i small. ap (λ bs. is_set bs i) is ∙ at i small)
  where
    at : (i : ℕ) → i < n + 1 → is_set (flags ++ b ∷ []) i ≡ S i
    at i small =
        elim (eqb_tells i n) [
          | inl y ↦ unwrap_or-slice_get (flags ++ b ∷ []) i false ∙ get_or_push flags b false i (long ∙ sym y.1) ∙ told ∙ ap S (sym y.1)
          | inr m ↦
              let inside : i < n = omega (arith, small, m.1) in
              unwrap_or-slice_get (flags ++ b ∷ []) i false ∙ get_or_append_left flags (b ∷ []) false i (omega (arith, inside, long)) ∙ sym (unwrap_or-slice_get flags i false) ∙ before i inside
        ]
