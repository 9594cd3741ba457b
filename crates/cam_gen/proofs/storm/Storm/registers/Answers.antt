use Rattle.std.proofs.Common.{◌≡◌, ℕ, ◌+◌, if◌then◌else◌, true, map, length, sym, ap, ◌∙◌}
use Rattle.std.specs.Prelude.{◌%◌}
use Rattle.std.proofs.lemmas.List.{length-map}
use Rattle.cam_gen.specs.Storms.{Words, numbers, objects_of, register_at}
use Rattle.cam_gen.proofs.StormNumbers.{length_numbers}
use Rattle.cam_gen.proofs.storm.Storm.registers.Goals as goal

calm_count : (words : Words) → words.calm ≡ true → length (objects_of words) ≡ words.actions
calm_count words calm =
    ap (λ b. length (if b then map (λ (i : ℕ). register_at (1 + i % 4)) (numbers words.actions)
    else map register_at (numbers 4))) calm
    ∙ length-map (numbers words.actions) (λ (i : ℕ). register_at (1 + i % 4))
    ∙ length_numbers words.actions

-- in calm there is one for each top action
pub returns-then-self : goal.returns-then-self
returns-then-self c =
    let is = sym c.self.view_is in
    sym (calm_count c.args.self.now (ap (λ (w : Words). w.calm) is ∙ c.if-self.true)
    ∙ ap (λ (w : Words). w.actions) is)
