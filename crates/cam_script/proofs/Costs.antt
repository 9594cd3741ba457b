-- There is room for each step that is not refused as one too many.
use Rattle.cam_words.specs.declared.word.Word.{Word}
use Rattle.std.proofs.Common.{◌≡◌, ◌≤◌, ℕ, ◌+◌, true, false, List, Some, None, length, subst, arith}
use Rattle.std.specs.Prelude.{nat_lt, Ok, IsTrue, IsFalse}
use Rattle.cam_script.specs.declared.Act.{Act}
use Rattle.cam_script.specs.declared.Binding.TheVariants as bindings
use Rattle.cam_script.specs.declared.Form.{Form}
use Rattle.cam_script.specs.declared.Form.TheVariants as forms
use Rattle.cam_script.specs.SoFar.{SoFar, step_cost}
use Rattle.cam_script.specs.Steps.{start_line}
use Rattle.cam_script.specs.Order.{cost_ahead, is_full_script, is_too_many_by, is_too_many}
use Rattle.cam_script.specs.Parse.{costs_one}
use Rattle.cam_script.proofs.Holds.{Holds}
use Rattle.cam_script.proofs.StepLines.{Fits, start_fits}

within_512 : (spent cost : ℕ) → nat_lt 512 (spent + cost) ≡ false → spent + cost ≤ 512
within_512 spent cost h = grind (arith, h)

never : {A : Type 0} → false ≡ true → A
never h = absurd (grind (arith, h))

outside_bodies : (d : SoFar) (form : Form) (at : ℕ) (line : List ℕ) → d.writing ≡ None → IsFalse (is_too_many d form at line) → is_full_script d form at line ≡ false
outside_bodies d form at line none room = subst (λ w. is_too_many_by w d form at line ≡ false) none room

one_step : (d : SoFar) (form : Form) (at : ℕ) (line : List ℕ) → is_full_script d form at line ≡ false → costs_one form ≡ true → d.spent + 1 ≤ 512
one_step d forms.Nodes at line h k = never k
one_step d forms.Object at line h k = never k
one_step d forms.Body at line h k = never k
one_step d forms.Child at line h k = never k
one_step d forms.End at line h k = never k
one_step d forms.Start at line h k = never k
one_step d _ at line h k = within_512 d.spent 1 h

pub room_for : (d : SoFar) (form : Form) (at : ℕ) (line : List ℕ) (act : Act) → d.writing ≡ None → IsFalse (is_too_many d form at line) → IsTrue (costs_one form) → step_cost d.sizes act ≡ 1 → d.spent + step_cost d.sizes act ≤ 512
room_for d form at line act none room one cost = let h = one_step d form at line (outside_bodies d form at line none room) one in omega (arith, h, cost)

pub room_to_start : (d : SoFar) (number at : ℕ) (line : List ℕ) (said : Word × Act) → length d.body_names ≡ length d.script.bodies → d.writing ≡ None → IsFalse (is_too_many d forms.Start at line) → start_line d number at line ≡ Ok said → d.spent + step_cost d.sizes said.1 ≤ 512
room_to_start d number at line said names none room e =
    let fits : Fits d (Some bindings.Start) (cost_ahead d forms.Start at line) said.1 = subst (Holds (λ said. Fits d (Some bindings.Start) (cost_ahead d forms.Start at line) said.1)) e (start_fits d names number at line) in
    let costs = fits.costs in
    let h = within_512 d.spent (cost_ahead d forms.Start at line) (outside_bodies d forms.Start at line none room) in
    omega (arith, h, costs)
