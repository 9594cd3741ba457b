-- What a vote yes adds.
use Rattle.std.proofs.Common.{◌≡◌, ℕ, Bool, true, false, ◌||◌, cond, Result, ◌∙◌, refl}
use Rattle.std.specs.Prelude.{IsOk, OnOk}
use Rattle.std.specs.HashSet.{contains, Updates}
use Rattle.cam_names.specs.declared.name.Name.{Name}
use Rattle.cam_know.proofs.Results.{on_ok}
use Rattle.cam_commit.specs.declared.Yes.{Yes}
use Rattle.cam_commit.specs.declared.Families.{Families as Tables}
use Rattle.cam_commit.specs.Calls.{yes, yes_eq, answers}

cond_or : (t b : Bool) → cond t true b ≡ (t || b)
cond_or true b = refl
cond_or false b = refl

-- to note a vote where there is room does not fail
pub vote_noted : {X Y : Type 0} (r : Result X Y) (old new : Tables) (v : Yes)
    → IsOk r → OnOk r (Updates yes_eq old.votes new.votes v true) → (g : Name) (m c : ℕ)
    → (answers new).has_vote g m c ≡ (yes_eq v (yes g m c) || (answers old).has_vote g m c)
vote_noted r old new v is updates g m c =
    (on_ok r (Updates yes_eq old.votes new.votes v true) is updates).0 (yes g m c)
    ∙ cond_or (yes_eq v (yes g m c)) (contains yes_eq old.votes (yes g m c))
