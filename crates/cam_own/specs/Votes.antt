-- The votes yes for each family that is preparing, as they are kept.
use Rattle.std.specs.Prelude.{◌≡◌, ℕ, if◌then◌else◌, List, [], ◌∷◌, ◌++◌, Option, Some, option_map, is_some, unwrap_or}
use Rattle.std.specs.HashMap.{HashMap, get}
use Rattle.cam_names.specs.declared.name.Name.{Name}
use Rattle.cam_names.specs.Names.{name_eq}
use Rattle.cam_names.specs.Dependencies.{has_pair}
use Rattle.cam_event.specs.declared.Note.{Note}
use Rattle.cam_event.specs.declared.Note.TheVariants as notes
use Rattle.cam_event.specs.Inputs.{Mail}
use Rattle.cam_event.specs.Sights.{Entry, votes, yes_for}

-- what the table has of each family are the votes that the events of the node have
pub record KeepsVotes {S : Type 0} (E : List Entry) (table : HashMap Name (List (ℕ × ℕ)) S) : Type 0 where
  pub preparing : (f : Name) → is_some (get name_eq table f) ≡ is_some (votes E f)
  pub pairs :
      (f : Name) (s c : ℕ)
      → has_pair (unwrap_or (get name_eq table f) []) s c
      ≡ has_pair (unwrap_or (votes E f) []) s c

-- the new table has the votes of a letter besides
abbrev pub AddsVotes : {S : Type 0} → Option Mail → HashMap Name (List (ℕ × ℕ)) S
    → HashMap Name (List (ℕ × ℕ)) S → Type 0
AddsVotes mail old new =
    (f : Name) → get name_eq new f ≡ option_map (λ vs. vs ++ yes_for f mail) (get name_eq old f)

-- the table after an event with this note
abbrev pub after_note : Name → Note → Option (List (ℕ × ℕ)) → Option (List (ℕ × ℕ))
after_note f (notes.Preparing g) kept = if name_eq f g then Some [] else kept
after_note f _ kept = kept

abbrev pub BeginsVotes : {S : Type 0} → Note → HashMap Name (List (ℕ × ℕ)) S
    → HashMap Name (List (ℕ × ℕ)) S → Type 0
BeginsVotes note old new = (f : Name) → get name_eq new f ≡ after_note f note (get name_eq old f)

-- the new table has one vote yes more, if the family is preparing
abbrev pub AddsYes : {S : Type 0} → Name → ℕ → ℕ → HashMap Name (List (ℕ × ℕ)) S
    → HashMap Name (List (ℕ × ℕ)) S → Type 0
AddsYes g s c old new =
    (f : Name)
    → get name_eq new f
    ≡ option_map (λ vs. vs ++ (if name_eq f g then (s, c) ∷ [] else [])) (get name_eq old f)
