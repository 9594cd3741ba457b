-- The replies to calls, as they are kept.
use Rattle.std.specs.Prelude.{◌≡◌, ℕ, eqb, Bool, ◌&&◌, if◌then◌else◌, List, [], ◌∷◌, Option, Some, None}
use Rattle.std.specs.HashMap.{HashMap, get}
use Rattle.cam_names.specs.declared.name.Name.{Name}
use Rattle.cam_names.specs.Names.{name_eq}
use Rattle.cam_type.specs.declared.Answer.{Answer}
use Rattle.cam_event.specs.declared.Deed.{Deed}
use Rattle.cam_event.specs.declared.Deed.TheVariants.{Perform, Bounce}
use Rattle.cam_plain.specs.declared.replies.CallName.{CallName}
use Rattle.cam_plain.specs.declared.replies.Replies.{Replies}

-- the answer of a call that was performed, by its last Perform
abbrev pub answer_to : List Deed → Name → ℕ → Option Answer
answer_to [] a n = None
answer_to (Perform b m answer ∷ before) a n =
    if name_eq a b && eqb n m then Some answer else answer_to before a n
answer_to (_ ∷ before) a n = answer_to before a n

-- who stood in the way of a call that was bounced, by its last Bounce
abbrev pub holder_for : List Deed → Name → ℕ → Option Name
holder_for [] a n = None
holder_for (Bounce b m holder ∷ before) a n =
    if name_eq a b && eqb n m then Some holder else holder_for before a n
holder_for (_ ∷ before) a n = holder_for before a n

-- whether two calls are the same: of one action, under one number
abbrev pub call_eq : CallName → CallName → Bool
call_eq c d = name_eq c.action d.action && eqb c.number d.number

abbrev pub call_name : Name → ℕ → CallName
call_name a n = record { action = a; number = n }

-- The tables have the replies.
abbrev pub KeepsAnswers : {S : Type 0} → List Deed → HashMap CallName Answer S → Type 0
KeepsAnswers L answers = (a : Name) (n : ℕ) → get call_eq answers (call_name a n) ≡ answer_to L a n

abbrev pub KeepsHolders : {S : Type 0} → List Deed → HashMap CallName Name S → Type 0
KeepsHolders L holders = (a : Name) (n : ℕ) → get call_eq holders (call_name a n) ≡ holder_for L a n

pub record KeepsReplies (L : List Deed) (replies : Replies) : Type 0 where
  pub answers : KeepsAnswers L replies.answers
  pub holders : KeepsHolders L replies.holders
