-- The last reply to each call, as it is kept.
use Rattle.std.specs.Prelude.{◌≡◌, ℕ, eqb, Bool, ◌&&◌, if◌then◌else◌, List, Some}
use Rattle.std.specs.HashMap.{HashMap, get}
use Rattle.cam_names.specs.declared.name.Name.{Name}
use Rattle.cam_names.specs.Names.{name_eq}
use Rattle.cam_event.specs.declared.Deed.{Deed}
use Rattle.cam_event.specs.declared.Deed.TheVariants.{Crash}
use Rattle.cam_event.specs.declared.Reply.{Reply}
use Rattle.cam_event.specs.Sights.{kept_reply}
use Rattle.cam_own.specs.declared.replies.CallName.{CallName}

-- whether two calls are the same: of one action, under one number
abbrev pub call_eq : CallName → CallName → Bool
call_eq c d = name_eq c.action d.action && eqb c.number d.number

abbrev pub call_name : Name → ℕ → CallName
call_name a n = record { action = a; number = n }

-- The table has the reply to each call, if no node has crashed.
abbrev pub KeepsReplies : {S : Type 0} → List Deed → HashMap CallName Reply S → Type 0
KeepsReplies L replies = (a : Name) (n : ℕ) → get call_eq replies (call_name a n) ≡ kept_reply L a n

-- the deed is no crash
abbrev pub IsNoCrash : Deed → Type 0
IsNoCrash (Crash s) = ⊥
IsNoCrash _ = Unit {0}

-- the new table has this reply at one call
abbrev pub Puts : {S : Type 0} → Name → ℕ → Reply → HashMap CallName Reply S → HashMap CallName Reply S → Type 0
Puts b m reply old new =
    (a : Name) (n : ℕ) → get call_eq new (call_name a n)
    ≡ (if name_eq a b && eqb n m then Some reply else get call_eq old (call_name a n))
