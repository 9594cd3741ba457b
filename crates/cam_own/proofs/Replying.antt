-- What is put at a call.
use Rattle.std.proofs.Common.{◌≡◌, ℕ, eqb, Bool, true, false, ◌&&◌, if◌then◌else◌, cond, Option, Some, refl, ◌∙◌, arith}
use Rattle.std.specs.HashMap.{HashMap, get}
use Rattle.cam_names.specs.declared.name.Name.{Name}
use Rattle.cam_names.specs.Names.{name_eq}
use Rattle.cam_names.proofs.Names.{name_eq_sym}
use Rattle.cam_event.specs.declared.Reply.{Reply}
use Rattle.cam_own.specs.declared.replies.CallName.{CallName}
use Rattle.cam_own.specs.Replies.{call_eq, call_name, Puts}

number_turned : (m n : ℕ) → eqb m n ≡ eqb n m
number_turned m n = grind arith

call_turned : (b a : Name) (m n : ℕ) → call_eq (call_name b m) (call_name a n) ≡ (name_eq a b && eqb n m)
call_turned b a m n = λ i. name_eq_sym b a i && number_turned m n i

chosen : {X : Type 0} (t : Bool) (x : X) (o : Option X) → cond t (Some x) o ≡ (if t then Some x else o)
chosen true x o = refl
chosen false x o = refl

pub reply_put : {S : Type 0} (b : Name) (m : ℕ) (reply : Reply) (old new : HashMap CallName Reply S)
    → ((q : CallName) → get call_eq new q ≡ cond (call_eq (call_name b m) q) (Some reply) (get call_eq old q)) → Puts b m reply old new
reply_put b m reply old new put a n =
    put (call_name a n) ∙ (λ i. cond (call_turned b a m n i) (Some reply) (get call_eq old (call_name a n)))
    ∙ chosen (name_eq a b && eqb n m) reply (get call_eq old (call_name a n))
