-- The reply to a call is noted where there is room.
use Rattle.std.proofs.Common.{◌≡◌, Bool, true, false, cond, if◌then◌else◌, Option, Some, None, Result, Ok, Err, sym, ap, ◌∙◌, refl}
use Rattle.std.specs.Prelude.{IsOk, OnOk, OnErr}
use Rattle.std.specs.HashMap.{get, Updates}
use Rattle.std.proofs.lemmas.Bool.{and_parts}
use Rattle.std.proofs.lemmas.Bool.Decides.{Decides-eqb}
use Rattle.cam_names.specs.declared.name.Name.{Name}
use Rattle.cam_names.proofs.Names.{name_eq_same}
use Rattle.cam_type.specs.declared.Answer.{Answer}
use Rattle.cam_event.specs.declared.Reply.TheVariants as replies
use Rattle.cam_server.specs.declared.server.CallName.{CallName}
use Rattle.cam_server.specs.declared.server.Server.{Server as Tables}
use Rattle.cam_server.specs.Calls.{call_eq, reply_by, reply_in, IsNoted}
use Rattle.cam_know.proofs.Results.{on_ok}

pub call_eq_same : (c d : CallName) → call_eq c d ≡ true → c ≡ d
call_eq_same c d is =
    let parts = and_parts _ _ is in
    let action : c.action ≡ d.action = name_eq_same c.action d.action parts.0 in
    let number : c.number ≡ d.number = (Decides-eqb c.number d.number).0 parts.1 in
    λ i. record { action = action i; number = number i }

none_done : (answer : Option Answer) (u : Option Name) → reply_by answer u ≡ None → answer ≡ None
none_done None u is = refl
none_done (Some answer) u is = cc

busy_by : (e : Bool) (u : Name) (answer : Option Answer) (was : Option Name) → (e ≡ true → answer ≡ None)
    → reply_by answer (cond e (Some u) was) ≡ (if e then Some (replies.Busy u) else reply_by answer was)
busy_by true u answer was none = ap (λ o. reply_by o (Some u)) (none refl)
busy_by false u answer was none = refl

pub busy_noted : {X Y : Type 0} (r : Result X Y) (old new : Tables) (c : CallName) (u : Name) → IsOk r
    → OnOk r (Updates call_eq old.bounced new.bounced c (Some u)) → new.performed ≡ old.performed → reply_in old c ≡ None → IsNoted c (Some (replies.Busy u)) old new
busy_noted r old new c u is updates same fresh d =
    ap (λ o. reply_by (get call_eq new.performed d) o) ((on_ok r (Updates call_eq old.bounced new.bounced c (Some u)) is updates).0 d)
    ∙ ap (λ p. reply_by (get call_eq p d) (cond (call_eq c d) (Some u) (get call_eq old.bounced d))) same
    ∙ busy_by (call_eq c d) u (get call_eq old.performed d) (get call_eq old.bounced d)
    (λ e. ap (get call_eq old.performed) (sym (call_eq_same c d e)) ∙ none_done (get call_eq old.performed c) (get call_eq old.bounced c) fresh)

-- at an error: what holds then holds
pub on_err : {T E : Type 0} (r : Result T E) (P : Type 0) → P → OnErr r P
on_err (Ok x) P p = tt
on_err (Err e) P p = p
