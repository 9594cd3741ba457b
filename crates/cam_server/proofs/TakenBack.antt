-- What was done with a call is taken back: the server answers as before.
use Rattle.std.proofs.Common.{◌≡◌, ℕ, eqb, Bool, true, false, not, ◌&&◌, ◌⊎◌, if◌then◌else◌, Option}
use Rattle.std.proofs.Common.{None, Some, sym, ap, ◌∙◌, refl, true≢false, inl, inr}
use Rattle.std.specs.List.{list_any}
use Rattle.std.proofs.lemmas.Bool.{cases_Bool}
use Rattle.cam_names.specs.declared.name.Name.{Name}
use Rattle.cam_names.specs.Names.{name_eq, ancestors}
use Rattle.cam_names.specs.Dependencies.{pairs_of}
use Rattle.cam_type.specs.declared.Answer.{Answer}
use Rattle.cam_type.specs.Table.{answer_of}
use Rattle.cam_know.specs.declared.Reason.{Reason}
use Rattle.cam_know.specs.Knowledge.{Knowledge}
use Rattle.cam_know.specs.Known.{knows_commit}
use Rattle.cam_know.specs.Orphans.{known_orphan}
use Rattle.cam_event.specs.declared.Reply.{Reply}
use Rattle.cam_locks.specs.Moss.{holder, value}
use Rattle.cam_locks.specs.Calls.{with_operation, site_by, grant}
use Rattle.cam_server.specs.declared.Performed.{Performed}
use Rattle.cam_server.specs.declared.Performed.TheVariants as performed
use Rattle.cam_server.specs.declared.server.CallName.{CallName}
use Rattle.cam_server.specs.Server.{Server}
use Rattle.cam_server.specs.Calls.{Asked, performed_by, again_or, orphan_or, granted, is_served}
use Rattle.cam_server.specs.Calls.{reply_of, call_eq, AfterPerformed, AreSame}
use Rattle.cam_server.proofs.Noting.{call_eq_same}
use Rattle.cam_server.proofs.Performing.{served_is_granted, none_in_the_way, one_in_the_way}

-- what is served was not answered before
fresh_by : (missed ended : Bool) (kept : Option Reply) (why : Option Reason) (other : Performed)
    → is_served (if missed then performed.Missed else if ended then performed.Ended
    else again_or kept (orphan_or why other)) ≡ true → kept ≡ None
fresh_by true ended kept why other e = absurd (true≢false (sym e))
fresh_by false true kept why other e = absurd (true≢false (sym e))
fresh_by false false (Some reply) why other e = absurd (true≢false (sym e))
fresh_by false false None why other e = refl

served_fresh : (k : Knowledge) (before : Server) (asked : Asked) (done : Performed)
    → done ≡ performed_by k before asked → is_served done ≡ true
    → before.kept_reply asked.action asked.number ≡ None
served_fresh k before asked done is served =
    fresh_by (not (eqb asked.count before.count))
    (list_any (knows_commit k) (ancestors asked.action))
    (before.kept_reply asked.action asked.number)
    (known_orphan k asked.action (pairs_of asked.visited))
    (granted (grant before.table.site asked.action asked.object asked.op))
    (ap is_served (sym is) ∙ served)

-- The reply is forgotten, and the site is as before.
pub same_again : (k : Knowledge) (asked : Asked) (done : Performed) (before old new : Server)
    (call : CallName) → asked.action ≡ call.action → asked.number ≡ call.number
    → done ≡ performed_by k before asked → is_served done ≡ true
    → AfterPerformed asked done before old → new.count ≡ old.count
    → new.table.site ≡ before.table.site
    → ((a : Name) (n : ℕ) → new.kept_reply a n
    ≡ (if call_eq call (record { action = a; number = n }) then None else old.kept_reply a n))
    → AreSame before new
same_again k asked done before old new call action number is served after count site replies =
    record {
      count = count ∙ after.count;
      site = site;
      replies = λ a n. replies a n ∙ by a n
          (cases_Bool (call_eq call (record { action = a; number = n })));
    }
  where
    same : (a : Name) (n : ℕ) → (name_eq asked.action a && eqb asked.number n)
        ≡ call_eq call (record { action = a; number = n })
    same a n = λ i. name_eq (action i) a && eqb (number i) n

    by : (a : Name) (n : ℕ) → (call_eq call (record { action = a; number = n }) ≡ true)
        ⊎ (call_eq call (record { action = a; number = n }) ≡ false)
        → (if call_eq call (record { action = a; number = n }) then None else old.kept_reply a n)
        ≡ before.kept_reply a n
    by a n (inl its) =
        let name : call ≡ record { action = a; number = n } =
        call_eq_same call (record { action = a; number = n }) its in
        ap (λ b. if b then None else old.kept_reply a n) its
        ∙ sym (served_fresh k before asked done is served)
        ∙ (λ i. before.kept_reply ((action ∙ ap (λ (c : CallName). c.action) name) i)
        ((number ∙ ap (λ (c : CallName). c.number) name) i))
    by a n (inr other) =
        ap (λ b. if b then None else old.kept_reply a n) other
        ∙ after.replies a n
        ∙ (λ i. if served i && (same a n ∙ other) i then reply_of done else before.kept_reply a n)

-- What was performed added its operation, and what bounced left the site as it was.
pub done_site : (k : Knowledge) (asked : Asked) (answer : Answer) (before old : Server)
    → performed.Done answer ≡ performed_by k before asked
    → AfterPerformed asked (performed.Done answer) before old
    → old.table.site ≡ with_operation before.table.site asked.action asked.object asked.op
done_site k asked answer before old is after =
    after.site
    ∙ ap (λ (h : Option Name). site_by h before.table.site
    (with_operation before.table.site asked.action asked.object asked.op))
    (none_in_the_way (holder before.table.site asked.action asked.object asked.op)
    (answer_of (value before.table.site asked.object) asked.op) answer
    (served_is_granted k before asked (performed.Done answer) (sym is) refl))

pub busy_site : (k : Knowledge) (asked : Asked) (u : Name) (before old : Server)
    → performed.Busy u ≡ performed_by k before asked
    → AfterPerformed asked (performed.Busy u) before old → old.table.site ≡ before.table.site
busy_site k asked u before old is after =
    after.site
    ∙ ap (λ (h : Option Name). site_by h before.table.site
    (with_operation before.table.site asked.action asked.object asked.op))
    (one_in_the_way (holder before.table.site asked.action asked.object asked.op)
    (answer_of (value before.table.site asked.object) asked.op) u
    (served_is_granted k before asked (performed.Busy u) (sym is) refl))
