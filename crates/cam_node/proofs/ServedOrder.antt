-- The order of what the log holds and of what is live goes on over what a site did with a call: an
-- operation that is performed has the next index, and is the last of those that are live.
use Rattle.std.proofs.Common.{◌≡◌, ℕ, ◌+◌, ◌≤◌, List, [], ◌∷◌, ◌++◌, map, Option, Some, None, refl, sym, ap, ◌∙◌, subst, arith}
use Rattle.cam_names.specs.declared.name.Name.{Name}
use Rattle.cam_type.specs.declared.Answer.{Answer}
use Rattle.cam_type.specs.declared.Held.{Held}
use Rattle.cam_type.specs.Table.{answer_of}
use Rattle.cam_know.specs.Knowledge.{Knowledge}
use Rattle.cam_event.specs.declared.Body.TheVariants as bodies
use Rattle.cam_event.specs.declared.Deed.{Deed}
use Rattle.cam_event.specs.declared.Operation.{Operation}
use Rattle.cam_event.specs.History.{after, number_of}
use Rattle.cam_event.specs.Inputs.{Mail}
use Rattle.cam_event.specs.HeldSites.{Placed, Site, is_any_perform, called_op, site_after_all}
use Rattle.cam_locks.specs.declared.LiveOp.{LiveOp}
use Rattle.cam_locks.specs.Moss.{holder, value}
use Rattle.cam_locks.specs.Site as locks
use Rattle.cam_locks.specs.Calls.{with_operation, site_by}
use Rattle.cam_server.specs.declared.Performed.{Performed}
use Rattle.cam_server.specs.declared.Performed.TheVariants as performed
use Rattle.cam_server.specs.Server.{Server, AreLiveOps}
use Rattle.cam_server.specs.Calls.{Asked, performed_by, AfterPerformed}
use Rattle.cam_server.specs.Steps.{did_performed}
use Rattle.cam_server.proofs.Performing.{served_is_granted, none_in_the_way, one_in_the_way}
use Rattle.cam_node.specs.LogOrder.{OrderIsKeptWith}
use Rattle.cam_node.proofs.Ordering.{performed_in_order}
use Rattle.cam_node.proofs.PlacedPast.{IsPast}

-- the operation that a call performs
abbrev operation_of : Asked → Answer → Operation
operation_of asked answer = record {
  action = asked.action;
  number = asked.number;
  object = asked.object;
  op = asked.op;
  answer = answer;
}

-- The order of a table, and that its next index is at most this number of operations.
pub record InOrderTo (number : ℕ) (at : Site) (logged : List Held) (table : locks.Site) : Type 0
  where
    pub kept : OrderIsKeptWith at logged table.live table.next
    pub next : table.next ≤ number

-- a table that stays as it was
same_table : (number : ℕ) (at : Site) (logged : List Held) (one other : locks.Site) → other ≡ one
    → InOrderTo number at logged one → InOrderTo number at logged other
same_table number at logged one other is order =
    subst (InOrderTo number at logged) (sym is) order

-- After what a site did with a call, once it was informed of the news.
pub served_order : (M : List Deed) (mail : Mail) (at : Site) (logged : List Held) (asked : Asked)
    (k : Knowledge) (mid new : Server) (r : Performed)
    → mail.body ≡ bodies.Call asked.action asked.number asked.object asked.op asked.count
    asked.visited
    → performed_by k mid asked ≡ r → AfterPerformed asked r mid new
    → AreLiveOps mid.table.site.live at.live → IsPast (number_of is_any_perform M) at
    → InOrderTo (number_of is_any_perform M) at logged mid.table.site
    → InOrderTo (number_of is_any_perform (after M (did_performed asked r).deeds))
    (site_after_all M (Some mail) at (did_performed asked r).deeds) logged new.table.site
served_order M mail at logged asked k mid new (performed.Done answer) body is did are past order =
    same_table (n + 1)
    (site_after_all M (Some mail) at (did_performed asked (performed.Done answer)).deeds)
    logged (with_operation before asked.action asked.object asked.op) new.table.site site_is
    (record {
      kept = subst
          (λ (os : List Operation). OrderIsKeptWith
          (record at { live = at.live ++ map (λ o. record { index = n; operation = o }) os }) logged
          (before.live ++ k_new ∷ []) (before.next + 1)) (sym called)
          (performed_in_order n at logged before.live before.next k_new p_new are past refl refl
          order.next order.kept);
      next = omega (arith, order.next);
    })
  where
    before : locks.Site
    before = mid.table.site

    n : ℕ
    n = number_of is_any_perform M

    k_new : LiveOp
    k_new = record {
      index = before.next;
      action = asked.action;
      object = asked.object;
      op = asked.op;
    }

    p_new : Placed
    p_new = record { index = n; operation = operation_of asked answer }

    called : called_op answer mail.body ≡ operation_of asked answer ∷ []
    called = ap (called_op answer) body

    free : holder before asked.action asked.object asked.op ≡ None
    free =
        none_in_the_way (holder before asked.action asked.object asked.op)
        (answer_of (value before asked.object) asked.op) answer
        (served_is_granted k mid asked (performed.Done answer) is refl)

    site_is : new.table.site ≡ with_operation before asked.action asked.object asked.op
    site_is =
        did.site
        ∙ ap (λ (h : Option Name). site_by h before
        (with_operation before asked.action asked.object asked.op)) free
served_order M mail at logged asked k mid new (performed.Busy u) body is did are past order =
    same_table (number_of is_any_perform M) at logged mid.table.site new.table.site
    (did.site
    ∙ ap (λ (h : Option Name). site_by h mid.table.site
    (with_operation mid.table.site asked.action asked.object asked.op))
    (one_in_the_way (holder mid.table.site asked.action asked.object asked.op)
    (answer_of (value mid.table.site asked.object) asked.op) u
    (served_is_granted k mid asked (performed.Busy u) is refl))) order
served_order M mail at logged asked k mid new performed.Missed body is did are past order =
    same_table (number_of is_any_perform M) at logged mid.table.site new.table.site did.site order
served_order M mail at logged asked k mid new performed.Ended body is did are past order =
    same_table (number_of is_any_perform M) at logged mid.table.site new.table.site did.site order
served_order M mail at logged asked k mid new (performed.Again reply) body is did are past order =
    same_table (number_of is_any_perform M) at logged mid.table.site new.table.site did.site order
served_order M mail at logged asked k mid new (performed.Orphan reason) body is did are past order =
    same_table (number_of is_any_perform M) at logged mid.table.site new.table.site did.site order
