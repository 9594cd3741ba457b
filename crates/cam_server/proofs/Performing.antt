-- A server goes on serving over a call that comes.
use Rattle.std.proofs.Common.{◌≡◌, ℕ, eqb, Bool, true, false, not, ◌&&◌, if◌then◌else◌, List, [], ◌∷◌, ◌++◌, map, Option, Some, None, sym, ap, ap₂, subst, ◌∙◌, refl, true≢false}
use Rattle.std.specs.List.{list_any}
use Rattle.cam_names.specs.declared.name.Name.{Name}
use Rattle.cam_names.specs.Names.{name_eq, ancestors}
use Rattle.cam_names.specs.Dependencies.{pairs_of}
use Rattle.cam_names.proofs.Names.{name_eq_sym}
use Rattle.cam_type.specs.declared.ObjectDecl.{ObjectDecl}
use Rattle.cam_type.specs.declared.Answer.{Answer}
use Rattle.cam_type.specs.Table.{answer_of}
use Rattle.cam_know.specs.declared.Reason.{Reason}
use Rattle.cam_know.specs.Knowledge.{Knowledge}
use Rattle.cam_know.specs.Known.{knows_commit}
use Rattle.cam_know.specs.Orphans.{known_orphan}
use Rattle.cam_event.specs.declared.Body.{Body}
use Rattle.cam_event.specs.declared.Deed.{Deed}
use Rattle.cam_event.specs.declared.Deed.TheVariants.{Perform}
use Rattle.cam_event.specs.declared.Reply.{Reply}
use Rattle.cam_event.specs.declared.Reply.TheVariants as replies
use Rattle.cam_event.specs.History.{after, number_of}
use Rattle.cam_event.specs.Inputs.{Mail}
use Rattle.cam_event.specs.Sights.{kept_reply}
use Rattle.cam_event.specs.HeldSites.{Placed, Site, is_any_perform, called_op, performed_op, site_after, site_after_all, site}
use Rattle.cam_event.specs.Carried.{Carried, deeds_of}
use Rattle.cam_locks.specs.Names.{has_name}
use Rattle.cam_locks.specs.Moss.{holder, value}
use Rattle.cam_locks.specs.Site as locks
use Rattle.cam_locks.specs.Calls.{with_operation, site_by, grant_by, grant, after_grant}
use Rattle.cam_locks.proofs.Bools.{eqb_sym}
use Rattle.cam_locks.proofs.Indices.{rise_push}
use Rattle.cam_server.specs.declared.Performed.{Performed}
use Rattle.cam_server.specs.declared.Performed.TheVariants as performed
use Rattle.cam_server.specs.Server.{Server, IsSiteOf, AreLiveOps}
use Rattle.cam_server.specs.Calls.{Asked, performed_by, again_or, orphan_or, granted, is_served, reply_of, AfterPerformed}
use Rattle.cam_server.specs.Events.{served_deed, IsServing, PerformKeeps}
use Rattle.cam_server.proofs.QuietDeeds.{quiet_live}
use Rattle.cam_server.proofs.LiveOps.{are_more}
use Rattle.cam_server.proofs.Serving.{Serves, serves, serves_after, informed_serves}

-- one list of deeds after another
pub after_append : (L ds es : List Deed) → after L (ds ++ es) ≡ after (after L ds) es
after_append L [] es = refl
after_append L (d ∷ ds) es = after_append (d ∷ L) ds es

pub site_append : (L : List Deed) (mail : Option Mail) (at : Site) (ds es : List Deed)
    → site_after_all L mail at (ds ++ es) ≡ site_after_all (after L ds) mail (site_after_all L mail at ds) es
site_append L mail at [] es = refl
site_append L mail at (d ∷ ds) es = site_append (d ∷ L) mail (site_after L mail at d) ds es

-- What comes as far as the table is what the table grants.
pub served_is_granted : (k : Knowledge) (server : Server) (asked : Asked) (r : Performed)
    → performed_by k server asked ≡ r → is_served r ≡ true
    → r ≡ granted (grant server.table.site asked.action asked.object asked.op)
served_is_granted k server asked r is served =
    by (not (eqb asked.count server.count)) (list_any (knows_commit k) (ancestors asked.action)) (server.kept_reply asked.action asked.number)
    (known_orphan k asked.action (pairs_of asked.visited)) (granted (grant server.table.site asked.action asked.object asked.op)) is
  where
    by : (missed ended : Bool) (kept : Option Reply) (why : Option Reason) (other : Performed)
        → (if missed then performed.Missed else if ended then performed.Ended else again_or kept (orphan_or why other)) ≡ r
        → r ≡ other
    by true ended kept why other e = absurd (true≢false (sym served ∙ ap is_served (sym e)))
    by false true kept why other e = absurd (true≢false (sym served ∙ ap is_served (sym e)))
    by false false (Some reply) why other e = absurd (true≢false (sym served ∙ ap is_served (sym e)))
    by false false None (Some reason) other e = absurd (true≢false (sym served ∙ ap is_served (sym e)))
    by false false None None other e = sym e

pub none_in_the_way : (h : Option Name) (answer given : Answer) → performed.Done given ≡ granted (grant_by h answer)
    → h ≡ None
none_in_the_way None answer given is = refl
none_in_the_way (Some u) answer given is = cc

pub one_in_the_way : (h : Option Name) (answer : Answer) (v : Name) → performed.Busy v ≡ granted (grant_by h answer)
    → h ≡ Some v
one_in_the_way None answer v is = cc
one_in_the_way (Some u) answer v is = cc

-- the newest deed of a call is its reply
reply_first : (asked : Asked) (reply : Reply) (mine old : Option Reply) (a : Name) (n : ℕ)
    → mine ≡ (if name_eq asked.action a && eqb asked.number n then Some reply else old)
    → mine ≡ (if name_eq a asked.action && eqb n asked.number then Some reply else old)
reply_first asked reply mine old a n is =
    is ∙ ap₂ (λ b c. if b && c then Some reply else old) (name_eq_sym asked.action a) (eqb_sym asked.number n)

-- the operation that the letter asked for
called : (s : ℕ) (c : Carried) (first : List Deed) (asked : Asked) (r : Performed) (answer : Answer)
    → IsServing s c first asked r
    → performed_op answer c.mail ≡ record { action = asked.action; number = asked.number; object = asked.object; op = asked.op; answer = answer } ∷ []
called s c first asked r answer serving =
    ap (performed_op answer) serving.mail.1 ∙ ap (λ (b : Body). called_op answer b) serving.mail.2

-- a call that does not come as far as the table changes nothing
stays : (objects : List ObjectDecl) (s : ℕ) (M : List Deed) (at : Site) (asked : Asked) (mid new : Server) (r : Performed)
    → is_served r ≡ false
    → AfterPerformed asked r mid new → Serves objects s M at.live mid → Serves objects s M at.live new
stays objects s M at asked mid new r is did goes =
    let site_is : new.table.site ≡ mid.table.site =
    did.site ∙ ap (λ b. if b then after_grant mid.table.site asked.action asked.object asked.op else mid.table.site) is in
    record {
      count_is = did.count ∙ goes.count_is;
      replies = λ a n.
          did.replies a n
          ∙ ap (λ b. if b && (name_eq asked.action a && eqb asked.number n) then reply_of r else mid.kept_reply a n) is
          ∙ goes.replies a n;
      site = subst (λ (t : locks.Site). IsSiteOf objects s at.live t) (sym site_is) goes.site;
      commits = λ u. ap (λ (t : locks.Site). has_name t.committed u) site_is ∙ goes.commits u;
    }

-- One call more, after the site was informed.
call_serves : (objects : List ObjectDecl) (s : ℕ) (M : List Deed) (at : Site) (c : Carried) (first : List Deed) (asked : Asked) (k : Knowledge) (mid new : Server)
    → (r : Performed) → performed_by k mid asked ≡ r → IsServing s c first asked r
    → AfterPerformed asked r mid new
    → Serves objects s M at.live mid
    → Serves objects s (after M (served_deed asked r)) (site_after_all M c.mail at (served_deed asked r)).live new
call_serves objects s M at c first asked k mid new (performed.Done answer) is serving did goes =
    let granted_is = served_is_granted k mid asked (performed.Done answer) is refl in
    let free : holder mid.table.site asked.action asked.object asked.op ≡ None =
    none_in_the_way (holder mid.table.site asked.action asked.object asked.op) (answer_of (value mid.table.site asked.object) asked.op) answer granted_is in
    let site_is : new.table.site ≡ with_operation mid.table.site asked.action asked.object asked.op =
    did.site ∙ ap (λ (h : Option Name). site_by h mid.table.site (with_operation mid.table.site asked.action asked.object asked.op)) free in
    record {
      count_is = did.count ∙ goes.count_is;
      replies = λ a n.
          reply_first asked (replies.Done answer) (new.kept_reply a n) (kept_reply M a n) a n
          (did.replies a n ∙ ap (λ o. if name_eq asked.action a && eqb asked.number n then Some (replies.Done answer) else o) (goes.replies a n));
      site = subst (λ (t : locks.Site). IsSiteOf objects s (site_after_all M c.mail at (Perform asked.action asked.number answer ∷ [])).live t) (sym site_is)
          (record {
            objects_are = goes.site.objects_are;
            node = goes.site.node;
            operations = subst (λ os. AreLiveOps (mid.table.site.live ++ record { index = mid.table.site.next; action = asked.action; object = asked.object; op = asked.op } ∷ [])
                (at.live ++ map (λ o. record { index = number_of is_any_perform M; operation = o }) os))
                (sym (called s c first asked (performed.Done answer) answer serving))
                (are_more mid.table.site.live at.live (record { index = mid.table.site.next; action = asked.action; object = asked.object; op = asked.op })
                (record { index = number_of is_any_perform M; operation = record { action = asked.action; number = asked.number; object = asked.object; op = asked.op; answer = answer } })
                goes.site.operations (record { action = refl; object = refl; op = refl }));
            order = rise_push 0 mid.table.site.live mid.table.site.next (record { index = mid.table.site.next; action = asked.action; object = asked.object; op = asked.op })
                goes.site.order refl;
          });
      commits = λ u. ap (λ (t : locks.Site). has_name t.committed u) site_is ∙ goes.commits u;
    }
call_serves objects s M at c first asked k mid new (performed.Busy v) is serving did goes =
    let granted_is = served_is_granted k mid asked (performed.Busy v) is refl in
    let held : holder mid.table.site asked.action asked.object asked.op ≡ Some v =
    one_in_the_way (holder mid.table.site asked.action asked.object asked.op) (answer_of (value mid.table.site asked.object) asked.op) v granted_is in
    let site_is : new.table.site ≡ mid.table.site =
    did.site ∙ ap (λ (h : Option Name). site_by h mid.table.site (with_operation mid.table.site asked.action asked.object asked.op)) held in
    record {
      count_is = did.count ∙ goes.count_is;
      replies = λ a n.
          reply_first asked (replies.Busy v) (new.kept_reply a n) (kept_reply M a n) a n
          (did.replies a n ∙ ap (λ o. if name_eq asked.action a && eqb asked.number n then Some (replies.Busy v) else o) (goes.replies a n));
      site = subst (λ (t : locks.Site). IsSiteOf objects s at.live t) (sym site_is) goes.site;
      commits = λ u. ap (λ (t : locks.Site). has_name t.committed u) site_is ∙ goes.commits u;
    }
call_serves objects s M at c first asked k mid new performed.Missed is serving did goes = stays objects s M at asked mid new performed.Missed refl did goes
call_serves objects s M at c first asked k mid new performed.Ended is serving did goes = stays objects s M at asked mid new performed.Ended refl did goes
call_serves objects s M at c first asked k mid new (performed.Again reply) is serving did goes = stays objects s M at asked mid new (performed.Again reply) refl did goes
call_serves objects s M at c first asked k mid new (performed.Orphan reason) is serving did goes = stays objects s M at asked mid new (performed.Orphan reason) refl did goes

pub perform_keeps : PerformKeeps
perform_keeps objects s before c first asked k old mid new serving are did is =
    let L : List Deed = deeds_of before in
    let r : Performed = performed_by k mid asked in
    let at : Site = site_after_all L c.mail (site before) first in
    let informed_so : Serves objects s (after L first) at.live mid =
    subst (λ (ps : List Placed). Serves objects s (after L first) ps mid) (sym (quiet_live s L c.mail (site before) first serving.quiet))
    (informed_serves objects s L first (site before).live old mid serving.quiet are (serves objects s before old is)) in
    serves_after objects s before c new (after (after L first) (served_deed asked r)) (site_after_all (after L first) c.mail at (served_deed asked r)).live
    (sym (ap (after L) serving.deeds ∙ after_append L first (served_deed asked r)))
    (ap (λ (t : Site). t.live) (sym (ap (site_after_all L c.mail (site before)) serving.deeds ∙ site_append L c.mail (site before) first (served_deed asked r))))
    (call_serves objects s (after L first) at c first asked k mid new r refl serving did informed_so)
