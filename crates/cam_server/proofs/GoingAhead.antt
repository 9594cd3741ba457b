-- A call goes ahead of the news that came with it.
use Rattle.std.proofs.Common.{◌≡◌, ℕ, ◌+◌, eqb, Bool, true, false, not, ◌||◌, cond, if◌then◌else◌, List, [], ◌∷◌, ◌++◌, filter, flat_map, Option, Some, None, sym, ap, subst, ◌∙◌, refl, true≢false, inl, inr}
use Rattle.std.specs.List.{list_any}
use Rattle.std.proofs.lemmas.Bool.{cases_Bool}
use Rattle.std.proofs.lemmas.List.Elements.{filter-append}
use Rattle.cam_names.specs.declared.name.Name.{Name}
use Rattle.cam_names.specs.Names.{ancestors}
use Rattle.cam_names.specs.Dependencies.{pairs_of}
use Rattle.cam_names.proofs.Any.{none_found}
use Rattle.cam_names.proofs.Every.{Every}
use Rattle.cam_type.specs.Table.{answer_of}
use Rattle.cam_know.specs.declared.Reason.{Reason}
use Rattle.cam_know.specs.Knowledge.{Knowledge}
use Rattle.cam_know.specs.Known.{knows_abort, knows_commit, known_count, aborted_by}
use Rattle.cam_know.specs.Orphans.{least, is_stale, reason_of, children_pairs, known_orphan}
use Rattle.cam_event.specs.declared.Reply.{Reply}
use Rattle.cam_locks.specs.declared.Grant.{Grant}
use Rattle.cam_locks.specs.declared.LiveOp.{LiveOp}
use Rattle.cam_locks.specs.Names.{has_name}
use Rattle.cam_locks.specs.Site.{Site}
use Rattle.cam_locks.specs.Moss.{holder, holder_of, value, value_of}
use Rattle.cam_locks.specs.Calls.{with_operation, site_by, grant_by, grant}
use Rattle.cam_server.specs.declared.Performed.{Performed}
use Rattle.cam_server.specs.declared.Performed.TheVariants as performed
use Rattle.cam_server.specs.Server.{Server}
use Rattle.cam_server.specs.Calls.{Asked, performed_by, again_or, orphan_or, granted, is_served, AfterPerformed, IsInformedOf}
use Rattle.cam_server.specs.Ahead.{AreApart, CallsGoAhead}
use Rattle.cam_server.proofs.Untouched.{live_stay, holder_stays}

-- What comes as far as the table is no orphan.
no_orphan : (k : Knowledge) (server : Server) (asked : Asked) → is_served (performed_by k server asked) ≡ true
    → known_orphan k asked.action (pairs_of asked.visited) ≡ None
no_orphan k server asked served =
    by (not (eqb asked.count server.count)) (list_any (knows_commit k) (ancestors asked.action)) (server.kept_reply asked.action asked.number)
    (known_orphan k asked.action (pairs_of asked.visited)) (granted (grant server.table.site asked.action asked.object asked.op)) served
  where
    by : (missed ended : Bool) (kept : Option Reply) (why : Option Reason) (other : Performed)
        → is_served (if missed then performed.Missed else if ended then performed.Ended else again_or kept (orphan_or why other)) ≡ true → why ≡ None
    by true ended kept why other e = absurd (true≢false (sym e))
    by false true kept why other e = absurd (true≢false (sym e))
    by false false (Some reply) why other e = absurd (true≢false (sym e))
    by false false None (Some reason) other e = absurd (true≢false (sym e))
    by false false None None other e = refl

-- so no ancestor of it is known aborted
no_reason : (counts : ℕ → ℕ) (u : Option Name) (p : Option (ℕ × ℕ)) → reason_of counts u p ≡ None → u ≡ None
no_reason counts None p is = refl
no_reason counts (Some u) p is = cc

down_none : (p q : Name → Bool) (us : List Name) → ((u : Name) → p u ≡ true → q u ≡ true) → Every (λ u. q u ≡ false) us
    → list_any p us ≡ false
down_none p q [] less none = refl
down_none p q (u ∷ us) less none =
    elim (cases_Bool (p u)) [
      | inl passes ↦ absurd (true≢false (sym (less u passes) ∙ none.0))
      | inr fails ↦ ap (λ b. b || list_any p us) fails ∙ down_none p q us less none.1
    ]

not_dropped : (news k : Knowledge) (server : Server) (asked : Asked)
    → ((u : Name) → knows_abort news u ≡ true → knows_abort k u ≡ true) → is_served (performed_by k server asked) ≡ true
    → list_any (knows_abort news) (ancestors asked.action) ≡ false
not_dropped news k server asked known served =
    down_none (knows_abort news) (knows_abort k) (ancestors asked.action) known
    (none_found (knows_abort k) (ancestors asked.action)
    (no_reason (known_count k) (aborted_by k asked.action)
    (least (filter (is_stale (known_count k)) (pairs_of asked.visited ++ flat_map (children_pairs k) (ancestors asked.action))))
    (no_orphan k server asked served)))

-- what the news leave of live operations
abbrev stay : Knowledge → List LiveOp → List LiveOp
stay news os = filter (λ o. not (list_any (knows_abort news) (ancestors o.action))) os

-- the server as it is where it is informed first
abbrev informed_first : Knowledge → Server → Server → Server
informed_first news old new =
    record {
      count = old.count;
      table = record {
        site = record old.table.site { live = stay news old.table.site.live; committed = new.table.site.committed; aborted = new.table.site.aborted };
        spare = old.table.spare;
      };
      kept_reply = old.kept_reply;
      room = old.room;
    }

-- a site as the call leaves it, where it was served or not, and one in its way or none
abbrev site_then : Bool → Option Name → Site → Asked → Site
site_then b h site asked = if b then site_by h site (with_operation site asked.action asked.object asked.op) else site

record AreKept (one other : Site) : Type 0 where
  objects : one.objects ≡ other.objects
  node : one.node ≡ other.node
  committed : one.committed ≡ other.committed
  aborted : one.aborted ≡ other.aborted

kept_then : (b : Bool) (h : Option Name) (site : Site) (asked : Asked) → AreKept (site_then b h site asked) site
kept_then false h site asked = record { objects = refl; node = refl; committed = refl; aborted = refl }
kept_then true None site asked = record { objects = refl; node = refl; committed = refl; aborted = refl }
kept_then true (Some u) site asked = record { objects = refl; node = refl; committed = refl; aborted = refl }

stay_last : (news : Knowledge) (os : List LiveOp) (o : LiveOp) → list_any (knows_abort news) (ancestors o.action) ≡ false
    → stay news (os ++ o ∷ []) ≡ stay news os ++ o ∷ []
stay_last news os o none =
    filter-append (λ p. not (list_any (knows_abort news) (ancestors p.action))) os (o ∷ [])
    ∙ ap (λ b. stay news os ++ cond (not b) (o ∷ []) []) none

-- the live operations and the next index, in both orders
live_then : (news : Knowledge) (b : Bool) (h : Option Name) (site first : Site) (asked : Asked) → first.live ≡ stay news site.live → first.next ≡ site.next
    → (b ≡ true → list_any (knows_abort news) (ancestors asked.action) ≡ false)
    → (stay news (site_then b h site asked).live ≡ (site_then b h first asked).live) × ((site_then b h site asked).next ≡ (site_then b h first asked).next)
live_then news false h site first asked live next none = (sym live, sym next)
live_then news true (Some u) site first asked live next none = (sym live, sym next)
live_then news true None site first asked live next none = (
  stay_last news site.live (record { index = site.next; action = asked.action; object = asked.object; op = asked.op }) (none refl)
      ∙ (λ i. sym live i ++ record { index = sym next i; action = asked.action; object = asked.object; op = asked.op } ∷ []),
  ap (λ n. n + 1) (sym next),
)

site_same : (one other : Site) → one.objects ≡ other.objects → one.node ≡ other.node → one.live ≡ other.live → one.committed ≡ other.committed
    → one.aborted ≡ other.aborted → one.next ≡ other.next → one ≡ other
site_same one other objects node live committed aborted next = λ i.
    record { objects = objects i; node = node i; live = live i; committed = committed i; aborted = aborted i; next = next i }

pub calls_go_ahead : CallsGoAhead
calls_go_ahead news k asked done old mid new known apart value after informed =
    let m : Server = informed_first news old new in
    let site : Site = old.table.site in
    let h : Option Name = holder site asked.action asked.object asked.op in
    let b : Bool = is_served done in
    let kept : AreKept mid.table.site site =
    subst (λ (s : Site). AreKept s site) (sym after.site) (kept_then b h site asked) in
    let more : (u : Name) → has_name new.table.site.committed u ≡ (has_name site.committed u || knows_commit news u) = λ u.
    informed.commits_are u ∙ ap (λ (ns : List Name). has_name ns u || knows_commit news u) kept.committed in
    let live : stay news site.live ≡ site.live = live_stay news site apart in
    let same_holder : holder m.table.site asked.action asked.object asked.op ≡ h =
    ap (λ (os : List LiveOp). holder_of new.table.site.committed os asked.action asked.object asked.op) live
    ∙ holder_stays news site new.table.site.committed apart more asked.action asked.object asked.op in
    let same_grant : grant site asked.action asked.object asked.op ≡ grant m.table.site asked.action asked.object asked.op = λ i.
    grant_by (sym same_holder i) (answer_of (value_of site.objects (sym live i) asked.object) asked.op) in
    let none : b ≡ true → list_any (knows_abort news) (ancestors asked.action) ≡ false = λ served.
    not_dropped news k old asked known (ap is_served (sym value) ∙ served) in
    let later = live_then news b h site m.table.site asked refl refl none in
    let then_kept = kept_then b h m.table.site asked in
    record {
      mid = m;
      informed = record {
        count = refl;
        objects = refl;
        node = refl;
        live = refl;
        commits_are = more;
        aborts_are = λ u. informed.aborts_are u ∙ ap (λ (ns : List Name). has_name ns u || knows_abort news u) kept.aborted;
        next = refl;
        replies = λ a n. refl;
      };
      value = value ∙ ap (λ (g : Grant). if not (eqb asked.count old.count) then performed.Missed
          else if list_any (knows_commit k) (ancestors asked.action) then performed.Ended
          else again_or (old.kept_reply asked.action asked.number) (orphan_or (known_orphan k asked.action (pairs_of asked.visited)) (granted g))) same_grant;
      after = record {
        count = informed.count ∙ after.count;
        site =
            site_same new.table.site (site_then b h m.table.site asked)
            (informed.objects ∙ kept.objects ∙ sym then_kept.objects) (informed.node ∙ kept.node ∙ sym then_kept.node)
            (informed.live ∙ ap (λ (s : Site). stay news s.live) after.site ∙ later.0) (sym then_kept.committed) (sym then_kept.aborted)
            (informed.next ∙ ap (λ (s : Site). s.next) after.site ∙ later.1)
            ∙ ap (λ (u : Option Name). site_then b u m.table.site asked) (sym same_holder);
        replies = λ a n. informed.replies a n ∙ after.replies a n;
      };
    }

-- The news leave the value of each object as it is after the call.
pub value_ahead : (news k : Knowledge) (asked : Asked) (done : Performed) (old mid new : Server) (x : ℕ)
    → ((u : Name) → knows_abort news u ≡ true → knows_abort k u ≡ true) → AreApart news old.table.site
    → done ≡ performed_by k old asked → AfterPerformed asked done old mid → IsInformedOf news mid new
    → value new.table.site x ≡ value mid.table.site x
value_ahead news k asked done old mid new x known apart done_is after informed = λ i. value_of (informed.objects i) (live i) x
  where
    site : Site
    site = old.table.site

    none : is_served done ≡ true → list_any (knows_abort news) (ancestors asked.action) ≡ false
    none served = not_dropped news k old asked known (ap is_served (sym done_is) ∙ served)

    live : new.table.site.live ≡ mid.table.site.live
    live =
        informed.live ∙ ap (λ (s : Site). stay news s.live) after.site
        ∙ (live_then news (is_served done) (holder site asked.action asked.object asked.op) site site asked
        (sym (live_stay news site apart)) refl none).0
        ∙ sym (ap (λ (s : Site). s.live) after.site)
