-- What a planned event makes of the node when it stands drops operations at its site, at most.
use Rattle.std.proofs.Common.{◌≡◌, true, false, ◌&&◌, List, [], ◌∷◌, filter, Option, Some, None, refl, sym, ap, ◌∙◌, subst}
use Rattle.cam_know.specs.Knowledge.{Knowledge}
use Rattle.cam_know.specs.declared.Outcome.{Outcome}
use Rattle.cam_know.specs.declared.Outcome.TheVariants.{Aborted}
use Rattle.cam_know.specs.Known.{knows_abort, knows_commit}
use Rattle.cam_event.proofs.Snoc.{filter_filter}
use Rattle.cam_locks.specs.declared.LiveOp.{LiveOp}
use Rattle.cam_locks.specs.Site as locks
use Rattle.cam_server.specs.Server.{Server}
use Rattle.cam_server.specs.Calls as server
use Rattle.cam_node.specs.declared.knowing.Heard.{Heard}
use Rattle.cam_node.specs.declared.plan.Change.{Change}
use Rattle.cam_node.specs.declared.plan.Change.TheVariants as changes
use Rattle.cam_node.specs.Represents.{Node}
use Rattle.cam_node.specs.LogOrder.{HasDropped}
use Rattle.cam_node.specs.Standing.{HasLearnt, Stands, IsInformed}
use Rattle.cam_node.specs.PlanOrder.{is_served}
use Rattle.cam_node.proofs.InOrder.{informed_drops}

-- One table after another: what the second drops is dropped of what the first has left.
pub drops_join : (one two three : locks.Site) → HasDropped one two → HasDropped two three
    → HasDropped one three
drops_join one two three first next = record {
  keeps = λ a. first.keeps a && next.keeps a;
  live =
      next.live ∙ ap (filter (λ (o : LiveOp). next.keeps o.action)) first.live
      ∙ filter_filter (λ (o : LiveOp). next.keeps o.action)
      (λ (o : LiveOp). first.keeps o.action) one.live;
  next = next.next ∙ first.next;
}

all_kept : (ks : List LiveOp) → ks ≡ filter (λ k. true) ks
all_kept [] = refl
all_kept (k ∷ ks) = ap (λ (js : List LiveOp). k ∷ js) (all_kept ks)

pub same_drops : (one two : Server) → server.AreSame one two
    → HasDropped one.table.site two.table.site
same_drops one two same = record {
  keeps = λ a. true;
  live = ap (λ (st : locks.Site). st.live) same.site ∙ all_kept one.table.site.live;
  next = ap (λ (st : locks.Site). st.next) same.site;
}

-- one that is the same answers the same
pub same_server : (one two : Server) → two ≡ one → server.AreSame one two
same_server one two is = record {
  count = ap (λ (s : Server). s.count) is;
  site = ap (λ (s : Server). s.table.site) is;
  replies = λ a n. ap (λ (s : Server). s.kept_reply a n) is;
}

pub heard_drops : (heard : Option Heard) (old new : Server) → IsInformed heard old new
    → HasDropped old.table.site new.table.site
heard_drops None old new is = same_drops old new (same_server old new is)
heard_drops (Some heard) old new is =
    informed_drops (knows_abort heard.news) (knows_commit heard.news) old new is

decided_drops : (heard : Option Heard) (known : Knowledge) (o : Outcome) (old mid new : Node)
    → HasLearnt heard known old mid
    → server.IsInformedOfAll (o ∷ []) mid.server new.server
    → HasDropped old.server.table.site new.server.table.site
decided_drops heard known o old mid new has are =
    drops_join old.server.table.site mid.server.table.site new.server.table.site
    (heard_drops heard old.server mid.server has.server)
    (informed_drops (server.aborts_in (o ∷ []))
    (server.commits_in (o ∷ [])) mid.server new.server are)

-- What stands has dropped operations at the site, at most.
pub stands_drop : (change : Change) (heard : Option Heard) (known : Knowledge) (old new : Node)
    → is_served change ≡ false → Stands change heard known old new
    → HasDropped old.server.table.site new.server.table.site
stands_drop changes.Nothing heard known old new other has =
    heard_drops heard old.server new.server has.server
stands_drop (changes.Started b counts) heard known old new other has =
    heard_drops heard old.server new.server has.learnt.server
stands_drop (changes.Answered a n reply count) heard known old new other has =
    heard_drops heard old.server new.server has.learnt.server
stands_drop (changes.Decided o) heard known old new other (mid, has, done) =
    decided_drops heard known o old mid new has done.server
stands_drop (changes.GaveUp a b) heard known old new other (mid, has, done) =
    decided_drops heard known (Aborted b) old mid new has done.server
stands_drop (changes.Served tables) heard known old new other has = cc
stands_drop (changes.WentAhead ahead) heard known old new other has = cc
stands_drop (changes.Prepared f) heard known old new other (mid, has, begun) =
    subst (λ (tables : Server). HasDropped old.server.table.site tables.table.site)
    (sym begun.server) (heard_drops heard old.server mid.server has.server)
stands_drop (changes.Voted vote) heard known old new other (mid, has, counted) =
    subst (λ (tables : Server). HasDropped old.server.table.site tables.table.site)
    (sym (ap (λ (n : Node). n.server) counted.rest))
    (heard_drops heard old.server mid.server has.server)
stands_drop (changes.Secured f) heard known old new other has =
    heard_drops heard old.server new.server has.learnt.server
