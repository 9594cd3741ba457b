-- A node that answers as another stands for the same history.
use Rattle.std.proofs.Common.{ℕ, List, map, sym, ap, ◌∙◌, subst}
use Rattle.cam_type.specs.declared.ObjectDecl.{ObjectDecl}
use Rattle.cam_event.specs.History.{count}
use Rattle.cam_event.specs.ByKnowledge.{own_pairs}
use Rattle.cam_event.specs.Carried.{Carried, deeds_of}
use Rattle.cam_event.specs.ByDeltas.{Received, as_carried}
use Rattle.cam_commit.specs.Families.{Families, CommitsFamilies}
use Rattle.cam_commit.specs.Calls as commit
use Rattle.cam_locks.specs.Names.{has_name}
use Rattle.cam_locks.specs.Site.{Site}
use Rattle.cam_node.specs.Calls.{AreSame}
use Rattle.cam_node.specs.Represents.{Node, Represents}
use Rattle.cam_server.specs.Calls as server
use Rattle.cam_server.specs.Server.{Server, ServesSite, IsSiteOf}
use Rattle.cam_tranman.specs.Actions.{Actions, RunsActions}
use Rattle.cam_tranman.specs.Calls as tranman
use Rattle.cam_tranman.proofs.Running.{runs_by, answers_deeds, same_answers}
use Rattle.cam_event.specs.HeldSites as held

runs_same : (objects : List ObjectDecl) (s : ℕ) (h : List Carried) (one other : Actions)
    → tranman.AreSame one other → RunsActions objects s h one → RunsActions objects s h other
runs_same objects s h one other same runs =
    answers_deeds _ _ _ (own_pairs objects h) _ (same_answers _ _ _ _ _ _ same (runs_by _
    _ _ _ _ runs))

commits_same : (objects : List ObjectDecl) (s : ℕ) (h : List Carried) (one other : Families)
    → commit.AreSame one other → CommitsFamilies objects s h one → CommitsFamilies objects s h other
commits_same objects s h one other same commits = record {
  preparing = λ f undecided. same.preparing f ∙ commits.preparing f undecided;
  voted = λ f m c undecided. same.votes f m c ∙ commits.voted f m c undecided;
  secured = λ f undecided. same.secured f ∙ commits.secured f undecided;
}

serves_same : (objects : List ObjectDecl) (s : ℕ) (h : List Carried) (one other : Server)
    → server.AreSame one other → ServesSite objects s h one → ServesSite objects s h other
serves_same objects s h one other same serves = record {
  count_is = same.count ∙ serves.count_is;
  replies = λ a n. same.replies a n ∙ serves.replies a n;
  site = subst (IsSiteOf objects s (held.site h).live) (sym same.site) serves.site;
  commits = λ u. ap (λ (site : Site). has_name site.committed u) same.site ∙ serves.commits u;
}

pub same_represents : (objects : List ObjectDecl) (history : List Received) (one other : Node)
    → AreSame one other → Represents objects history one → Represents objects history other
same_represents objects history one other same rep = record {
  own_count = same.count ∙ rep.own_count ∙ ap (count (deeds_of h)) (sym same.number);
  knowledge = same.know ∙ rep.knowledge;
  places = same.places ∙ rep.places;
  runs = rw same.number (runs_same _ _ h _ _ same.actions rep.runs);
  commits = rw same.number (commits_same _ _ _ _ _ same.families rep.commits);
  serves = rw same.number (serves_same _ _ _ _ _ same.server rep.serves);
}
  where
    h : List Carried
    h = map as_carried history
