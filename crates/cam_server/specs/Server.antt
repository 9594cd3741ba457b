-- What a node serves: the replies of its present incarnation, and the lock table of its site. It is
-- seen as the answers that are given when it is asked, and what they must answer for the node to
-- stand for its history.
use Rattle.std.specs.Prelude.{◌≡◌, ℕ, true, List, [], ◌∷◌, map, Option}
use Rattle.cam_names.specs.declared.name.Name.{Name}
use Rattle.cam_type.specs.declared.ObjectDecl.{ObjectDecl}
use Rattle.cam_event.specs.declared.Operation.{Operation}
use Rattle.cam_event.specs.declared.Reply.{Reply}
use Rattle.cam_event.specs.History.{count, informed}
use Rattle.cam_event.specs.Sights as sights
use Rattle.cam_event.specs.HeldSites as held
use Rattle.cam_event.specs.HeldSites.{Placed}
use Rattle.cam_event.specs.Carried.{Carried, deeds_of}
use Rattle.cam_locks.specs.declared.LiveOp.{LiveOp}
use Rattle.cam_locks.specs.Names.{has_name}
use Rattle.cam_locks.specs.Site.{Site, TableView, IndicesRise}

pub record Server : Type 0 where
  -- the node's present count
  pub count : ℕ
  -- the site, as its lock table sees it, with the room for outcomes
  pub table : TableView
  -- the reply that a call of an action was given since the last restart: by its Perform or its
  -- Bounce
  pub kept_reply : Name → ℕ → Option Reply
  -- how many more replies can be kept without memory
  pub room : ℕ

-- A live operation of the table stands for one of the site: the same action, object and op. After a
-- restart its action is the family.
pub record IsLiveOp (kept : LiveOp) (operation : Operation) : Type 0 where
  pub action : kept.action ≡ operation.action
  pub object : kept.object ≡ operation.object
  pub op : kept.op ≡ operation.op

abbrev pub AreLive : List LiveOp → List Operation → Type 0
AreLive [] [] = Unit {0}
AreLive (k ∷ ks) (o ∷ os) = IsLiveOp k o × AreLive ks os
AreLive [] (o ∷ os) = ⊥
AreLive (k ∷ ks) [] = ⊥

abbrev pub AreLiveOps : List LiveOp → List Placed → Type 0
AreLiveOps ks ps = AreLive ks (map (λ p. p.operation) ps)

-- the site answers for the deeds of a node, and its live operations
pub record IsSiteOf (objects : List ObjectDecl) (s : ℕ) (live : List Placed)
    (site : Site) : Type 0 where
  pub objects_are : site.objects ≡ objects
  pub node : site.node ≡ s
  pub operations : AreLiveOps site.live live
  pub order : IndicesRise 0 site.live site.next

pub record ServesSite (objects : List ObjectDecl) (s : ℕ) (before : List Carried)
    (server : Server) : Type 0 where
  pub count_is : server.count ≡ count (deeds_of before) s
  pub replies : (a : Name) (n : ℕ) → server.kept_reply a n ≡ sights.kept_reply (deeds_of before) a n
  pub site : IsSiteOf objects s (held.site before).live server.table.site
  pub commits : (u : Name) → has_name server.table.site.committed u
      ≡ informed (deeds_of before) s u true
