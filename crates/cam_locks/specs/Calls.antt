-- What each call answers, and what it makes of the site.
use Rattle.std.specs.Prelude.{ℕ, ◌+◌, not, Bool, List, [], ◌∷◌, ◌++◌, filter, map, Option, Some, None}
use Rattle.std.specs.List.{list_any}
use Rattle.cam_names.specs.declared.name.Name.{Name}
use Rattle.cam_names.specs.Names.{name_eq, is_ancestor, ancestors, family}
use Rattle.cam_type.specs.declared.ObjectDecl.{ObjectDecl}
use Rattle.cam_type.specs.declared.Op.{Op}
use Rattle.cam_type.specs.declared.Answer.{Answer}
use Rattle.cam_type.specs.declared.HeldOp.{HeldOp}
use Rattle.cam_type.specs.declared.Held.{Held}
use Rattle.cam_type.specs.Table.{answer_of}
use Rattle.cam_know.specs.Knowledge.{Knowledge}
use Rattle.cam_know.specs.Known.{knows_abort}
use Rattle.cam_locks.specs.declared.LiveOp.{LiveOp}
use Rattle.cam_locks.specs.declared.Grant.{Grant}
use Rattle.cam_locks.specs.declared.Grant.TheVariants.{Done, Conflict}
use Rattle.cam_locks.specs.Names.{with_name}
use Rattle.cam_locks.specs.Site.{Site}
use Rattle.cam_locks.specs.Moss.{holder, value}

-- no operations, and the site was informed of nothing
abbrev pub new_site : List ObjectDecl → ℕ → Site
new_site objects node =
    record { objects = objects; node = node; live = []; committed = []; aborted = []; next = 0 }

-- one more operation at the end, under the next index
abbrev pub with_operation : Site → Name → ℕ → Op → Site
with_operation site a x op =
    record site {
      live = site.live ++ record { index = site.next; action = a; object = x; op = op } ∷ [];
      next = site.next + 1;
    }

-- where no one stands in the way the op is done, at the value that it meets
abbrev pub grant_by : Option Name → Answer → Grant
grant_by (Some u) answer = Conflict u
grant_by None answer = Done answer

abbrev pub grant : Site → Name → ℕ → Op → Grant
grant site a x op = grant_by (holder site a x op) (answer_of (value site x) op)

-- a conflict changes nothing
abbrev pub site_by : Option Name → Site → Site → Site
site_by (Some u) old new = old
site_by None old new = new

abbrev pub after_grant : Site → Name → ℕ → Op → Site
after_grant site a x op = site_by (holder site a x op) site (with_operation site a x op)

-- the site was informed of a commit
abbrev pub with_commit : Site → Name → Site
with_commit site a = record site { committed = with_name site.committed a }

-- the site was informed of an abort: the operations of the action and of all below it are dropped
abbrev pub is_below : Name → LiveOp → Bool
is_below a o = is_ancestor a o.action

abbrev pub with_abort : Site → Name → Site
with_abort site a =
    record site {
      live = filter (λ o. not (is_below a o)) site.live;
      aborted = with_name site.aborted a;
    }

-- whether an operation is of the family
abbrev pub is_of : Name → LiveOp → Bool
is_of f o = name_eq f (family o.action)

abbrev pub held_op : LiveOp → HeldOp
held_op o = record { index = o.index; object = o.object; op = o.op }

-- what is secured of a family: all its live operations, in order
abbrev pub held : Site → Name → ℕ → Held
held site f count =
    record { family = f; count = count; ops = map held_op (filter (is_of f) site.live) }

-- the site without the operations of which the abort of an ancestor is among these outcomes
abbrev pub is_dropped_by : Knowledge → LiveOp → Bool
is_dropped_by news o = list_any (knows_abort news) (ancestors o.action)

abbrev pub left_by : Knowledge → Site → Site
left_by news site = record site { live = filter (λ o. not (is_dropped_by news o)) site.live }

abbrev pub has_family : Site → Name → Bool
has_family site f = list_any (is_of f) site.live
