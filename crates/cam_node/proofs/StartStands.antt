-- A child's start stands: its home created it, with what its parent depended on, or left all as it
-- was.
use Rattle.std.proofs.Common.{◌≡◌, ℕ, ◌≤◌, eqb, Bool, true, false, if◌then◌else◌, List, Option, Some, None, refl, sym, ap, ◌∙◌, subst}
use Rattle.std.specs.Prelude.{is_some}
use Rattle.std.proofs.lemmas.Bool.{and_parts}
use borrow.Author.Tests.{eqb-true}
use Rattle.cam_names.specs.declared.name.Name.{Name}
use Rattle.cam_names.specs.Names.{name_eq, home_node, home_count, is_top}
use Rattle.cam_type.specs.declared.ObjectDecl.{ObjectDecl}
use Rattle.cam_know.specs.Knowledge.{Knowledge}
use Rattle.cam_know.specs.Orphans.{known_orphan}
use Rattle.cam_know.specs.declared.Reason.{Reason}
use Rattle.cam_event.specs.declared.Body.{Body}
use Rattle.cam_event.specs.declared.Body.TheVariants as bodies
use Rattle.cam_event.specs.declared.LetterId.{LetterId}
use Rattle.cam_event.specs.Inputs.{Mail}
use Rattle.cam_event.specs.Rules.{with_home}
use Rattle.cam_event.specs.ByKnowledge.{started}
use Rattle.cam_event.specs.Loads.{Load}
use Rattle.cam_tranman.specs.declared.action.Action.{Action}
use Rattle.cam_tranman.specs.Actions.{Actions, created}
use Rattle.cam_tranman.specs.Calls as tranman
use Rattle.cam_tranman.specs.Calls.{begun_child, after_start, fresh, visiting}
use Rattle.cam_tranman.specs.Events.{begins}
use Rattle.cam_event.specs.Gained.{home}
use Rattle.cam_node.specs.declared.did.Doing.{Doing}
use Rattle.cam_node.specs.declared.knowing.Heard.{Heard}
use Rattle.cam_node.specs.declared.state.Core.{Core}
use Rattle.cam_node.specs.Represents.{Node}
use Rattle.cam_node.specs.Calls.{answers, AreSame}
use Rattle.cam_node.specs.Lawful.{IsForNode}
use Rattle.cam_node.specs.Standing.{HasLearnt, MayChange, Stands}
use Rattle.cam_node.specs.Started.{may_start_by, started_by}
use Rattle.cam_node.proofs.HomePlans.{HaveDone}
use Rattle.cam_node.proofs.StartComes.{by_tests}
use Rattle.cam_node.proofs.Unchanged.{same_on, unchanged}

-- the same child begun in actions that answer the same
begun_same : (b : Name) (counts : List ℕ) (one other : Actions) → tranman.AreSame one other
    → tranman.AreSame (begun_child b counts one) (begun_child b counts other)
begun_same b counts one other same = record {
  node = same.node;
  count = same.count;
  tops = same.tops;
  action = λ a. ap (λ (kept : Option Action). if name_eq b a then Some
      (fresh (visiting counts (home b))) else kept) (same.action a);
  call = same.call;
  children = same.children;
}

-- the start of a child that was not created before
begun_new : (b : Name) (counts : List ℕ) (one other new : Actions) → tranman.AreSame one other
    → created one b ≡ false
    → tranman.AreSame (after_start b counts other) new
    → tranman.AreSame (begun_child b counts one) new
begun_new b counts one other new same none acted =
    same_on (begun_child b counts one) (begun_child b counts other) new
    (begun_same b counts one other same)
    (subst (λ (known : Bool). tranman.AreSame (if known then other else begun_child b counts other)
    new)
    (ap (λ (kept : Option Action). is_some kept) (same.action b) ∙ none) acted)

-- the same by the deeds
begins_child : (b : Name) (counts : List ℕ) (mail : Mail) (one new : Actions)
    → mail.body ≡ bodies.Start b counts → is_top b ≡ false
    → tranman.AreSame (begun_child b counts one) new
    → tranman.AreSame (begins (is_top b) b (Some mail) one) new
begins_child b counts mail one new body child acted =
    subst (λ (top : Bool). tranman.AreSame (begins top b (Some mail) one) new) (sym child)
    (subst (λ (y : Body). tranman.AreSame (begun_child b (started y) one) new) (sym body) acted)

stands_by : (objects : List ObjectDecl) (old mid new : Node) (id : LetterId) (mail : Mail)
    (load : Load) (heard : Heard) (known : Knowledge)
    (from : ℕ) (b : Name) (counts : List ℕ) (here was : Bool) (reason : Option Reason)
    → mail.body ≡ bodies.Start b counts → created old.actions b ≡ was
    → AreSame old mid → Stands (by_tests from b counts here was reason).change (Some heard) known
    mid new
    → HasLearnt (Some heard) known mid (record new { actions = mid.actions })
    × HaveDone objects old id mail load (by_tests from b counts here was reason).did new
stands_by objects old mid new id mail load heard known from b counts false was reason body is same
    has =
    unchanged objects old mid new id mail load heard known
    (by_tests from b counts false was reason).did same refl has
stands_by objects old mid new id mail load heard known from b counts true true reason body is same
    has =
    unchanged objects old mid new id mail load heard known
    (by_tests from b counts true true reason).did same refl has
stands_by objects old mid new id mail load heard known from b counts true false (Some reason) body
    is same has =
    unchanged objects old mid new id mail load heard known
    (by_tests from b counts true false (Some reason)).did same refl has
stands_by objects old mid new id mail load heard known from b counts true false None body is same
    has = (
      has.learnt,
      λ history through rep may.
          begins_child b counts mail old.actions new.actions body
          (subst (λ (y : Body). IsForNode objects old.number y) body may.for_node).1
          (begun_new b counts old.actions mid.actions new.actions same.actions is has.acted),
    )

pub start_stands : (objects : List ObjectDecl) (old mid new : Node) (id : LetterId) (mail : Mail)
    (load : Load) (heard : Heard) (known : Knowledge)
    (from : ℕ) (b : Name) (counts : List ℕ) (doing : Doing) → mail.body ≡ bodies.Start b counts
    → AreSame old mid
    → doing ≡ started_by old.actions known from b counts
    → Stands doing.change (Some heard) known mid new
    → HasLearnt (Some heard) known mid (record new { actions = mid.actions }) × HaveDone objects old
    id mail load doing.did new
start_stands objects old mid new id mail load heard known from b counts doing body same does has =
    subst (λ (d : Doing). HasLearnt (Some heard) known mid (record new { actions = mid.actions }) ×
    HaveDone objects old id mail load d.did new)
    (sym does)
    (stands_by objects old mid new id mail load heard known from b counts
    (may_start_by old.actions b) (created old.actions b)
    (known_orphan known b (with_home counts b)) body refl same
    (subst (λ (d : Doing). Stands d.change (Some heard) known mid new) does has))

-- it may stand where there is room for one more action
may_by : (h : Option Heard) (from : ℕ) (b : Name) (counts : List ℕ) (was : Bool)
    (reason : Option Reason) (old : Actions) (core : Core) (here : Bool)
    → may_start_by old b ≡ here → tranman.AreSame old (answers core).actions
    → 1 ≤ (answers core).actions.room
    → MayChange (by_tests from b counts here was reason).change h core
may_by h from b counts was reason old core false is same room = tt
may_by h from b counts true reason old core true is same room = tt
may_by h from b counts false (Some reason) old core true is same room = tt
may_by h from b counts false None old core true is same room =
    let parts = and_parts (eqb (home_node b) old.node) (eqb (home_count b) old.count) is in
    record {
      home = eqb-true (home_node b) old.node parts.0 ∙ sym same.node;
      count = eqb-true (home_count b) old.count parts.1 ∙ sym same.count;
      room = room;
    }

pub start_may : (h : Option Heard) (from : ℕ) (b : Name) (counts : List ℕ) (known : Knowledge) (old : Actions)
    (core : Core) (doing : Doing)
    → doing ≡ started_by old known from b counts → tranman.AreSame old (answers core).actions
    → 1 ≤ (answers core).actions.room
    → MayChange doing.change h core
start_may h from b counts known old core doing does same room =
    subst (λ (d : Doing). MayChange d.change h core) (sym does)
    (may_by h from b counts (created old b) (known_orphan known b (with_home counts b)) old core
    (may_start_by old b) refl same room)
