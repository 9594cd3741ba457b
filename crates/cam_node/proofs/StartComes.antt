-- A start comes: what its rule makes is what the child's home does, and its event is planned so.
use Rattle.std.proofs.Common.{◌≡◌, ℕ, ◌≤◌, eqb, eq-eqb, Bool, true, false, not, ◌&&◌, if◌then◌else◌, List, [], Option, Some, None, refl, sym, ap, ◌∙◌, subst}
use Rattle.cam_names.specs.declared.name.Name.{Name}
use Rattle.cam_names.specs.Names.{home_node, home_count}
use Rattle.cam_type.specs.declared.ObjectDecl.{ObjectDecl}
use Rattle.cam_know.specs.Knowledge.{Knowledge}
use Rattle.cam_know.specs.Orphans.{known_orphan}
use Rattle.cam_know.specs.declared.Reason.{Reason}
use Rattle.cam_event.specs.declared.Body.TheVariants as bodies
use Rattle.cam_event.specs.declared.Deed.TheVariants.{Create}
use Rattle.cam_event.specs.declared.Note.TheVariants as notes
use Rattle.cam_event.specs.Rules.{answers, did, nothing_but, one, send, start_comes, stopped_by, with_home}
use Rattle.cam_event.specs.Sights.{Sight, is_present}
use Rattle.cam_tranman.specs.declared.Started.TheVariants as started
use Rattle.cam_tranman.specs.Actions.{Actions, AnswersSight, created}
use Rattle.cam_tranman.specs.Calls as tranman
use Rattle.cam_tranman.specs.Calls.{begun_child, after_start}
use Rattle.cam_tranman.specs.Steps.{did_started}
use Rattle.cam_tranman.proofs.RuleCalls.{started_is_rule}
use Rattle.cam_node.specs.declared.did.Doing.{Doing}
use Rattle.cam_node.specs.AtHome.{IsAtHome}
use Rattle.cam_node.specs.Calls.{AreToNodes}
use Rattle.cam_node.specs.Standing.{just}
use Rattle.cam_node.specs.PlanOrder.{is_served}
use Rattle.cam_node.specs.Started.{created_or, may_start_by, started_by}

-- the tests, and what is done by them
abbrev pub by_tests : ℕ → Name → List ℕ → Bool → Bool → Option Reason → Doing
by_tests from b counts here known reason =
    if not here then just (answers notes.Missed (one (send from (bodies.Quit b))))
    else if known then just (nothing_but notes.Again)
    else created_or b counts reason

same_did : (g : Sight) (from : ℕ) (b : Name) (counts : List ℕ) (here known : Bool)
    (reason : Option Reason)
    → g.orphan b (with_home counts b) ≡ reason
    → (if not here then answers notes.Missed (one (send from (bodies.Quit b)))
    else did_started g b counts (if known then started.Known else started.New))
    ≡ (by_tests from b counts here known reason).did
same_did g from b counts false known reason is = refl
same_did g from b counts true true reason is = refl
same_did g from b counts true false None is = ap
    (λ (r : Option Reason). stopped_by b r (did (one (Create b)) [])) is
same_did g from b counts true false (Some reason) is = ap
    (λ (r : Option Reason). stopped_by b r (did (one (Create b)) [])) is

pub start_rule : (objects : List ObjectDecl) (g : Sight) (actions : Actions) (k : Knowledge)
    (from : ℕ) (b : Name) (counts : List ℕ)
    → AnswersSight objects g actions → home_node b ≡ g.node → g.orphan ≡ known_orphan k
    → start_comes g from b counts ≡ (started_by actions k from b counts).did
start_rule objects g actions k from b counts is home orphan =
    started_is_rule objects g actions from b counts is home
    ∙ ap (λ (here : Bool). if not here then answers notes.Missed (one (send from (bodies.Quit b)))
    else did_started g b counts (tranman.started_by actions b)) present
    ∙ same_did g from b counts (may_start_by actions b) (created actions b)
    (known_orphan k b (with_home counts b))
    (ap (λ (o : Name → List (ℕ × ℕ) → Option Reason). o b (with_home counts b)) orphan)
  where
    present : is_present g b ≡ may_start_by actions b
    present =
        (λ i. eqb (home_count b) (sym is.count i))
        ∙ (λ i. sym (eq-eqb (home_node b) actions.node (home ∙ sym is.node)) i && eqb (home_count b)
        actions.count)

-- it concerns the actions at home alone, adds nothing to the entry, and changes them at most; its
-- letter goes to the sender
abbrev pub IsHomely : Doing → Type 0
IsHomely doing = IsAtHome doing.did × (doing.adds ≡ None) × (is_served doing.change ≡ false)

start_home : (from : ℕ) (b : Name) (counts : List ℕ) (here known : Bool) (reason : Option Reason)
    → IsHomely (by_tests from b counts here known reason)
start_home from b counts false known reason = (record { alone = refl; begins = λ f. refl }, refl, refl)
start_home from b counts true true reason = (record { alone = refl; begins = λ f. refl }, refl, refl)
start_home from b counts true false None = (record { alone = refl; begins = λ f. refl }, refl, refl)
start_home from b counts true false (Some reason) =
    (record { alone = refl; begins = λ f. refl }, refl, refl)

start_nodes : (from : ℕ) (b : Name) (counts : List ℕ) (here known : Bool) (reason : Option Reason)
    → (1 ≤ from) × (from ≤ 8)
    → AreToNodes (by_tests from b counts here known reason).did.sent
start_nodes from b counts false known reason node = (node, tt)
start_nodes from b counts true true reason node = tt
start_nodes from b counts true false None node = tt
start_nodes from b counts true false (Some reason) node = tt

pub starts_to_nodes : (actions : Actions) (k : Knowledge) (from : ℕ) (b : Name) (counts : List ℕ)
    (doing : Doing)
    → doing ≡ started_by actions k from b counts → (1 ≤ from) × (from ≤ 8)
    → AreToNodes doing.did.sent
starts_to_nodes actions k from b counts doing is node =
    subst (λ (d : Doing). AreToNodes d.did.sent) (sym is)
    (start_nodes from b counts (may_start_by actions b) (created actions b)
    (known_orphan k b (with_home counts b)) node)

pub starts_at_home : (actions : Actions) (k : Knowledge) (from : ℕ) (b : Name) (counts : List ℕ)
    (doing : Doing)
    → doing ≡ started_by actions k from b counts → IsHomely doing
starts_at_home actions k from b counts doing is =
    subst IsHomely (sym is)
    (start_home from b counts (may_start_by actions b) (created actions b)
    (known_orphan k b (with_home counts b)))
