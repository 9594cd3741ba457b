-- What a home does with a finish and a quit is the rule, for each history that the node stands for.
use Rattle.std.proofs.Common.{◌≡◌, ℕ, ℤ, Bool, true, false, not, ◌||◌, if◌then◌else◌, List, map, Option, Some, None, refl, sym, ap, ◌∙◌, subst}
use Rattle.cam_names.specs.declared.name.Name.{Name}
use Rattle.cam_names.specs.Names.{is_top, parent, home_node}
use Rattle.cam_names.specs.Dependencies.{pairs_of}
use Rattle.cam_type.specs.declared.ObjectDecl.{ObjectDecl}
use Rattle.cam_know.specs.Knowledge.{Knowledge}
use Rattle.cam_know.specs.Order.{told_in_order}
use Rattle.cam_know.specs.declared.Reason.{Reason}
use Rattle.cam_event.specs.declared.LetterId.{LetterId}
use Rattle.cam_event.specs.declared.Body.TheVariants as bodies
use Rattle.cam_event.specs.declared.Note.TheVariants as notes
use Rattle.cam_event.specs.Inputs.{Mail, decider_of}
use Rattle.cam_event.specs.Sights.{Sight, present, is_present, knows_outcome}
use Rattle.cam_event.specs.Rules.{did, nothing_but, aborts, news, commits_or_aborts, prepares, finish_comes, quit_comes, arrives}
use Rattle.cam_event.specs.Loads.{Load, with_load}
use Rattle.cam_event.specs.ByDeltas.{Received, as_carried, known}
use Rattle.cam_tranman.specs.Actions.{deps}
use Rattle.cam_tranman.specs.Steps.{did_decided}
use Rattle.cam_tranman.proofs.Sights.{sight_is_answered}
use Rattle.cam_tranman.proofs.RuleCalls.{finish_is_rule, quit_is_rule, deps_are_the_rules}
use Rattle.cam_commit.specs.Steps.{is_late, did_finish, did_quit}
use Rattle.cam_commit.proofs.Sights as commit
use Rattle.cam_commit.proofs.RuleCalls.{top_finish_is_rule, top_quit_is_rule}
use Rattle.cam_node.specs.Represents.{Node, Represents}
use Rattle.cam_node.specs.Lawful.{IsForNode}
use Rattle.cam_node.specs.DecideRules.{aborts_at, ended_by, child_finished, child_quit, news_to, is_closed, prepared_by, finished_at, top_finished, quit_at, top_quit}
use Rattle.cam_node.proofs.Decides.{AtLetter, sight_at}

ended_is : (g : Sight) (b : Name) (r : Option Reason)
    → commits_or_aborts g b r ≡ ended_by g.node b r
ended_is g b None = refl
ended_is g b (Some reason) = refl

-- who decides a child is its parent's home
parent_home : (objects : List ObjectDecl) (s : ℕ) (b p : Name) → parent b ≡ Some p
    → decider_of b (parent b) ≡ s → home_node p ≡ s
parent_home objects s b p named here = ap (decider_of b) (sym named) ∙ here

pub child_finish_is : (objects : List ObjectDecl) (node : Node) (id : LetterId) (mail : Mail) (load : Load) (b p : Name) (v : ℤ) (counts : List ℕ)
    → mail.body ≡ bodies.Finish b v counts → parent b ≡ Some p
    → AtLetter objects node id mail load
    (λ history. arrives objects (sight_at objects node.number load history) mail.from mail.body ≡ child_finished node.number (with_load node.know load) node.actions p b counts)
child_finish_is objects node id mail load b p v counts body named = λ history through rep may.
    let s = node.number in
    let g = sight_at objects s load history in
    let here = parent_home objects s b p named (subst (IsForNode objects s) body may.for_node) in
    ap (arrives objects g mail.from) body ∙ ap (λ (q : Option Name). finish_comes g b q counts) named
    ∙ finish_is_rule objects g node.actions p b counts
    (sight_is_answered objects s (map as_carried history) (told_in_order load.know) node.actions rep.runs) named here
    ∙ ap (did_decided g node.actions p b) (ended_is g b (g.orphan b (pairs_of counts)))
    ∙ ap (λ (k : Knowledge). child_finished s (with_load k load) node.actions p b counts) (sym rep.knowledge)

pub child_quit_is : (objects : List ObjectDecl) (node : Node) (id : LetterId) (mail : Mail) (load : Load) (b p : Name)
    → mail.body ≡ bodies.Quit b → parent b ≡ Some p
    → AtLetter objects node id mail load
    (λ history. arrives objects (sight_at objects node.number load history) mail.from mail.body ≡ child_quit node.number (with_load node.know load) node.actions p b)
child_quit_is objects node id mail load b p body named = λ history through rep may.
    let s = node.number in
    let g = sight_at objects s load history in
    let here = parent_home objects s b p named (subst (IsForNode objects s) body may.for_node) in
    ap (arrives objects g mail.from) body ∙ ap (λ (q : Option Name). quit_comes g b q) named
    ∙ quit_is_rule objects g node.actions p b
    (sight_is_answered objects s (map as_carried history) (told_in_order load.know) node.actions rep.runs) named here
    ∙ ap (λ (k : Knowledge). child_quit s (with_load k load) node.actions p b) (sym rep.knowledge)

-- TOP ACTIONS. The node's count is that by which the rule goes,
present_is : (objects : List ObjectDecl) (history : List Received) (load : Load) (node : Node)
    → Represents objects history node
    → present (sight_at objects node.number load history) ≡ node.count
present_is objects history load node rep =
    sym (sight_is_answered objects node.number (map as_carried history) (told_in_order load.know) node.actions rep.runs).count
    ∙ rep.runs.count ∙ sym rep.own_count

pub late_is : (objects : List ObjectDecl) (history : List Received) (load : Load) (node : Node) (f : Name)
    → Represents objects history node
    → is_late (sight_at objects node.number load history) f ≡ is_closed node.count (with_load node.know load) f
late_is objects history load node f rep =
    λ i. is_closed (present_is objects history load node rep i) (with_load (sym rep.knowledge i) load) f

-- and what it depends on is what the actions answer, where it is of that count.
prepared_is : (g : Sight) (a : Name) (r : Option Reason)
    → prepares g a r ≡ prepared_by g.node (g.deps a) a r
prepared_is g a None = refl
prepared_is g a (Some reason) = refl

-- one that is not late is of the present count
not_late : (a b c : Bool) → (not a || b) || c ≡ false → a ≡ true
not_late true b c h = refl
not_late false b c h = cc

pub deps_are : (objects : List ObjectDecl) (history : List Received) (load : Load) (node : Node) (f : Name) (c : Bool)
    → Represents objects history node → home_node f ≡ node.number
    → is_late (sight_at objects node.number load history) f || c ≡ false
    → (sight_at objects node.number load history).deps f ≡ deps node.actions f
deps_are objects history load node f c rep home in_time =
    let g = sight_at objects node.number load history in
    deps_are_the_rules objects g node.actions f
    (sight_is_answered objects node.number (map as_carried history) (told_in_order load.know) node.actions rep.runs) home
    (not_late (is_present g f) (knows_outcome g f) c in_time)

finished_is : (objects : List ObjectDecl) (history : List Received) (load : Load) (node : Node) (f : Name)
    → Represents objects history node → home_node f ≡ node.number
    → did_finish (sight_at objects node.number load history) node.families f ≡ top_finished node.number node.count (with_load node.know load) node.actions node.families f
finished_is objects history load node f rep home =
    by (is_late g f || node.families.is_preparing f) refl
    ∙ (λ i. finished_at s (late_is objects history load node f rep i || node.families.is_preparing f) (with_load (sym rep.knowledge i) load) (deps node.actions f) f)
  where
    s : ℕ
    s = node.number

    g : Sight
    g = sight_at objects s load history

    by : (b : Bool) → (is_late g f || node.families.is_preparing f) ≡ b
        → (if b then nothing_but notes.Late else prepares g f (g.orphan f (pairs_of (g.deps f))))
        ≡ finished_at s b (with_load (known objects history) load) (deps node.actions f) f
    by true h = refl
    by false h =
        let same = deps_are objects history load node f (node.families.is_preparing f) rep home h in
        prepared_is g f (g.orphan f (pairs_of (g.deps f))) ∙ (λ i. prepared_by s (same i) f (g.orphan f (pairs_of (same i))))

quit_is : (objects : List ObjectDecl) (history : List Received) (load : Load) (node : Node) (f : Name)
    → Represents objects history node → home_node f ≡ node.number
    → did_quit (sight_at objects node.number load history) f ≡ top_quit node.number node.count (with_load node.know load) node.actions f
quit_is objects history load node f rep home =
    by (is_late g f) refl ∙ (λ i. quit_at s (late_is objects history load node f rep i) (deps node.actions f) f)
  where
    s : ℕ
    s = node.number

    g : Sight
    g = sight_at objects s load history

    by : (b : Bool) → is_late g f ≡ b → (if b then nothing_but notes.Late else did (aborts g f) (news g f)) ≡ quit_at s b (deps node.actions f) f
    by true h = refl
    by false h =
        let same = deps_are objects history load node f false rep home (ap (λ b. b || false) h) in
        λ i. did (aborts_at s f) (news_to s (same i))

-- A top action is decided at its home.
pub top_home : (objects : List ObjectDecl) (s : ℕ) (f : Name) → parent f ≡ None
    → decider_of f (parent f) ≡ s → home_node f ≡ s
top_home objects s f named here = ap (decider_of f) (sym named) ∙ here

pub top_finish_is : (objects : List ObjectDecl) (node : Node) (id : LetterId) (mail : Mail) (load : Load) (f : Name) (v : ℤ) (counts : List ℕ)
    → mail.body ≡ bodies.Finish f v counts → parent f ≡ None → is_top f ≡ true
    → AtLetter objects node id mail load
    (λ history. arrives objects (sight_at objects node.number load history) mail.from mail.body ≡ top_finished node.number node.count (with_load node.know load) node.actions node.families f)
top_finish_is objects node id mail load f v counts body named top = λ history through rep may.
    let s = node.number in
    let g = sight_at objects s load history in
    ap (arrives objects g mail.from) body
    ∙ top_finish_is_rule objects g node.families mail.from f v counts top
    (commit.sight_is_answered objects s (map as_carried history) (told_in_order load.know) node.families rep.commits)
    ∙ finished_is objects history load node f rep (top_home objects s f named (subst (IsForNode objects s) body may.for_node))

pub top_quit_is : (objects : List ObjectDecl) (node : Node) (id : LetterId) (mail : Mail) (load : Load) (f : Name)
    → mail.body ≡ bodies.Quit f → parent f ≡ None → is_top f ≡ true
    → AtLetter objects node id mail load
    (λ history. arrives objects (sight_at objects node.number load history) mail.from mail.body ≡ top_quit node.number node.count (with_load node.know load) node.actions f)
top_quit_is objects node id mail load f body named top = λ history through rep may.
    let s = node.number in
    let g = sight_at objects s load history in
    ap (arrives objects g mail.from) body
    ∙ top_quit_is_rule objects g mail.from f top
    ∙ quit_is objects history load node f rep (top_home objects s f named (subst (IsForNode objects s) body may.for_node))
