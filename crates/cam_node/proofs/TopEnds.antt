-- A top action finishes or quits: what the rule makes, by the tests that its home makes, and the
-- families then.
use Rattle.std.proofs.Common.{◌≡◌, ℕ, ℤ, Bool, true, false, not, ◌&&◌, ◌||◌, List, map, Option, Some, None, refl, sym, ap, ◌∙◌, subst, true≢false, is_some}
use Rattle.cam_names.specs.declared.name.Name.{Name}
use Rattle.cam_names.specs.Names.{is_top, parent, home_node}
use Rattle.cam_names.specs.Dependencies.{pairs_of}
use Rattle.cam_type.specs.declared.ObjectDecl.{ObjectDecl}
use Rattle.cam_know.specs.Orphans.{known_orphan}
use Rattle.cam_know.specs.Order.{told_in_order}
use Rattle.cam_know.specs.declared.Reason.{Reason}
use Rattle.cam_event.specs.declared.LetterId.{LetterId}
use Rattle.cam_event.specs.declared.Body.TheVariants as bodies
use Rattle.cam_event.specs.declared.Note.TheVariants as notes
use Rattle.cam_event.specs.Inputs.{Receives, Mail}
use Rattle.cam_event.specs.Rules.{Did, nothing_but, arrives}
use Rattle.cam_event.specs.Loads.{Load, with_load}
use Rattle.cam_event.specs.ByDeltas.{Received, as_carried}
use Rattle.cam_tranman.specs.Actions.{deps}
use Rattle.cam_commit.specs.Families.{CommitsFamilies}
use Rattle.cam_commit.specs.Calls as commit
use Rattle.cam_commit.specs.Steps.{is_late}
use Rattle.cam_commit.specs.Stepping.{is_begun}
use Rattle.cam_commit.proofs.PrepareSteps.{finish_step_keeps}
use Rattle.cam_node.specs.Represents.{Node, Represents}
use Rattle.cam_node.specs.Lawful.{IsForNode}
use Rattle.cam_node.specs.Stepping.{longer}
use Rattle.cam_node.specs.DecideRules.{is_closed, prepared_by, finished_at, quit_at}
use Rattle.cam_node.proofs.Decides.{AtLetter, sight_at}
use Rattle.cam_node.proofs.DecideRules.{top_finish_is, top_quit_is, late_is, deps_are, top_home}

abbrev Finishes : List ObjectDecl → Node → LetterId → Mail → Load → Did → Type 0
Finishes objects old id mail load d = AtLetter objects old id mail load (λ history. arrives objects (sight_at objects old.number load history) mail.from mail.body ≡ d)

-- A quit of a top action is late, or aborts it;
pub quit_of : (objects : List ObjectDecl) (old : Node) (id : LetterId) (mail : Mail) (load : Load) (f : Name) (late : Bool)
    → mail.body ≡ bodies.Quit f → parent f ≡ None → is_top f ≡ true
    → is_closed old.count (with_load old.know load) f ≡ late
    → Finishes objects old id mail load (quit_at old.number late (deps old.actions f) f)
quit_of objects old id mail load f late body named top is = λ history through rep may.
    top_quit_is objects old id mail load f body named top history through rep may ∙ (λ i. quit_at old.number (is i) (deps old.actions f) f)

-- a finish is late,
pub finish_late : (objects : List ObjectDecl) (old : Node) (id : LetterId) (mail : Mail) (load : Load) (f : Name) (v : ℤ) (counts : List ℕ)
    → mail.body ≡ bodies.Finish f v counts → parent f ≡ None → is_top f ≡ true
    → is_closed old.count (with_load old.know load) f || old.families.is_preparing f ≡ true
    → Finishes objects old id mail load (nothing_but notes.Late)
finish_late objects old id mail load f v counts body named top late = λ history through rep may.
    top_finish_is objects old id mail load f v counts body named top history through rep may
    ∙ (λ i. finished_at old.number (late i) (with_load old.know load) (deps old.actions f) f)

-- or prepares it, or aborts it for an orphan.
pub finish_of : (objects : List ObjectDecl) (old : Node) (id : LetterId) (mail : Mail) (load : Load) (f : Name) (v : ℤ) (counts : List ℕ) (r : Option Reason)
    → mail.body ≡ bodies.Finish f v counts → parent f ≡ None → is_top f ≡ true
    → is_closed old.count (with_load old.know load) f || old.families.is_preparing f ≡ false
    → r ≡ known_orphan (with_load old.know load) f (pairs_of (deps old.actions f))
    → Finishes objects old id mail load (prepared_by old.number (deps old.actions f) f r)
finish_of objects old id mail load f v counts r body named top in_time is = λ history through rep may.
    top_finish_is objects old id mail load f v counts body named top history through rep may
    ∙ (λ i. finished_at old.number (in_time i) (with_load old.know load) (deps old.actions f) f) ∙ ap (prepared_by old.number (deps old.actions f) f) (sym is)

-- The rule goes by the same tests.
pub late_at : (objects : List ObjectDecl) (history : List Received) (load : Load) (node : Node) (f : Name)
    → Represents objects history node
    → is_closed node.count (with_load node.know load) f || node.families.is_preparing f ≡ false
    → is_late (sight_at objects node.number load history) f || node.families.is_preparing f ≡ false
late_at objects history load node f rep in_time = ap (λ b. b || node.families.is_preparing f) (late_is objects history load node f rep) ∙ in_time

pub orphan_at : (objects : List ObjectDecl) (history : List Received) (load : Load) (node : Node) (f : Name)
    → Represents objects history node → home_node f ≡ node.number
    → is_closed node.count (with_load node.know load) f || node.families.is_preparing f ≡ false
    → (sight_at objects node.number load history).orphan f (pairs_of ((sight_at objects node.number load history).deps f))
    ≡ known_orphan (with_load node.know load) f (pairs_of (deps node.actions f))
orphan_at objects history load node f rep home in_time =
    let same = deps_are objects history load node f (node.families.is_preparing f) rep home (late_at objects history load node f rep in_time) in
    λ i. known_orphan (with_load (sym rep.knowledge i) load) f (pairs_of (same i))

-- An orphan is not prepared.
not_begun : (a b : Bool) (r : Option Reason) (reason : Reason) → r ≡ Some reason
    → not (a || b) && not (is_some r) ≡ false
not_begun a b r reason is = ap (λ (q : Option Reason). not (a || b) && not (is_some q)) is ∙ never (not (a || b))
  where
    never : (c : Bool) → c && false ≡ false
    never true = refl
    never false = refl

pub orphan_families : (objects : List ObjectDecl) (old new : Node) (id : LetterId) (mail : Mail) (load : Load) (f : Name) (v : ℤ) (counts : List ℕ) (reason : Reason)
    → mail.body ≡ bodies.Finish f v counts → parent f ≡ None → is_top f ≡ true
    → is_closed old.count (with_load old.know load) f || old.families.is_preparing f ≡ false
    → Some reason ≡ known_orphan (with_load old.know load) f (pairs_of (deps old.actions f))
    → commit.AreSame old.families new.families
    → AtLetter objects old id mail load (λ history. CommitsFamilies objects old.number (longer objects old.number history (Receives id) (Some mail) load) new.families)
orphan_families objects old new id mail load f v counts reason body named top in_time orphan same = λ history through rep may.
    let s = old.number in
    let g = sight_at objects s load history in
    let home = top_home objects s f named (subst (IsForNode objects s) body may.for_node) in
    let none : is_begun g old.families f ≡ false =
    not_begun (is_late g f) (old.families.is_preparing f) (g.orphan f (pairs_of (g.deps f))) reason (orphan_at objects history load old f rep home in_time ∙ sym orphan) in
    finish_step_keeps objects s (map as_carried history) id mail (told_in_order load.know) f v counts old.families new.families body top
    (record { begun = λ is. absurd (true≢false (sym is ∙ none)); other = λ is. same }) rep.commits
