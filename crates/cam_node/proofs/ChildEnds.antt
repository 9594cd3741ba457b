-- A child finishes or quits: what the rule makes, by the tests that its parent's home makes, and
-- that the families stay as they are.
use Rattle.std.proofs.Common.{◌≡◌, ℕ, ℤ, true, false, not, if◌then◌else◌, List, [], map, Option, Some, None, refl, sym, ap, ◌∙◌, is_some}
use Rattle.cam_names.specs.declared.name.Name.{Name}
use Rattle.cam_names.specs.Names.{parent}
use Rattle.cam_names.specs.Dependencies.{as_counts, pairs_of}
use Rattle.cam_type.specs.declared.ObjectDecl.{ObjectDecl}
use Rattle.cam_know.specs.Knowledge.{Knowledge}
use Rattle.cam_know.specs.Orphans.{known_orphan}
use Rattle.cam_know.specs.Order.{told_in_order}
use Rattle.cam_know.specs.declared.Outcome.TheVariants.{Committed}
use Rattle.cam_know.specs.declared.Reason.{Reason}
use Rattle.cam_event.specs.declared.LetterId.{LetterId}
use Rattle.cam_event.specs.declared.Body.{Body}
use Rattle.cam_event.specs.declared.Body.TheVariants as bodies
use Rattle.cam_event.specs.declared.Note.TheVariants as notes
use Rattle.cam_event.specs.Inputs.{Receives, Mail}
use Rattle.cam_event.specs.Rules.{Did, did, nothing_but, stopped_by, arrives}
use Rattle.cam_event.specs.ByKnowledge.{own_pairs, finished}
use Rattle.cam_event.specs.Loads.{Load, with_load}
use Rattle.cam_event.specs.ByDeltas.{as_carried}
use Rattle.cam_tranman.specs.Actions.{Actions, deps}
use Rattle.cam_tranman.specs.Calls.{decides_by}
use Rattle.cam_tranman.proofs.RuleCalls.{child_is_no_top}
use Rattle.cam_commit.specs.Families.{CommitsFamilies}
use Rattle.cam_commit.specs.Calls as commit
use Rattle.cam_commit.specs.Stepping.{concerns}
use Rattle.cam_commit.proofs.OtherSteps.{other_step_keeps}
use Rattle.cam_node.specs.Represents.{Node}
use Rattle.cam_node.specs.Stepping.{longer}
use Rattle.cam_node.specs.Decides.{IsOutcomeOf}
use Rattle.cam_node.specs.DecideRules.{aborts_at, where_decided, ended_by}
use Rattle.cam_node.proofs.Decides.{AtLetter, sight_at}
use Rattle.cam_node.proofs.DecideRules.{child_finish_is, child_quit_is}

-- The parent does not run here, or is an orphan; or the child is decided.
decided_late : (k : Knowledge) (actions : Actions) (p b : Name) (other : Did)
    → decides_by actions b ≡ false
    → where_decided k actions p b other ≡ nothing_but notes.Late
decided_late k actions p b other shut =
    λ i. if not (shut i) then nothing_but notes.Late else stopped_by p (known_orphan k p (pairs_of (deps actions p))) other

decided_stopped : (k : Knowledge) (actions : Actions) (p b : Name) (reason : Reason) (other : Did)
    → decides_by actions b ≡ true
    → Some reason ≡ known_orphan k p (pairs_of (deps actions p))
    → where_decided k actions p b other ≡ nothing_but (notes.Stopped p reason)
decided_stopped k actions p b reason other awaited orphan = λ i. if not (awaited i) then nothing_but notes.Late else stopped_by p (sym orphan i) other

decided_on : (k : Knowledge) (actions : Actions) (p b : Name) (other : Did)
    → decides_by actions b ≡ true
    → None ≡ known_orphan k p (pairs_of (deps actions p))
    → where_decided k actions p b other ≡ other
decided_on k actions p b other awaited none = λ i. if not (awaited i) then nothing_but notes.Late else stopped_by p (sym none i) other

-- A letter that does not concern the families leaves them as they are.
pub families_stay : (objects : List ObjectDecl) (old new : Node) (id : LetterId) (mail : Mail) (load : Load)
    → concerns mail.body ≡ false
    → commit.AreSame old.families new.families
    → AtLetter objects old id mail load (λ history. CommitsFamilies objects old.number (longer objects old.number history (Receives id) (Some mail) load) new.families)
families_stay objects old new id mail load other same = λ history through rep may.
    other_step_keeps objects old.number (map as_carried history) (Receives id) (Some mail) (told_in_order load.know) old.families new.families refl other same rep.commits

-- a finish of a child does not, nor does a quit
pub finish_other : (body : Body) (b p : Name) (v : ℤ) (counts : List ℕ)
    → body ≡ bodies.Finish b v counts → parent b ≡ Some p → concerns body ≡ false
finish_other body b p v counts is named = ap concerns is ∙ ap (λ (q : Option Name). not (is_some q)) named

-- A commit is learnt with what the finish says that the child depends on.
pub commit_is : (objects : List ObjectDecl) (old : Node) (id : LetterId) (mail : Mail) (load : Load) (b p : Name) (v : ℤ) (counts : List ℕ)
    → mail.body ≡ bodies.Finish b v counts → parent b ≡ Some p
    → AtLetter objects old id mail load (λ history. IsOutcomeOf objects history (Some mail) (Committed b counts))
commit_is objects old id mail load b p v counts body named = λ history through rep may.
    ap finished (sym body)
    ∙ (λ i. if sym (child_is_no_top p b named) i then as_counts (own_pairs objects (map as_carried history) b) else finished mail.body)

-- What the rule of a finish of a child makes, case by case:
abbrev Finishes : List ObjectDecl → Node → LetterId → Mail → Load → Did → Type 0
Finishes objects old id mail load d = AtLetter objects old id mail load (λ history. arrives objects (sight_at objects old.number load history) mail.from mail.body ≡ d)

pub finish_is_late : (objects : List ObjectDecl) (old : Node) (id : LetterId) (mail : Mail) (load : Load) (b p : Name) (v : ℤ) (counts : List ℕ)
    → mail.body ≡ bodies.Finish b v counts → parent b ≡ Some p → decides_by old.actions b ≡ false
    → Finishes objects old id mail load (nothing_but notes.Late)
finish_is_late objects old id mail load b p v counts body named shut = λ history through rep may.
    child_finish_is objects old id mail load b p v counts body named history through rep may
    ∙ decided_late (with_load old.know load) old.actions p b (ended_by old.number b (known_orphan (with_load old.know load) b (pairs_of counts))) shut

pub finish_is_stopped : (objects : List ObjectDecl) (old : Node) (id : LetterId) (mail : Mail) (load : Load) (b p : Name) (v : ℤ) (counts : List ℕ) (reason : Reason)
    → mail.body ≡ bodies.Finish b v counts → parent b ≡ Some p → decides_by old.actions b ≡ true
    → Some reason ≡ known_orphan (with_load old.know load) p (pairs_of (deps old.actions p))
    → Finishes objects old id mail load (nothing_but (notes.Stopped p reason))
finish_is_stopped objects old id mail load b p v counts reason body named awaited orphan = λ history through rep may.
    child_finish_is objects old id mail load b p v counts body named history through rep may
    ∙ decided_stopped (with_load old.know load) old.actions p b reason (ended_by old.number b (known_orphan (with_load old.know load) b (pairs_of counts))) awaited orphan

-- it commits, or aborts for an orphan;
pub finish_decides : (objects : List ObjectDecl) (old : Node) (id : LetterId) (mail : Mail) (load : Load) (b p : Name) (v : ℤ) (counts : List ℕ) (r : Option Reason)
    → mail.body ≡ bodies.Finish b v counts → parent b ≡ Some p → decides_by old.actions b ≡ true
    → None ≡ known_orphan (with_load old.know load) p (pairs_of (deps old.actions p))
    → r ≡ known_orphan (with_load old.know load) b (pairs_of counts)
    → Finishes objects old id mail load (ended_by old.number b r)
finish_decides objects old id mail load b p v counts r body named awaited none is = λ history through rep may.
    child_finish_is objects old id mail load b p v counts body named history through rep may
    ∙ decided_on (with_load old.know load) old.actions p b (ended_by old.number b (known_orphan (with_load old.know load) b (pairs_of counts))) awaited none
    ∙ ap (ended_by old.number b) (sym is)

-- and so of a quit: it aborts.
pub quit_is_late : (objects : List ObjectDecl) (old : Node) (id : LetterId) (mail : Mail) (load : Load) (b p : Name)
    → mail.body ≡ bodies.Quit b → parent b ≡ Some p → decides_by old.actions b ≡ false
    → Finishes objects old id mail load (nothing_but notes.Late)
quit_is_late objects old id mail load b p body named shut = λ history through rep may.
    child_quit_is objects old id mail load b p body named history through rep may
    ∙ decided_late (with_load old.know load) old.actions p b (did (aborts_at old.number b) []) shut

pub quit_is_stopped : (objects : List ObjectDecl) (old : Node) (id : LetterId) (mail : Mail) (load : Load) (b p : Name) (reason : Reason)
    → mail.body ≡ bodies.Quit b → parent b ≡ Some p → decides_by old.actions b ≡ true
    → Some reason ≡ known_orphan (with_load old.know load) p (pairs_of (deps old.actions p))
    → Finishes objects old id mail load (nothing_but (notes.Stopped p reason))
quit_is_stopped objects old id mail load b p reason body named awaited orphan = λ history through rep may.
    child_quit_is objects old id mail load b p body named history through rep may
    ∙ decided_stopped (with_load old.know load) old.actions p b reason (did (aborts_at old.number b) []) awaited orphan

pub quit_decides : (objects : List ObjectDecl) (old : Node) (id : LetterId) (mail : Mail) (load : Load) (b p : Name)
    → mail.body ≡ bodies.Quit b → parent b ≡ Some p → decides_by old.actions b ≡ true
    → None ≡ known_orphan (with_load old.know load) p (pairs_of (deps old.actions p))
    → Finishes objects old id mail load (did (aborts_at old.number b) [])
quit_decides objects old id mail load b p body named awaited none = λ history through rep may.
    child_quit_is objects old id mail load b p body named history through rep may
    ∙ decided_on (with_load old.know load) old.actions p b (did (aborts_at old.number b) []) awaited none
