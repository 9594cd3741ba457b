-- An answer stands: the action has got what it sees, or all is as it was.
use Rattle.std.proofs.Common.{◌≡◌, ℕ, Bool, true, false, not, if◌then◌else◌, List, Option, Some, None, refl, sym, subst}
use Rattle.cam_names.specs.declared.name.Name.{Name}
use Rattle.cam_names.specs.Dependencies.{pairs_of}
use Rattle.cam_type.specs.declared.ObjectDecl.{ObjectDecl}
use Rattle.cam_know.specs.Knowledge.{Knowledge}
use Rattle.cam_know.specs.Known.{known_count}
use Rattle.cam_know.specs.Orphans.{known_orphan}
use Rattle.cam_know.specs.declared.Reason.{Reason}
use Rattle.cam_event.specs.declared.LetterId.{LetterId}
use Rattle.cam_event.specs.declared.Reply.{Reply}
use Rattle.cam_event.specs.Inputs.{Mail}
use Rattle.cam_event.specs.Loads.{Load}
use Rattle.cam_tranman.specs.declared.call.OpenCall.{OpenCall}
use Rattle.cam_tranman.specs.declared.Taken.{Taken}
use Rattle.cam_tranman.specs.declared.Taken.TheVariants as taken
use Rattle.cam_tranman.specs.Actions.{Actions, deps}
use Rattle.cam_tranman.specs.Calls as tranman
use Rattle.cam_tranman.specs.Calls.{after_taken, awaits_by, taken_by}
use Rattle.cam_node.specs.declared.did.Doing.{Doing}
use Rattle.cam_node.specs.declared.knowing.Heard.{Heard}
use Rattle.cam_node.specs.Represents.{Node}
use Rattle.cam_node.specs.declared.state.Core.{Core}
use Rattle.cam_node.specs.Calls.{AreSame, AreToNodes}
use Rattle.cam_node.specs.Standing.{HasLearnt, MayChange, Stands}
use Rattle.cam_node.specs.Answered.{answered_by, got_or_late, late, seen_by, stopped_or}
use Rattle.cam_node.proofs.AnswerComes.{answer_quiet}
use Rattle.cam_node.proofs.HomePlans.{HaveDone}
use Rattle.cam_node.proofs.Unchanged.{unchanged}

-- where an event stands that was made of this, the actions did what its deeds do
abbrev StandsSo : List ObjectDecl → Node → Node → Node → LetterId → Mail → Load → Heard → Knowledge
    → Doing → Type 0
StandsSo objects old mid new id mail load heard known doing =
    Stands doing.change (Some heard) known mid new
    → HasLearnt (Some heard) known mid (record new { actions = mid.actions }) × HaveDone objects old
    id mail load doing.did new

got_stands : (objects : List ObjectDecl) (old mid new : Node) (id : LetterId) (mail : Mail)
    (load : Load) (heard : Heard) (known : Knowledge)
    (a : Name) (n : ℕ) (reply : Reply) (count : ℕ) (t : Taken) → AreSame old mid
    → mid.actions ≡ old.actions
    → taken_by old.actions a n reply count ≡ t
    → StandsSo objects old mid new id mail load heard known (got_or_late a n reply count t)
got_stands objects old mid new id mail load heard known a n reply count taken.Late same acts is has
    =
    unchanged objects old mid new id mail load heard known
    (got_or_late a n reply count taken.Late).did same refl has
got_stands objects old mid new id mail load heard known a n reply count (taken.Got seen) same acts
    is has = (
      has.learnt,
      λ history through rep may.
          subst (λ (t : Taken). tranman.AreSame (after_taken a t old.actions) new.actions) is
          (subst (λ (actions : Actions). tranman.AreSame
          (after_taken a (taken_by actions a n reply count) actions) new.actions) acts has.acted),
    )

seen_stands : (objects : List ObjectDecl) (old mid new : Node) (id : LetterId) (mail : Mail)
    (load : Load) (heard : Heard) (known : Knowledge)
    (a : Name) (n : ℕ) (reply : Reply) (o : Option OpenCall) → AreSame old mid
    → mid.actions ≡ old.actions
    → StandsSo objects old mid new id mail load heard known (seen_by old.actions known a n reply o)
seen_stands objects old mid new id mail load heard known a n reply None same acts has =
    unchanged objects old mid new id mail load heard known late.did same refl has
seen_stands objects old mid new id mail load heard known a n reply (Some call) same acts has =
    got_stands objects old mid new id mail load heard known a n reply (known_count known call.site)
    (taken_by old.actions a n reply (known_count known call.site)) same acts refl has

tested_stands : (objects : List ObjectDecl) (old mid new : Node) (id : LetterId) (mail : Mail)
    (load : Load) (heard : Heard) (known : Knowledge)
    (a : Name) (awaited : Bool) (reason : Option Reason) (doing : Doing) → AreSame old mid
    → StandsSo objects old mid new id mail load heard known doing
    → StandsSo objects old mid new id mail load heard known
    (if not awaited then late else stopped_or a reason doing)
tested_stands objects old mid new id mail load heard known a false reason doing same stands has =
    unchanged objects old mid new id mail load heard known late.did same refl has
tested_stands objects old mid new id mail load heard known a true None doing same stands has =
    stands has
tested_stands objects old mid new id mail load heard known a true (Some why) doing same stands has =
    unchanged objects old mid new id mail load heard known (stopped_or a (Some why) doing).did same
    refl has

pub answer_stands : (objects : List ObjectDecl) (old mid new : Node) (id : LetterId) (mail : Mail)
    (load : Load) (heard : Heard) (known : Knowledge)
    (a : Name) (n : ℕ) (reply : Reply) (doing : Doing) → AreSame old mid → mid.actions ≡ old.actions
    → doing ≡ answered_by old.actions known a n reply
    → StandsSo objects old mid new id mail load heard known doing
answer_stands objects old mid new id mail load heard known a n reply doing same acts does =
    subst (StandsSo objects old mid new id mail load heard known) (sym does)
    (tested_stands objects old mid new id mail load heard known a (awaits_by old.actions a n)
    (known_orphan known a (pairs_of (deps old.actions a)))
    (seen_by old.actions known a n reply (old.actions.call a)) same
    (seen_stands objects old mid new id mail load heard known a n reply (old.actions.call a) same
    acts))

-- it needs no room, and sends nothing
got_may : (h : Option Heard) (core : Core) (a : Name) (n : ℕ) (reply : Reply) (count : ℕ) (t : Taken)
    → MayChange (got_or_late a n reply count t).change h core
got_may h core a n reply count taken.Late = tt
got_may h core a n reply count (taken.Got seen) = tt

seen_may : (h : Option Heard) (core : Core) (actions : Actions) (known : Knowledge) (a : Name) (n : ℕ) (reply : Reply)
    (o : Option OpenCall)
    → MayChange (seen_by actions known a n reply o).change h core
seen_may h core actions known a n reply None = tt
seen_may h core actions known a n reply (Some call) =
    got_may h core a n reply (known_count known call.site)
    (taken_by actions a n reply (known_count known call.site))

tested_may : (h : Option Heard) (core : Core) (a : Name) (awaited : Bool) (reason : Option Reason) (doing : Doing)
    → MayChange doing.change h core
    → MayChange (if not awaited then late else stopped_or a reason doing).change h core
tested_may h core a false reason doing may = tt
tested_may h core a true None doing may = may
tested_may h core a true (Some why) doing may = tt

pub answer_may : (h : Option Heard) (core : Core) (actions : Actions) (known : Knowledge) (a : Name) (n : ℕ)
    (reply : Reply) (doing : Doing)
    → doing ≡ answered_by actions known a n reply → MayChange doing.change h core
answer_may h core actions known a n reply doing does =
    subst (λ (d : Doing). MayChange d.change h core) (sym does)
    (tested_may h core a (awaits_by actions a n) (known_orphan known a (pairs_of (deps actions a)))
    (seen_by actions known a n reply (actions.call a))
    (seen_may h core actions known a n reply (actions.call a)))

pub answer_nodes : (actions : Actions) (known : Knowledge) (a : Name) (n : ℕ) (reply : Reply)
    (doing : Doing)
    → doing ≡ answered_by actions known a n reply → AreToNodes doing.did.sent
answer_nodes actions known a n reply doing does =
    subst (λ (d : Doing). AreToNodes d.did.sent) (sym does)
    (subst AreToNodes (sym (answer_quiet actions known a n reply).sent) tt)
