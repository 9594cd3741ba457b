-- A vote comes: what its rule makes is what the family's home does.
use Rattle.std.proofs.Common.{inl, inr, ◌≡◌, ℕ, Bool, true, false, not, ◌||◌, if◌then◌else◌, List, map, refl, sym, ap, ◌∙◌, subst}
use Rattle.std.proofs.lemmas.Bool.{cases_Bool, true≢false, or_parts}
use Rattle.cam_names.specs.declared.name.Name.{Name}
use Rattle.cam_names.specs.Names.{is_top, home_node}
use Rattle.cam_type.specs.declared.ObjectDecl.{ObjectDecl}
use Rattle.cam_know.specs.Order.{told_in_order}
use Rattle.cam_event.specs.declared.Body.{Body}
use Rattle.cam_event.specs.declared.Body.TheVariants as bodies
use Rattle.cam_event.specs.declared.LetterId.{LetterId}
use Rattle.cam_event.specs.declared.Note.TheVariants as notes
use Rattle.cam_event.specs.Inputs.{Mail}
use Rattle.cam_event.specs.Rules.{arrives, nothing_but}
use Rattle.cam_event.specs.Sights.{Sight, is_present, knows_outcome}
use Rattle.cam_event.specs.Loads.{Load, with_load}
use Rattle.cam_event.specs.ByDeltas.{Received, as_carried}
use Rattle.cam_tranman.specs.Actions.{deps}
use Rattle.cam_commit.specs.declared.Voted.{Voted}
use Rattle.cam_commit.specs.declared.Voted.TheVariants as voted
use Rattle.cam_commit.specs.Calls.{is_last, yes, voted_by}
use Rattle.cam_commit.specs.Steps.{AnswersOf, did_voted, is_late}
use Rattle.cam_commit.proofs.RuleCalls.{voted_is_rule}
use Rattle.cam_commit.proofs.Sights.{sight_is_answered}
use Rattle.cam_node.specs.Represents.{Node, Represents}
use Rattle.cam_node.specs.Halting.{IsThrough}
use Rattle.cam_node.specs.Lawful.{IsForNode}
use Rattle.cam_node.specs.Voting.{is_over, voted_at, weighed}
use Rattle.cam_node.proofs.Decides.{AtLetter, sight_at}
use Rattle.cam_node.proofs.DecideRules.{deps_are, late_is}
use Rattle.cam_node.proofs.Orderly.{through_orderly}

weighed_is : (g : Sight) (f : Name) (r : Voted) → did_voted g f r ≡ weighed g.node (g.deps f) f r
weighed_is g f voted.Late = refl
weighed_is g f voted.Some = refl
weighed_is g f voted.No = refl
weighed_is g f voted.All = refl

-- What is no top action is not being prepared.
pub not_prepared : (objects : List ObjectDecl) (history : List Received) (load : Load) (node : Node)
    (f : Name) → IsThrough objects node.number history → Represents objects history node
    → is_top f ≡ false → is_late (sight_at objects node.number load history) f ≡ false
    → node.families.is_preparing f ≡ false
not_prepared objects history load node f through rep child in_time =
    elim (cases_Bool (node.families.is_preparing f)) [
      | inl begun ↦
          absurd (true≢false
          (sym ((through_orderly objects node.number history through).prepared f
          (sym (is.preparing) ∙ begun)).0 ∙ child))
      | inr none ↦ none
    ]
  where
    g : Sight
    g = sight_at objects node.number load history

    is : AnswersOf g f node.families
    is = sight_is_answered objects node.number (map as_carried history) (told_in_order load.know)
        node.families rep.commits f (or_parts (not (is_present g f)) (knows_outcome g f) in_time).1

-- a vote for a family that is not being prepared makes nothing of it
weighs_late : (node : Node) (from : ℕ) (f : Name) (n : ℕ) (agrees : Bool) (counts : List ℕ)
    → node.families.is_preparing f ≡ false
    → voted_by node.families (yes f from n) agrees counts ≡ voted.Late
weighs_late node from f n agrees counts none =
    ap (λ (p : Bool). if not p then voted.Late
    else if not agrees then voted.No
    else if is_last node.families (yes f from n) counts then voted.All
    else voted.Some) none

pub vote_is : (objects : List ObjectDecl) (node : Node) (id : LetterId) (mail : Mail) (load : Load)
    (f : Name) (n : ℕ) (agrees : Bool) → mail.body ≡ bodies.Vote f n agrees
    → AtLetter objects node id mail load
    (λ history. arrives objects (sight_at objects node.number load history) mail.from mail.body
    ≡ voted_at node.number (is_over node.count (with_load node.know load) f) (deps node.actions f)
    node.families mail.from f n agrees)
vote_is objects node id mail load f n agrees body history through rep may =
    ap (arrives objects g mail.from) body
    ∙ voted_is_rule g node.families mail.from f n agrees
    (sight_is_answered objects s (map as_carried history) (told_in_order load.know) node.families
    rep.commits)
    ∙ by (is_late g f) refl
    ∙ ap (λ (b : Bool). voted_at s (b || not (is_top f)) ds node.families mail.from f n agrees)
    (late_is objects history load node f rep)
  where
    s : ℕ
    s = node.number

    g : Sight
    g = sight_at objects s load history

    ds : List ℕ
    ds = deps node.actions f

    home : home_node f ≡ s
    home = subst (λ (y : Body). IsForNode objects s y) body may.for_node

    top : (t : Bool) → is_top f ≡ t → is_late g f ≡ false
        → did_voted g f (voted_by node.families (yes f mail.from n) agrees (g.deps f))
        ≡ voted_at s (not t) ds node.families mail.from f n agrees
    top true is in_time =
        let same = deps_are objects history load node f false rep home
        (ap (λ b. b || false) in_time) in
        weighed_is g f (voted_by node.families (yes f mail.from n) agrees (g.deps f))
        ∙ (λ i. weighed s (same i) f (voted_by node.families (yes f mail.from n) agrees (same i)))
    top false is in_time =
        ap (did_voted g f) (weighs_late node mail.from f n agrees (g.deps f)
        (not_prepared objects history load node f through rep is in_time))

    by : (b : Bool) → is_late g f ≡ b
        → (if b then nothing_but notes.Late
        else did_voted g f (voted_by node.families (yes f mail.from n) agrees (g.deps f)))
        ≡ voted_at s (b || not (is_top f)) ds node.families mail.from f n agrees
    by true late = refl
    by false in_time = top (is_top f) refl in_time
