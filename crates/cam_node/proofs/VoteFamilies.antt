-- After a vote that is late or is counted the families answer as the longer history does.
use Rattle.std.proofs.Common.{inl, inr, ◌⊎◌, ◌≡◌, ℕ, Bool, true, false, not, ◌&&◌, ◌||◌, if◌then◌else◌, List, map, Some, refl, sym, ap, ◌∙◌, subst}
use Rattle.std.proofs.lemmas.Bool.{true≢false}
use Rattle.cam_names.specs.declared.name.Name.{Name}
use Rattle.cam_names.specs.Names.{is_top, name_eq}
use Rattle.cam_type.specs.declared.ObjectDecl.{ObjectDecl}
use Rattle.cam_know.specs.Order.{told_in_order}
use Rattle.cam_event.specs.declared.Body.{Body}
use Rattle.cam_event.specs.declared.Body.TheVariants as bodies
use Rattle.cam_event.specs.declared.LetterId.{LetterId}
use Rattle.cam_event.specs.Inputs.{Receives, Mail}
use Rattle.cam_event.specs.Sights.{Sight}
use Rattle.cam_event.specs.Loads.{Load, with_load}
use Rattle.cam_event.specs.ByDeltas.{Received, as_carried}
use Rattle.cam_tranman.specs.Actions.{deps}
use Rattle.cam_commit.specs.declared.Voted.{Voted}
use Rattle.cam_commit.specs.declared.Voted.TheVariants as voted
use Rattle.cam_commit.specs.Families.{Families, CommitsFamilies}
use Rattle.cam_commit.specs.Calls.{ends, is_last, yes, yes_eq, voted_by, AreSame, IsVoted}
use Rattle.cam_commit.specs.Steps.{is_late}
use Rattle.cam_commit.specs.Stepping.{ArePresent}
use Rattle.cam_commit.proofs.Stepping.{vote_step_keeps}
use Rattle.cam_node.specs.Represents.{Node}
use Rattle.cam_node.specs.Halting.{IsThrough}
use Rattle.cam_node.specs.Lawful.{IsForNode}
use Rattle.cam_node.specs.Stepping.{longer}
use Rattle.cam_node.specs.Voting.{is_over}
use Rattle.cam_node.proofs.Decides.{AtLetter, sight_at}
use Rattle.cam_node.proofs.DecideRules.{deps_are, late_is}
use Rattle.cam_node.proofs.Orderly.{through_orderly}
use Rattle.cam_node.proofs.VoteRule.{not_prepared}

-- the families go on with the letter
abbrev pub GoOn : List ObjectDecl → Node → LetterId → Mail → Load → Families → Type 0
GoOn objects old id mail load families =
    AtLetter objects old id mail load
    (λ history. CommitsFamilies objects old.number
    (longer objects old.number history (Receives id) (Some mail) load) families)

present_are : (objects : List ObjectDecl) (s : ℕ) (history : List Received)
    → IsThrough objects s history → ArePresent s (map as_carried history)
present_are objects s history through f begun =
    ((through_orderly objects s history through).prepared f begun).1

-- A vote that makes nothing of its family leaves the families as they are.
none_voted : (old new : Families) (from : ℕ) (f : Name) (n : ℕ) (agrees : Bool) (counts : List ℕ)
    → old.is_preparing f ≡ false → AreSame old new
    → IsVoted (yes f from n) agrees (voted_by old (yes f from n) agrees counts) old new
none_voted old new from f n agrees counts none same = record {
  preparing = λ g.
      same.preparing g
      ∙ ap (λ (r : Voted). if ends r && name_eq f g then false else old.is_preparing g) (sym late);
  votes = λ g m c.
      same.votes g m c
      ∙ ap (λ (p : Bool). (p && (agrees && yes_eq (yes f from n) (yes g m c))) || old.has_vote g m
      c)
      (sym none);
  secured = same.secured;
}
  where
    late : voted_by old (yes f from n) agrees counts ≡ voted.Late
    late =
        ap (λ (p : Bool). if not p then voted.Late
        else if not agrees then voted.No
        else if is_last old (yes f from n) counts then voted.All
        else voted.Some) none

-- It is over, or is not being prepared.
pub late_families : (objects : List ObjectDecl) (old : Node) (id : LetterId) (mail : Mail)
    (load : Load)
    (f : Name) (n : ℕ) (agrees : Bool) (new : Families) → mail.body ≡ bodies.Vote f n agrees
    → (is_over old.count (with_load old.know load) f ≡ true) ⊎ (old.families.is_preparing f ≡ false)
    → AreSame old.families new → GoOn objects old id mail load new
late_families objects old id mail load f n agrees new body late same history through rep may =
    vote_step_keeps objects s (map as_carried history) id mail (told_in_order load.know) f n agrees
    old.families new body (present_are objects s history through)
    (record {
      late = λ is. same;
      in_time = λ is. none_voted old.families new mail.from f n agrees (g.deps f) (none late is)
          same;
    })
    rep.commits
  where
    s : ℕ
    s = old.number

    g : Sight
    g = sight_at objects s load history

    child : (t : Bool) → is_top f ≡ t → is_late g f ≡ false
        → is_over old.count (with_load old.know load) f ≡ true → is_top f ≡ false
    child false is in_time over = is
    child true is in_time over =
        absurd (true≢false
        (sym over
        ∙ (λ i. sym (late_is objects history load old f rep) i || not (is i))
        ∙ ap (λ b. b || false) in_time))

    none : (is_over old.count (with_load old.know load) f ≡ true) ⊎
        (old.families.is_preparing f ≡ false)
        → is_late g f ≡ false → old.families.is_preparing f ≡ false
    none (inl over) in_time =
        not_prepared objects history load old f through rep (child (is_top f) refl in_time over)
        in_time
    none (inr not_begun) in_time = not_begun

-- It is counted.
pub counted_families : (objects : List ObjectDecl) (old : Node) (id : LetterId) (mail : Mail)
    (load : Load) (f : Name) (n : ℕ) (agrees : Bool) (new : Families)
    → mail.body ≡ bodies.Vote f n agrees → is_over old.count (with_load old.know load) f ≡ false
    → IsVoted (yes f mail.from n) agrees
    (voted_by old.families (yes f mail.from n) agrees (deps old.actions f)) old.families new
    → GoOn objects old id mail load new
counted_families objects old id mail load f n agrees new body in_time voted_so history through rep
    may =
    vote_step_keeps objects s (map as_carried history) id mail (told_in_order load.know) f n agrees
    old.families new body (present_are objects s history through)
    (record {
      late = λ is. absurd (true≢false (sym is ∙ not_late));
      in_time = λ is.
          subst (λ (counts : List ℕ). IsVoted (yes f mail.from n) agrees
          (voted_by old.families (yes f mail.from n) agrees counts) old.families new) (sym same)
          voted_so;
    })
    rep.commits
  where
    s : ℕ
    s = old.number

    g : Sight
    g = sight_at objects s load history

    first : (a b : Bool) → (a || b) ≡ false → a ≡ false
    first false b h = refl
    first true b h = cc

    not_late : is_late g f ≡ false
    not_late = late_is objects history load old f rep ∙ first _ (not (is_top f)) in_time

    same : g.deps f ≡ deps old.actions f
    same =
        deps_are objects history load old f false rep
        (subst (λ (y : Body). IsForNode objects s y) body may.for_node)
        (ap (λ b. b || false) not_late)
