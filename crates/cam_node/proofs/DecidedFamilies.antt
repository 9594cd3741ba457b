-- After a vote that decides its family the families answer as the longer history does: no one asks for the family then.
use Rattle.std.proofs.Common.{◌≡◌, ℕ, Bool, true, false, ◌&&◌, ◌||◌, List, ◌∷◌, map, Some, refl, ap, ◌∙◌, subst}
use Rattle.std.specs.List.{list_any}
use Rattle.std.proofs.lemmas.List.Folds.{list_any-append}
use Rattle.cam_names.specs.declared.name.Name.{Name}
use Rattle.cam_names.specs.Names.{name_eq}
use Rattle.cam_names.specs.Dependencies.{has_pair}
use Rattle.cam_names.proofs.Names.{name_eq_refl, name_eq_same}
use Rattle.cam_type.specs.declared.ObjectDecl.{ObjectDecl}
use Rattle.cam_know.specs.declared.Outcome.{Outcome}
use Rattle.cam_know.specs.declared.Outcome.TheVariants.{Aborted, Committed}
use Rattle.cam_know.specs.Order.{told_in_order}
use Rattle.cam_event.specs.declared.Body.{Body}
use Rattle.cam_event.specs.declared.Body.TheVariants as bodies
use Rattle.cam_event.specs.declared.Deed.{Deed}
use Rattle.cam_event.specs.declared.LetterId.{LetterId}
use Rattle.cam_event.specs.History.{is_abort, is_commit}
use Rattle.cam_event.specs.Inputs.{Receives, Mail}
use Rattle.cam_event.specs.Sights.{yes_in}
use Rattle.cam_event.specs.ByKnowledge.{held_informs}
use Rattle.cam_event.specs.Carried.{Carried}
use Rattle.cam_event.specs.Loads.{Load}
use Rattle.cam_event.specs.ByDeltas.{as_carried}
use Rattle.cam_commit.specs.Families.{Families, IsUndecided}
use Rattle.cam_commit.specs.Calls.{AreSame}
use Rattle.cam_commit.specs.Steps.{is_finish_of, is_prepare_of}
use Rattle.cam_commit.specs.Stepping.{received}
use Rattle.cam_commit.proofs.Calling.{quiet_keeps, vote_pair}
use Rattle.cam_commit.proofs.Knowing.{is_now_decided}
use Rattle.cam_commit.proofs.Stepping.{begins_none, kind_of, secures_none}
use Rattle.cam_server.specs.Events.{decision}
use Rattle.cam_node.specs.Represents.{Node}
use Rattle.cam_node.specs.Decides.{decided_action}
use Rattle.cam_node.specs.Learning.{ruled}
use Rattle.cam_node.proofs.Decides.{AtLetter}
use Rattle.cam_node.proofs.VoteFamilies.{GoOn}

-- It decides its family, of which no one asks then.
named_so : (a f : Name) → a ≡ f → name_eq f a ≡ true
named_so a f is = subst (λ (b : Name). name_eq b a ≡ true) is (name_eq_refl a)

decision_ends : (s : ℕ) (o : Outcome) (f : Name) → decided_action o ≡ f
    → (list_any (is_commit f) (decision s o) || list_any (is_abort f) (decision s o)) ≡ true
decision_ends s (Aborted a) f is = ap (λ (t : Bool). t || false) (named_so a f is)
decision_ends s (Committed a counts) f is = ap (λ (t : Bool). (t || false) || false)
    (named_so a f is)

pub decided_families : (objects : List ObjectDecl) (old : Node) (id : LetterId) (mail : Mail)
    (load : Load) (f : Name) (n : ℕ) (agrees : Bool) (o : Outcome) (new : Families)
    → mail.body ≡ bodies.Vote f n agrees → decided_action o ≡ f
    → AtLetter objects old id mail load
    (λ history. ruled objects old.number history (Receives id) (Some mail) load ≡ decision
    old.number o)
    → AreSame old.families new → GoOn objects old id mail load new
decided_families objects old id mail load f n agrees o new body of rule_is same history through rep
    may =
    quiet_keeps objects s H c old.families new
    (record {
      no_restart = (kind_of objects s H id mail (told_in_order load.know)).restarts;
      begins = begins_none objects s H id mail (told_in_order load.know)
          (λ h. ap (is_finish_of h) body);
      counts = λ h m k undecided preparing. counts h m k undecided (name_eq f h) refl;
      secures = secures_none objects s H id mail (told_in_order load.know)
          (λ h. ap (is_prepare_of h) body);
    })
    same rep.commits
  where
    s : ℕ
    s = old.number

    H : List Carried
    H = map as_carried history

    c : Carried
    c = received objects s H id mail (told_in_order load.know)

    first : List Deed
    first = held_informs objects s H (told_in_order load.know)

    rules : List Deed
    rules = ruled objects s history (Receives id) (Some mail) load

    none : (b : Bool) → (b && false) ≡ false
    none true = refl
    none false = refl

    behind : (a b x y : Bool) → (b || y) ≡ true → ((a || b) || (x || y)) ≡ true
    behind true b x y h = refl
    behind false true x y h = refl
    behind false false true y h = refl
    behind false false false y h = h

    ended : (list_any (is_commit f) c.event.deeds || list_any (is_abort f) c.event.deeds) ≡ true
    ended =
        (λ i. list_any-append (is_commit f) first rules i || list_any-append (is_abort f) first
        rules i)
        ∙ behind (list_any (is_commit f) first) (list_any (is_commit f) rules)
        (list_any (is_abort f) first)
        (list_any (is_abort f) rules)
        (ap (λ (ds : List Deed). list_any (is_commit f) ds || list_any (is_abort f) ds)
        (rule_is history through rep may) ∙ decision_ends s o f of)

    counts : (h : Name) (m k : ℕ) → IsUndecided objects (c ∷ H) h → (t : Bool) → name_eq f h ≡ t
        → has_pair (yes_in h mail.from mail.body) m k ≡ false
    counts h m k undecided false other =
        ap (λ (b : Body). has_pair (yes_in h mail.from b) m k) body
        ∙ vote_pair f h mail.from n m k agrees false other ∙ none agrees
    counts h m k undecided true here =
        absurd (is_now_decided objects H c h
        (subst (λ (a : Name).
        (list_any (is_commit a) c.event.deeds || list_any (is_abort a) c.event.deeds) ≡ true)
        (name_eq_same f h here) ended) undecided)
