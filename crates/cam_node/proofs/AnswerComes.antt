-- An answer comes: what its rule makes is what the action's home does.
use Rattle.std.proofs.Common.{◌≡◌, ℕ, Bool, true, false, not, if◌then◌else◌, List, [], Option, Some, None, IfSome, refl, sym, ap, ◌∙◌, subst}
use Rattle.cam_names.specs.declared.name.Name.{Name}
use Rattle.cam_names.specs.Names.{home_node}
use Rattle.cam_names.specs.Dependencies.{pairs_of}
use Rattle.cam_type.specs.declared.ObjectDecl.{ObjectDecl}
use Rattle.cam_know.specs.Knowledge.{Knowledge}
use Rattle.cam_know.specs.Known.{known_count}
use Rattle.cam_know.specs.Orphans.{known_orphan}
use Rattle.cam_know.specs.declared.Reason.{Reason}
use Rattle.cam_event.specs.declared.Note.TheVariants as notes
use Rattle.cam_event.specs.declared.Reply.{Reply}
use Rattle.cam_event.specs.Rules.{Did, answer_comes, nothing_but, stopped_by}
use Rattle.cam_event.specs.Sights.{Sight}
use Rattle.cam_tranman.specs.declared.call.OpenCall.{OpenCall}
use Rattle.cam_tranman.specs.declared.Taken.{Taken}
use Rattle.cam_tranman.specs.declared.Taken.TheVariants as taken
use Rattle.cam_tranman.specs.Actions.{Actions, AnswersSight, deps}
use Rattle.cam_tranman.specs.Calls.{awaits_by, taken_at, taken_by}
use Rattle.cam_tranman.specs.Steps.{did_taken}
use Rattle.cam_tranman.proofs.RuleCalls.{taken_is_rule}
use Rattle.cam_node.specs.declared.did.Doing.{Doing}
use Rattle.cam_node.specs.AtHome.{IsAtHome}
use Rattle.cam_node.specs.PlanOrder.{is_served}
use Rattle.cam_node.specs.Answered.{answered_by, got_or_late, late, seen_by, stopped_or}

-- an action without an open call sees nothing
sees_nothing : (actions : Actions) (a : Name) (n : ℕ) (reply : Reply) (known : ℕ)
    → actions.call a ≡ None
    → taken_by actions a n reply known ≡ taken.Late
sees_nothing actions a n reply known none =
    ap (λ (o : Option OpenCall). if not (awaits_by actions a n) then taken.Late else taken_at o
    reply known) none
    ∙ either (awaits_by actions a n)
  where
    either : (t : Bool) → (if not t then taken.Late else taken.Late) ≡ taken.Late
    either true = refl
    either false = refl

did_got : (a : Name) (n : ℕ) (reply : Reply) (known : ℕ) (t : Taken)
    → did_taken a n t ≡ (got_or_late a n reply known t).did
did_got a n reply known (taken.Got seen) = refl
did_got a n reply known taken.Late = refl

did_seen : (actions : Actions) (k : Knowledge) (a : Name) (n : ℕ) (reply : Reply) (known : ℕ)
    (o : Option OpenCall) → actions.call a ≡ o
    → IfSome o (λ call. known ≡ known_count k call.site)
    → did_taken a n (taken_by actions a n reply known) ≡ (seen_by actions k a n reply o).did
did_seen actions k a n reply known None is knows = ap (did_taken a n)
    (sees_nothing actions a n reply known is)
did_seen actions k a n reply known (Some call) is knows =
    did_got a n reply known (taken_by actions a n reply known)
    ∙ ap (λ (c : ℕ). (got_or_late a n reply c (taken_by actions a n reply c)).did) knows

did_stopped : (a : Name) (awaited : Bool) (reason other : Option Reason) (d : Did) (doing : Doing)
    → reason ≡ other → d ≡ doing.did
    → (if not awaited then nothing_but notes.Late else stopped_by a reason d)
    ≡ (if not awaited then late else stopped_or a other doing).did
did_stopped a false reason other d doing same is = refl
did_stopped a true reason None d doing same is = ap (λ (r : Option Reason). stopped_by a r d) same
    ∙ is
did_stopped a true reason (Some why) d doing same is = ap (λ (r : Option Reason). stopped_by a r d)
    same

pub answer_rule : (objects : List ObjectDecl) (g : Sight) (actions : Actions) (k : Knowledge)
    (a : Name) (n : ℕ) (reply : Reply)
    → AnswersSight objects g actions → home_node a ≡ g.node → g.orphan ≡ known_orphan k
    → g.known_count ≡ known_count k
    → answer_comes objects g a n reply ≡ (answered_by actions k a n reply).did
answer_rule objects g actions k a n reply is home orphan counts = by (actions.call a) refl
  where
    done : (known : ℕ) → IfSome (actions.call a) (λ call. known ≡ known_count k call.site)
        → answer_comes objects g a n reply ≡ (answered_by actions k a n reply).did
    done known knows =
        taken_is_rule objects g actions a n reply known is home
        (subst (λ (c : ℕ → ℕ). IfSome (actions.call a) (λ call. known ≡ c call.site)) (sym counts)
        knows)
        ∙ did_stopped a (awaits_by actions a n) (g.orphan a (pairs_of (deps actions a)))
        (known_orphan k a (pairs_of (deps actions a)))
        (did_taken a n (taken_by actions a n reply known))
        (seen_by actions k a n reply (actions.call a))
        (ap (λ (o : Name → List (ℕ × ℕ) → Option Reason). o a (pairs_of (deps actions a))) orphan)
        (did_seen actions k a n reply known (actions.call a) refl knows)

    by : (o : Option OpenCall) → actions.call a ≡ o
        → answer_comes objects g a n reply ≡ (answered_by actions k a n reply).did
    by None called = done 0
        (subst (λ (o : Option OpenCall). IfSome o (λ call. 0 ≡ known_count k call.site))
        (sym called) tt)
    by (Some call) called =
        done (known_count k call.site)
        (subst (λ (o : Option OpenCall). IfSome o
        (λ c. known_count k call.site ≡ known_count k c.site)) (sym called) refl)

-- It concerns the actions at home alone, adds nothing to the entry, and sends nothing.
pub record IsQuietDoing (doing : Doing) : Type 0 where
  pub home : IsAtHome doing.did
  pub adds : doing.adds ≡ None
  pub unserved : is_served doing.change ≡ false
  pub sent : doing.did.sent ≡ []

got_quiet : (a : Name) (n : ℕ) (reply : Reply) (known : ℕ) (t : Taken)
    → IsQuietDoing (got_or_late a n reply known t)
got_quiet a n reply known (taken.Got seen) = record
    { home = record { alone = refl; begins = λ f. refl }; adds = refl; unserved = refl; sent = refl }
got_quiet a n reply known taken.Late = record
    { home = record { alone = refl; begins = λ f. refl }; adds = refl; unserved = refl; sent = refl }

late_quiet : IsQuietDoing late
late_quiet = record {
  home = record { alone = refl; begins = λ f. refl };
  adds = refl;
  unserved = refl;
  sent = refl;
}

seen_quiet : (actions : Actions) (k : Knowledge) (a : Name) (n : ℕ) (reply : Reply)
    (o : Option OpenCall) → IsQuietDoing (seen_by actions k a n reply o)
seen_quiet actions k a n reply None = late_quiet
seen_quiet actions k a n reply (Some call) =
    got_quiet a n reply (known_count k call.site)
    (taken_by actions a n reply (known_count k call.site))

tested_quiet : (a : Name) (awaited : Bool) (reason : Option Reason) (doing : Doing)
    → IsQuietDoing doing
    → IsQuietDoing (if not awaited then late else stopped_or a reason doing)
tested_quiet a false reason doing quiet = late_quiet
tested_quiet a true None doing quiet = quiet
tested_quiet a true (Some why) doing quiet = record
    { home = record { alone = refl; begins = λ f. refl }; adds = refl; unserved = refl; sent = refl }

pub answer_quiet : (actions : Actions) (k : Knowledge) (a : Name) (n : ℕ) (reply : Reply)
    → IsQuietDoing (answered_by actions k a n reply)
answer_quiet actions k a n reply =
    tested_quiet a (awaits_by actions a n) (known_orphan k a (pairs_of (deps actions a)))
    (seen_by actions k a n reply (actions.call a))
    (seen_quiet actions k a n reply (actions.call a))
