-- The calls are the rules.
use Rattle.std.proofs.Common.{◌≡◌, ℕ, ◌+◌, eqb, Bool, true, false, not, ◌&&◌, ◌||◌, if◌then◌else◌, List, [], ◌∷◌, ◌++◌, length, Option, Some, None, IfSome, refl, sym, ap, ap₂, subst, ◌∙◌, arith, inl, inr}
use Rattle.std.specs.Prelude.{nat_lt, option_map}
use Rattle.std.proofs.lemmas.Bool.{cases_Bool, true≢false, and_parts, or_parts, not-false}
use borrow.Author.Tests.{eqb-true}
use Rattle.cam_names.specs.declared.name.Name.{Name}
use Rattle.cam_names.specs.Names.{is_top, is_child, parent, home_node, home_count}
use Rattle.cam_names.specs.Dependencies.{pairs_of}
use Rattle.cam_type.specs.declared.ObjectDecl.{ObjectDecl}
use Rattle.cam_event.specs.declared.Body.TheVariants as bodies
use Rattle.cam_event.specs.declared.Note.TheVariants as notes
use Rattle.cam_event.specs.declared.Seen.TheVariants as seens
use Rattle.cam_event.specs.declared.Reply.{Reply}
use Rattle.cam_event.specs.declared.Reply.TheVariants as replies
use Rattle.cam_event.specs.declared.Want.{Want}
use Rattle.cam_event.specs.declared.Want.TheVariants as wants
use Rattle.cam_event.specs.declared.LineRefusal.TheVariants as refusals
use Rattle.cam_event.specs.declared.Deed.TheVariants.{Create, Got, AskCommit, AskAbort}
use Rattle.cam_event.specs.History as history
use Rattle.cam_event.specs.History.{Addressed, call_of}
use Rattle.cam_event.specs.Live.{site_of}
use Rattle.cam_event.specs.Inputs.{decider}
use Rattle.cam_event.specs.Sights.{Sight, is_present}
use Rattle.cam_event.specs.Rules.{Did, did, one, send, answers, nothing_but, aborts, unless_orphan, asks_child, makes_call, wanted, with_home, is_number, awaits, got_reply, gone_or, decides_child, commits_or_aborts}
use Rattle.cam_tranman.specs.declared.call.OpenCall.{OpenCall}
use Rattle.cam_tranman.specs.declared.Started.TheVariants as started
use Rattle.cam_tranman.specs.declared.Taken.TheVariants as taken
use Rattle.cam_tranman.specs.Actions.{Actions, created, ended, open_call, address, is_open, is_open_child, deps, MayRunHere, AnswersSight}
use Rattle.cam_tranman.specs.Calls.{has_ended, has_not_open, awaits_by, decides_of, seen_of, taken_at}
use Rattle.cam_tranman.specs.Steps.{WantedIsRule, StartedIsRule, TakenIsRule, FinishIsRule, QuitIsRule, DepsAreTheRules, ChildIsNoTop, GivenUpIsNoTop, unless_stopped, did_wanted, did_started, did_taken, did_decided}
use Rattle.cam_tranman.proofs.Members.{top_no_child}
use Rattle.cam_tranman.proofs.Running.{named_here}
use Rattle.cam_tranman.proofs.Requests.{of_present, free_here, rest_none, so_none}

pub wanted_is_rule : WantedIsRule
wanted_is_rule objects g actions a want is home free = by want
  where
    here : MayRunHere g.deeds g.node a
    here = free_here objects g actions a want is home free

    depends : g.deps a ≡ deps actions a
    depends = sym (is.deps a here)

    by : (want : Want) → unless_orphan g a (pairs_of (g.deps a)) (wanted objects g a want) ≡ unless_stopped g actions a (did_wanted objects g actions a want)
    by (wants.Ask m) =
        ap₂ (λ (ds : List ℕ) (n : ℕ). unless_orphan g a (pairs_of ds) (asks_child a (a ++ record { node = m; count = g.known_count m; number = n + 1 } ∷ []) m ds))
        depends (sym (is.asks a here))
    by (wants.Call x op) =
        ap₂ (λ (ds : List ℕ) (n : ℕ). unless_orphan g a (pairs_of ds) (makes_call a (n + 1) x op (site_of objects x) (g.known_count (site_of objects x)) ds))
        depends (sym (is.calls a here))
    by (wants.Commit v) =
        ap (λ (ds : List ℕ). unless_orphan g a (pairs_of ds) (did (one (AskCommit a v)) (one (send (decider a) (bodies.Finish a v ds))))) depends
    by wants.Abort = ap (λ (ds : List ℕ). unless_orphan g a (pairs_of ds) (did (one (AskAbort a)) (one (send (decider a) (bodies.Quit a))))) depends
    by (wants.GiveUp b) = ap (λ (ds : List ℕ). unless_orphan g a (pairs_of ds) (did (aborts g b) [])) depends

-- A start of a child.
abbrev missed : ℕ → Name → Did
missed from b = answers notes.Missed (one (send from (bodies.Quit b)))

abbrev new : Sight → Name → List ℕ → Did
new g b counts = unless_orphan g b (with_home counts b) (did (one (Create b)) [])

started_then : (g : Sight) (b : Name) (counts : List ℕ) (u : Bool)
    → (if u then nothing_but notes.Again else new g b counts) ≡ did_started g b counts (if u then started.Known else started.New)
started_then g b counts true = refl
started_then g b counts false = refl

pub started_is_rule : StartedIsRule
started_is_rule objects g actions from b counts is home = by (is_present g b) refl
  where
    by : (t : Bool) → is_present g b ≡ t
        → (if not t then missed from b else if history.created g.deeds b then nothing_but notes.Again else new g b counts)
        ≡ (if not t then missed from b else did_started g b counts (if created actions b then started.Known else started.New))
    by true now =
        started_then g b counts (history.created g.deeds b)
        ∙ ap (λ (u : Bool). did_started g b counts (if u then started.Known else started.New)) (sym (is.created b (of_present g b home now)))
    by false past = refl

-- whether an answer is awaited, and what is seen of it
pub awaits_same : (objects : List ObjectDecl) (g : Sight) (actions : Actions) (a : Name) (n : ℕ) → AnswersSight objects g actions → home_node a ≡ g.node
    → awaits g a n ≡ awaits_by actions a n
awaits_same objects g actions a n is home =
    by (is_present g a) refl
    ∙ ap (λ (c : ℕ). eqb (home_count a) c && created actions a && not (ended actions a) && is_number n (open_call actions a)) (sym is.count)
  where
    by : (t : Bool) → is_present g a ≡ t
        → (t && history.created g.deeds a && not (history.ended g.deeds a) && is_number n (history.open_call g.deeds a))
        ≡ (t && created actions a && not (ended actions a) && is_number n (open_call actions a))
    by true now =
        let here = of_present g a home now in
        ap₂ (λ (c e : Bool). c && not e && is_number n (history.open_call g.deeds a)) (sym (is.created a here)) (sym (is.ended a here))
        ∙ ap (λ (o : Option ℕ). created actions a && not (ended actions a) && is_number n o) (sym (is.open_call a here))
    by false past = refl

pub number_is : (n : ℕ) (o : Option ℕ) → is_number n o ≡ true → o ≡ Some n
number_is n None h = cc
number_is n (Some m) h = ap (λ (k : ℕ). Some k) (sym (eqb-true n m h))

replied : (a : Name) (n : ℕ) (reply : Reply) → got_reply a n reply ≡ did_taken a n (seen_of reply)
replied a n (replies.Done answer) = refl
replied a n (replies.Busy u) = refl
replied a n replies.Missed = refl
replied a n replies.Refused = refl

gone_then : (a : Name) (n : ℕ) (reply : Reply) (t : Bool)
    → (if t then did (one (Got a n seens.Gone)) [] else got_reply a n reply) ≡ did_taken a n (if t then taken.Got seens.Gone else seen_of reply)
gone_then a n reply true = refl
gone_then a n reply false = replied a n reply

-- where the answer is awaited
taken_awaited : (objects : List ObjectDecl) (g : Sight) (actions : Actions) (a : Name) (n : ℕ) (reply : Reply) (known : ℕ) → AnswersSight objects g actions
    → MayRunHere g.deeds g.node a → history.open_call g.deeds a ≡ Some n
    → (o : Option OpenCall) → actions.call a ≡ o → IfSome o (λ call. known ≡ g.known_count call.site)
    → gone_or objects g a n (call_of g.deeds a n) (got_reply a n reply) ≡ did_taken a n (taken_at o reply known)
taken_awaited objects g actions a n reply known is here opened None none knows =
    let e : None ≡ Some n = ap (λ (o : Option OpenCall). option_map (λ k. k.number) o) (sym none) ∙ is.open_call a here ∙ opened in cc
taken_awaited objects g actions a n reply known is here opened (Some call) called knows =
    let asked = sym (is.open_address a n here opened) ∙ ap (λ (o : Option OpenCall). option_map address o) called in
    let site = subst (λ (o : Option OpenCall). IfSome o (λ call. call.site ≡ site_of objects call.object)) called (is.open_site a here) in
    ap (λ (o : Option Addressed). gone_or objects g a n o (got_reply a n reply)) asked
    ∙ ap (λ (k : ℕ). if nat_lt call.count k then did (one (Got a n seens.Gone)) [] else got_reply a n reply) (ap g.known_count (sym site) ∙ sym knows)
    ∙ gone_then a n reply (nat_lt call.count known)

abbrev taken_rule : List ObjectDecl → Sight → Name → ℕ → Reply → Bool → Did
taken_rule objects g a n reply awaited =
    if not awaited then nothing_but notes.Late
    else unless_orphan g a (pairs_of (g.deps a)) (gone_or objects g a n (call_of g.deeds a n) (got_reply a n reply))

pub taken_is_rule : TakenIsRule
taken_is_rule objects g actions a n reply known is home knows =
    ap (taken_rule objects g a n reply) (awaits_same objects g actions a n is home) ∙ by (awaits_by actions a n) refl
  where
    by : (t : Bool) → awaits_by actions a n ≡ t
        → taken_rule objects g a n reply t
        ≡ (if not t then nothing_but notes.Late else unless_stopped g actions a (did_taken a n (if not t then taken.Late else taken_at (actions.call a) reply known)))
    by false late = refl
    by true waits =
        let all = sym (ap (λ (o : Bool). o) (awaits_same objects g actions a n is home ∙ waits)) in
        let last = and_parts (is_present g a && history.created g.deeds a && not (history.ended g.deeds a)) (is_number n (history.open_call g.deeds a)) (sym all) in
        let two = and_parts (is_present g a && history.created g.deeds a) (not (history.ended g.deeds a)) last.0 in
        let three = and_parts (is_present g a) (history.created g.deeds a) two.0 in
        let here = of_present g a home three.0 in
        ap₂ (λ (ds : List ℕ) (d : Did). unless_orphan g a (pairs_of ds) d) (sym (is.deps a here))
        (taken_awaited objects g actions a n reply known is here (number_is n (history.open_call g.deeds a) last.1) (actions.call a) refl knows)

-- A child is decided.
decided_same : (objects : List ObjectDecl) (g : Sight) (actions : Actions) (p b : Name) (other : Did) → AnswersSight objects g actions → parent b ≡ Some p
    → home_node p ≡ g.node
    → (if not (decides_child g p b) then nothing_but notes.Late else unless_orphan g p (pairs_of (g.deps p)) other) ≡ did_decided g actions p b other
decided_same objects g actions p b other is of home =
    by (is_present g p) refl
    ∙ ap (λ (c : ℕ). if not (eqb (home_count p) c && not (ended actions p) && is_open_child actions p b) then nothing_but notes.Late else unless_stopped g actions p other) (sym is.count)
    ∙ ap (λ (o : Option Name). if not (decides_of actions b o) then nothing_but notes.Late else unless_stopped g actions p other) (sym of)
  where
    by : (t : Bool) → is_present g p ≡ t
        → (if not (t && not (history.ended g.deeds p) && history.is_open_child g.deeds p b) then nothing_but notes.Late else unless_orphan g p (pairs_of (g.deps p)) other)
        ≡ (if not (t && not (ended actions p) && is_open_child actions p b) then nothing_but notes.Late else unless_stopped g actions p other)
    by true now =
        let here = of_present g p home now in
        ap₂ (λ (e o : Bool). if not (not e && o) then nothing_but notes.Late else unless_orphan g p (pairs_of (g.deps p)) other) (sym (is.ended p here)) (sym (is.open_child p b here))
        ∙ ap (λ (ds : List ℕ). if not (not (ended actions p) && is_open_child actions p b) then nothing_but notes.Late else unless_orphan g p (pairs_of ds) other) (sym (is.deps p here))
    by false past = refl

pub finish_is_rule : FinishIsRule
finish_is_rule objects g actions p b counts is of home = decided_same objects g actions p b (commits_or_aborts g b (g.orphan b (pairs_of counts))) is of home

pub quit_is_rule : QuitIsRule
quit_is_rule objects g actions p b is of home = decided_same objects g actions p b (did (aborts g b) []) is of home

pub deps_are_the_rules : DepsAreTheRules
deps_are_the_rules objects g actions a is home now = sym (is.deps a (of_present g a home now))

-- A child is no top action.
pub child_is_no_top : ChildIsNoTop
child_is_no_top p [] h = cc
child_is_no_top p (q ∷ []) h = cc
child_is_no_top p (q ∷ r ∷ b) h =
    elim (cases_Bool (is_top (q ∷ r ∷ b))) [
      | inl top ↦ let e = eqb-true (length (q ∷ r ∷ b)) 1 top in absurd (omega (arith, e))
      | inr other ↦ other
    ]

pub given_up_is_no_top : GivenUpIsNoTop
given_up_is_no_top objects g actions a b is home free =
    let none = rest_none (has_ended actions a) (has_not_open actions a b) free in
    let parts = or_parts (not (created actions a)) (not (is_open_child actions a b)) (so_none (not (created actions a) || not (is_open_child actions a b)) refusals.NotOpen none) in
    let child = and_parts (is_child a b) (is_open actions b) (not-false (is_open_child actions a b) parts.1) in
    elim (cases_Bool (is_top b)) [
      | inl top ↦
          absurd (true≢false (sym child.0 ∙ top_no_child a b (named_here g.deeds g.node a (free_here objects g actions a (wants.GiveUp b) is home free)) top))
      | inr other ↦ other
    ]
