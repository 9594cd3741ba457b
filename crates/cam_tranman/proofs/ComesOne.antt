-- A deed that came so may come.
use Rattle.std.proofs.Common.{◌≡◌, ℕ, ◌+◌, eqb, Bool, true, false, ◌&&◌, List, [], ◌∷◌, Option, refl, sym, ap, subst, ◌∙◌, arith}
use Rattle.std.specs.Prelude.{nat_lt}
use Rattle.std.specs.List.{list_any}
use Rattle.std.proofs.lemmas.Bool.{true≢false, and_from, lt-ltb, eq-eqb}
use Rattle.cam_names.specs.declared.name.Name.{Name}
use Rattle.cam_names.specs.Names.{is_top, home_node, home_count}
use Rattle.cam_names.proofs.Names.{name_eq_same}
use Rattle.cam_type.specs.declared.ObjectDecl.{ObjectDecl}
use Rattle.cam_event.specs.declared.Deed.{Deed}
use Rattle.cam_event.specs.declared.Deed.TheVariants.{Create, Ask, Call, Perform, Bounce, Got, AskCommit, AskAbort, Commit, Abort, Secure, Inform, Crash}
use Rattle.cam_event.specs.History.{count, tops, created, is_create}
use Rattle.cam_event.specs.Inputs.{Mail}
use Rattle.cam_event.specs.Carried.{Carried, deeds_of}
use Rattle.cam_tranman.specs.Actions.{Actions, created as actions_created, RunsActions}
use Rattle.cam_tranman.specs.Calls.{next_top}
use Rattle.cam_tranman.specs.Events.{IsNew, IsNamed, HasParent, CommitMayCome}
use Rattle.cam_tranman.specs.Orderly.{is_numbered_above, IsOrderly}
use Rattle.cam_tranman.specs.Keeping.{home_deeds, MailHasCounts, IsCrashOrMayCome, OneMayCome, DeedsMayCome}
use Rattle.cam_tranman.proofs.Ordering.{any_less, HasRun, CameNew, CameCommit, Came, next_name}
use Rattle.cam_tranman.proofs.AnswerDeeds.{One}
use Rattle.cam_tranman.proofs.StepDeeds.{home_came}

-- The next name is of no action that was created.
next_is_new : (s : ℕ) (L : List Deed) → list_any (is_numbered_above s (count L s) (tops L s (count L s))) L ≡ false → created L (next_name s L) ≡ false
next_is_new s L numbered = any_less (is_create (next_name s L)) (is_numbered_above s (count L s) (tops L s (count L s))) above L numbered
  where
    itself : is_numbered_above s (count L s) (tops L s (count L s)) (Create (next_name s L)) ≡ true
    itself =
        and_from (true && eqb s s && eqb (count L s) (count L s)) (nat_lt (tops L s (count L s)) (tops L s (count L s) + 1))
        (and_from (true && eqb s s) (eqb (count L s) (count L s)) (eq-eqb s s refl) (eq-eqb (count L s) (count L s) refl))
        (lt-ltb (tops L s (count L s)) (tops L s (count L s) + 1) (omega arith))

    above : (d : Deed) → is_create (next_name s L) d ≡ true → is_numbered_above s (count L s) (tops L s (count L s)) d ≡ true
    above (Create b) is = ap (λ (x : Name). is_numbered_above s (count L s) (tops L s (count L s)) (Create x)) (sym (name_eq_same (next_name s L) b is)) ∙ itself
    above _ is = absurd (true≢false (sym is))

-- A deed that came so may come.
ran_here : (objects : List ObjectDecl) (s : ℕ) (before : List Carried) (a : Name) (actions : Actions) → RunsActions objects s before actions
    → HasRun s (deeds_of before) a → actions_created actions a ≡ true
ran_here objects s before a actions runs is = runs.created a (is.home, is.recent) ∙ is.there

new_may_come : (objects : List ObjectDecl) (s : ℕ) (before : List Carried) (mail : Option Mail) (a : Name) (actions : Actions) → RunsActions objects s before actions
    → IsOrderly s before → MailHasCounts mail → (t : Bool) → CameNew t s (deeds_of before) mail a → IsNew a actions × IsNamed t a mail actions
new_may_come objects s before mail a actions runs ord whole true is =
    let L = deeds_of before in
    let home : home_node a ≡ s = ap home_node is.named in
    let now : home_count a ≡ count L s = ap home_count is.named in
    let fresh : created L a ≡ false = ap (created L) is.named ∙ next_is_new s L ord.numbered in
    let named : a ≡ next_top actions =
    is.named ∙ (λ i. record { node = sym runs.node i; count = sym runs.count i; number = sym runs.tops i + 1 } ∷ [])
    in
    (record { home = home ∙ sym runs.node; present = now ∙ sym runs.count; fresh = runs.created a (home, omega (arith, now)) ∙ fresh }, (named, is.none))
new_may_come objects s before mail a actions runs ord whole false is =
    let now = is.now in
    (record { home = is.home ∙ sym runs.node; present = now ∙ sym runs.count; fresh = runs.created a (is.home, omega (arith, now)) ∙ is.fresh }, is.whole whole)

commit_may_come : (objects : List ObjectDecl) (s : ℕ) (before : List Carried) (mail : Option Mail) (b : Name) (actions : Actions) → RunsActions objects s before actions
    → IsOrderly s before → MailHasCounts mail → (t : Bool) → CameCommit t s (deeds_of before) mail b → CommitMayCome t b mail actions
commit_may_come objects s before mail b actions runs ord whole true is = tt
commit_may_come objects s before mail b actions runs ord whole false is =
    let now = is.now in (
      is.whole whole,
      subst (λ (o : Option Name). HasParent o actions) (sym is.of) (runs.created is.above (is.home, omega (arith, now)) ∙ ord.asked is.above is.asked),
    )

may_come : (objects : List ObjectDecl) (s : ℕ) (before : List Carried) (mail : Option Mail) (d : Deed) (actions : Actions) → RunsActions objects s before actions → IsOrderly s before
    → MailHasCounts mail → Came s (deeds_of before) mail d → IsCrashOrMayCome s mail d actions
may_come objects s before mail (Create a) actions runs ord whole is = new_may_come objects s before mail a actions runs ord whole (is_top a) is
may_come objects s before mail (Ask a b) actions runs ord whole is = (ran_here objects s before a actions runs is.0, is.1)
may_come objects s before mail (Call a n x op c) actions runs ord whole is = ran_here objects s before a actions runs is
may_come objects s before mail (Got a n seen) actions runs ord whole is =
    (ran_here objects s before a actions runs is.0, runs.open_call a (is.0.home, is.0.recent) ∙ is.1)
may_come objects s before mail (AskCommit a v) actions runs ord whole is = ran_here objects s before a actions runs is
may_come objects s before mail (AskAbort a) actions runs ord whole is = ran_here objects s before a actions runs is
may_come objects s before mail (Commit b) actions runs ord whole is = commit_may_come objects s before mail b actions runs ord whole (is_top b) is
may_come objects s before mail (Abort b) actions runs ord whole is = tt
may_come objects s before mail (Crash m) actions runs ord whole is = is
may_come objects s before mail (Perform a n answer) actions runs ord whole is = absurd is
may_come objects s before mail (Bounce a n u) actions runs ord whole is = absurd is
may_come objects s before mail (Secure f site c) actions runs ord whole is = absurd is
may_come objects s before mail (Inform site a committed) actions runs ord whole is = absurd is

one_may_come : (objects : List ObjectDecl) (s : ℕ) (before : List Carried) (mail : Option Mail) (hs : List Deed) (actions : Actions) → RunsActions objects s before actions
    → IsOrderly s before → MailHasCounts mail → One (Came s (deeds_of before) mail) hs → OneMayCome s mail hs actions
one_may_come objects s before mail [] actions runs ord whole came = tt
one_may_come objects s before mail (d ∷ []) actions runs ord whole came = may_come objects s before mail d actions runs ord whole came
one_may_come objects s before mail (d ∷ e ∷ hs) actions runs ord whole came = absurd came

pub deeds_may_come : DeedsMayCome
deeds_may_come objects s before input mail brought actions runs ord may whole =
    one_may_come objects s before mail (home_deeds objects s before input mail brought) actions runs ord whole
    (home_came objects s before input mail brought ord may).0
