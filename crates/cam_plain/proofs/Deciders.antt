-- The test of each deed decides its line.
use Rattle.std.proofs.Common.{◌≡◌, ℕ, ◌+◌, Bool, true, false, List, length, Option, Some, None, refl, sym, ap, ◌∙◌}
use Rattle.std.specs.Prelude.{nat_lt}
use Rattle.std.specs.Bool.{Decides}
use Rattle.std.specs.List.{list_any, list_all}
use Rattle.std.specs.Option.{option_map_or}
use Rattle.std.proofs.lemmas.Bool.{true≢false}
use Rattle.std.proofs.lemmas.Bool.Decides.{Decides-eqb, Decides-and, Decides-like, Decides-ltb}
use Rattle.cam_names.specs.declared.name.Name.{Name}
use Rattle.cam_names.specs.Names.{is_top, is_child, parent, last_part, home_node, home_count}
use Rattle.cam_names.specs.Dependencies.{has_pair}
use Rattle.cam_type.specs.declared.ObjectDecl.{ObjectDecl}
use Rattle.cam_type.specs.declared.Op.{Op}
use Rattle.cam_event.specs.declared.Seen.{Seen}
use Rattle.cam_event.specs.declared.Seen.TheVariants.{Done, Busy, Gone}
use Rattle.cam_event.specs.declared.Deed.{Deed}
use Rattle.cam_event.specs.declared.Deed.TheVariants.{Create, Ask, Call, Perform, Bounce, Got, AskCommit, AskAbort, Commit, Abort, Secure, Inform, Crash}
use Rattle.cam_event.specs.History.{count, created, decided, asked_commit, runs, asked, informed, secured, secured_at, tops, asks, calls, open_call, has_open_child, Addressed, call_of}
use Rattle.cam_event.specs.Live.{site_of, is_fit}
use Rattle.cam_event.specs.Gained.{deps}
use Rattle.cam_plain.specs.Lines.{asked_for, is_perform, is_bounce, outcome_in, CreateLine, AskLine, CallLine, IsGone, IsSeen, GotLine, AskCommitLine, MayCommit, CommitLine, MayAbort, AbortLine, SecureLine, InformLine, Line}
use Rattle.cam_plain.specs.Tests.{create_test, ask_test, call_test, seen_test, is_number, got_test, ask_commit_test, may_abort_test, abort_test, inform_test, may_commit_test, commit_test, handed_up, secure_test, meets}
use Rattle.cam_plain.proofs.Arriving.{is_true, is_false, is_no, is_most, either, perform_decides, bounce_decides}

create_decides : (L : List Deed) (a : Name) → Decides (create_test L a) (CreateLine L a)
create_decides L a =
    Decides-like (create_test L a)
    (λ h. record { fresh = h.0; at_home = h.1.0; child = h.1.1.0; top = h.1.1.1 })
    (λ h. (h.fresh, (h.at_home, (h.child, h.top))))
    (Decides-and _ _ (is_false (created L a)) (Decides-and _ _ (Decides-eqb (count L (home_node a)) (home_count a))
    (either (is_top a) (asked_for L a) (last_part a).number (tops L (home_node a) (home_count a) + 1))))

ask_decides : (L : List Deed) (a b : Name) → Decides (ask_test L a b) (AskLine L a b)
ask_decides L a b =
    Decides-like (ask_test L a b)
    (λ h. record { running = h.0; no_call = h.1.0; depth = h.1.1.0; child = h.1.1.1.0; count = h.1.1.1.1.0; number = h.1.1.1.1.1 })
    (λ h. (h.running, (h.no_call, (h.depth, (h.child, (h.count, h.number))))))
    (Decides-and _ _ (is_true (runs L a)) (Decides-and _ _ (is_no (open_call L a)) (Decides-and _ _ (Decides-ltb (length a) 8)
    (Decides-and _ _ (is_true (is_child a b)) (Decides-and _ _ (is_most (home_count b) (count L (home_node b))) (Decides-eqb (last_part b).number (asks L a + 1)))))))

call_decides : (objects : List ObjectDecl) (L : List Deed) (a : Name) (n x : ℕ) (op : Op) (c : ℕ) → Decides (call_test objects L a n x op c) (CallLine objects L a n x op c)
call_decides objects L a n x op c =
    Decides-like (call_test objects L a n x op c)
    (λ h. record { running = h.0; no_call = h.1.0; no_child = h.1.1.0; number = h.1.1.1.0; fits = h.1.1.1.1.0; count = h.1.1.1.1.1 })
    (λ h. (h.running, (h.no_call, (h.no_child, (h.number, (h.fits, h.count))))))
    (Decides-and _ _ (is_true (runs L a)) (Decides-and _ _ (is_no (open_call L a)) (Decides-and _ _ (is_false (has_open_child L a))
    (Decides-and _ _ (Decides-eqb n (calls L a + 1)) (Decides-and _ _ (is_true (is_fit objects x op)) (is_most c (count L (site_of objects x))))))))

gone_found : (objects : List ObjectDecl) (L : List Deed) (a : Name) (n : ℕ) (o : Option Addressed) → call_of L a n ≡ o
    → option_map_or (λ call. nat_lt call.count (count L (site_of objects call.object))) o false ≡ true → IsGone objects L a n
gone_found objects L a n None is h = absurd (true≢false (sym h))
gone_found objects L a n (Some call) is h = record { call = call; called = is; crashed = (Decides-ltb call.count (count L (site_of objects call.object))).0 h }

seen_decides : (objects : List ObjectDecl) (L : List Deed) (a : Name) (n : ℕ) (seen : Seen) → Decides (seen_test objects L a n seen) (IsSeen objects L a n seen)
seen_decides objects L a n (Done answer) = is_true (list_any (is_perform a n answer) L)
seen_decides objects L a n (Busy u) = is_true (list_any (is_bounce a n u) L)
seen_decides objects L a n Gone = (
  gone_found objects L a n (call_of L a n) refl,
  λ h. ap (λ o. option_map_or (λ call. nat_lt call.count (count L (site_of objects call.object))) o false) h.called
      ∙ (Decides-ltb h.call.count (count L (site_of objects h.call.object))).1 h.crashed,
)

number_decides : (n : ℕ) (o : Option ℕ) → Decides (is_number n o) (o ≡ Some n)
number_decides n None = (λ h. absurd (true≢false (sym h)), λ h. cc)
number_decides n (Some m) = (λ h. ap (λ x. Some x) ((Decides-eqb m n).0 h), λ h. let same : m ≡ n = cc in (Decides-eqb m n).1 same)

got_decides : (objects : List ObjectDecl) (L : List Deed) (a : Name) (n : ℕ) (seen : Seen) → Decides (got_test objects L a n seen) (GotLine objects L a n seen)
got_decides objects L a n seen =
    Decides-like (got_test objects L a n seen)
    (λ h. record { running = h.0; open_one = h.1.0; seen_so = h.1.1 })
    (λ h. (h.running, (h.open_one, h.seen_so)))
    (Decides-and _ _ (is_true (runs L a)) (Decides-and _ _ (number_decides n (open_call L a)) (seen_decides objects L a n seen)))

ask_commit_decides : (L : List Deed) (a : Name) → Decides (ask_commit_test L a) (AskCommitLine L a)
ask_commit_decides L a =
    Decides-like (ask_commit_test L a)
    (λ h. record { running = h.0; no_call = h.1.0; no_child = h.1.1 })
    (λ h. (h.running, (h.no_call, h.no_child)))
    (Decides-and _ _ (is_true (runs L a)) (Decides-and _ _ (is_no (open_call L a)) (is_false (has_open_child L a))))

may_commit_decides : (objects : List ObjectDecl) (L : List Deed) (a : Name) (p : Option Name) → Decides (may_commit_test objects L a p) (MayCommit objects L a p)
may_commit_decides objects L a (Some p) = is_true (runs L p)
may_commit_decides objects L a None =
    Decides-and _ _ (Decides-eqb (count L (home_node a)) (home_count a)) (is_true (list_all (λ p. secured L a p.0 p.1) (deps objects L a)))

commit_decides : (objects : List ObjectDecl) (L : List Deed) (a : Name) → Decides (commit_test objects L a) (CommitLine objects L a)
commit_decides objects L a =
    Decides-like (commit_test objects L a)
    (λ h. record { asked = h.0; undecided = h.1.0; may = h.1.1 })
    (λ h. (h.asked, (h.undecided, h.may)))
    (Decides-and _ _ (is_true (asked_commit L a)) (Decides-and _ _ (is_false (decided L a)) (may_commit_decides objects L a (parent a))))

may_abort_decides : (L : List Deed) (a : Name) (p : Option Name) → Decides (may_abort_test L a p) (MayAbort L a p)
may_abort_decides L a (Some p) = Decides-and _ _ (is_true (runs L p)) (is_true (asked L p a))
may_abort_decides L a None = is_true (created L a)

abort_decides : (L : List Deed) (a : Name) → Decides (abort_test L a) (AbortLine L a)
abort_decides L a =
    Decides-like (abort_test L a)
    (λ h. record { undecided = h.0; may = h.1 })
    (λ h. (h.undecided, h.may))
    (Decides-and _ _ (is_false (decided L a)) (may_abort_decides L a (parent a)))

secure_decides : (objects : List ObjectDecl) (L : List Deed) (f : Name) (s c : ℕ) → Decides (secure_test objects L f s c) (SecureLine objects L f s c)
secure_decides objects L f s c =
    Decides-like (secure_test objects L f s c)
    (λ h. record { top = h.0; asked = h.1.0; depends = h.1.1.0; count = h.1.1.1.0; fresh = h.1.1.1.1.0; handed_up = h.1.1.1.1.1 })
    (λ h. (h.top, (h.asked, (h.depends, (h.count, (h.fresh, h.handed_up))))))
    (Decides-and _ _ (is_true (is_top f)) (Decides-and _ _ (is_true (asked_commit L f)) (Decides-and _ _ (is_true (has_pair (deps objects L f) s c))
    (Decides-and _ _ (Decides-eqb c (count L s)) (Decides-and _ _ (is_false (secured_at L f s)) (is_true (handed_up objects L f s)))))))

inform_decides : (L : List Deed) (s : ℕ) (a : Name) (outcome : Bool) → Decides (inform_test L s a outcome) (InformLine L s a outcome)
inform_decides L s a outcome =
    Decides-like (inform_test L s a outcome)
    (λ h. record { decided = h.0; fresh = h.1 })
    (λ h. (h.decided, h.fresh))
    (Decides-and _ _ (is_true (outcome_in L a outcome)) (is_false (informed L s a outcome)))

pub meets_decides : (objects : List ObjectDecl) (L : List Deed) (d : Deed) → Decides (meets objects L d) (Line objects L d)
meets_decides objects L (Create a) = create_decides L a
meets_decides objects L (Ask a b) = ask_decides L a b
meets_decides objects L (Call a n x op c) = call_decides objects L a n x op c
meets_decides objects L (Perform a n answer) = perform_decides objects L a n answer
meets_decides objects L (Bounce a n u) = bounce_decides objects L a n u
meets_decides objects L (Got a n seen) = got_decides objects L a n seen
meets_decides objects L (AskCommit a v) = ask_commit_decides L a
meets_decides objects L (AskAbort a) = is_true (runs L a)
meets_decides objects L (Commit a) = commit_decides objects L a
meets_decides objects L (Abort a) = abort_decides L a
meets_decides objects L (Secure f s c) = secure_decides objects L f s c
meets_decides objects L (Inform s a outcome) = inform_decides L s a outcome
meets_decides objects L (Crash s) = (λ h. tt, λ h. refl)
