-- The line of each deed as a test: what decides it, field by field.
use Rattle.std.specs.Prelude.{ℕ, ◌+◌, eqb, nat_lt, nat_le, Bool, true, false, not, ◌&&◌, if◌then◌else◌, List, length, Option, Some, None, is_none}
use Rattle.std.specs.Prelude.{filter}
use Rattle.std.specs.List.{list_any, list_all}
use Rattle.std.specs.Option.{option_map_or}
use Rattle.cam_names.specs.declared.name.Name.{Name}
use Rattle.cam_names.specs.Names.{name_eq, is_top, is_child, parent, last_part, home_node, home_count, family}
use Rattle.cam_names.specs.Dependencies.{has_pair}
use Rattle.cam_type.specs.declared.ObjectDecl.{ObjectDecl}
use Rattle.cam_type.specs.declared.Op.{Op}
use Rattle.cam_type.specs.declared.Answer.{Answer}
use Rattle.cam_type.specs.Table.{answer_of, answer_eq}
use Rattle.cam_event.specs.declared.Seen.{Seen}
use Rattle.cam_event.specs.declared.Seen.TheVariants.{Done, Busy, Gone}
use Rattle.cam_event.specs.declared.Deed.{Deed}
use Rattle.cam_event.specs.declared.Deed.TheVariants.{Create, Ask, Call, Perform, Bounce, Got, AskCommit, AskAbort, Commit, Abort, Secure, Inform, Crash}
use Rattle.cam_event.specs.History.{count, created, decided, asked_commit, runs, asked, informed, secured, secured_at, tops, asks, calls, open_call, has_open_child, Addressed, call_of}
use Rattle.cam_event.specs.Live.{site_of, is_fit, live_at, lift, first_conflict, holder, value}
use Rattle.cam_event.specs.Gained.{deps}
use Rattle.cam_plain.specs.Lines.{asked_for, replied, is_perform, is_bounce, outcome_in, is_lift}

abbrev pub is_at_home : List Deed → Name → Bool
is_at_home L a = eqb (count L (home_node a)) (home_count a)

-- a child was asked for, and a top action has the next number
abbrev pub is_placed : List Deed → Name → Bool
is_placed L a =
    if is_top a then eqb (last_part a).number (tops L (home_node a) (home_count a) + 1)
    else asked_for L a

abbrev pub create_test : List Deed → Name → Bool
create_test L a = not (created L a) && (is_at_home L a && is_placed L a)

abbrev pub ask_test : List Deed → Name → Name → Bool
ask_test L a b =
    runs L a
    && (is_none (open_call L a)
    && (nat_lt (length a) 8
    && (is_child a b
    && (nat_le (home_count b) (count L (home_node b)) && eqb (last_part b).number (asks L a + 1)))))

abbrev pub call_test : List ObjectDecl → List Deed → Name → ℕ → ℕ → Op → ℕ → Bool
call_test objects L a n x op c =
    runs L a
    && (is_none (open_call L a)
    && (not (has_open_child L a)
    && (eqb n (calls L a + 1) && (is_fit objects x op && nat_le c (count L (site_of objects x))))))

-- a call of this number comes to its site, and there passes a test
abbrev pub arrival_test : List ObjectDecl → List Deed → Name → ℕ → (Addressed → Bool) → Bool
arrival_test objects L a n test =
    not (replied L a n)
    && option_map_or (λ call. eqb call.count (count L (site_of objects call.object)) && test call)
    (call_of L a n) false

-- the call meets no conflict, and this is its answer
abbrev pub is_performed : List ObjectDecl → List Deed → Name → Answer → Addressed → Bool
is_performed objects L a answer call =
    is_none (first_conflict objects L a call.object call.op)
    && answer_eq answer (answer_of (value objects L call.object) call.op)

abbrev pub perform_test : List ObjectDecl → List Deed → Name → ℕ → Answer → Bool
perform_test objects L a n answer = arrival_test objects L a n (is_performed objects L a answer)

abbrev pub is_name : Name → Option Name → Bool
is_name u None = false
is_name u (Some v) = name_eq v u

-- the call meets a conflict, and this is the lift of the first operation that conflicts
abbrev pub is_bounced : List ObjectDecl → List Deed → Name → Name → Addressed → Bool
is_bounced objects L a u call = is_name u (holder objects L a call.object call.op)

abbrev pub bounce_test : List ObjectDecl → List Deed → Name → ℕ → Name → Bool
bounce_test objects L a n u = arrival_test objects L a n (is_bounced objects L a u)

abbrev pub seen_test : List ObjectDecl → List Deed → Name → ℕ → Seen → Bool
seen_test objects L a n (Done answer) = list_any (is_perform a n answer) L
seen_test objects L a n (Busy u) = list_any (is_bounce a n u) L
seen_test objects L a n Gone =
    option_map_or (λ call. nat_lt call.count (count L (site_of objects call.object)))
    (call_of L a n) false

abbrev pub is_number : ℕ → Option ℕ → Bool
is_number n None = false
is_number n (Some m) = eqb m n

abbrev pub got_test : List ObjectDecl → List Deed → Name → ℕ → Seen → Bool
got_test objects L a n seen =
    runs L a && (is_number n (open_call L a) && seen_test objects L a n seen)

abbrev pub ask_commit_test : List Deed → Name → Bool
ask_commit_test L a = runs L a && (is_none (open_call L a) && not (has_open_child L a))

abbrev pub may_abort_test : List Deed → Name → Option Name → Bool
may_abort_test L a (Some p) = runs L p && asked L p a
may_abort_test L a None = created L a

abbrev pub abort_test : List Deed → Name → Bool
abort_test L a = not (decided L a) && may_abort_test L a (parent a)

abbrev pub inform_test : List Deed → ℕ → Name → Bool → Bool
inform_test L s a outcome = outcome_in L a outcome && not (informed L s a outcome)

-- A child is committed by a parent that runs; a top action at home, with each pair on which it depends secured.
abbrev pub may_commit_test : List ObjectDecl → List Deed → Name → Option Name → Bool
may_commit_test objects L a (Some p) = runs L p
may_commit_test objects L a None =
    is_at_home L a && list_all (λ p. secured L a p.0 p.1) (deps objects L a)

abbrev pub commit_test : List ObjectDecl → List Deed → Name → Bool
commit_test objects L a =
    asked_commit L a && (not (decided L a) && may_commit_test objects L a (parent a))

-- all live operations of the family at the site have been handed up to it
abbrev pub handed_up : List ObjectDecl → List Deed → Name → ℕ → Bool
handed_up objects L f s =
    list_all (λ o. is_lift f (lift L s o.action))
    (filter (λ o. name_eq f (family o.action)) (live_at objects L s))

abbrev pub secure_test : List ObjectDecl → List Deed → Name → ℕ → ℕ → Bool
secure_test objects L f s c =
    is_top f
    && (asked_commit L f
    && (has_pair (deps objects L f) s c
    && (eqb c (count L s) && (not (secured_at L f s) && handed_up objects L f s))))

-- the tests of what comes of calls, and of what sites do on their own; the other deeds pass
abbrev pub call_meets : List ObjectDecl → List Deed → Deed → Bool
call_meets objects L (Call a n x op c) = call_test objects L a n x op c
call_meets objects L (Perform a n answer) = perform_test objects L a n answer
call_meets objects L (Bounce a n u) = bounce_test objects L a n u
call_meets objects L (Got a n seen) = got_test objects L a n seen
call_meets objects L _ = true

abbrev pub site_meets : List ObjectDecl → List Deed → Deed → Bool
site_meets objects L (Secure f s c) = secure_test objects L f s c
site_meets objects L (Inform s a outcome) = inform_test L s a outcome
site_meets objects L _ = true

-- the test of each deed
abbrev pub meets : List ObjectDecl → List Deed → Deed → Bool
meets objects L (Create a) = create_test L a
meets objects L (Ask a b) = ask_test L a b
meets objects L (AskCommit a v) = ask_commit_test L a
meets objects L (AskAbort a) = runs L a
meets objects L (Commit a) = commit_test objects L a
meets objects L (Abort a) = abort_test L a
meets objects L (Secure f s c) = site_meets objects L (Secure f s c)
meets objects L (Inform s a outcome) = site_meets objects L (Inform s a outcome)
meets objects L (Crash s) = site_meets objects L (Crash s)
meets objects L d = call_meets objects L d
