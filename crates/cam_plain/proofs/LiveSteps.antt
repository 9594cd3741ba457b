-- How live operations come and go, deed by deed, and two inductions that follow them.
use Rattle.std.proofs.Common.{◌≡◌, Bool, true, false, List, [], ◌∷◌, Some, None, refl, sym, ap, ◌∙◌, subst, cond, ℕ, not, ◌++◌, filter, Option}
use Rattle.cam_names.specs.declared.name.Name.{Name}
use Rattle.cam_type.specs.declared.Answer.{Answer}
use Rattle.cam_type.specs.declared.ObjectDecl.{ObjectDecl}
use Rattle.cam_event.proofs.LiveLaws.{is_below, live_perform, live_crash, live_abort}
use Rattle.cam_event.specs.History.{Addressed, call_of}
use Rattle.cam_event.specs.Live.{of_call, is_dropped, live, is_kept}
use Rattle.cam_event.specs.declared.Deed.{Deed}
use Rattle.cam_event.specs.declared.Deed.TheVariants.{Call, Perform, Got, Inform, Crash, Bounce, Create, Ask, AskCommit, Commit, Abort, AskAbort, Secure}
use Rattle.cam_event.specs.declared.Operation.{Operation}
use Rattle.cam_plain.specs.Legal.{Legal}
use Rattle.cam_names.proofs.Every.{Every, Pairs, every_weaker, every_append, pairs_weaker, every_filter, every_both, pairs_filter, pairs_both, pairs_first, pairs_second, pairs_push}

-- whether a deed leaves a live operation alive
abbrev pub keeps : List ObjectDecl → List Deed → Deed → Operation → Bool
keeps objects L (Crash s) o = is_kept objects L s o
keeps objects L (Inform s a false) o = not (is_below objects s a o)
keeps objects L _ o = true

-- the operation that a deed adds to the live ones
abbrev pub added : List ObjectDecl → List Deed → Deed → List Operation
added objects L (Perform a n answer) = filter (λ o. not (is_dropped objects L o)) (of_call a n answer (call_of L a n))
added objects L _ = []

-- a filter that drops nothing
filter_all : {X : Type 0} (xs : List X) → filter (λ x. true) xs ≡ xs
filter_all [] = refl
filter_all (x ∷ xs) = ap (λ ys. x ∷ ys) (filter_all xs)

-- nothing behind a list
append_nothing : {X : Type 0} (xs : List X) → xs ++ [] ≡ xs
append_nothing [] = refl
append_nothing (x ∷ xs) = ap (λ ys. x ∷ ys) (append_nothing xs)

-- a deed that touches no operation keeps all and adds none
as_before : (os : List Operation) → os ≡ filter (λ o. true) os ++ []
as_before os = sym (append_nothing (filter (λ o. true) os) ∙ filter_all os)

-- the live operations after one more deed: those that it keeps, and what it adds
pub live_step : (objects : List ObjectDecl) (L : List Deed) (d : Deed) → live objects (d ∷ L) ≡ filter (keeps objects L d) (live objects L) ++ added objects L d
live_step objects L (Perform a n answer) = live_perform objects L a n answer ∙ ap (λ os. os ++ added objects L (Perform a n answer)) (sym (filter_all (live objects L)))
live_step objects L (Crash s) = live_crash objects L s ∙ sym (append_nothing (filter (is_kept objects L s) (live objects L)))
live_step objects L (Inform s a false) = live_abort objects L s a ∙ sym (append_nothing (filter (λ o. not (is_below objects s a o)) (live objects L)))
live_step objects L (Inform s a true) = as_before (live objects L)
live_step objects L (Create a) = as_before (live objects L)
live_step objects L (Ask a b) = as_before (live objects L)
live_step objects L (Call a n x op c) = as_before (live objects L)
live_step objects L (Bounce a n u) = as_before (live objects L)
live_step objects L (Got a n seen) = as_before (live objects L)
live_step objects L (AskCommit a v) = as_before (live objects L)
live_step objects L (AskAbort a) = as_before (live objects L)
live_step objects L (Commit a) = as_before (live objects L)
live_step objects L (Abort a) = as_before (live objects L)
live_step objects L (Secure f s c) = as_before (live objects L)

-- the operation of a call
abbrev pub operation : Name → ℕ → Answer → Addressed → Operation
operation a n answer call = record { action = a; number = n; object = call.object; op = call.op; answer = answer }

-- what a Perform adds is the operation of its call
every_call : (Q : Operation → Type 0) (test : Operation → Bool) (a : Name) (n : ℕ) (answer : Answer) (o : Option Addressed) → ((call : Addressed) → o ≡ Some call → Q (operation a n answer call)) → Every Q (filter test (of_call a n answer o))
every_call Q test a n answer None h = tt
every_call Q test a n answer (Some call) h = every_filter test Q (operation a n answer call ∷ []) ((λ passes. h call refl), tt)

-- A fact of live operations that each deed keeps and that a new operation has is one of every live operation. Another fact that was proved may be used.
pub live_induction :
    (objects : List ObjectDecl) (R Q : List Deed → Operation → Type 0)
    → ((L : List Deed) → Legal objects L → Every (R L) (live objects L))
    → ((L : List Deed) (d : Deed) (o : Operation) → Legal objects (d ∷ L) → keeps objects L d o ≡ true → R L o → Q L o → Q (d ∷ L) o)
    → ((L : List Deed) (a : Name) (n : ℕ) (answer : Answer) (call : Addressed) → Legal objects (Perform a n answer ∷ L) → call_of L a n ≡ Some call → Q (Perform a n answer ∷ L) (operation a n answer call))
    → (L : List Deed) → Legal objects L → Every (Q L) (live objects L)
live_induction objects R Q known kept new [] legal = tt
live_induction objects R Q known kept new (d ∷ L) legal =
    subst (Every (Q (d ∷ L))) (sym (live_step objects L d))
    (every_append (Q (d ∷ L)) (filter (keeps objects L d) (live objects L)) (added objects L d)
    (every_filter (keeps objects L d) (Q (d ∷ L)) (live objects L)
    (every_weaker (λ o. R L o × Q L o) (λ o. keeps objects L d o ≡ true → Q (d ∷ L) o) (live objects L) (λ o h k. kept L d o legal k h.0 h.1)
    (every_both (R L) (Q L) (live objects L) (known L legal.1) (live_induction objects R Q known kept new L legal.1))))
    (fresh d legal))
  where
    fresh : (e : Deed) → Legal objects (e ∷ L) → Every (Q (e ∷ L)) (added objects L e)
    fresh (Perform a n answer) l = every_call (Q (Perform a n answer ∷ L)) (λ o. not (is_dropped objects L o)) a n answer (call_of L a n) (λ call called. new L a n answer call l called)
    fresh _ l = tt

-- pairs with the operation of a call at the end
pairs_call : (T : Operation → Operation → Type 0) (test : Operation → Bool) (os : List Operation) (a : Name) (n : ℕ) (answer : Answer) (o : Option Addressed) → Pairs T os → ((call : Addressed) → o ≡ Some call → Every (λ p. T p (operation a n answer call)) os) → Pairs T (os ++ filter test (of_call a n answer o))
pairs_call T test os a n answer None pairs h = subst (Pairs T) (sym (append_nothing os)) pairs
pairs_call T test os a n answer (Some call) pairs h =
    elim (test (operation a n answer call)) as (λ b. Pairs T (os ++ cond b (operation a n answer call ∷ []) [])) [
      | true ↦ pairs_push T os (operation a n answer call) pairs (h call refl)
      | false ↦ subst (Pairs T) (sym (append_nothing os)) pairs
    ]

-- The same of each live operation with each later one.
pub pair_induction :
    (objects : List ObjectDecl) (R : List Deed → Operation → Type 0) (T : List Deed → Operation → Operation → Type 0)
    → ((L : List Deed) → Legal objects L → Every (R L) (live objects L))
    → ((L : List Deed) (d : Deed) (o p : Operation) → Legal objects (d ∷ L) → R L o → R L p → T L o p → T (d ∷ L) o p)
    → ((L : List Deed) (a : Name) (n : ℕ) (answer : Answer) (call : Addressed) → Legal objects (Perform a n answer ∷ L) → call_of L a n ≡ Some call → Every (λ o. T (Perform a n answer ∷ L) o (operation a n answer call)) (live objects L))
    → (L : List Deed) → Legal objects L → Pairs (T L) (live objects L)
pair_induction objects R T known kept new [] legal = tt
pair_induction objects R T known kept new (d ∷ L) legal =
    let older : Pairs (T (d ∷ L)) (live objects L) =
    pairs_weaker (λ o p. (R L o × R L p) × T L o p) (T (d ∷ L)) (live objects L) (λ o p h. kept L d o p legal h.0.0 h.0.1 h.1)
    (pairs_both (λ o p. R L o × R L p) (T L) (live objects L)
    (pairs_both (λ o p. R L o) (λ o p. R L p) (live objects L) (pairs_first (R L) (live objects L) (known L legal.1)) (pairs_second (R L) (live objects L) (known L legal.1)))
    (pair_induction objects R T known kept new L legal.1)) in
    subst (Pairs (T (d ∷ L))) (sym (live_step objects L d)) (fresh d legal older)
  where
    still : (test : Operation → Bool) (M : List Deed) → Pairs (T M) (live objects L) → Pairs (T M) (filter test (live objects L) ++ [])
    still test M pairs = subst (Pairs (T M)) (sym (append_nothing (filter test (live objects L))))
        (pairs_filter test (T M) (live objects L) (pairs_weaker (T M) (λ o p. test o ≡ true → test p ≡ true → T M o p) (live objects L) (λ o p h x y. h) pairs))

    fresh : (e : Deed) → Legal objects (e ∷ L) → Pairs (T (e ∷ L)) (live objects L) → Pairs (T (e ∷ L)) (filter (keeps objects L e) (live objects L) ++ added objects L e)
    fresh (Perform a n answer) l pairs =
        subst (λ os. Pairs (T (Perform a n answer ∷ L)) (os ++ added objects L (Perform a n answer))) (sym (filter_all (live objects L)))
        (pairs_call (T (Perform a n answer ∷ L)) (λ o. not (is_dropped objects L o)) (live objects L) a n answer (call_of L a n) pairs (λ call called. new L a n answer call l called))
    fresh e l pairs = still (keeps objects L e) (e ∷ L) pairs
