-- The live operations of each object, as they are kept, after one more deed.
use Rattle.std.proofs.Common.{◌≡◌, ◌≤◌, ◌<◌, ℕ, eqb, Bool, true, false, not, ◌&&◌, if◌then◌else◌, List, [], ◌∷◌, ◌++◌, length, filter, Some, None, refl, sym, ap, ◌∙◌, arith}
use Rattle.std.specs.List.{list_any}
use Rattle.std.specs.HashMap.{HashMap}
use Rattle.std.proofs.lemmas.Bool.{eqb-true}
use Rattle.std.proofs.lemmas.List.{append-nil}
use Rattle.std.proofs.lemmas.List.Elements.{filter-append}
use Rattle.cam_names.specs.declared.name.Name.{Name}
use Rattle.cam_names.specs.Names.{ancestors, is_ancestor}
use Rattle.cam_type.specs.declared.ObjectDecl.{ObjectDecl}
use Rattle.cam_type.specs.declared.Answer.{Answer}
use Rattle.cam_event.specs.declared.Operation.{Operation}
use Rattle.cam_event.specs.declared.Deed.{Deed}
use Rattle.cam_event.specs.declared.Deed.TheVariants.{Create, Ask, Call, Perform, Bounce, Got, AskCommit, AskAbort, Commit, Abort, Secure, Inform, Crash}
use Rattle.cam_event.specs.History.{Addressed, call_of, informed}
use Rattle.cam_event.specs.Live.{is_dropped, live, live_on, of_call, site_of}
use Rattle.cam_event.proofs.LiveLaws.{is_below, live_abort, live_perform}
use Rattle.cam_event.proofs.Snoc.{filter_filter, filter_same}
use Rattle.cam_own.specs.Live.{KeepsLive, Puts, operations_in, without_below}
use Rattle.cam_own.specs.Replies.{IsNoCrash}
use Rattle.cam_own.proofs.Sites.{is_declared}

-- whether an operation is on an object
abbrev on : ℕ → Operation → Bool
on x o = eqb o.object x

-- what a performed operation adds at an object, if it is not dropped at once
added :
    (objects : List ObjectDecl) (L : List Deed) (a : Name) (n : ℕ) (answer : Answer)
    (os : List Operation) (x : ℕ) → of_call a n answer (call_of L a n) ≡ os
    → live_on objects (Perform a n answer ∷ L) x
    ≡ live_on objects L x ++ filter (on x) (filter (λ o. not (is_dropped objects L o)) os)
added objects L a n answer os x is =
    ap (filter (on x)) (live_perform objects L a n answer
    ∙ ap (λ (ps : List Operation). live objects L
    ++ filter (λ o. not (is_dropped objects L o)) ps) is)
    ∙ filter-append (on x) (live objects L) (filter (λ o. not (is_dropped objects L o)) os)

-- A call that was not made adds nothing.
pub unknown_live :
    {S : Type 0} (objects : List ObjectDecl) (L : List Deed) (a : Name) (n : ℕ) (answer : Answer)
    (table : HashMap ℕ (List Operation) S) → call_of L a n ≡ None → KeepsLive objects L table
    → KeepsLive objects (Perform a n answer ∷ L) table
unknown_live objects L a n answer table none keeps x here =
    keeps x here
    ∙ sym (added objects L a n answer [] x (ap (of_call a n answer) none)
    ∙ append-nil (live_on objects L x))

-- the operation of a call
abbrev pub operation_of : Name → ℕ → Answer → Addressed → Operation
operation_of a n answer call =
    record { action = a; number = n; object = call.object; op = call.op; answer = answer }

-- Nor does one of whose ancestors the site was informed that one aborted.
pub lost_live :
    {S : Type 0} (objects : List ObjectDecl) (L : List Deed) (a : Name) (n : ℕ) (answer : Answer)
    (call : Addressed) (table : HashMap ℕ (List Operation) S) → call_of L a n ≡ Some call
    → list_any (λ u. informed L (site_of objects call.object) u false) (ancestors a) ≡ true
    → KeepsLive objects L table → KeepsLive objects (Perform a n answer ∷ L) table
lost_live objects L a n answer call table called lost keeps x here =
    let o : Operation = operation_of a n answer call in
    keeps x here
    ∙ sym (added objects L a n answer (o ∷ []) x (ap (of_call a n answer) called)
    ∙ ap (λ (b : Bool). live_on objects L x ++ filter (on x) (if not b then o ∷ [] else [])) lost
    ∙ append-nil (live_on objects L x))

-- Any other is live from then on.
pub performed_live :
    {S : Type 0} (objects : List ObjectDecl) (L : List Deed) (a : Name) (n : ℕ) (answer : Answer)
    (call : Addressed) (old new : HashMap ℕ (List Operation) S) → call_of L a n ≡ Some call
    → list_any (λ u. informed L (site_of objects call.object) u false) (ancestors a) ≡ false
    → Puts call.object (operations_in old call.object ++ operation_of a n answer call ∷ []) old new
    → KeepsLive objects L old → KeepsLive objects (Perform a n answer ∷ L) new
performed_live objects L a n answer call old new called stays put keeps x here =
    put x ∙ by (eqb call.object x) refl
    ∙ sym (added objects L a n answer (o ∷ []) x (ap (of_call a n answer) called)
    ∙ ap (λ (b : Bool). live_on objects L x ++ filter (on x) (if not b then o ∷ [] else [])) stays)
  where
    o : Operation
    o = operation_of a n answer call

    by : (b : Bool) → eqb call.object x ≡ b
        → (if b then operations_in old call.object ++ o ∷ [] else operations_in old x)
        ≡ live_on objects L x ++ (if eqb call.object x then o ∷ [] else [])
    by true same =
        let is : call.object ≡ x = eqb-true call.object x same in
        ap (λ (y : ℕ). operations_in old y ++ o ∷ []) is
        ∙ ap (λ (os : List Operation). os ++ o ∷ []) (keeps x here)
        ∙ sym (ap (λ (c : Bool). live_on objects L x ++ (if c then o ∷ [] else [])) same)
    by false other =
        keeps x here ∙ sym (append-nil (live_on objects L x))
        ∙ sym (ap (λ (c : Bool). live_on objects L x ++ (if c then o ∷ [] else [])) other)

-- What is left at an object when a site is informed of an abort.
abbrev pub left_at : List ObjectDecl → ℕ → Name → ℕ → List Operation → List Operation
left_at objects s a x operations =
    if eqb (site_of objects x) s then without_below a operations else operations

pub left_live :
    (objects : List ObjectDecl) (L : List Deed) (s : ℕ) (a : Name) (x : ℕ)
    → live_on objects (Inform s a false ∷ L) x ≡ left_at objects s a x (live_on objects L x)
left_live objects L s a x =
    ap (filter (on x)) (live_abort objects L s a)
    ∙ filter_filter (on x) (λ o. not (is_below objects s a o)) (live objects L)
    ∙ by (eqb (site_of objects x) s) refl
  where
    all : List Operation
    all = live objects L

    above : Operation → Bool
    above o = not (is_ancestor a o.action)

    at : (o : Operation) (b : Bool) → eqb o.object x ≡ b → (c : Bool)
        → eqb (site_of objects x) s ≡ c
        → (not (is_below objects s a o) && b) ≡ (b && not (c && is_ancestor a o.action))
    at o true same c here =
        let is : o.object ≡ x = eqb-true o.object x same in
        ap (λ (y : ℕ). not (eqb (site_of objects y) s && is_ancestor a o.action) && true) is
        ∙ ap (λ (d : Bool). not (d && is_ancestor a o.action) && true) here
        ∙ turned (not (c && is_ancestor a o.action))
      where
        turned : (d : Bool) → (d && true) ≡ (true && d)
        turned true = refl
        turned false = refl
    at o false other c here = none (not (is_below objects s a o))
      where
        none : (d : Bool) → (d && false) ≡ false
        none true = refl
        none false = refl

    all_of : (b : Bool) → (b && true) ≡ b
    all_of true = refl
    all_of false = refl

    by : (c : Bool) → eqb (site_of objects x) s ≡ c
        → filter (λ o. not (is_below objects s a o) && on x o) all
        ≡ (if c then without_below a (live_on objects L x) else live_on objects L x)
    by true here =
        filter_same (λ o. not (is_below objects s a o) && on x o) (λ o. on x o && above o) all
        (λ o. at o (on x o) refl true here)
        ∙ sym (filter_filter above (on x) all)
    by false other =
        filter_same (λ o. not (is_below objects s a o) && on x o) (on x) all
        (λ o. at o (on x o) refl false other ∙ all_of (on x o))

-- What was left at each object of the site, up to a place.
pub record LeftUpTo {S : Type 0} (objects : List ObjectDecl) (s : ℕ) (a : Name) (place : ℕ)
    (old now : HashMap ℕ (List Operation) S) : Type 0 where
  pub done :
      (x : ℕ) → x < place → operations_in now x ≡ left_at objects s a x (operations_in old x)
  pub rest : (x : ℕ) → place ≤ x → operations_in now x ≡ operations_in old x

-- An abort leaves at each object what a site is informed to drop.
pub aborted_live :
    {S : Type 0} (objects : List ObjectDecl) (L : List Deed) (s : ℕ) (a : Name) (place : ℕ)
    (old new : HashMap ℕ (List Operation) S) → LeftUpTo objects s a place old new
    → length objects ≤ place → KeepsLive objects L old → KeepsLive objects (Inform s a false ∷ L) new
aborted_live objects L s a place old new left all keeps x here =
    let within : x < length objects = is_declared objects x here in
    left.done x (omega (arith, within, all)) ∙ ap (left_at objects s a x) (keeps x here)
    ∙ sym (left_live objects L s a x)

-- A commit leaves all live.
pub committed_live :
    {S : Type 0} (objects : List ObjectDecl) (L : List Deed) (s : ℕ) (a : Name)
    (table : HashMap ℕ (List Operation) S) → KeepsLive objects L table
    → KeepsLive objects (Inform s a true ∷ L) table
committed_live objects L s a table keeps x here = keeps x here

-- So does any deed that is no Perform, no Inform and no Crash.
pub other_live :
    {S : Type 0} (objects : List ObjectDecl) (L : List Deed) (d : Deed)
    (table : HashMap ℕ (List Operation) S) → IsNoCrash d
    → ((a : Name) (n : ℕ) (answer : Answer) → d ≡ Perform a n answer → ⊥)
    → ((s : ℕ) (a : Name) (outcome : Bool) → d ≡ Inform s a outcome → ⊥)
    → KeepsLive objects L table → KeepsLive objects (d ∷ L) table
other_live objects L (Crash s) table calm no_perform no_inform keeps x here = absurd calm
other_live objects L (Perform a n answer) table calm no_perform no_inform keeps x here =
    absurd (no_perform a n answer refl)
other_live objects L (Inform s a outcome) table calm no_perform no_inform keeps x here =
    absurd (no_inform s a outcome refl)
other_live objects L (Create a) table calm no_perform no_inform keeps x here = keeps x here
other_live objects L (Ask a b) table calm no_perform no_inform keeps x here = keeps x here
other_live objects L (Call a n y op c) table calm no_perform no_inform keeps x here = keeps x here
other_live objects L (Bounce a n u) table calm no_perform no_inform keeps x here = keeps x here
other_live objects L (Got a n seen) table calm no_perform no_inform keeps x here = keeps x here
other_live objects L (AskCommit a v) table calm no_perform no_inform keeps x here = keeps x here
other_live objects L (AskAbort a) table calm no_perform no_inform keeps x here = keeps x here
other_live objects L (Commit a) table calm no_perform no_inform keeps x here = keeps x here
other_live objects L (Abort a) table calm no_perform no_inform keeps x here = keeps x here
other_live objects L (Secure f s c) table calm no_perform no_inform keeps x here = keeps x here
