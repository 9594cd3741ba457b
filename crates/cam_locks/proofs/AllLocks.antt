-- All that is kept, through each call.
use Rattle.std.proofs.Common.{◌≡◌, ◌≢◌, ℕ, ◌+◌, ◌≤◌, ◌<◌, Bool, true, false, not, List, [], ◌∷◌, ◌++◌, length, get_or, None, zero, suc, refl, sym, ap, subst, ◌∙◌, arith}
use Rattle.std.proofs.Math.Logic.{inl, inr}
use Rattle.std.proofs.Common.{map}
use Rattle.std.specs.Prelude.{filter, find, option_and_then}
use Rattle.cam_names.specs.declared.name.Name.{Name}
use Rattle.cam_type.specs.declared.ObjectDecl.{ObjectDecl}
use Rattle.cam_type.specs.declared.State.{State}
use Rattle.cam_type.specs.declared.Answer.{Answer}
use Rattle.cam_type.specs.declared.Mode.{Mode}
use Rattle.cam_type.specs.Table.{kind_of, fits, answer_of, mode_of}
use Rattle.cam_locks.specs.declared.LiveOp.{LiveOp}
use Rattle.cam_locks.specs.Members.{In}
use Rattle.cam_locks.specs.Names.{has_name}
use Rattle.cam_locks.specs.Site.{IndicesRise}
use Rattle.cam_type.specs.Objects.{start_of}
use Rattle.cam_locks.specs.Moss.{is_on, replay, conflicts_on, lift_in}
use Rattle.cam_locks.specs.Calls.{is_below}
use Rattle.cam_locks.specs.Holding.{KeepsLeaders, LocksView, leaders_of, KeepsLocks, AreLocks, AllLocks, fresh}
use Rattle.cam_locks.specs.Changes.{EachTo, TidiedTo, DoneTo, SpoiledAt}
use Rattle.cam_locks.proofs.Modes.{added_stale, no_leaders_of}
use Rattle.cam_locks.proofs.Indices.{rise_later}
use Rattle.cam_locks.proofs.ClimbingLifts.{AtLeast}
use Rattle.cam_locks.proofs.EachObject.{off_object, on_object, by_eq, SpoiledBelow, SpoiledWhere}
use Rattle.cam_locks.proofs.AbortedLocks.{keeps_abort}
use Rattle.cam_locks.proofs.UntouchedLocks.{keeps_untouched}
use Rattle.cam_locks.proofs.LockLaws.{IsClear, keeps_later, keeps_commit, keeps_other, keeps_done, answer_done, no_conflict}

-- what is kept at a place
pub at_place : (objects : List ObjectDecl) (ns : List Name) (os : List LiveOp) (next : ℕ) (ls : List LocksView) (x : ℕ) (l : LocksView) → x < length ls → l ≡ get_or ls x l
    → AllLocks objects ns os next ls → AreLocks x (start_of objects x) ns os next l
at_place objects ns os next ls x l lt is all = subst (λ (k : LocksView). AreLocks x (start_of objects x) ns os next k) (sym is) (all x l lt)

-- Where what need not be kept is left out, all that is kept stays right.
pub all_tidied : (objects : List ObjectDecl) (ns : List Name) (os : List LiveOp) (next : ℕ) (old new : List LocksView) → EachTo (TidiedTo ns os) old new
    → AllLocks objects ns os next old → AllLocks objects ns os next new
all_tidied objects ns os next old new each all x l lt is =
    let within : x < length old = subst (λ (n : ℕ). x < n) each.len lt in
    let t = each.each x l within in
    t.kept x (start_of objects x) next (all x l within (sym t.stale ∙ is))

-- no operations yet
fresh_at : (objects : List ObjectDecl) (x : ℕ) (l : LocksView) → x < length objects → get_or (map (λ d. fresh d.start) objects) x l ≡ fresh (start_of objects x)
fresh_at [] x l lt = absurd (omega arith)
fresh_at (d ∷ objects) zero l lt = refl
fresh_at (d ∷ objects) (suc x) l lt = fresh_at objects x l (omega arith)

length_fresh : (objects : List ObjectDecl) → length (map (λ d. fresh d.start) objects) ≡ length objects
length_fresh [] = refl
length_fresh (d ∷ objects) = ap suc (length_fresh objects)

-- Without operations what is kept of objects at first is right.
pub all_fresh : (objects : List ObjectDecl) (ns : List Name) (os : List LiveOp) (next : ℕ) (ls : List LocksView) → os ≡ [] → next ≡ 0
    → ls ≡ map (λ d. fresh d.start) objects → AllLocks objects ns os next ls
all_fresh objects ns os next ls no_ops from is =
    subst (λ (ps : List LiveOp). AllLocks objects ns ps next ls) (sym no_ops)
    (subst (λ (n : ℕ). AllLocks objects ns [] n ls) (sym from)
    (subst (λ (ks : List LocksView). AllLocks objects ns [] 0 ks) (sym is) each))
  where
    nothing : (x : ℕ) (start : State) → KeepsLocks x start ns [] 0 (fresh start)
    nothing x start = record {
      start_is = refl;
      leaders = λ m. no_leaders m;
      versions = record { rising = omega arith; locks = λ v h. absurd h; sound = λ v h. absurd h; covers = λ o h. absurd h };
      nested = λ o p h. absurd h;
    }
      where
        no_leaders : (m : Mode) → KeepsLeaders x m ns [] 0 (leaders_of (fresh start) m)
        no_leaders m = subst (λ (ts : List LiveOp). KeepsLeaders x m ns [] 0 ts) (sym (no_leaders_of m start)) (record { rising = omega arith; locks = λ t h. absurd h; sound = λ t h. absurd h; covers = λ o u h. absurd h })

    each : AllLocks objects ns [] 0 (map (λ d. fresh d.start) objects)
    each x l lt stale =
        let within : x < length objects = subst (λ (n : ℕ). x < n) (length_fresh objects) lt in
        subst (λ (k : LocksView). KeepsLocks x (start_of objects x) ns [] 0 k) (sym (fresh_at objects x l within)) (nothing x (start_of objects x))

-- a later next index
pub all_later : (objects : List ObjectDecl) (ns : List Name) (os : List LiveOp) (next later : ℕ) (ls : List LocksView) → next ≤ later
    → AllLocks objects ns os next ls → AllLocks objects ns os later ls
all_later objects ns os next later ls le all x l lt is = keeps_later x (start_of objects x) ns os next later (get_or ls x l) le (all x l lt is)

-- an operation was done with which none conflicts
pub all_done : (objects : List ObjectDecl) (ns : List Name) (os : List LiveOp) (next : ℕ) (old new : List LocksView) (n : LiveOp) (answer : Answer)
    → IndicesRise 0 os next → next ≤ n.index
    → option_and_then (λ o. lift_in ns o.action) (find (conflicts_on ns n.action n.object n.op) os) ≡ None
    → EachTo (DoneTo ns os n answer) old new → AllLocks objects ns os next old → AllLocks objects ns (os ++ n ∷ []) (n.index + 1) new
all_done objects ns os next old new n answer rise le none each all x l lt stale =
    let within : x < length old = subst (λ (k : ℕ). x < k) each.len lt in
    elim (by_eq x n.object) [
      | inl same ↦ here within same
      | inr apart ↦ elsewhere within apart
    ]
  where
    risen : IndicesRise 0 os n.index
    risen = rise_later 0 os next n.index le rise

    clear : x ≡ n.object → IsClear x ns os n
    clear same = λ o h on also apart. no_conflict ns os n.action n.object n.op none o h (subst (λ (y : ℕ). is_on y o ≡ true) same on) apart

    here : x < length old → x ≡ n.object → KeepsLocks x (start_of objects x) ns (os ++ n ∷ []) (n.index + 1) (get_or new x l)
    here within same =
        let done = (each.each x l within).here same in
        let was : (get_or old x l).stale ≡ false =
        sym done.tidied.stale ∙ sym (ap (λ (k : LocksView). k.stale) done.new_is ∙ added_stale (mode_of n.op) ns os done.before n) ∙ stale in
        keeps_done x (start_of objects x) ns os (get_or old x l) (get_or new x l) n answer risen (on_object x n same) (clear same) done
        (keeps_later x (start_of objects x) ns os next n.index (get_or old x l) le (all x l within was))

    elsewhere : x < length old → x ≢ n.object → KeepsLocks x (start_of objects x) ns (os ++ n ∷ []) (n.index + 1) (get_or new x l)
    elsewhere within apart =
        let change = (each.each x l within).elsewhere apart in
        let was : (get_or old x l).stale ≡ false = sym (ap (λ (k : LocksView). k.stale) change) ∙ stale in
        subst (λ (k : LocksView). KeepsLocks x (start_of objects x) ns (os ++ n ∷ []) (n.index + 1) k) (sym change)
        (keeps_other x (start_of objects x) ns os (get_or old x l) n risen (off_object x n apart) (keeps_later x (start_of objects x) ns os next n.index (get_or old x l) le (all x l within was)))

-- The answer of an operation that was done is that at the value which a replay gives.
pub answer_all : (objects : List ObjectDecl) (ns : List Name) (os : List LiveOp) (next : ℕ) (old new : List LocksView) (n : LiveOp) (answer : Answer) (l : LocksView)
    → fits (kind_of (start_of objects n.object)) n.op ≡ true
    → n.object < length old → (get_or old n.object l).stale ≡ false → EachTo (DoneTo ns os n answer) old new → AllLocks objects ns os next old
    → answer ≡ answer_of (replay (start_of objects n.object) (filter (is_on n.object) os)) n.op
answer_all objects ns os next old new n answer l fit within stale each all =
    answer_done (start_of objects n.object) ns os next (get_or old n.object l) (get_or new n.object l) n answer fit ((each.each n.object l within).here refl) (all n.object l within stale)

-- one more operation, of whose object nothing is kept
pub all_spoiled_at : (objects : List ObjectDecl) (ns : List Name) (os : List LiveOp) (next : ℕ) (old new : List LocksView) (n : LiveOp)
    → IndicesRise 0 os next → next ≤ n.index → EachTo (SpoiledAt n.object) old new → AllLocks objects ns os next old → AllLocks objects ns (os ++ n ∷ []) (n.index + 1) new
all_spoiled_at objects ns os next old new n rise le each all x l lt stale =
    let within : x < length old = subst (λ (k : ℕ). x < k) each.len lt in
    elim (by_eq x n.object) [
      | inl same ↦ let wrong : true ≡ false = sym ((each.each x l within).here same) ∙ stale in cc
      | inr apart ↦
          let change = (each.each x l within).elsewhere apart in
          let was : (get_or old x l).stale ≡ false = sym (ap (λ (k : LocksView). k.stale) change) ∙ stale in
          subst (λ (k : LocksView). KeepsLocks x (start_of objects x) ns (os ++ n ∷ []) (n.index + 1) k) (sym change)
          (keeps_other x (start_of objects x) ns os (get_or old x l) n (rise_later 0 os next n.index le rise) (off_object x n apart)
          (keeps_later x (start_of objects x) ns os next n.index (get_or old x l) le (all x l within was)))
    ]

-- All that is kept stays right where more is known committed.
pub all_commit : (objects : List ObjectDecl) (less more : List Name) (os : List LiveOp) (next : ℕ) (ls : List LocksView) → AtLeast more less
    → AllLocks objects less os next ls → AllLocks objects more os next ls
all_commit objects less more os next ls at_least all x l lt is =
    keeps_commit x (start_of objects x) less more os next (get_or ls x l) at_least (all x l lt is)

pub all_abort : (objects : List ObjectDecl) (ns : List Name) (os : List LiveOp) (next : ℕ) (ls : List LocksView) (n : Name) → has_name ns n ≡ false → IndicesRise 0 os next
    → AllLocks objects ns os next ls → AllLocks objects ns (filter (λ o. not (is_below n o)) os) next ls
all_abort objects ns os next ls n open_yet rise all x l lt is =
    keeps_abort x (start_of objects x) ns os next (get_or ls x l) n open_yet rise (all x l lt is)

-- an abort of an action that is committed too, with nothing kept from now on of the objects of what is below it
pub all_spoiled_below : (objects : List ObjectDecl) (ns : List Name) (os rest : List LiveOp) (next : ℕ) (old new : List LocksView) (n : Name)
    → EachTo (SpoiledBelow n os rest) old new → ((o : LiveOp) → In o rest → is_below n o ≡ false)
    → AllLocks objects ns os next old → AllLocks objects ns (filter (λ o. not (is_below n o)) os) next new
all_spoiled_below objects ns os rest next old new n each gone all x l lt stale = by_change (each.each x l within)
  where
    within : x < length old
    within = subst (λ (k : ℕ). x < k) each.len lt

    by_change : SpoiledBelow n os rest x (get_or old x l) (get_or new x l) → KeepsLocks x (start_of objects x) ns (filter (λ o. not (is_below n o)) os) next (get_or new x l)
    by_change (inl spoiled) = let wrong : true ≡ false = sym spoiled ∙ stale in cc
    by_change (inr same) =
        subst (λ (k : LocksView). KeepsLocks x (start_of objects x) ns (filter (λ o. not (is_below n o)) os) next k) (sym same.0)
        (keeps_untouched x (start_of objects x) ns os next (get_or old x l) (λ o. not (is_below n o)) (λ o h on. by_test o h on (is_below n o) refl)
        (all x l within (sym (ap (λ (k : LocksView). k.stale) same.0) ∙ stale)))
      where
        by_test : (o : LiveOp) → In o os → is_on x o ≡ true → (b : Bool) → is_below n o ≡ b → not b ≡ true
        by_test o h on false e = refl
        by_test o h on true e = let no : true ≡ false = sym e ∙ gone o (same.1 o h on e) in cc

-- All that is kept stays right after an abort, where the objects of what it drops are spoiled if the action is known committed too.
pub all_gone : (b : Bool) (objects : List ObjectDecl) (ns : List Name) (os rest : List LiveOp) (next : ℕ) (old new : List LocksView) (n : Name) → b ≡ has_name ns n
    → SpoiledWhere b n os rest old new → ((o : LiveOp) → In o rest → is_below n o ≡ false) → IndicesRise 0 os next
    → AllLocks objects ns os next old → AllLocks objects ns (filter (λ o. not (is_below n o)) os) next new
all_gone true objects ns os rest next old new n is each gone rise all = all_spoiled_below objects ns os rest next old new n each gone all
all_gone false objects ns os rest next old new n is same gone rise all =
    subst (λ (ls : List LocksView). AllLocks objects ns (filter (λ o. not (is_below n o)) os) next ls) (sym same) (all_abort objects ns os next old n (sym is) rise all)

-- an operation was done but not added, with nothing kept from now on of its object
pub all_undone : (objects : List ObjectDecl) (ns : List Name) (os : List LiveOp) (next : ℕ) (old mid new : List LocksView) (n : LiveOp) (answer : Answer)
    → EachTo (DoneTo ns os n answer) old mid → EachTo (SpoiledAt n.object) mid new → AllLocks objects ns os next old → AllLocks objects ns os next new
all_undone objects ns os next old mid new n answer done spoiled all x l lt stale =
    let inside : x < length mid = subst (λ (k : ℕ). x < k) spoiled.len lt in
    let within : x < length old = subst (λ (k : ℕ). x < k) done.len inside in
    elim (by_eq x n.object) [
      | inl same ↦ let wrong : true ≡ false = sym ((spoiled.each x l inside).here same) ∙ stale in cc
      | inr apart ↦
          let change = (spoiled.each x l inside).elsewhere apart ∙ (done.each x l within).elsewhere apart in
          subst (λ (k : LocksView). KeepsLocks x (start_of objects x) ns os next k) (sym change)
          (all x l within (sym (ap (λ (k : LocksView). k.stale) change) ∙ stale))
    ]
