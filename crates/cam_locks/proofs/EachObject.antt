-- A change of what is kept of each object.
use Rattle.std.proofs.Common.{◌≡◌, ◌≢◌, ◌⊎◌, ℕ, ◌<◌, eqb, Bool, true, false, not, List, length, get_or, set, refl, sym, ap, subst, ◌∙◌, arith, eq-eqb, get_or-set_other, get_or-set_same, length-set}
use Rattle.std.proofs.Math.Logic.{inl, inr}
use Rattle.std.specs.Prelude.{filter}
use Rattle.std.proofs.lemmas.List.{get_or_default}
use Rattle.cam_names.specs.declared.name.Name.{Name}
use Rattle.cam_locks.specs.declared.LiveOp.{LiveOp}
use Rattle.cam_locks.specs.Moss.{is_on}
use Rattle.cam_locks.specs.Calls.{is_below}
use Rattle.cam_locks.specs.Holding.{LocksView}
use Rattle.cam_locks.specs.Changes.{EachTo, SpoiledAt}
use Rattle.cam_locks.specs.Members.{In}
use Rattle.cam_locks.specs.Site.{IndicesRise}
use Rattle.cam_locks.specs.Live.{other}
use Rattle.cam_locks.proofs.Members.{in_filtered, same_op}

-- an operation is not on another object than its own
pub off_object : (x : ℕ) (n : LiveOp) → x ≢ n.object → is_on x n ≡ false
off_object x n apart = grind (arith, apart)

-- an operation is on its object
pub on_object : (x : ℕ) (n : LiveOp) → x ≡ n.object → is_on x n ≡ true
on_object x n same = eq-eqb n.object x (sym same)

-- two numbers are the same or not
pub by_eq : (x y : ℕ) → (x ≡ y) ⊎ (x ≢ y)
by_eq x y = by_test (eqb x y) refl
  where
    by_test : (b : Bool) → eqb x y ≡ b → (x ≡ y) ⊎ (x ≢ y)
    by_test true e = inl (grind (arith, e))
    by_test false e = inr (λ s. grind (arith, e, s))

-- one place changed
pub each_set : (change : ℕ → LocksView → LocksView → Type 0) (ls : List LocksView) (at : ℕ) (was now : LocksView) → at < length ls → was ≡ get_or ls at was
    → change at was now → ((x : ℕ) (l : LocksView) → x ≢ at → change x l l) → EachTo change ls (set ls at now)
each_set change ls at was now lt is changed others = record {
  len = length-set ls at now;
  each = λ x l within. elim (by_eq x at) [
    | inl same ↦ here x l same
    | inr apart ↦ subst (λ (k : LocksView). change x (get_or ls x l) k) (sym (get_or-set_other ls at x now l apart)) (others x (get_or ls x l) apart)
  ];
}
  where
    here : (x : ℕ) (l : LocksView) → x ≡ at → change x (get_or ls x l) (get_or (set ls at now) x l)
    here x l same =
        subst (λ (y : ℕ). change y (get_or ls y l) (get_or (set ls at now) y l)) (sym same)
        (subst (λ (k : LocksView). change at (get_or ls at l) k) (sym (get_or-set_same ls at now l lt))
        (subst (λ (k : LocksView). change at k now) (is ∙ get_or_default ls at was l lt) changed))

-- What is kept of the objects of what is below an action is spoiled, while it is dropped: stale, or as it was where nothing on the object
-- that is below the action is dropped yet.
abbrev pub SpoiledBelow : Name → List LiveOp → List LiveOp → ℕ → LocksView → LocksView → Type 0
SpoiledBelow n os rest x old new =
    (new.stale ≡ true) ⊎ ((new ≡ old) × ((o : LiveOp) → In o os → is_on x o ≡ true → is_below n o ≡ true → In o rest))

-- it need not be where the action isn't committed
abbrev pub SpoiledWhere : Bool → Name → List LiveOp → List LiveOp → List LocksView → List LocksView → Type 0
SpoiledWhere true n os rest old new = EachTo (SpoiledBelow n os rest) old new
SpoiledWhere false n os rest old new = new ≡ old

-- At first no object is spoiled.
pub none_spoiled : (b : Bool) (n : Name) (os : List LiveOp) (ls : List LocksView) → SpoiledWhere b n os os ls ls
none_spoiled true n os ls = record { len = refl; each = λ x l lt. inr (refl, λ o h on under. h) }
none_spoiled false n os ls = refl

pub spoiled_more : (n : Name) (os ops : List LiveOp) (next : ℕ) (f : LiveOp) (old mid new : List LocksView) → IndicesRise 0 os next
    → ((o : LiveOp) → In o ops → In o os) → In f ops → EachTo (SpoiledBelow n os ops) old mid → EachTo (SpoiledAt f.object) mid new
    → EachTo (SpoiledBelow n os (filter (other f.index) ops)) old new
spoiled_more n os ops next f old mid new rise among there so_far step = record { len = step.len ∙ so_far.len; each = both }
  where
    both : (x : ℕ) (l : LocksView) → x < length old → SpoiledBelow n os (filter (other f.index) ops) x (get_or old x l) (get_or new x l)
    both x l within = elim (by_eq x f.object) [
      | inl same ↦ inl (second.here same)
      | inr apart ↦ elsewhere apart (so_far.each x l within)
    ]
      where
        second : SpoiledAt f.object x (get_or mid x l) (get_or new x l)
        second = step.each x l (subst (λ (k : ℕ). x < k) (sym so_far.len) within)

        still : x ≢ f.object → (o : LiveOp) → In o ops → is_on x o ≡ true → (b : Bool) → eqb f.index o.index ≡ b → In o (filter (other f.index) ops)
        still apart o h on false e = in_filtered (other f.index) o ops h (ap not e)
        still apart o h on true e =
            let same : f.index ≡ o.index = grind (arith, e) in
            let one : f ≡ o = same_op 0 os next f o rise (among f there) (among o h) same in
            let no : true ≡ false = sym on ∙ ap (is_on x) (sym one) ∙ off_object x f apart in cc

        elsewhere : x ≢ f.object → SpoiledBelow n os ops x (get_or old x l) (get_or mid x l) → SpoiledBelow n os (filter (other f.index) ops) x (get_or old x l) (get_or new x l)
        elsewhere apart (inl spoiled) = inl (ap (λ (k : LocksView). k.stale) (second.elsewhere apart) ∙ spoiled)
        elsewhere apart (inr same) = inr (second.elsewhere apart ∙ same.0, λ o h on under. still apart o (same.1 o h on under) on (eqb f.index o.index) refl)

-- One more operation is dropped, and its object is spoiled.
pub spoiled_on : (b : Bool) (n : Name) (os ops : List LiveOp) (next : ℕ) (f : LiveOp) (old mid new : List LocksView) → b ≡ true → IndicesRise 0 os next
    → ((o : LiveOp) → In o ops → In o os) → In f ops → SpoiledWhere b n os ops old mid → EachTo (SpoiledAt f.object) mid new
    → SpoiledWhere b n os (filter (other f.index) ops) old new
spoiled_on true n os ops next f old mid new is rise among there so_far step = spoiled_more n os ops next f old mid new rise among there so_far step
spoiled_on false n os ops next f old mid new is rise among there so_far step = cc

-- Where nothing is spoiled, nothing is with fewer operations either.
pub spoiled_off : (b : Bool) (n : Name) (os ops rest : List LiveOp) (old new : List LocksView) → b ≡ false → SpoiledWhere b n os ops old new → SpoiledWhere b n os rest old new
spoiled_off true n os ops rest old new is so_far = cc
spoiled_off false n os ops rest old new is so_far = so_far
