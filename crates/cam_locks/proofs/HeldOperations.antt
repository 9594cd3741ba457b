-- One more operation that may be held, and what is kept of those that may.
use Rattle.std.proofs.Common.{◌≡◌, ℕ, ◌+◌, ◌≤◌, ◌<◌, nat_le, eqb, Bool, true, false, ◌&&◌, ◌||◌, cond, if◌then◌else◌, List, [], ◌∷◌, ◌++◌, length, take, get_or, map, zero, suc, refl, sym, ap, subst, ◌∙◌, arith}
use Rattle.std.specs.Prelude.{flat_map}
use Rattle.std.proofs.lemmas.List.{take_more}
use Rattle.cam_names.specs.declared.name.Name.{Name}
use Rattle.cam_type.specs.declared.ObjectDecl.{ObjectDecl}
use Rattle.cam_type.specs.declared.Held.{Held}
use Rattle.cam_type.specs.declared.HeldOp.{HeldOp}
use Rattle.cam_know.specs.Knowledge.{Knowledge}
use Rattle.cam_know.specs.Known.{knows_abort}
use Rattle.cam_locks.specs.declared.LiveOp.{LiveOp}
use Rattle.cam_locks.specs.Site.{fits_here, AreFit}
use Rattle.cam_locks.specs.Restored.{of_family, ops_of, all_held, has_index, MayBeHeld}
use Rattle.cam_locks.proofs.Bools.{or_parts, or_false, eqb_sym, le_yes, le_from}
use Rattle.cam_locks.proofs.HeldIndices.{may_back}

abbrev is_right : List ObjectDecl → ℕ → HeldOp → Bool
is_right objects node h = fits_here objects node h.object h.op && nat_le h.index 999999999

right_parts : (b c : Bool) → (b && c) ≡ true → (b ≡ true) × (c ≡ true)
right_parts true c h = (refl, h)
right_parts false c h = cc

absent_push : (hs : List HeldOp) (h : HeldOp) (i : ℕ) → has_index hs i ≡ false → eqb h.index i ≡ false → has_index (hs ++ h ∷ []) i ≡ false
absent_push [] h i none apart = or_false (eqb h.index i) false apart refl
absent_push (g ∷ hs) h i none apart =
    let parts = or_parts (eqb g.index i) (has_index hs i) none in
    or_false (eqb g.index i) (has_index (hs ++ h ∷ []) i) parts.0 (absent_push hs h i parts.1 apart)

may_push : (objects : List ObjectDecl) (node : ℕ) (hs : List HeldOp) (h : HeldOp) → MayBeHeld objects node hs → fits_here objects node h.object h.op ≡ true
    → h.index ≤ 999999999 → has_index hs h.index ≡ false → MayBeHeld objects node (hs ++ h ∷ [])
may_push objects node [] h may fit range none = (fit, range, refl, tt)
may_push objects node (g ∷ hs) h may fit range none =
    let parts = or_parts (eqb g.index h.index) (has_index hs h.index) none in (
      may.0,
      may.1,
      absent_push hs h g.index may.2 (eqb_sym h.index g.index ∙ parts.0),
      may_push objects node hs h may.3 fit range parts.1,
    )

-- One more operation may be held, where it is right and its index is new.
pub may_further : (objects : List ObjectDecl) (node : ℕ) (hs : List HeldOp) (i : ℕ) (d : HeldOp) → i < length hs
    → MayBeHeld objects node (take i hs) → is_right objects node (get_or hs i d) ≡ true → has_index (take i hs) (get_or hs i d).index ≡ false
    → MayBeHeld objects node (take (i + 1) hs)
may_further objects node hs i d lt may right none =
    let h = get_or hs i d in
    let parts = right_parts (fits_here objects node h.object h.op) (nat_le h.index 999999999) right in
    subst (MayBeHeld objects node) (sym (take_more hs i d lt))
    (may_push objects node (take i hs) h may parts.0 (le_from h.index 999999999 parts.1) none)

index_push : (hs : List HeldOp) (h : HeldOp) (i : ℕ) → (if eqb h.index i then true else has_index hs i) ≡ has_index (hs ++ h ∷ []) i
index_push [] h i = by_test (eqb h.index i)
  where
    by_test : (b : Bool) → (if b then true else false) ≡ (b || false)
    by_test true = refl
    by_test false = refl
index_push (g ∷ hs) h i = by_test (eqb h.index i) (eqb g.index i) (index_push hs h i)
  where
    by_test : (b c : Bool) → (if b then true else has_index hs i) ≡ has_index (hs ++ h ∷ []) i
        → (if b then true else (c || has_index hs i)) ≡ (c || has_index (hs ++ h ∷ []) i)
    by_test true true rest = refl
    by_test true false rest = rest
    by_test false true rest = refl
    by_test false false rest = rest

-- whether an index stands among one more operation
pub index_further : (hs : List HeldOp) (n : ℕ) (d : HeldOp) (i : ℕ) (old new : Bool) → n < length hs → old ≡ has_index (take n hs) i
    → new ≡ (if eqb (get_or hs n d).index i then true else old) → new ≡ has_index (take (n + 1) hs) i
index_further hs n d i old new lt so_far step =
    step ∙ ap (λ (b : Bool). if eqb (get_or hs n d).index i then true else b) so_far ∙ index_push (take n hs) (get_or hs n d) i
    ∙ ap (λ (gs : List HeldOp). has_index gs i) (sym (take_more hs n d lt))

apart_at : (hs : List HeldOp) (i : ℕ) (d : HeldOp) (j : ℕ) → i < length hs → has_index hs j ≡ false → eqb (get_or hs i d).index j ≡ false
apart_at [] i d j lt none = absurd (omega arith)
apart_at (g ∷ hs) zero d j lt none = (or_parts (eqb g.index j) (has_index hs j) none).0
apart_at (g ∷ hs) (suc i) d j lt none = apart_at hs i d j (omega arith) (or_parts (eqb g.index j) (has_index hs j) none).1

right_of : (objects : List ObjectDecl) (node : ℕ) (h : HeldOp) → fits_here objects node h.object h.op ≡ true → h.index ≤ 999999999 → is_right objects node h ≡ true
right_of objects node h fit range = ap (λ (b : Bool). b && nat_le h.index 999999999) fit ∙ le_yes h.index 999999999 range

-- each of those that may be held is right, and its index stands not before it
pub may_at : (objects : List ObjectDecl) (node : ℕ) (hs : List HeldOp) (i : ℕ) (d : HeldOp) → i < length hs → MayBeHeld objects node hs
    → (is_right objects node (get_or hs i d) ≡ true) × (has_index (take i hs) (get_or hs i d).index ≡ false)
may_at objects node [] i d lt may = absurd (omega arith)
may_at objects node (g ∷ hs) zero d lt may = (right_of objects node g may.0 may.1, refl)
may_at objects node (g ∷ hs) (suc i) d lt may =
    let rest = may_at objects node hs i d (omega arith) may.3 in
    let h = get_or hs i d in (
      rest.0,
      or_false (eqb g.index h.index) (has_index (take i hs) h.index) (eqb_sym g.index h.index ∙ apart_at hs i d g.index (omega arith) may.2) rest.1,
    )

-- the operations of the families that are kept fit
fit_map : (objects : List ObjectDecl) (node : ℕ) (f : Name) (hs gs : List HeldOp) (os : List LiveOp) → AreFit objects node os → MayBeHeld objects node (hs ++ gs)
    → AreFit objects node (map (of_family f) hs ++ os)
fit_map objects node f [] gs os fit may = fit
fit_map objects node f (h ∷ hs) gs os fit may = (may.0, fit_map objects node f hs gs os fit may.3)

-- Each operation that is kept of held families fits its object.
pub fit_kept : (objects : List ObjectDecl) (node : ℕ) (know : Knowledge) (held : List Held) → MayBeHeld objects node (all_held held)
    → AreFit objects node (flat_map (ops_of know) held)
fit_kept objects node know [] may = tt
fit_kept objects node know (f ∷ held) may = by_test (knows_abort know f.family) (fit_kept objects node know held (may_back objects node f.ops (all_held held) may))
  where
    by_test : (b : Bool) → AreFit objects node (flat_map (ops_of know) held) → AreFit objects node (cond b [] (map (of_family f.family) f.ops) ++ flat_map (ops_of know) held)
    by_test true rest = rest
    by_test false rest = fit_map objects node f.family f.ops (all_held held) (flat_map (ops_of know) held) rest may
