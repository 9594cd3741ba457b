-- One more family that is held, where none is held twice.
use Rattle.std.proofs.Common.{◌≡◌, ℕ, ◌+◌, ◌<◌, Bool, true, false, not, List, [], ◌∷◌, ◌++◌, length, take, get_or, zero, suc, refl, sym, subst, ◌∙◌, arith}
use Rattle.std.specs.List.{list_any}
use Rattle.std.proofs.lemmas.List.{take_more}
use Rattle.std.proofs.lemmas.Bool.{or_parts, or_from}
use Rattle.cam_names.specs.declared.name.Name.{Name}
use Rattle.cam_names.specs.Names.{name_eq}
use Rattle.cam_names.proofs.Names.{name_eq_sym}
use Rattle.cam_type.specs.declared.Held.{Held}
use Rattle.cam_commit.specs.Events.{families_of}
use Rattle.cam_node.specs.Restartable.{AreOnce}

abbrev pub holds_family : List Held → Name → Bool
holds_family hs f = list_any (name_eq f) (families_of hs)

absent_push : (hs : List Held) (h : Held) (f : Name) → holds_family hs f ≡ false
    → name_eq f h.family ≡ false → holds_family (hs ++ h ∷ []) f ≡ false
absent_push [] h f none apart = or_from (name_eq f h.family) false apart refl
absent_push (g ∷ hs) h f none apart =
    let parts = or_parts (name_eq f g.family) (holds_family hs f) none in
    or_from (name_eq f g.family) (holds_family (hs ++ h ∷ []) f) parts.0
    (absent_push hs h f parts.1 apart)

once_push : (hs : List Held) (h : Held) → AreOnce hs → holds_family hs h.family ≡ false
    → AreOnce (hs ++ h ∷ [])
once_push [] h once none = (refl, tt)
once_push (g ∷ hs) h once none =
    let parts = or_parts (name_eq h.family g.family) (holds_family hs h.family) none in (
      absent_push hs h g.family once.0 (name_eq_sym g.family h.family ∙ parts.0),
      once_push hs h once.1 parts.1,
    )

-- One more stands once, where it is not among those before it.
pub once_further : (hs : List Held) (i : ℕ) (x : Held) → i < length hs → x ≡ get_or hs i x
    → AreOnce (take i hs) → holds_family (take i hs) x.family ≡ false → AreOnce (take (i + 1) hs)
once_further hs i x lt is once none =
    subst AreOnce (sym (take_more hs i x lt))
    (once_push (take i hs) (get_or hs i x) once
    (subst (λ (h : Held). holds_family (take i hs) h.family ≡ false) is none))

apart_at : (hs : List Held) (i : ℕ) (d : Held) (f : Name) → i < length hs
    → holds_family hs f ≡ false → name_eq f (get_or hs i d).family ≡ false
apart_at [] i d f lt none = absurd (omega (arith, lt))
apart_at (g ∷ hs) zero d f lt none =
    (or_parts (name_eq f g.family) (holds_family hs f) none).0
apart_at (g ∷ hs) (suc i) d f lt none =
    apart_at hs i d f (omega (arith, lt))
    (or_parts (name_eq f g.family) (holds_family hs f) none).1

none_before : (hs : List Held) (i : ℕ) (d : Held) → i < length hs → AreOnce hs
    → holds_family (take i hs) (get_or hs i d).family ≡ false
none_before [] i d lt once = absurd (omega (arith, lt))
none_before (g ∷ hs) zero d lt once = refl
none_before (g ∷ hs) (suc i) d lt once =
    let f = (get_or hs i d).family in
    or_from (name_eq f g.family) (holds_family (take i hs) f)
    (name_eq_sym f g.family ∙ apart_at hs i d g.family (omega (arith, lt)) once.0)
    (none_before hs i d (omega (arith, lt)) once.1)

-- Of those that stand once none is among those before it.
pub once_at : (hs : List Held) (i : ℕ) (x : Held) → i < length hs → x ≡ get_or hs i x
    → AreOnce hs → holds_family (take i hs) x.family ≡ false
once_at hs i x lt is once =
    subst (λ (h : Held). holds_family (take i hs) h.family ≡ false) (sym is)
    (none_before hs i x lt once)

-- what was added was not there before
pub not_true : (b : Bool) → not b ≡ true → b ≡ false
not_true true h = cc
not_true false h = refl

pub not_false : (b : Bool) → not b ≡ false → b ≡ true
not_false true h = refl
not_false false h = cc
