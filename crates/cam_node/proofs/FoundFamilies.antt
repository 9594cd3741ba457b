-- The families that an event secures are new, and are secured after it: so a log that holds each of
-- them has the event, where it secures any.
use Rattle.std.proofs.Common.{◌≡◌, ℕ, Bool, true, false, ◌||◌, ◌&&◌, List, [], ◌∷◌, ◌++◌, reverse, Option, refl, sym, ap, ◌∙◌}
use Rattle.std.specs.List.{list_any, list_all}
use Rattle.std.proofs.lemmas.Bool.{true≢false, and_parts, and_from}
use Rattle.std.proofs.lemmas.List.{reverse-append}
use Rattle.cam_names.specs.declared.name.Name.{Name}
use Rattle.cam_names.specs.Names.{name_eq}
use Rattle.cam_names.proofs.Names.{name_eq_refl}
use Rattle.cam_type.specs.declared.Held.{Held}
use Rattle.cam_commit.specs.Events.{families_of}
use Rattle.cam_event.specs.declared.Deed.{Deed}
use Rattle.cam_event.specs.declared.Deed.TheVariants.{Perform, Secure, Inform, Crash}
use Rattle.cam_event.specs.History.{after}
use Rattle.cam_event.specs.Inputs.{Mail}
use Rattle.cam_event.specs.HeldSites.{Placed, Site, site_after, site_after_all}
use Rattle.cam_node.specs.Found.{is_held}
use Rattle.cam_node.specs.Log.{secure_counts}
use Rattle.cam_node.specs.LogOrder.{is_any_secure}
use Rattle.cam_node.specs.Restartable.{EachOnce}
use Rattle.cam_node.proofs.PlacedOnce.{names_of}

-- a family is among these
abbrev pub is_among : List Name → Name → Bool
is_among fs f = list_any (name_eq f) fs

abbrev secured_then : List Deed → Option Mail → Site → List Deed → List Name
secured_then L mail at ds = names_of (site_after_all L mail at ds).secured

-- What is secured stays so,
still_secured : (ds L : List Deed) (mail : Option Mail) (at : Site) (f : Name)
    → is_among (names_of at.secured) f ≡ true → is_among (secured_then L mail at ds) f ≡ true
still_secured [] L mail at f is = is
still_secured (Perform a n answer ∷ ds) L mail at f is =
    still_secured ds (Perform a n answer ∷ L) mail (site_after L mail at (Perform a n answer)) f is
still_secured (Secure g s c ∷ ds) L mail at f is =
    still_secured ds (Secure g s c ∷ L) mail (site_after L mail at (Secure g s c)) f
    (ap (λ (b : Bool). name_eq f g || b) is ∙ or_true (name_eq f g))
  where
    or_true : (b : Bool) → (b || true) ≡ true
    or_true true = refl
    or_true false = refl
still_secured (Inform s u true ∷ ds) L mail at f is =
    still_secured ds (Inform s u true ∷ L) mail at f is
still_secured (Inform s u false ∷ ds) L mail at f is =
    still_secured ds (Inform s u false ∷ L) mail (site_after L mail at (Inform s u false)) f is
still_secured (Crash s ∷ ds) L mail at f is =
    still_secured ds (Crash s ∷ L) mail (site_after L mail at (Crash s)) f is
still_secured (d ∷ ds) L mail at f is = still_secured ds (d ∷ L) mail at f is

-- and where none stands twice after the deeds, none did before.
once_before : (ds L : List Deed) (mail : Option Mail) (at : Site)
    → EachOnce (secured_then L mail at ds) → EachOnce (names_of at.secured)
once_before [] L mail at once = once
once_before (Perform a n answer ∷ ds) L mail at once =
    once_before ds (Perform a n answer ∷ L) mail (site_after L mail at (Perform a n answer)) once
once_before (Secure g s c ∷ ds) L mail at once =
    (once_before ds (Secure g s c ∷ L) mail (site_after L mail at (Secure g s c)) once).1
once_before (Inform s u true ∷ ds) L mail at once =
    once_before ds (Inform s u true ∷ L) mail at once
once_before (Inform s u false ∷ ds) L mail at once =
    once_before ds (Inform s u false ∷ L) mail (site_after L mail at (Inform s u false)) once
once_before (Crash s ∷ ds) L mail at once =
    once_before ds (Crash s ∷ L) mail (site_after L mail at (Crash s)) once
once_before (d ∷ ds) L mail at once = once_before ds (d ∷ L) mail at once

-- what a deed secures is among these
abbrev pub is_in : List Name → Deed → Bool
is_in fs (Secure f s c) = is_among fs f
is_in fs _ = true

-- What deeds secure is secured after them.
pub all_secured : (ds L : List Deed) (mail : Option Mail) (at : Site)
    → list_all (is_in (secured_then L mail at ds)) ds ≡ true
all_secured [] L mail at = refl
all_secured (Perform a n answer ∷ ds) L mail at =
    all_secured ds (Perform a n answer ∷ L) mail (site_after L mail at (Perform a n answer))
all_secured (Secure g s c ∷ ds) L mail at =
    let then : Site = site_after L mail at (Secure g s c) in
    and_from (is_among (secured_then (Secure g s c ∷ L) mail then ds) g)
    (list_all (is_in (secured_then (Secure g s c ∷ L) mail then ds)) ds)
    (still_secured ds (Secure g s c ∷ L) mail then g
    (ap (λ (b : Bool). b || is_among (names_of at.secured) g) (name_eq_refl g)))
    (all_secured ds (Secure g s c ∷ L) mail then)
all_secured (Inform s u true ∷ ds) L mail at = all_secured ds (Inform s u true ∷ L) mail at
all_secured (Inform s u false ∷ ds) L mail at =
    all_secured ds (Inform s u false ∷ L) mail (site_after L mail at (Inform s u false))
all_secured (Crash s ∷ ds) L mail at =
    all_secured ds (Crash s ∷ L) mail (site_after L mail at (Crash s))
all_secured (d ∷ ds) L mail at = all_secured ds (d ∷ L) mail at

-- Where all that deeds secure was secured before, and none stands twice, they secure nothing.
pub none_secured : (ds L : List Deed) (mail : Option Mail) (at : Site) (fs : List Name)
    → ((f : Name) → is_among fs f ≡ true → is_among (names_of at.secured) f ≡ true)
    → list_all (is_in fs) ds ≡ true → EachOnce (secured_then L mail at ds)
    → list_any is_any_secure ds ≡ false
none_secured [] L mail at fs there all once = refl
none_secured (Perform a n answer ∷ ds) L mail at fs there all once =
    none_secured ds (Perform a n answer ∷ L) mail (site_after L mail at (Perform a n answer)) fs
    there all once
none_secured (Secure g s c ∷ ds) L mail at fs there all once =
    let then : Site = site_after L mail at (Secure g s c) in
    let parts = and_parts (is_among fs g) (list_all (is_in fs) ds) all in
    absurd (true≢false (sym (there g parts.0)
    ∙ (once_before ds (Secure g s c ∷ L) mail then once).0))
none_secured (Inform s u true ∷ ds) L mail at fs there all once =
    none_secured ds (Inform s u true ∷ L) mail at fs there all once
none_secured (Inform s u false ∷ ds) L mail at fs there all once =
    none_secured ds (Inform s u false ∷ L) mail (site_after L mail at (Inform s u false)) fs
    there all once
none_secured (Crash s ∷ ds) L mail at fs there all once =
    none_secured ds (Crash s ∷ L) mail (site_after L mail at (Crash s)) fs there all once
none_secured (d ∷ ds) L mail at fs there all once =
    none_secured ds (d ∷ L) mail at fs there all once

-- Deeds that secure nothing leave the counts at which families were secured.
pub same_counts : (s : ℕ) (ds L : List Deed) → list_any is_any_secure ds ≡ false
    → secure_counts s (after L ds) ≡ secure_counts s L
same_counts s [] L none = refl
same_counts s (Secure f m c ∷ ds) L none = cc
same_counts s (d ∷ ds) L none = same_counts s ds (d ∷ L) none

-- The families that a log holds are those that are secured, in the other order.
among_reverse : (gs : List (Name × List Placed)) (f : Name)
    → is_among (names_of (reverse gs)) f ≡ is_among (names_of gs) f
among_reverse [] f = refl
among_reverse (g ∷ gs) f =
    ap (λ (hs : List (Name × List Placed)). is_among (names_of hs) f)
    (reverse-append (g ∷ []) gs)
    ∙ last (reverse gs) g ∙ ap (λ (b : Bool). name_eq f g.0 || b) (among_reverse gs f)
  where
    turn : (a b c : Bool) → (a || (b || c)) ≡ (b || (a || c))
    turn true true c = refl
    turn true false c = refl
    turn false true c = refl
    turn false false c = refl

    last : (hs : List (Name × List Placed)) (g : Name × List Placed)
        → is_among (names_of (hs ++ g ∷ [])) f ≡ (name_eq f g.0 || is_among (names_of hs) f)
    last [] g = refl
    last (h ∷ hs) g =
        ap (λ (b : Bool). name_eq f h.0 || b) (last hs g)
        ∙ turn (name_eq f h.0) (name_eq f g.0) (is_among (names_of hs) f)

pub among_secured : (held : List Held) (gs : List (Name × List Placed)) (f : Name)
    → families_of held ≡ names_of (reverse gs)
    → is_among (families_of held) f ≡ is_among (names_of gs) f
among_secured held gs f is = ap (λ (fs : List Name). is_among fs f) is ∙ among_reverse gs f

-- whether a family is held, by the list of the held families
held_among : (held : List Held) (f : Name)
    → list_any (λ (h : Held). name_eq f h.family) held ≡ is_among (families_of held) f
held_among [] f = refl
held_among (h ∷ hs) f = ap (λ (b : Bool). name_eq f h.family || b) (held_among hs f)

pub held_in : (held : List Held) (ds : List Deed)
    → list_all (is_held held) ds ≡ list_all (is_in (families_of held)) ds
held_in held [] = refl
held_in held (Secure f s c ∷ ds) = λ i. held_among held f i && held_in held ds i
held_in held (d ∷ ds) = held_in held ds

pub in_as : (one other : List Name) (ds : List Deed)
    → ((f : Name) → is_among one f ≡ is_among other f)
    → list_all (is_in one) ds ≡ list_all (is_in other) ds
in_as one other [] same = refl
in_as one other (Secure f s c ∷ ds) same = λ i. same f i && in_as one other ds same i
in_as one other (d ∷ ds) same = in_as one other ds same
