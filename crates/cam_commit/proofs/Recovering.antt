-- What a log recovers is what the node secured.
use Rattle.std.proofs.Common.{◌≡◌, ℕ, eqb, Bool, true, false, not, ◌&&◌, ◌||◌, List, [], ◌∷◌, ◌++◌, map, reverse, Option, None, is_some, zero, suc, ◌+◌, ◌<◌, length, take, get_or, cond, arith, sym, ap, ◌∙◌, refl}
use Rattle.std.specs.Prelude.{unwrap_or}
use Rattle.std.specs.List.{list_any}
use Rattle.std.proofs.lemmas.List.{reverse-append}
use Rattle.cam_names.specs.declared.name.Name.{Name}
use Rattle.cam_names.specs.Names.{name_eq}
use Rattle.cam_names.specs.Dependencies.{has_pair}
use Rattle.cam_names.proofs.Names.{name_eq_sym}
use Rattle.cam_type.specs.declared.Held.{Held}
use Rattle.cam_event.specs.declared.Deed.{Deed}
use Rattle.cam_event.specs.declared.Deed.TheVariants.{Create, Ask, Call, Perform, Bounce, Got, AskCommit, AskAbort, Commit, Abort, Secure, Inform, Crash}
use Rattle.cam_event.specs.History.{is_secure_at}
use Rattle.cam_event.specs.Inputs.{Mail}
use Rattle.cam_event.specs.Sights.{votes, is_preparing_note, yes_for}
use Rattle.cam_event.specs.HeldSites.{Placed, Site, site_after, site_after_all, site}
use Rattle.cam_event.specs.Carried.{Carried, entry_of, deeds_of}
use Rattle.cam_event.proofs.Agree.{any_after}
use Rattle.cam_commit.specs.Events.{is_restart, is_elsewhere, RecoversFamilies}
use Rattle.cam_commit.proofs.Events.{votes_then}

-- whether a family is among those that are kept with their operations
abbrev among : Name → List (Name × List Placed) → Bool
among f gs = list_any (name_eq f) (map (λ g. g.0) gs)

among_append : (f : Name) (gs hs : List (Name × List Placed)) → among f (gs ++ hs) ≡ (among f gs || among f hs)
among_append f [] hs = refl
among_append f (g ∷ gs) hs = ap (λ b. name_eq f g.0 || b) (among_append f gs hs) ∙ by (name_eq f g.0) (among f gs) (among f hs)
  where
    by : (a b c : Bool) → (a || (b || c)) ≡ ((a || b) || c)
    by true b c = refl
    by false b c = refl

among_reverse : (f : Name) (gs : List (Name × List Placed)) → among f (reverse gs) ≡ among f gs
among_reverse f [] = refl
among_reverse f (g ∷ gs) =
    ap (λ hs. among f hs) (reverse-append (g ∷ []) gs) ∙ among_append f (reverse gs) (g ∷ []) ∙ by (among f (reverse gs)) (name_eq f g.0)
    ∙ ap (λ b. name_eq f g.0 || b) (among_reverse f gs)
  where
    by : (a b : Bool) → (a || (b || false)) ≡ (b || a)
    by true true = refl
    by true false = refl
    by false true = refl
    by false false = refl

-- one Secure of the node
secured_more : (n e rest had : Bool) → e ≡ true → (rest || (n || had)) ≡ (((n && e) || rest) || had)
secured_more n false rest had here = cc
secured_more true true true had here = refl
secured_more true true false had here = refl
secured_more false true rest had here = refl

-- what deeds add to the secured families
secured_by : (f : Name) (s : ℕ) (mail : Option Mail) (ds L : List Deed) (st : Site) → list_any (is_elsewhere s) ds ≡ false
    → among f (site_after_all L mail st ds).secured ≡ (list_any (is_secure_at f s) ds || among f st.secured)
secured_by f s mail [] L st own = refl
secured_by f s mail (Secure g r c ∷ ds) L st own =
    secured_by f s mail ds (Secure g r c ∷ L) (site_after L mail st (Secure g r c)) (others (eqb s r) (list_any (is_elsewhere s) ds) own)
    ∙ secured_more (name_eq f g) (eqb s r) (list_any (is_secure_at f s) ds) (among f st.secured) (here (eqb s r) (list_any (is_elsewhere s) ds) own)
  where
    others : (e rest : Bool) → (not e || rest) ≡ false → rest ≡ false
    others true rest h = h
    others false rest h = cc

    here : (e rest : Bool) → (not e || rest) ≡ false → e ≡ true
    here true rest h = refl
    here false rest h = cc
secured_by f s mail (Create a ∷ ds) L st own = secured_by f s mail ds (Create a ∷ L) (site_after L mail st (Create a)) own
secured_by f s mail (Ask a b ∷ ds) L st own = secured_by f s mail ds (Ask a b ∷ L) (site_after L mail st (Ask a b)) own
secured_by f s mail (Call a n x op c ∷ ds) L st own = secured_by f s mail ds (Call a n x op c ∷ L) (site_after L mail st (Call a n x op c)) own
secured_by f s mail (Perform a n answer ∷ ds) L st own = secured_by f s mail ds (Perform a n answer ∷ L) (site_after L mail st (Perform a n answer)) own
secured_by f s mail (Bounce a n u ∷ ds) L st own = secured_by f s mail ds (Bounce a n u ∷ L) (site_after L mail st (Bounce a n u)) own
secured_by f s mail (Got a n seen ∷ ds) L st own = secured_by f s mail ds (Got a n seen ∷ L) (site_after L mail st (Got a n seen)) own
secured_by f s mail (AskCommit a v ∷ ds) L st own = secured_by f s mail ds (AskCommit a v ∷ L) (site_after L mail st (AskCommit a v)) own
secured_by f s mail (AskAbort a ∷ ds) L st own = secured_by f s mail ds (AskAbort a ∷ L) (site_after L mail st (AskAbort a)) own
secured_by f s mail (Commit a ∷ ds) L st own = secured_by f s mail ds (Commit a ∷ L) (site_after L mail st (Commit a)) own
secured_by f s mail (Abort a ∷ ds) L st own = secured_by f s mail ds (Abort a ∷ L) (site_after L mail st (Abort a)) own
secured_by f s mail (Inform r u true ∷ ds) L st own = secured_by f s mail ds (Inform r u true ∷ L) (site_after L mail st (Inform r u true)) own
secured_by f s mail (Inform r u false ∷ ds) L st own = secured_by f s mail ds (Inform r u false ∷ L) (site_after L mail st (Inform r u false)) own
secured_by f s mail (Crash r ∷ ds) L st own = secured_by f s mail ds (Crash r ∷ L) (site_after L mail st (Crash r)) own

-- the families that a node has secured, by its deeds
secured_site : (f : Name) (s : ℕ) (before : List Carried) → list_any (is_elsewhere s) (deeds_of before) ≡ false
    → among f (site before).secured ≡ list_any (is_secure_at f s) (deeds_of before)
secured_site f s [] own = refl
secured_site f s (c ∷ before) own =
    let parts = sym (any_after (is_elsewhere s) c.event.deeds (deeds_of before)) ∙ own in
    let a = list_any (is_elsewhere s) c.event.deeds in
    let b = list_any (is_elsewhere s) (deeds_of before) in
    secured_by f s c.mail c.event.deeds (deeds_of before) (site before) (first a b parts)
    ∙ ap (λ t. list_any (is_secure_at f s) c.event.deeds || t) (secured_site f s before (second a b parts))
    ∙ sym (any_after (is_secure_at f s) c.event.deeds (deeds_of before))
  where
    first : (a b : Bool) → (a || b) ≡ false → a ≡ false
    first true b h = cc
    first false b h = refl

    second : (a b : Bool) → (a || b) ≡ false → b ≡ false
    second true b h = cc
    second false b h = h

-- After a restart no family is preparing.
none_then : (restart begins : Bool) (agreed : List (ℕ × ℕ)) (before : Option (List (ℕ × ℕ))) → restart ≡ true → votes_then restart begins agreed before ≡ None
none_then true begins agreed before is = refl
none_then false begins agreed before is = cc

pub recovers_families : RecoversFamilies
recovers_families objects s before c new restart secures own recovered =
    record {
      preparing = λ f undecided. recovered.preparing f ∙ ap (λ (o : Option (List (ℕ × ℕ))). is_some o) (sym (none f));
      voted = λ f m n undecided. recovered.votes f m n ∙ ap (λ (o : Option (List (ℕ × ℕ))). has_pair (unwrap_or o []) m n) (sym (none f));
      secured = λ f undecided.
          recovered.secured_are f ∙ among_reverse f (site before).secured ∙ secured_site f s before own
          ∙ ap (λ b. b || list_any (is_secure_at f s) (deeds_of before)) (sym (secures f))
          ∙ sym (any_after (is_secure_at f s) c.event.deeds (deeds_of before));
    }
  where
    none : (f : Name) → votes (map entry_of (c ∷ before)) f ≡ None
    none f = none_then (is_restart c) (is_preparing_note f c.event.note) (yes_for f c.mail) (votes (map entry_of before) f) restart

-- one more of the families that a log held
held_more : (f : Name) (xs : List Held) (i : ℕ) (x : Held) → i < length xs → x ≡ get_or xs i x
    → list_any (name_eq f) (map (λ h. h.family) (take (suc i) xs)) ≡ (list_any (name_eq f) (map (λ h. h.family) (take i xs)) || name_eq f x.family)
held_more f [] i x below is = absurd (omega (arith, below))
held_more f (y ∷ ys) zero x below is = by (name_eq f y.family) ∙ ap (λ (h : Held). name_eq f h.family) (sym is)
  where
    by : (a : Bool) → (a || false) ≡ a
    by true = refl
    by false = refl
held_more f (y ∷ ys) (suc i) x below is =
    ap (λ b. name_eq f y.family || b) (held_more f ys i x (omega (arith, below)) is)
    ∙ by (name_eq f y.family) (list_any (name_eq f) (map (λ h. h.family) (take i ys))) (name_eq f x.family)
  where
    by : (a b c : Bool) → (a || (b || c)) ≡ ((a || b) || c)
    by true b c = refl
    by false b c = refl

pub held_noted : (f : Name) (xs : List Held) (i : ℕ) (x : Held) (new old : Bool) → i < length xs → x ≡ get_or xs i x
    → new ≡ cond (name_eq x.family f) true old → old ≡ list_any (name_eq f) (map (λ h. h.family) (take i xs))
    → new ≡ list_any (name_eq f) (map (λ h. h.family) (take (i + 1) xs))
held_noted f xs i x new old below is noted so_far =
    noted ∙ by (name_eq x.family f) old ∙ ap (λ b. b || name_eq x.family f) so_far
    ∙ ap (λ b. list_any (name_eq f) (map (λ h. h.family) (take i xs)) || b) (name_eq_sym x.family f) ∙ sym (held_more f xs i x below is)
    ∙ ap (λ (k : ℕ). list_any (name_eq f) (map (λ h. h.family) (take k xs))) next
  where
    next : suc i ≡ i + 1
    next = omega arith

    by : (t b : Bool) → cond t true b ≡ (b || t)
    by true true = refl
    by true false = refl
    by false true = refl
    by false false = refl
