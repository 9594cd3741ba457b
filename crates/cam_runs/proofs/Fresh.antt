-- Known actions, and fresh ones: what was neither created nor asked for has done nothing.
use Rattle.std.proofs.Common.{◌≡◌, inl, inr, true, false, not, ◌&&◌, List, [], ◌∷◌, ◌++◌, filter, None, refl, sym, ap, ◌∙◌, subst}
use Rattle.std.proofs.lemmas.Bool.{true≢false, false_from_ne_true, or_parts}
use Rattle.cam_names.specs.declared.name.Name.{Name}
use Rattle.cam_names.specs.Names.{name_eq, is_ancestor, is_child, is_top}
use Rattle.cam_names.proofs.Names.{name_eq_same, name_eq_refl}
use Rattle.cam_type.specs.declared.ObjectDecl.{ObjectDecl}
use Rattle.cam_event.specs.declared.Deed.{Deed}
use Rattle.cam_event.specs.declared.Deed.TheVariants.{Create, Ask, Call, Perform, Bounce, Got, AskCommit, AskAbort, Commit, Abort, Secure, Inform, Crash}
use Rattle.cam_event.specs.History.{after, created, asked, is_ask, is_create, open_call, open_children}
use Rattle.cam_event.specs.Views.{view, step_of}
use Rattle.cam_event.proofs.Members.{In, in_any, any_in, any_more, in_old}
use Rattle.cam_plain.specs.Lines.{is_ask_for, asked_for, MayAbort}
use Rattle.cam_plain.specs.Legal.{Legal}
use Rattle.cam_plain.proofs.Performed.{created_named, runs_created}
use Rattle.cam_plain.proofs.Decided.{created_child, for_asked, not_top}
use Rattle.cam_cut.proofs.HomeFacts.{child_parent}
use Rattle.cam_cut.proofs.LegalFacts.{asked_created, ask_fresh, asked_commit_created}
use Rattle.cam_body.specs.Work.{tries_after}
use Rattle.cam_runs.specs.UnderWay.{Idle, Known, last_open}

-- A known action stays known.
pub known_after : (ds L : List Deed) (a : Name) → Known L a → Known (after L ds) a
known_after ds L a (inl h) = inl (any_more (is_create a) L (after L ds) (λ d i. in_old ds L d i) h)
known_after ds L a (inr h) = inr (any_more (is_ask_for a) L (after L ds) (λ d i. in_old ds L d i) h)

-- a child that is asked for was not known
pub fresh_child : (objects : List ObjectDecl) (L : List Deed) (p b : Name) → Legal objects (Ask p b ∷ L) → Known L b → ⊥
fresh_child objects L p b legal (inl h) =
    true≢false (sym (created_child objects L b p legal.1 (child_parent p b (created_named objects L p legal.1 (runs_created L p legal.0.running)) legal.0.child) h).0 ∙ ask_fresh objects L p b legal)
fresh_child objects L p b legal (inr h) = true≢false (sym (for_asked objects L p b legal.1 legal.0.child h).0 ∙ ask_fresh objects L p b legal)

-- who asked for an action
asker_of : (L : List Deed) (a : Name) → asked_for L a ≡ true → (p : Name) × In (Ask p a) L
asker_of L a h = let found = any_in (is_ask_for a) L h in by found.0 found.1 found.2
  where
    by : (d : Deed) → In d L → is_ask_for a d ≡ true → (p : Name) × In (Ask p a) L
    by (Ask p b) i e = (p, subst (λ (x : Name). In (Ask p x) L) (sym (name_eq_same a b e)) i)
    by _ i e = absurd (true≢false (sym e))

-- a top action that is created was not known
pub fresh_top : (objects : List ObjectDecl) (L : List Deed) (a : Name) → Legal objects (Create a ∷ L) → is_top a ≡ true → Known L a → ⊥
fresh_top objects L a legal top (inl h) = true≢false (sym h ∙ legal.0.fresh)
fresh_top objects L a legal top (inr h) =
    let by = asker_of L a h in
    let asked_it : asked L by.0 a ≡ true = in_any (is_ask by.0 a) L (Ask by.0 a) by.1 (ap (λ b. b && name_eq a a) (name_eq_refl by.0) ∙ name_eq_refl a) in
    let made = asked_created objects L by.0 a legal.1 asked_it in
    true≢false (sym top ∙ not_top a by.0 (child_parent by.0 a (created_named objects L by.0 legal.1 made.0) made.1))

-- What was not created has done nothing.
pub record Nothing (L : List Deed) (a : Name) : Type 0 where
  pub no_call : open_call L a ≡ None
  pub no_child : open_children L a ≡ []
  pub unseen : view L a ≡ []

stays_nothing : (L : List Deed) (d : Deed) (a : Name) → open_call (d ∷ L) a ≡ open_call L a → open_children (d ∷ L) a ≡ open_children L a → step_of L d a ≡ [] → Nothing L a → Nothing (d ∷ L) a
stays_nothing L d a c k s h = record { no_call = c ∙ h.no_call; no_child = k ∙ h.no_child; unseen = (λ i. h.unseen i ++ s i) }

pub uncreated_nothing : (objects : List ObjectDecl) (L : List Deed) (a : Name) → Legal objects L → is_ancestor a a ≡ true → created L a ≡ false → Nothing L a
uncreated_nothing objects [] a legal named none = record { no_call = refl; no_child = refl; unseen = refl }
uncreated_nothing objects (Create b ∷ L) a legal named none =
    let parts = or_parts (name_eq a b) (created L a) none in
    stays_nothing L (Create b) a refl refl (rw parts.0 refl) (uncreated_nothing objects L a legal.1 named parts.1)
uncreated_nothing objects (Ask p b ∷ L) a legal named none =
    let other : name_eq a p ≡ false = false_from_ne_true (name_eq a p) (λ e. true≢false (sym (subst (λ (x : Name). created L x ≡ true) (sym (name_eq_same a p e)) (runs_created L p legal.0.running)) ∙ none)) in
    stays_nothing L (Ask p b) a refl (rw other refl) (rw other refl) (uncreated_nothing objects L a legal.1 named none)
uncreated_nothing objects (Call b n x op c ∷ L) a legal named none =
    let other : name_eq a b ≡ false = false_from_ne_true (name_eq a b) (λ e. true≢false (sym (subst (λ (y : Name). created L y ≡ true) (sym (name_eq_same a b e)) (runs_created L b legal.0.running)) ∙ none)) in
    stays_nothing L (Call b n x op c) a (rw other refl) refl (rw other refl) (uncreated_nothing objects L a legal.1 named none)
uncreated_nothing objects (Got b n seen ∷ L) a legal named none =
    let other : name_eq a b ≡ false = false_from_ne_true (name_eq a b) (λ e. true≢false (sym (subst (λ (y : Name). created L y ≡ true) (sym (name_eq_same a b e)) (runs_created L b legal.0.running)) ∙ none)) in
    stays_nothing L (Got b n seen) a (rw other refl) refl (rw other refl) (uncreated_nothing objects L a legal.1 named none)
uncreated_nothing objects (AskCommit b v ∷ L) a legal named none =
    let other : name_eq a b ≡ false = false_from_ne_true (name_eq a b) (λ e. true≢false (sym (subst (λ (y : Name). created L y ≡ true) (sym (name_eq_same a b e)) (runs_created L b legal.0.running)) ∙ none)) in
    stays_nothing L (AskCommit b v) a refl refl (rw other refl) (uncreated_nothing objects L a legal.1 named none)
uncreated_nothing objects (AskAbort b ∷ L) a legal named none =
    let other : name_eq a b ≡ false = false_from_ne_true (name_eq a b) (λ e. true≢false (sym (subst (λ (y : Name). created L y ≡ true) (sym (name_eq_same a b e)) (runs_created L b legal.0)) ∙ none)) in
    stays_nothing L (AskAbort b) a refl refl (rw other refl) (uncreated_nothing objects L a legal.1 named none)
uncreated_nothing objects (Commit b ∷ L) a legal named none =
    let rest : Nothing L a = uncreated_nothing objects L a legal.1 named none in
    let other : is_child a b ≡ false = false_from_ne_true (is_child a b) (λ e. true≢false (sym (created_child objects L b a legal.1 (child_parent a b named e) (asked_commit_created objects L b legal.1 legal.0.asked)).1 ∙ none)) in
    stays_nothing L (Commit b) a refl (ap (filter (λ c. not (name_eq b c))) rest.no_child ∙ sym rest.no_child) (rw other refl) rest
uncreated_nothing objects (Abort b ∷ L) a legal named none =
    let rest : Nothing L a = uncreated_nothing objects L a legal.1 named none in
    let other : is_child a b ≡ false = false_from_ne_true (is_child a b) (λ e. true≢false (sym (runs_created L a (subst (λ o. MayAbort L b o) (child_parent a b named e) legal.0.may).0) ∙ none)) in
    stays_nothing L (Abort b) a refl (ap (filter (λ c. not (name_eq b c))) rest.no_child ∙ sym rest.no_child) (rw other refl) rest
uncreated_nothing objects (Perform b n answer ∷ L) a legal named none = stays_nothing L (Perform b n answer) a refl refl refl (uncreated_nothing objects L a legal.1 named none)
uncreated_nothing objects (Bounce b n u ∷ L) a legal named none = stays_nothing L (Bounce b n u) a refl refl refl (uncreated_nothing objects L a legal.1 named none)
uncreated_nothing objects (Secure f s c ∷ L) a legal named none = stays_nothing L (Secure f s c) a refl refl refl (uncreated_nothing objects L a legal.1 named none)
uncreated_nothing objects (Inform s b o ∷ L) a legal named none = stays_nothing L (Inform s b o) a refl refl refl (uncreated_nothing objects L a legal.1 named none)
uncreated_nothing objects (Crash s ∷ L) a legal named none = stays_nothing L (Crash s) a refl refl refl (uncreated_nothing objects L a legal.1 named none)

-- So it is idle.
pub uncreated_idle : (objects : List ObjectDecl) (L : List Deed) (a : Name) → Legal objects L → is_ancestor a a ≡ true → created L a ≡ false → Idle L a
uncreated_idle objects L a legal named none =
    let h : Nothing L a = uncreated_nothing objects L a legal named none in
    record { no_call = h.no_call; no_child = h.no_child; settled = ap (λ v. last_open false (tries_after [] v)) h.unseen }
