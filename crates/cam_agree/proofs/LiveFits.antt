-- The deeds of each event of a run fit: what the node keeps of its site goes with them.
use Rattle.std.proofs.Common.{◌≡◌, inl, inr, ℕ, eqb, Bool, true, false, List, [], ◌∷◌, map, filter, Option, Some, refl, sym, ap, ◌∙◌, subst}
use Rattle.std.specs.List.{list_any}
use Rattle.std.proofs.lemmas.Bool.{true≢false, false_from_ne_true, and_from, or_parts, eq-eqb}
use Rattle.std.proofs.lemmas.Option.{same_Some}
use Rattle.cam_names.specs.declared.name.Name.{Name}
use Rattle.cam_names.specs.Names.{name_eq, is_ancestor, ancestors, family}
use Rattle.cam_names.specs.Dependencies.{pairs_of}
use Rattle.cam_names.proofs.Names.{name_eq_same, name_eq_refl}
use Rattle.cam_type.specs.declared.ObjectDecl.{ObjectDecl}
use Rattle.cam_type.specs.declared.Answer.{Answer}
use Rattle.cam_event.specs.declared.LetterId.{LetterId}
use Rattle.cam_event.specs.declared.Event.{Event}
use Rattle.cam_event.specs.declared.Operation.{Operation}
use Rattle.cam_event.specs.declared.Body.TheVariants as bodies
use Rattle.cam_event.specs.declared.Deed.{Deed}
use Rattle.cam_event.specs.declared.Deed.TheVariants.{Create, Ask, Call, Perform, Bounce, Got, AskCommit, AskAbort, Commit, Abort, Secure, Inform, Crash}
use Rattle.cam_event.specs.History.{after, committed, aborted, informed, is_inform, secured_at, Addressed, call_of}
use Rattle.cam_event.specs.Live.{live_at, lift}
use Rattle.cam_event.specs.Inputs.{Mail, mail_got}
use Rattle.cam_event.specs.ByPast.{first_informs, sight_by}
use Rattle.cam_event.specs.HeldSites.{Placed, performed_op}
use Rattle.cam_event.proofs.Members.{In, in_any, any_more}
use Rattle.cam_plain.specs.Lines.{is_lift, SecureLine}
use Rattle.cam_plain.specs.Legal.{Legal}
use Rattle.cam_names.proofs.Every.{Every, every_weaker, every_list_all, every_unfilter, every_both}
use Rattle.cam_plain.proofs.Performed.{called_created, created_named}
use Rattle.cam_cut.proofs.Places.{PlacedAt, PlacedDeeds}
use Rattle.cam_cut.proofs.LegalFacts.{in_call}
use Rattle.cam_cut.proofs.Informs.{IsInformAt}
use Rattle.cam_cut.proofs.Sees.{Sees, BodyOk}
use Rattle.cam_cut.proofs.Clear.{NoOrphan, no_orphan}
use Rattle.cam_cut.proofs.Good.{Shape, No, One, Commits, Aborts, is_mute}
use Rattle.cam_cut.proofs.Parts.{base_of, with_first}
use Rattle.cam_cut.proofs.SeesRun.{own_of}
use Rattle.cam_agree.proofs.RunServed.{Served}
use Rattle.cam_agree.proofs.LiveLists.{any_each}
use Rattle.cam_agree.proofs.LiveOrder.{of_family}
use Rattle.cam_agree.proofs.LiveStands.{standing, alive, HandedUp}
use Rattle.cam_agree.proofs.LiveDeeds.{Fits, AllFit, FitsPerform, FitsSecure, operation_of}
use Rattle.cam_agree.proofs.LiveHere.{operation}
use Rattle.cam_agree.proofs.LiveTests.{secured_asked, performed_free, none_above, lift_handed}

-- the node is informed of no action's commit and abort
abbrev pub OneOutcome : ℕ → List Deed → Type 0
OneOutcome s W = (u : Name) → informed W s u true ≡ true → informed W s u false ≡ true → ⊥

-- Informs at the node fit, where behind them it is informed of one outcome of each action
pub informs_fit : (H : List Deed) (s : ℕ) (mail : Option Mail) (W : List Deed) (ds L : List Deed) → ((d : Deed) → In d ds → IsInformAt s d) → ((d : Deed) → In d ds → In d W) → ((d : Deed) → In d L → In d W) → OneOutcome s W → AllFit H s L mail ds
informs_fit H s mail W [] L is new old single = tt
informs_fit H s mail W (d ∷ ds) L is new old single = (
  subst (Fits H s L mail) (sym (is d (inl refl)).is) (by (is d (inl refl)).outcome refl),
  informs_fit H s mail W ds (d ∷ L) (λ x i. is x (inr i)) (λ x i. new x (inr i)) (λ x i. elim i [ inl e ↦ new x (inl e) | inr r ↦ old x r ]) single,
)
  where
    u : Name
    u = (is d (inl refl)).name

    by : (o : Bool) → (is d (inl refl)).outcome ≡ o → Fits H s L mail (Inform s u o)
    by true e = tt
    by false e = (refl, false_from_ne_true (informed L s u true) (λ y. single u (any_more (is_inform s u true) L W old y) there))
      where
        there : informed W s u false ≡ true
        there =
            in_any (is_inform s u false) W (Inform s u false) (subst (λ (x : Deed). In x W) ((is d (inl refl)).is ∙ ap (λ o. Inform s u o) e) (new d (inl refl)))
            (and_from (eqb s s) (name_eq u u) (eq-eqb s s refl) (name_eq_refl u))

-- What an event goes by, in one place: the node's own deeds with the first Informs, and the base with them.
pub record Before (objects : List ObjectDecl) (t : List Event) (s : ℕ) (got : Option LetterId) (H : List Deed) : Type 0 where
  pub sees : Sees objects (sight_by objects t s (first_informs t s got) (base_of t s got)) (with_first t s got (base_of t s got)) (with_first t s got (base_of t s got))
  pub calls : (a : Name) (n : ℕ) (call : Addressed) → call_of (with_first t s got (base_of t s got)) a n ≡ Some call → call_of H a n ≡ Some call
  pub live : live_at objects (with_first t s got (base_of t s got)) s ≡ map operation (alive (λ u. informed (own_of t s got) s u false) (standing H (own_of t s got) s))
  pub named : Every (λ p. is_ancestor p.operation.action p.operation.action ≡ true) (alive (λ u. informed (own_of t s got) s u false) (standing H (own_of t s got) s))
  pub letter : (mail : Mail) → mail_got t got ≡ Some mail → BodyOk objects (with_first t s got (base_of t s got)) mail.from mail.to mail.body

-- a Perform fits
pub perform_fits : (objects : List ObjectDecl) (t : List Event) (s : ℕ) (got : Option LetterId) (H : List Deed) (a : Name) (n : ℕ) (answer : Answer) → Before objects t s got H → Legal objects (Perform a n answer ∷ with_first t s got (base_of t s got))
    → Served (sight_by objects t s (first_informs t s got) (base_of t s got)) (mail_got t got) a n → FitsPerform H s (own_of t s got) (mail_got t got) a n answer
perform_fits objects t s got H a n answer b legal test = record {
  call = call;
  called = b.calls a n call legal.0.arrival.called;
  brought = ap (performed_op answer) test.letter ∙ ap (λ c. operation_of a n answer c ∷ []) same;
  named = named;
  free = b.sees.same_secured (family a) ∙ false_from_ne_true (secured_at M (family a) s) (λ y. performed_free objects M a n answer legal named uncommitted clear (secured_asked objects M (family a) s legal.1 y));
  clear = none_above (λ u. informed (own_of t s got) s u false) a (λ u above. b.sees.same_told u false ∙ b.sees.told u false ∙ clear.unaborted u above);
}
  where
    M : List Deed
    M = with_first t s got (base_of t s got)

    call : Addressed
    call = legal.0.call

    named : is_ancestor a a ≡ true
    named = created_named objects M a legal.1 (called_created objects M a n call legal.1 legal.0.arrival.called)

    clear : NoOrphan objects M a
    clear = no_orphan objects M a (sym (b.sees.orphan_so a (pairs_of test.counts)) ∙ test.no_orphan)

    same : record { object = test.object; op = test.op; count = test.count } ≡ call
    same =
        same_Some (record { object = test.object; op = test.op; count = test.count }) call
        (sym (in_call objects M a n test.object test.op test.count legal.1 (b.letter (record { from = test.from; to = test.to; body = bodies.Call a n test.object test.op test.count test.counts }) test.letter).0) ∙ legal.0.arrival.called)

    uncommitted : list_any (committed M) (ancestors a) ≡ false
    uncommitted = sym (any_each (sight_by objects t s (first_informs t s got) (base_of t s got)).knows_commit (committed M) (ancestors a) (λ u. b.sees.knows_commit u)) ∙ test.uncommitted

-- what holds of each image holds of each element
every_unmap : {X Y : Type 0} (P : Y → Type 0) (f : X → Y) (xs : List X) → Every P (map f xs) → Every (λ x. P (f x)) xs
every_unmap P f [] h = tt
every_unmap P f (x ∷ xs) h = (h.0, every_unmap P f xs h.1)

-- a Secure fits
pub secure_fits : (objects : List ObjectDecl) (t : List Event) (s : ℕ) (got : Option LetterId) (H : List Deed) (f : Name) (site c : ℕ) → Before objects t s got H → Legal objects (Secure f site c ∷ with_first t s got (base_of t s got)) → site ≡ s → FitsSecure H s (own_of t s got) f site
secure_fits objects t s got H f site c b legal here = record {
  here = here;
  fresh = b.sees.same_secured f ∙ line.fresh;
  to_it =
      every_weaker (λ p. (of_family f p ≡ true → is_lift f (lift M s p.operation.action) ≡ true) × (is_ancestor p.operation.action p.operation.action ≡ true)) (λ p. of_family f p ≡ true → HandedUp (λ u. informed O s u true) p.operation.action) kept
      (λ p k mine u above other. b.sees.same_told u true ∙ lift_handed (λ v. informed M s v true) f p.operation.action (name_eq_same f (family p.operation.action) mine) k.1 (k.0 mine) u above other)
      (every_both (λ p. of_family f p ≡ true → is_lift f (lift M s p.operation.action) ≡ true) (λ p. is_ancestor p.operation.action p.operation.action ≡ true) kept lifted b.named);
}
  where
    O : List Deed
    O = own_of t s got

    M : List Deed
    M = with_first t s got (base_of t s got)

    kept : List Placed
    kept = alive (λ u. informed O s u false) (standing H O s)

    line : SecureLine objects M f s c
    line = subst (λ (r : ℕ). SecureLine objects M f r c) here legal.0

    lifted : Every (λ p. of_family f p ≡ true → is_lift f (lift M s p.operation.action) ≡ true) kept
    lifted =
        every_unmap (λ o. name_eq f (family o.action) ≡ true → is_lift f (lift M s o.action) ≡ true) operation kept
        (every_unfilter (λ o. name_eq f (family o.action)) (λ o. is_lift f (lift M s o.action) ≡ true) (map operation kept)
        (subst (λ (os : List Operation). Every (λ o. is_lift f (lift M s o.action) ≡ true) (filter (λ o. name_eq f (family o.action)) os)) b.live
        (every_list_all (λ o. is_lift f (lift M s o.action)) (filter (λ o. name_eq f (family o.action)) (live_at objects M s)) line.handed_up)))

-- the deeds of a rule fit, by their shape
pub shape_fits : (objects : List ObjectDecl) (t : List Event) (s : ℕ) (got : Option LetterId) (H P : List Deed) (ds : List Deed) → Before objects t s got H → Shape (sight_by objects t s (first_informs t s got) (base_of t s got)) ds → Legal objects (after (with_first t s got (base_of t s got)) ds) → PlacedDeeds objects P s ds
    → ((a : Name) (n : ℕ) (answer : Answer) → In (Perform a n answer) ds → Served (sight_by objects t s (first_informs t s got) (base_of t s got)) (mail_got t got) a n)
    → AllFit H s (own_of t s got) (mail_got t got) ds
shape_fits objects t s got H P ds b No legal placed tests = tt
shape_fits objects t s got H P ds b (One d mute) legal placed tests = (by d mute legal (placed d (inl refl)) (λ a n answer e. tests a n answer (inl e)), tt)
  where
    by : (d : Deed) → is_mute d ≡ true → Legal objects (d ∷ with_first t s got (base_of t s got)) → PlacedAt objects P s d
        → ((a : Name) (n : ℕ) (answer : Answer) → Perform a n answer ≡ d → Served (sight_by objects t s (first_informs t s got) (base_of t s got)) (mail_got t got) a n) → Fits H s (own_of t s got) (mail_got t got) d
    by (Perform a n answer) m l at test = perform_fits objects t s got H a n answer b l (test a n answer refl)
    by (Secure f site c) m l at test = secure_fits objects t s got H f site c b l at
    by (Crash r) m l at test = at
    by (Create a) m l at test = tt
    by (Ask a c) m l at test = tt
    by (Call a n x op c) m l at test = tt
    by (Bounce a n u) m l at test = tt
    by (Got a n seen) m l at test = tt
    by (AskCommit a v) m l at test = tt
    by (AskAbort a) m l at test = tt
    by (Commit a) m l at test = absurd (true≢false (sym m))
    by (Abort a) m l at test = absurd (true≢false (sym m))
    by (Inform r a o) m l at test = absurd (true≢false (sym m))
shape_fits objects t s got H P ds b (Commits a) legal placed tests = (tt, (tt, tt))
shape_fits objects t s got H P ds b (Aborts a) legal placed tests = (tt, ((refl, undone), tt))
  where
    M : List Deed
    M = with_first t s got (base_of t s got)

    undone : informed (Abort a ∷ own_of t s got) s a true ≡ false
    undone = b.sees.same_told a true ∙ b.sees.told a true ∙ (or_parts (committed M a) (aborted M a) legal.1.0.undecided).0
