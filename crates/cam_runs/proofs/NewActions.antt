-- The action that an event creates, and the child for which it asks, were not known before.
use Rattle.std.proofs.Common.{◌≡◌, inl, inr, ℕ, Bool, true, false, List, [], ◌∷◌, ◌++◌, Some, None, refl, sym, ap, ◌∙◌, subst}
use Rattle.std.proofs.lemmas.Bool.{true≢false, false_from_ne_true, or_left}
use Rattle.std.proofs.lemmas.Option.{same_Some}
use Rattle.cam_names.specs.declared.name.Name.{Name}
use Rattle.cam_names.specs.Names.{name_eq, is_ancestor, is_child, is_top}
use Rattle.cam_names.proofs.Names.{name_eq_refl}
use Rattle.cam_type.specs.declared.ObjectDecl.{ObjectDecl}
use Rattle.cam_event.specs.declared.Event.{Event}
use Rattle.cam_event.specs.declared.Request.{Request}
use Rattle.cam_event.specs.declared.Deed.{Deed}
use Rattle.cam_event.specs.declared.Deed.TheVariants.{Create, Ask, Call, Perform, Bounce, Got, AskCommit, AskAbort, Commit, Abort, Secure, Inform, Crash}
use Rattle.cam_event.specs.History.{after, created}
use Rattle.cam_event.specs.Pasts.{plain_all}
use Rattle.cam_event.specs.Inputs.{Input, Begins, Requests, mail_got, node_of, got_of}
use Rattle.cam_event.specs.Sights.{Sight}
use Rattle.cam_event.specs.Rules.{top_name}
use Rattle.cam_event.specs.ByPast.{first_informs, next}
use Rattle.cam_event.specs.Runs.{MayCome}
use Rattle.cam_event.proofs.Members.{In}
use Rattle.cam_plain.specs.Lines.{asked_for}
use Rattle.cam_plain.specs.Legal.{Legal}
use Rattle.cam_names.proofs.Ancestry.{is_prefix_refl}
use Rattle.cam_plain.proofs.Performed.{created_named, runs_created}
use Rattle.cam_cut.proofs.Good.{Shape, No, One, Commits, Aborts}
use Rattle.cam_cut.proofs.Holds.{RunHolds}
use Rattle.cam_cut.proofs.StepLegal.{whole_new}
use Rattle.cam_cut.proofs.NextEvent.{sight_of, did_of}
use Rattle.cam_agree.proofs.RunAsks.{rule_asks}
use Rattle.cam_runs.specs.Requests.{created_in, asked_in}
use Rattle.cam_runs.proofs.OneMore.{one_open_more}
use Rattle.cam_runs.proofs.Fresh.{known_after, fresh_child, fresh_top, uncreated_idle}
use Rattle.cam_runs.proofs.OneEvent.{first_none, whole_with, whole_good}
use Rattle.cam_runs.specs.UnderWay.{Known, OneOpen}

-- what stands of a new action: it was not known, is known now, and has nothing open
pub record IsNew (before now : List Deed) (a : Name) : Type 0 where
  pub fresh : Known before a → ⊥
  pub known : Known now a
  pub named : is_ancestor a a ≡ true
  pub one : OneOpen now a

-- which deed it is
abbrev is_ask_deed : Deed → Bool
is_ask_deed (Ask x y) = true
is_ask_deed _ = false

not_ask : (d : Deed) (p b : Name) → is_ask_deed d ≡ false → Ask p b ≡ d → ⊥
not_ask d p b h e = true≢false (ap is_ask_deed e ∙ h)

-- an Ask stands alone in the deeds of a rule
alone : (g : Sight) (p b : Name) (ds : List Deed) → Shape g ds → In (Ask p b) ds → ds ≡ Ask p b ∷ []
alone g p b ds No h = absurd h
alone g p b ds (One d mute) (inl e) = ap (λ x. x ∷ []) (sym e)
alone g p b ds (One d mute) (inr r) = absurd r
alone g p b ds (Commits c) (inl e) = absurd (not_ask (Commit c) p b refl e)
alone g p b ds (Commits c) (inr (inl e)) = absurd (not_ask (Inform g.node c true) p b refl e)
alone g p b ds (Commits c) (inr (inr r)) = absurd r
alone g p b ds (Aborts c) (inl e) = absurd (not_ask (Abort c) p b refl e)
alone g p b ds (Aborts c) (inr (inl e)) = absurd (not_ask (Inform g.node c false) p b refl e)
alone g p b ds (Aborts c) (inr (inr r)) = absurd r

asked_there : (ds : List Deed) (b : Name) → asked_in ds ≡ Some b → (p : Name) × In (Ask p b) ds
asked_there [] b h = cc
asked_there (Ask p c ∷ ds) b h = (p, inl (ap (Ask p) (sym (same_Some c b h))))
asked_there (Create a ∷ ds) b h = cc
asked_there (Call a n x op c ∷ ds) b h = cc
asked_there (Perform a n answer ∷ ds) b h = cc
asked_there (Bounce a n u ∷ ds) b h = cc
asked_there (Got a n seen ∷ ds) b h = cc
asked_there (AskCommit a v ∷ ds) b h = cc
asked_there (AskAbort a ∷ ds) b h = cc
asked_there (Commit a ∷ ds) b h = cc
asked_there (Abort a ∷ ds) b h = cc
asked_there (Secure f s c ∷ ds) b h = cc
asked_there (Inform s a o ∷ ds) b h = cc
asked_there (Crash s ∷ ds) b h = cc

-- a child that a request asks for
pub new_child : (objects : List ObjectDecl) (t : List Event) (r : Request) (b : Name) → RunHolds objects t → MayCome objects t (Requests r) → asked_in (next objects t (Requests r)).deeds ≡ Some b → IsNew (plain_all t) (plain_all (next objects t (Requests r) ∷ t)) b × (is_child r.action b ≡ true)
new_child objects t r b run may h =
    let input : Input = Requests r in
    let s : ℕ = node_of t input in
    let W : List Deed = whole_with t input in
    let ds : List Deed = (did_of objects t input).deeds in
    let good = whole_good objects t input run may in
    let found = asked_there ds b (ap (λ first. asked_in (first ++ ds)) (sym (first_none t s)) ∙ h) in
    let p : Name = found.0 in
    let same : p ≡ r.action = rule_asks objects (sight_of objects t input) (mail_got t (got_of input)) input p b found.1 in
    let single : ds ≡ Ask p b ∷ [] = alone (sight_of objects t input) p b ds good.shape found.1 in
    let legal : Legal objects (Ask p b ∷ W) = subst (λ xs. Legal objects (after W xs)) single good.legal in
    let now : plain_all (next objects t input ∷ t) ≡ Ask p b ∷ W = whole_new objects t s (got_of input) (did_of objects t input) ∙ ap (after W) single in
    let child : is_child p b ≡ true = legal.0.child in
    let name : is_ancestor b b ≡ true = child-named p b (created_named objects W p legal.1 (runs_created W p legal.0.running)) child in
    let uncreated : created (Ask p b ∷ W) b ≡ false = false_from_ne_true (created W b) (λ y. fresh_child objects W p b legal (inl y)) in (
      record {
        fresh = λ k. fresh_child objects W p b legal (known_after (first_informs t s (got_of input)) (plain_all t) b k);
        known = subst (λ L. Known L b) (sym now) (inr (or_left (name_eq b b) (asked_for W b) (name_eq_refl b)));
        named = name;
        one = subst (λ L. OneOpen L b) (sym now) (inl (uncreated_idle objects (Ask p b ∷ W) b legal name uncreated));
      },
      subst (λ (x : Name). is_child x b ≡ true) same child,
    )
  where
    child-named : (p b : Name) → is_ancestor p p ≡ true → is_child p b ≡ true → is_ancestor b b ≡ true
    child-named p [] named child = absurd (none p named child)
      where
        none : (p : Name) → is_ancestor p p ≡ true → is_child p [] ≡ true → ⊥
        none [] n c = true≢false (sym n)
        none (q ∷ p) n c = true≢false (sym c)
    child-named p (q ∷ b) named child = is_prefix_refl (q ∷ b)

-- a top action that a begin creates
pub new_top : (objects : List ObjectDecl) (t : List Event) (s : ℕ) (a : Name) → RunHolds objects t → MayCome objects t (Begins s) → created_in (next objects t (Begins s)).deeds ≡ Some a → IsNew (plain_all t) (plain_all (next objects t (Begins s) ∷ t)) a × (is_top a ≡ true)
new_top objects t s a run may h =
    let input : Input = Begins s in
    let W : List Deed = whole_with t input in
    let u : Name = top_name (sight_of objects t input) in
    let ds : List Deed = (did_of objects t input).deeds in
    let good = whole_good objects t input run may in
    let same : u ≡ a = same_Some u a (ap (λ first. created_in (first ++ ds)) (sym (first_none t s)) ∙ h) in
    let legal : Legal objects (Create u ∷ W) = good.legal in
    let now : plain_all (next objects t input ∷ t) ≡ Create u ∷ W = whole_new objects t s None (did_of objects t input) in
    let name : is_ancestor u u ≡ true = is_prefix_refl u in
    subst (λ (x : Name). IsNew (plain_all t) (plain_all (next objects t input ∷ t)) x × (is_top x ≡ true)) same (
      record {
        fresh = λ k. fresh_top objects W u legal refl (known_after (first_informs t s None) (plain_all t) u k);
        known = subst (λ L. Known L u) (sym now) (inl (or_left (name_eq u u) (created W u) (name_eq_refl u)));
        named = name;
        one = subst (λ L. OneOpen L u) (sym now) (one_open_more objects W (Create u) u legal name (inl refl) (inl (uncreated_idle objects W u legal.1 name legal.0.fresh)));
      },
      refl,
    )
